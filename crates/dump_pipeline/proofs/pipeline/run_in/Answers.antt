use Rattle.dump_pipeline.proofs.Prelude.{rules, ◌≡◌, ◌∙◌, refl, ℕ, List, Option, None, sym, ap, subst, map, length, arith, length-replicate, sent, slot_places, HasSequenced, JobPort, WorkerPort, CreditPort, PoolName, WriterSide, AreWorkersOf, pool_state, worker_port, job_port, done_port, credit_port, length_of_map, same_ports, fresh_workers, none_closed, Job, Checked, NumberedPiece, CutterEnds, SequencerEnds, none_taken, none_given, workers_count}
use Rattle.dump_pipeline.specs.declared.answer.Failure.TheVariants as failures
use Rattle.dump_pipeline.proofs.Joined.{nothing_written, threads_fail}
use Rattle.dump_pipeline.proofs.pipeline.run_in.Goals as goal

pub returns-in_default-clause-ran : goal.returns-in_default-clause-ran
returns-in_default-clause-ran g c = record {
  leaves = nothing_written g.D.Run.settings g.D.Run.dump (g.S.Sink.taken c.args.held.sink.now) failures.Threads;
  sink = refl;
  threads = refl;
}

pub start-requires-clause-workers : goal.start-requires-clause-workers
start-requires-clause-workers g c κs within =
    let pool = pool_state c.args.ends.pool in
    let ports = c.args.ends.threads.workers.items in
    let working = c.args.ends.working in
    λ k d below. record {
      open_ = none_closed pool ports working k d below;
      nothing_taken = none_taken pool ports working k d below;
      nothing_given = none_given pool ports working k d below;
    }

pub start-requires-clause-room : goal.start-requires-clause-room
start-requires-clause-room g c κs within =
    let room = c.args.ends.room_for_threads in
    let count = workers_count (pool_state c.args.ends.pool) c.args.ends.threads.workers.items c.args.ends.working in
    (room.0, let most = room.1 in omega arith)

pub join_threads-joined-requires-clause-room : goal.join_threads-joined-requires-clause-room
join_threads-joined-requires-clause-room g c =
    let J : Type 0 = Job g.row.D.Denot g.D.Run in
    let E : Type 0 = Checked g.row.D.Denot g.D.Run in
    let started = c.in-Some.started.workers.items in
    let ports : List (WorkerPort J E) = c.args.ends.threads.workers.items in
    let long : length started ≡ length ports =
    sym (length_of_map (λ w. (worker_port w.promise.port.value).index) started)
    ∙ (ap (λ (l : List ℕ). length l) c.in-Some.ensures.index
    ∙ length_of_map (λ (p : WorkerPort J E). (worker_port p).index) ports) in
    let count = workers_count (pool_state c.args.ends.pool) ports c.args.ends.working in
    let room = c.args.ends.room_at_end in
    (room.0, let most = room.1 in omega arith)

pub conclude-answer-requires-clause-workers : goal.conclude-answer-requires-clause-workers
conclude-answer-requires-clause-workers g c =
    let J : Type 0 = Job g.row.D.Denot g.D.Run in
    let E : Type 0 = Checked g.row.D.Denot g.D.Run in
    let ports : List (WorkerPort J E) = c.args.ends.threads.workers.items in
    let new : List (WorkerPort J E) = c.join_threads-joined.result.workers.items in
    let at : AreWorkersOf (job_port c.args.ends.threads.cutter.port).pool (job_port c.args.ends.threads.cutter.port).workers
    (map (λ (p : WorkerPort J E). worker_port p) ports) =
    fresh_workers (pool_state c.args.ends.pool) (job_port c.args.ends.threads.cutter.port)
    (map (λ (p : WorkerPort J E). worker_port p) ports) c.args.ends.cutting c.args.ends.working in
    let all : AreWorkersOf (job_port c.args.ends.threads.cutter.port).pool (job_port c.args.ends.threads.cutter.port).workers
    (map (λ (p : WorkerPort J E). worker_port p) new) =
    same_ports (job_port c.args.ends.threads.cutter.port).pool (job_port c.args.ends.threads.cutter.port).workers ports new
    (c.join_threads-joined.ensures.worker_pools ∙ c.in-Some.ensures.pool)
    (c.join_threads-joined.ensures.worker_indices ∙ c.in-Some.ensures.index) at in
    let same : c.in-Some.started.cutter.promise.ends.value.port ≡ c.args.ends.threads.cutter.port = ap (λ (ends : CutterEnds J E). ends.port)
    c.in-Some.ensures.cutter in
    let same_pool : (job_port c.join_threads-joined.result.cutter.port).pool ≡
    (job_port c.args.ends.threads.cutter.port).pool = c.join_threads-joined.ensures.cutter.pool
    ∙ ap (λ (p : JobPort J E). (job_port p).pool) same in
    let same_workers : (job_port c.join_threads-joined.result.cutter.port).workers ≡
    (job_port c.args.ends.threads.cutter.port).workers = c.join_threads-joined.ensures.cutter.workers
    ∙ ap (λ (p : JobPort J E). (job_port p).workers) same in
    subst (λ (x : PoolName × ℕ). AreWorkersOf x.0 x.1 (map (λ (p : WorkerPort J E). worker_port p) new))
    (λ i. (sym same_pool i, sym same_workers i)) all

pub conclude-answer-requires-clause-sequenced : goal.conclude-answer-requires-clause-sequenced
conclude-answer-requires-clause-sequenced g c =
    let J : Type 0 = Job g.row.D.Denot g.D.Run in
    let E : Type 0 = Checked g.row.D.Denot g.D.Run in
    let none : Option E = None in
    let joined = c.join_threads-joined.result in
    let wide : length (slot_places c.in-Some.started.sequencer.promise.ends.value.slots) ≡ (pool_state c.args.ends.pool).window =
    ap (λ (ends : SequencerEnds J E NumberedPiece). length (slot_places ends.slots)) c.in-Some.ensures.sequencer
    ∙ (ap (λ (l : List (Option E)). length l) c.args.ends.places
    ∙ length-replicate (pool_state c.args.ends.pool).window none) in
    let window : (credit_port joined.writer).window ≡ (pool_state c.args.ends.pool).window =
    ap (λ (p : CreditPort J E). (credit_port p).window) c.join_threads-joined.ensures.writer.0
    ∙ (c.write-written.ensures.window ∙ ap (λ (x : WriterSide). x.window) c.args.ends.writing) in
    subst (λ (w : ℕ). HasSequenced g.D.Run.settings g.D.Run.dump w (done_port joined.sequencer).taken
    (sent joined.put.value).put joined.end joined.stray)
    (wide ∙ sym window) c.join_threads-joined.ensures.sequencer.sequenced

pub returns-clause-ran : goal.returns-clause-ran
returns-clause-ran g c = record {
  leaves = search rules;
  sink = search rules;
  threads = threads_fail c.conclude-answer.result c.conclude-answer.ensures.no_threads;
}
