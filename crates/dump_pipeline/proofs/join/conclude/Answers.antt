use Rattle.dump_pipeline.proofs.Prelude.{◌≡◌, ◌∙◌, List, length, map, ap, sym, subst, WorkerPort, sent, WorkerSide, IsDone, job_port, worker_port, done_port, credit_port, Seat, joined_seat, map_of_all, Answer, Job, Checked, NumberedPiece, HasWorked, is_failure, RunLeaves, ℕ, ◌+◌, ◌≤◌}
use Rattle.dump_pipeline.proofs.Joined.{AreJoined, none_astray, nothing_missing, unseen, unshut, sink_failed, ended_so}
use Rattle.dump_pipeline.proofs.join.conclude.Given.{Over}
use Rattle.dump_pipeline.proofs.join.conclude.Goals.{After-settle}
use Rattle.dump_pipeline.proofs.join.conclude.Goals as goal

-- what the threads returned, together
joined : (g : Over) (c : After-settle g) → AreJoined g.D.Run.settings g.D.Run.dump
    (job_port c.args.joined.cutter.port)
    (map (λ (p : WorkerPort (Job g.row.D.Denot g.D.Run) (Checked g.row.D.Denot g.D.Run)). worker_port p)
    c.args.joined.workers.items)
    (credit_port c.args.joined.writer).window (done_port c.args.joined.sequencer).taken
    (sent c.args.joined.put.value).put c.args.joined.end c.args.joined.stray c.args.joined.cutter.seat.seen
joined g c =
    let J : Type 0 = Job g.row.D.Denot g.D.Run in
    let E : Type 0 = Checked g.row.D.Denot g.D.Run in
    let ends = c.args.joined in
    let back : (credit_port ends.writer).back ≡ length (sent ends.put.value).put = c.requires.back
    ∙ ap (λ (l : List NumberedPiece). length l) c.requires.all in
    record {
      cut = c.requires.cut (unshut ends.cutter.shut ends.shuts c.join-shut.result c.join-shut.ensures.joined
          c.join-shut.ensures.whole c.requires.shut_shares c.requires.unshut.0 c.requires.unshut.1);
      worked = map_of_all (λ (w : WorkerSide J E). HasWorked w) (λ (p : WorkerPort J E). worker_port p)
          ends.workers.items c.requires.worked;
      jobs = c.settle.ensures.jobs;
      dones = c.settle.ensures.dones;
      few = subst (λ (n : ℕ). (job_port ends.cutter.port).drawn ≤ (credit_port ends.writer).window + n) back
          c.settle.ensures.credits;
      sequenced = c.requires.sequenced;
    }

pub settle-requires-clause-done : goal.settle-requires-clause-done
settle-requires-clause-done g c =
    map_of_all (λ (w : WorkerSide (Job g.row.D.Denot g.D.Run) (Checked g.row.D.Denot g.D.Run)). IsDone w)
    (λ (p : WorkerPort (Job g.row.D.Denot g.D.Run)
    (Checked g.row.D.Denot g.D.Run)). worker_port p) c.args.joined.workers.items
    (λ k d lt. (c.requires.worked k d lt).done)

pub returns-then-failed-clause-answer : goal.returns-then-failed-clause-answer
returns-then-failed-clause-answer g c =
    λ first now r. sink_failed c.requires.sequenced c.requires.all r c.if-failed.true

pub returns-clause-answer : goal.returns-clause-answer
returns-clause-answer g c =
    λ first now r.
    subst (λ (a : Answer). RunLeaves g.D.Run.settings g.D.Run.dump first now a) (sym c.answer.ensures)
    (ended_so c.requires.sequenced c.requires.all r c.in-Some.end c.in-Some.is c.if-failed.false)

pub returns-then-failed-clause-none_astray : goal.returns-then-failed-clause-none_astray
returns-then-failed-clause-none_astray g c =
    none_astray (joined g (goal.at.returns-then-failed-clause-none_astray g c).After-settle)

pub returns-clause-none_astray : goal.returns-clause-none_astray
returns-clause-none_astray g c = none_astray (joined g (goal.at.returns-clause-none_astray g c).After-settle)

pub unreachable-requires : goal.unreachable-requires
unreachable-requires g c =
    let ends = c.args.joined in
    let never = unseen ends.cutter.seat ends.sequences ends.writes c.join-all.result
    (c.join-all.ensures.joined ∙ ap (λ (s : Seat). joined_seat s ends.writes) c.join-both.ensures.joined)
    c.join-all.ensures.whole c.requires.shares c.requires.raised.0
    (c.requires.raised.1 ∙ ap is_failure c.in-None.is) (c.requires.raised.2 ∙ c.if-failed.false) in
    nothing_missing (joined g (goal.at.unreachable-requires g c).After-settle) c.in-None.is never
