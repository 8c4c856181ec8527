use Rattle.dump_pipeline.proofs.Prelude.{rules, ap, sym, ◌∙◌, List, [], ◌∷◌, map, arith, YieldsList-from_vec, YieldsList-end, WorkerPort, worker_port, Job, Checked}
use Rattle.std.proofs.Common.{length-append}
use Rattle.dump_pipeline.proofs.Steps.{map_push, map_same}
use Rattle.dump_pipeline.proofs.threads.start_workers.Goals as goal

pub loop-port-preserved-in-Some-start_worker : goal.loop-port-preserved-in-Some-start_worker
loop-port-preserved-in-Some-start_worker g c =
    let J : Type 0 = Job g.row.D.Denot g.D.Run in
    let E : Type 0 = Checked g.row.D.Denot g.D.Run in
    let i = c.loop-port.invariant in
    let same = c.in-Some-start_worker.ensures.same in
    let made = c.in-Some-start_worker.ensures.port in
    let grown = c.push_reserved.ensures.len in
    let count = length-append c.loop-port.yielded (c.in-Some.port ∷ []) in
    let few = i.1 in
    let room = c.push_reserved.ensures.capacity in
    let most = i.2 in (
      λ p is.
          let h = i.0 p (sym same ∙ is) in (
            h.0,
            map_push (λ s. (worker_port s.promise.port.value).pool)
                (λ (q : WorkerPort J E). (worker_port q).pool) c.loop-port.workers.items c.push_reserved.new.self.items
                c.in-Some-start_worker.worker c.loop-port.yielded c.in-Some.port c.push_reserved.ensures.items h.1
                (ap (λ (q : WorkerPort J E). (worker_port q).pool) made),
            map_push (λ s. (worker_port s.promise.port.value).index)
                (λ (q : WorkerPort J E). (worker_port q).index) c.loop-port.workers.items c.push_reserved.new.self.items
                c.in-Some-start_worker.worker c.loop-port.yielded c.in-Some.port c.push_reserved.ensures.items h.2
                (ap (λ (q : WorkerPort J E). (worker_port q).index) made),
          ),
      omega (arith, grown, count, few),
      omega (arith, room, most),
    )

pub returns-clause-index : goal.returns-clause-index
returns-clause-index g c =
    let J : Type 0 = Job g.row.D.Denot g.D.Run in
    let E : Type 0 = Checked g.row.D.Denot g.D.Run in
    let held = c.loop-port.invariant.0 c.in_ok-cutter.cutter c.in_ok-cutter.was in
    let all = YieldsList-end (YieldsList-from_vec {s = c.into_iter-port-iterator.result} c.args.ports.items
    (search rules) (search rules)) c.loop-port.yielded c.loop-port.port-iterator
    c.loop-port.yielded_by c.next.result c.next.new.self c.in-None.is c.next.ensures.steps in
    held.2 ∙ ap (λ (l : List (WorkerPort J E)). map (λ (q : WorkerPort J E). (worker_port q).index) l)
    (sym (map_same c.loop-port.yielded) ∙ all.0)
