use Rattle.dump_pipeline.proofs.Prelude.{rules, vec_len, WorkerPort, worker_port, Job, Checked, HasWorked}
use Rattle.dump_pipeline.proofs.Steps.{map_push, all_push, len_push}
use Rattle.dump_pipeline.proofs.threads.join_workers.Goals as goal

pub loop-worker-preserved : goal.loop-worker-preserved
loop-worker-preserved g c =
    let J : Type 0 = Job g.row.D.Denot g.D.Run in
    let E : Type 0 = Checked g.row.D.Denot g.D.Run in
    let i = c.loop-worker.invariant in
    let at = c.join_worker.ensures in (
      map_push (λ (p : WorkerPort J E). (worker_port p).pool)
          (λ s. (worker_port s.promise.port.value).pool) c.loop-worker.ports.items c.push_reserved.new.self.items c.join_worker.result
          c.loop-worker.yielded c.in-Some.worker c.push_reserved.ensures.items i.0 at.pool,
      map_push (λ (p : WorkerPort J E). (worker_port p).index)
          (λ s. (worker_port s.promise.port.value).index) c.loop-worker.ports.items c.push_reserved.new.self.items c.join_worker.result
          c.loop-worker.yielded c.in-Some.worker c.push_reserved.ensures.items i.1 at.index,
      all_push (λ (p : WorkerPort J E). HasWorked
          (worker_port p)) c.loop-worker.ports.items c.push_reserved.new.self.items c.join_worker.result c.push_reserved.ensures.items i.2 at.worked,
      len_push (vec_len c.loop-worker.ports)
          (vec_len c.push_reserved.new.self) c.loop-worker.yielded c.in-Some.worker c.push_reserved.ensures.len i.3,
      search rules,
    )
