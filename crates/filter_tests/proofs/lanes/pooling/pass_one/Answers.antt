use Rattle.std.proofs.Common.{◌∙◌, ℕ, ap, sym, subst, map}
use Rattle.dump_lanes.specs.steps.PortSides.{AreWorkersOf, CutterSide, IsDone, PoolName, WorkerSide}
use Rattle.dump_lanes.specs.steps.PortViews.{worker_port}
use Rattle.dump_lanes.specs.declared.pool.worker.WorkerPort.{WorkerPort}
use Rattle.dump_lanes.proofs.PortsTogether.{same_ports, map_of_all}
use Rattle.filter_tests.proofs.lanes.pooling.pass_one.Goals as goal

pub settle-requires-clause-workers : goal.settle-requires-clause-workers
settle-requires-clause-workers g c =
    let name : CutterSide ℕ → PoolName × ℕ = λ x. (x.pool, x.workers) in
    let same = ap name c.close.ensures ∙ (ap name c.put.ensures ∙ ap name c.in-Credit.ensures.drawn.1) in
    let all = same_ports _ _ c.args.ports.workers.items c.in_ok-workers.workers.items c.in_ok-workers.ensures.pool c.in_ok-workers.ensures.index c.requires.workers in
    subst (λ (x : PoolName × ℕ). AreWorkersOf x.0 x.1
    (map (λ (p : WorkerPort ℕ ℕ). worker_port p) c.in_ok-workers.workers.items)) (sym same) all

pub settle-requires-clause-done : goal.settle-requires-clause-done
settle-requires-clause-done g c =
    map_of_all (λ (w : WorkerSide ℕ ℕ). IsDone w) (λ
    (p : WorkerPort ℕ ℕ). worker_port p) c.in_ok-workers.workers.items c.in_ok-workers.ensures.done
