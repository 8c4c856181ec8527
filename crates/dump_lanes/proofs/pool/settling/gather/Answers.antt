use Rattle.dump_lanes.proofs.Prelude.{◌∙◌, arith, dones_part, sequencer_crew, jobs_part, cutter_crew}
use Rattle.dump_lanes.proofs.DoneSteps.{sequencer_apart}
use Rattle.dump_lanes.proofs.JobSteps.{cutter_apart}
use Rattle.dump_lanes.proofs.QueueSteps.{merges}
use Rattle.dump_lanes.proofs.PortsTogether.{none_in, more_in}
use Rattle.dump_lanes.proofs.pool.settling.gather.Goals as goal

pub loop-worker-init : goal.loop-worker-init
loop-worker-init g c = (
  c.requires.of_jobs,
  c.requires.of_dones,
  none_in _ _ c.requires.cutter.0,
  none_in _ _ c.requires.sequencer.0,
)

pub absorb-requires-clause-rule : goal.absorb-requires-clause-rule
absorb-requires-clause-rule g c =
    let so_far = c.loop-worker.invariant.2 in
    merges jobs_part cutter_crew cutter_apart _ _ _ _ so_far.leads
    (let e = so_far.parts in let p = c.requires.cutter.1 in omega arith)

pub absorb-requires-in-loop-worker-clause-rule : goal.absorb-requires-in-loop-worker-clause-rule
absorb-requires-in-loop-worker-clause-rule g c =
    let so_far = c.loop-worker.invariant.3 in
    merges dones_part sequencer_crew sequencer_apart _ _ _ _ so_far.leads
    (let e = so_far.parts in let p = c.requires.sequencer.1 in omega arith)

pub loop-worker-preserved : goal.loop-worker-preserved
loop-worker-preserved g c =
    let inv = c.loop-worker.invariant in (
      (c.absorb.ensures.queue.0 ∙ inv.0.0, c.absorb.ensures.queue.2 ∙ inv.0.1),
      (c.absorb-in-loop-worker.ensures.queue.0 ∙ inv.1.0, c.absorb-in-loop-worker.ensures.queue.2 ∙ inv.1.1),
      more_in _ c.loop-worker.yielded c.in-Some.worker _ _ _ c.in-Some.worker.works.parts inv.2 c.absorb.ensures.rule,
      more_in _ c.loop-worker.yielded c.in-Some.worker _ _ _ c.in-Some.worker.gives.parts inv.3 c.absorb-in-loop-worker.ensures.rule,
    )
