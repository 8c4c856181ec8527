use Rattle.dump_lanes.proofs.Prelude.{ap, sym, subst, length, ◌∙◌, ◌≡◌, All, arith, arc_value, Purse, Queues, WorkerPort, steps_of, name_of, IsSequencing, WorkerSide, IsDone, worker_port, job_port, dones_part, sequencer_crew, jobs_part, cutter_crew}
use Rattle.crossbeam_queue.specs.Passes.{view}
use Rattle.dump_lanes.specs.CreditRule.{AreSteps}
use Rattle.dump_lanes.proofs.CreditSteps as credits
use Rattle.dump_lanes.proofs.DoneSteps.{sequencer_apart, knows_taken}
use Rattle.dump_lanes.proofs.JobSteps.{cutter_apart, knows_put}
use Rattle.dump_lanes.proofs.QueueSteps.{learns}
use Rattle.dump_lanes.proofs.PortsTogether.{all_of_map, ports_count, same_workers, same_put, same_taken, settles_jobs, settles_dones}
use Rattle.dump_lanes.proofs.pool.Ports.settle.Goals as goal

pub gather-requires-clause-workers : goal.gather-requires-clause-workers
gather-requires-clause-workers g c =
    let all = all_of_map (λ (w : WorkerSide g.row.J.Denot g.row.D.Denot). w.pool ≡ (job_port c.args.self.cutter).pool)
    (λ (p : WorkerPort g.row.J.Denot g.row.D.Denot). worker_port p) c.args.self.workers.items c.requires.workers.same_pool in
    subst (λ (q : Queues g.row.J.Denot g.row.D.Denot). All
    (λ (p : WorkerPort g.row.J.Denot g.row.D.Denot). (worker_port p).pool ≡ name_of q) c.args.self.workers.items)
    (sym c.deref.ensures) all

pub absorb-requires-clause-rule : goal.absorb-requires-clause-rule
absorb-requires-clause-rule g c = credits.merges _ _ _ _ c.args.self.cutter.draws c.args.self.writer.gives.may_give

pub learn_as-requires-clause-rule : goal.learn_as-requires-clause-rule
learn_as-requires-clause-rule g c =
    let v = c.gather.ensures.jobs in
    let parts = v.parts in
    let all = c.args.self.cutter.cuts.parts in
    let long = ports_count c.args.self.workers.items c.requires.workers in
    learns jobs_part cutter_crew cutter_apart _ _ (omega arith)

pub learn_as-requires-2-clause-rule : goal.learn_as-requires-2-clause-rule
learn_as-requires-2-clause-rule g c =
    let v = c.gather.ensures.dones in
    let parts = v.parts in
    let same = same_workers (arc_value c.args.self.sequencer.queues)
    (arc_value c.args.self.cutter.queues) c.requires.sequencer in
    let all = c.args.self.sequencer.sequences.parts in
    let long = ports_count c.args.self.workers.items c.requires.workers in
    learns dones_part sequencer_crew sequencer_apart _ _ (omega arith)

pub learn_as-requires-3-clause-rule : goal.learn_as-requires-3-clause-rule
learn_as-requires-3-clause-rule g c =
    let v = c.absorb.ensures.rule in credits.learns _ _ (ap (λ (h : Purse). h.draws) v) (ap (λ (h : Purse). h.gives) v)

pub returns-clause-jobs : goal.returns-clause-jobs
returns-clause-jobs g c =
    let cutter = c.args.self.cutter in
    let done = all_of_map (λ (w : WorkerSide g.row.J.Denot g.row.D.Denot). IsDone w)
    (λ (p : WorkerPort g.row.J.Denot g.row.D.Denot). worker_port p) c.args.self.workers.items c.requires.done in
    let long = ports_count c.args.self.workers.items c.requires.workers in
    settles_jobs (arc_value cutter.queues).workers (view cutter.jobs)
    (view c.gather.new.jobs) c.args.self.workers.items c.learn_as.ensures.rule.0
    (arc_value cutter.queues).some_workers cutter.cuts c.requires.closed long done c.gather.ensures.jobs c.learn_as.ensures.rule.1

pub returns-clause-dones : goal.returns-clause-dones
returns-clause-dones g c =
    let sequencer = c.args.self.sequencer in
    let same = same_workers (arc_value sequencer.queues) (arc_value c.args.self.cutter.queues) c.requires.sequencer in
    let done = all_of_map (λ (w : WorkerSide g.row.J.Denot g.row.D.Denot). IsDone w)
    (λ (p : WorkerPort g.row.J.Denot g.row.D.Denot). worker_port p) c.args.self.workers.items c.requires.done in
    let sequences = subst (λ n. IsSequencing n sequencer.left (view sequencer.dones)) same sequencer.sequences in
    let long = ports_count c.args.self.workers.items c.requires.workers in
    settles_dones _ sequencer.left (view sequencer.dones)
    (view c.gather.new.dones) c.args.self.workers.items c.learn_as-2.ensures.rule.0 sequences c.requires.ended long done c.gather.ensures.dones c.learn_as-2.ensures.rule.1

pub returns-clause-steps : goal.returns-clause-steps
returns-clause-steps g c =
    let j = c.learn_as.ensures.rule.1 in
    let d = c.learn_as-2.ensures.rule.1 in
    let k = c.learn_as-3.ensures.rule.1.1 in
    let joined = c.absorb.ensures.rule in
    record {
      jobs = record {
        happened = j.happened;
        left = c.learn_as.ensures.rule.0;
        steps = j.steps;
        each = λ t. ap (λ l. steps_of t l) (sym c.gather.ensures.jobs.steps) ∙ j.each t;
        put_is = sym (same_put _ _ _ c.gather.ensures.jobs) ∙ knows_put _ _ j;
      };
      dones = record {
        happened = d.happened;
        left = c.learn_as-2.ensures.rule.0;
        steps = d.steps;
        each = λ t. ap (λ l. steps_of t l) (sym c.gather.ensures.dones.steps) ∙ d.each t;
        taken_is = sym (same_taken _ _ _ c.gather.ensures.dones) ∙ knows_taken _ _ d;
      };
      credits = record {
        happened = k.happened;
        free = length c.learn_as-3.ensures.rule.0;
        steps = subst (λ n. AreSteps n k.happened (length c.learn_as-3.ensures.rule.0))
            (ap (λ (p : Purse). p.first) joined ∙ c.args.self.writer.gives.first) k.steps;
        each = λ t. ap (λ (p : Purse). steps_of t p.steps) (sym joined) ∙ k.each t;
        drawn_is = ap (λ (p : Purse). p.drawn) (sym joined) ∙ k.drawn_is;
        back_is = ap (λ (p : Purse). p.back) (sym joined) ∙ k.back_is;
      };
    }
