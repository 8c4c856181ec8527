use Rattle.dump_lanes.proofs.Prelude.{ap, sym, subst, ◌∙◌, ◌≡◌, ◌+◌, ◌-◌, ◌<◌, ◌++◌, [], ◌∷◌, map, length, rules, arith, YieldsList-from_vec, YieldsList-turn, YieldsList-end, length-append, arc_value, range_with_len, PARTS, Note, Mark, View, Queues, dones_part, sequencer_crew, jobs_part, cutter_crew, leading, after_fork, state_of, new_worker, worker_port}
use Rattle.std.proofs.Common.{slice_index_or}
use Rattle.dump_lanes.proofs.DoneSteps.{sequencer_apart}
use Rattle.dump_lanes.proofs.JobSteps.{cutter_apart}
use Rattle.dump_lanes.proofs.QueueSteps.{forks}
use Rattle.dump_lanes.proofs.core.Weights.{range_next}
use Rattle.dump_lanes.proofs.Settling.{map-then}
use Rattle.dump_lanes.proofs.pool.cutting.cut_workers.Given.{Over}
use Rattle.dump_lanes.proofs.pool.cutting.cut_workers.Goals.{In-Some, In-None}
use Rattle.dump_lanes.proofs.pool.cutting.cut_workers.Goals as goal

-- the next reference to the queues is at its place
turn : (g : Over) (c : In-Some g) → (length c.loop-share.yielded < length c.args.shares.items)
    × (c.in-Some.share ≡ slice_index_or c.args.shares.items (length c.loop-share.yielded) c.in-Some.share)
turn g c =
    YieldsList-turn (YieldsList-from_vec {s = c.into_iter-share-iterator.result} c.args.shares.items (search rules)
    (search rules)) c.loop-share.yielded c.loop-share.share-iterator c.loop-share.yielded_by c.next.result
    c.next.new.self c.in-Some.share c.in-Some.is c.next.ensures.steps

-- and it refers to these queues
same_share : (g : Over) (c : In-Some g) → arc_value c.in-Some.share ≡ c.args.queues.now
same_share g c =
    subst (λ a. arc_value a ≡ c.args.queues.now) (sym (turn g c).1)
    (c.requires.shares (length c.loop-share.yielded) c.in-Some.share (turn g c).0)

-- at the end there was one for each worker
all_shared : (g : Over) (c : In-None g) → length c.loop-share.yielded ≡ c.args.queues.now.workers
all_shared g c =
    (YieldsList-end (YieldsList-from_vec {s = c.into_iter-share-iterator.result} c.args.shares.items (search rules)
    (search rules)) c.loop-share.yielded c.loop-share.share-iterator c.loop-share.yielded_by c.next.result
    c.next.new.self c.in-None.is c.next.ensures.steps).1 ∙ c.requires.as_many

pub another-takes-requires-clause-rule : goal.another-takes-requires-clause-rule
another-takes-requires-clause-rule g c =
    let parts = ap (λ (v : View (Mark g.row.J.Denot)). v.parts) c.loop-share.invariant.2 in
    let below = (turn g (goal.at.another-takes-requires-clause-rule g c).In-Some).0 in
    let many = c.requires.as_many in
    let most = c.args.queues.now.most_workers in
    forks jobs_part cutter_crew cutter_apart _ _ (ap (λ (v : View (Mark g.row.J.Denot)). v.leads) c.loop-share.invariant.2)
    (omega arith)

pub another-gives-requires-clause-rule : goal.another-gives-requires-clause-rule
another-gives-requires-clause-rule g c =
    let parts = ap (λ (v : View (Note g.row.D.Denot)). v.parts) c.loop-share.invariant.3 in
    let below = (turn g (goal.at.another-gives-requires-clause-rule g c).In-Some).0 in
    let many = c.requires.as_many in
    let most = c.args.queues.now.most_workers in
    forks dones_part sequencer_crew sequencer_apart _ _ (ap (λ (v : View (Note g.row.D.Denot)). v.leads) c.loop-share.invariant.3) (omega arith)

pub new-requires-clause-of_jobs : goal.new-requires-clause-of_jobs
new-requires-clause-of_jobs g c =
    let same = same_share g (goal.at.new-requires-clause-of_jobs g c).In-Some in
    let of = c.another-takes.ensures.queue.1 in
    (of.0 ∙ ap (λ (q : Queues g.row.J.Denot g.row.D.Denot). q.jobs.table.shared.table_id) (sym same), of.1)

pub new-requires-clause-of_dones : goal.new-requires-clause-of_dones
new-requires-clause-of_dones g c =
    let same = same_share g (goal.at.new-requires-clause-of_dones g c).In-Some in
    let of = c.another-gives.ensures.queue.1 in
    (of.0 ∙ ap (λ (q : Queues g.row.J.Denot g.row.D.Denot). q.dones.table.shared.table_id) (sym same), of.1)

pub push_reserved-requires : goal.push_reserved-requires
push_reserved-requires g c =
    let below = (turn g (goal.at.push_reserved-requires g c).In-Some).0 in
    let many = c.requires.as_many in
    let long = c.loop-share.invariant.5 in
    let room = c.loop-share.invariant.6 in omega arith

pub loop-share-preserved : goal.loop-share-preserved
loop-share-preserved g c =
    let same = same_share g (goal.at.loop-share-preserved g c).In-Some in
    let inv = c.loop-share.invariant in
    let side = new_worker {J = g.row.J.Denot} {D = g.row.D.Denot} (state_of c.args.queues.now) in
    let index = c.len-index.ensures ∙ inv.5 in
    let new = c.new.ensures ∙ (λ i. new_worker {J = g.row.J.Denot} {D = g.row.D.Denot} (state_of (same i)) (index i)) in
    let longer = length-append c.loop-share.yielded (c.in-Some.share ∷ []) in
    let ports : map (λ p. worker_port p) c.push_reserved.new.self.items ≡ map side
    (range_with_len 0 (length c.loop-share.yielded + 1)) =
    ap (map (λ p. worker_port p)) c.push_reserved.ensures.items
    ∙ (map-then (λ p. worker_port p) c.loop-share.workers.items c.new.result
    ∙ ((λ i. inv.4 i ++ new i ∷ []) ∙ (sym (map-then side (range_with_len 0 (length c.loop-share.yielded))
    (length c.loop-share.yielded)) ∙ ap (map side) (sym (range_next (length c.loop-share.yielded)))))) in
    let fewer : PARTS - length c.loop-share.yielded - 1 ≡ PARTS - length
    (c.loop-share.yielded ++ c.in-Some.share ∷ []) = omega (arith, longer) in
    let takes = c.another-takes.ensures.rule.0 ∙ (ap (λ (v : View (Mark g.row.J.Denot)). after_fork v) inv.2
    ∙ (λ i. leading (fewer i) (sym longer i))) in
    let gives = c.another-gives.ensures.rule.0 ∙ (ap (λ (v : View (Note g.row.D.Denot)). after_fork v) inv.3
    ∙ (λ i. leading (fewer i) (sym longer i))) in (
      search rules,
      search rules,
      takes,
      gives,
      ports ∙ ap (λ n. map side (range_with_len 0 n)) (sym longer),
      c.push_reserved.ensures.len ∙ (ap (λ n. n + 1) inv.5 ∙ sym longer),
      search rules,
    )

pub returns-clause-jobs : goal.returns-clause-jobs
returns-clause-jobs g c =
    c.loop-share.invariant.2 ∙ ap (λ n. leading (PARTS - n) n) (all_shared g (goal.at.returns-clause-jobs g c).In-None)

pub returns-clause-dones : goal.returns-clause-dones
returns-clause-dones g c =
    c.loop-share.invariant.3 ∙ ap (λ n. leading (PARTS - n) n) (all_shared g (goal.at.returns-clause-dones g c).In-None)

pub returns-clause-workers : goal.returns-clause-workers
returns-clause-workers g c =
    let side = new_worker {J = g.row.J.Denot} {D = g.row.D.Denot} (state_of c.args.queues.now) in
    c.loop-share.invariant.4
    ∙ ap (λ n. map side (range_with_len 0 n)) (all_shared g (goal.at.returns-clause-workers g c).In-None)
