use Rattle.dump_lanes.proofs.Prelude.{rules, refl, lane_part, sender_crew}
use Rattle.dump_lanes.proofs.Moves.{sender_apart}
use Rattle.dump_lanes.proofs.QueueSteps.{begins, forks}
use Rattle.dump_lanes.proofs.ends.pair.lane.Goals as goal

pub bounded_with-requires-clause-rule : goal.bounded_with-requires-clause-rule
bounded_with-requires-clause-rule g c = begins lane_part sender_crew sender_apart

pub another-other-requires-clause-rule : goal.another-other-requires-clause-rule
another-other-requires-clause-rule g c = forks lane_part sender_crew sender_apart _ _ (search rules) (search rules)

pub returns-clause-nothing_told : goal.returns-clause-nothing_told
returns-clause-nothing_told g c = refl
