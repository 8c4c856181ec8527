use Rattle.std.proofs.Common.{◌≡◌, false, List, ℕ, ◌++◌}
use Rattle.dump_index.specs.steps.InOrder.{ends_in_slash}
use Rattle.dump_index.specs.steps.Settings.{IsTrail}
use Rattle.dump_index.proofs.index.ChangeIndex.settings_at.Given as goal

abbrev pub invariant-loop-at : goal.invariant-loop-at
invariant-loop-at l = record {
  bare : ends_in_slash l.at.items ≡ false;
  same : (trail : List ℕ) → IsTrail l.part l.self l.before l.at.items trail
      → IsTrail l.part l.self l.count l.path (l.places.items ++ trail);
}

abbrev pub decreases-loop-at : goal.decreases-loop-at
decreases-loop-at l = l.before
