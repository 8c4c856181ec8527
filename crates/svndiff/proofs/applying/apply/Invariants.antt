use Rattle.svndiff.proofs.Prelude.{drop, length, ℕ, ◌-◌, ◌≡◌, ◌≤◌}
use Rattle.svndiff.specs.Svndiff.{patch, text_from}
use Rattle.svndiff.specs.steps.Readings.{source_of}
use Rattle.svndiff.proofs.applying.apply.Given as goal

abbrev pub invariant-loop-at : goal.invariant-loop-at
invariant-loop-at l = record {
  within : l.at ≤ length l.delta;
  text : (most : ℕ) × (length (drop l.at l.delta) ≤ most)
      × (text_from most l.text.items (source_of l.source) (drop l.at l.delta) ≡ patch l.delta l.base);
}

abbrev pub decreases-loop-at : goal.decreases-loop-at
decreases-loop-at l = length l.delta - l.at
