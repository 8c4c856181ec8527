use Rattle.svndiff.proofs.Prelude.{drop, length, take, vec_len, ℕ, ◌-◌, ◌≡◌, ◌≤◌}
use Rattle.svndiff.specs.Svndiff.{target_by}
use Rattle.svndiff.specs.steps.Readings.{target_from, target_in}
use Rattle.svndiff.proofs.targets.make_target.Given as goal

abbrev pub invariant-loop-at : goal.invariant-loop-at
invariant-loop-at l = record {
  within : l.at ≤ length l.inputs.instructions.now;
  start : l.start ≡ vec_len l.fn.text;
  room : l.start ≤ vec_len l.text;
  before : take l.start l.text.items ≡ l.fn.text.items;
  target : (most : ℕ) × (length (drop l.at l.inputs.instructions.now) ≤ most)
      × (target_by most l.inputs.view.now l.inputs.size (drop l.at l.inputs.instructions.now) (target_in l.text.items l.start l.unused)
      ≡ target_from l.inputs.view.now l.inputs.size (drop l.inputs.first l.inputs.instructions.now) l.inputs.new_data.now);
}

abbrev pub decreases-loop-at : goal.decreases-loop-at
decreases-loop-at l = length l.inputs.instructions.now - l.at
