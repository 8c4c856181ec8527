use Rattle.std.proofs.Common.{◌≡◌, length}
use Rattle.dump_cut.specs.steps.ParentTexts.{parent_text}
use Rattle.dump_cut.proofs.parent_path.parent_text.Given as goal

abbrev pub invariant-loop-front : goal.invariant-loop-front
invariant-loop-front l = parent_text l.path ≡ parent_text l.front

abbrev pub decreases-loop-front : goal.decreases-loop-front
decreases-loop-front l = length l.front
