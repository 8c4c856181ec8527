use Rattle.dump_changes.proofs.Prelude.{◌≡◌, Some}
use Rattle.std.proofs.Common.{reverse, take}
use Rattle.dump_changes.specs.steps.PatchedTexts.{told_patched}
use Rattle.dump_changes.specs.steps.MadeTexts.{told_of_made}
use Rattle.dump_changes.proofs.texts.text_made.Given as goal

abbrev pub invariant-loop-place : goal.invariant-loop-place
invariant-loop-place l = told_patched l.table l.index (reverse (take l.place-index l.places)) ≡ Some (told_of_made l.text)
