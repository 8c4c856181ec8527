use Rattle.dump_changes.proofs.Prelude.{◌≡◌, Some}
use Rattle.std.proofs.Common.{take}
use Rattle.dump_changes.specs.steps.DeltaTexts.{text_of_parts}
use Rattle.dump_changes.specs.steps.TextBytes.{bytes_of}
use Rattle.dump_changes.proofs.text_bytes.TextBytes.patched.Given as goal

abbrev pub invariant-loop-delta : goal.invariant-loop-delta
invariant-loop-delta l = text_of_parts l.base (take l.delta-index l.deltas) ≡ Some (bytes_of l.text)
