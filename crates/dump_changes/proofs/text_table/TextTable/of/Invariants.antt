use Rattle.std.proofs.Common.{◌-◌, length}
use Rattle.dump_changes.specs.steps.FileTexts.{told_text}
use Rattle.dump_changes.specs.steps.NodeTexts.{told_of}
use Rattle.dump_changes.proofs.TableLemmas.{PartsSoFar}
use Rattle.dump_changes.proofs.text_table.TextTable.of.Given as goal

abbrev pub invariant-loop-item : goal.invariant-loop-item
invariant-loop-item l = PartsSoFar told_of told_text l.dump l.cutter l.texts.items

abbrev pub decreases-loop-item : goal.decreases-loop-item
decreases-loop-item l = length l.dump - l.cutter.number
