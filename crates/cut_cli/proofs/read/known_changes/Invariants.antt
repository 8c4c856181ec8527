use Rattle.cut_cli.proofs.FrontLemmas.{KnownSoFar}
use Rattle.cut_cli.proofs.read.known_changes.Given as goal

abbrev pub invariant-loop-change : goal.invariant-loop-change
invariant-loop-change l = KnownSoFar l.fn.reading.changes.items l.changes.items l.change-index
