use Rattle.svndiff.proofs.Prelude.{sym, ◌∙◌}
use Rattle.svndiff.proofs.NumberLemmas.{too_long}
use Rattle.svndiff.proofs.numbers.number_at.Goals as goal

pub returns-then-read-ge-LONGEST-clause-value : goal.returns-then-read-ge-LONGEST-clause-value
returns-then-read-ge-LONGEST-clause-value c =
    sym c.loop-read.invariant ∙ too_long c.loop-read.read c.loop-read.value _ c.if-read-ge-LONGEST.true
