use Rattle.svndiff.proofs.Prelude.{drop, ◌≡◌}
use Rattle.svndiff.specs.Svndiff.{number_from}
use Rattle.svndiff.proofs.numbers.number_at.Given as goal

abbrev pub invariant-loop-read : goal.invariant-loop-read
invariant-loop-read l = number_from l.read l.value (drop l.read l.byte-items) ≡ number_from 0 0 (drop l.at l.bytes)
