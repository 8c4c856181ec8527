use Rattle.dump_index.proofs.EverLemmas.{IsFoundFrom}
use Rattle.dump_index.proofs.index.ChangeIndex.names_ever.Given as goal

abbrev pub invariant-loop-place : goal.invariant-loop-place
invariant-loop-place l = IsFoundFrom l.self l.path l.names.items l.before

abbrev pub decreases-loop-place : goal.decreases-loop-place
decreases-loop-place l = l.before
