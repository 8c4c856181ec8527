use Rattle.dump_nodes.proofs.Prelude.{◌≡◌, length, are_short_from}
use Rattle.dump_nodes.specs.declared.canonical_path.Name.TheVariants.{Empty}
use Rattle.dump_nodes.proofs.canonical_path.are_canonical.Given as goal

abbrev pub invariant-loop-rest : goal.invariant-loop-rest
invariant-loop-rest l = are_short_from Empty l.text ≡ are_short_from l.name l.rest

abbrev pub decreases-loop-rest : goal.decreases-loop-rest
decreases-loop-rest l = length l.rest
