use Rattle.dump_digest.proofs.Prelude.{List, Property, IsPropertyBlock, props_bytes, HasEntriesLeft}
use Rattle.dump_digest.proofs.SaidLemmas.{IsSaidUpTo}
use Rattle.dump_digest.proofs.node_mergeinfo.Mergeinfo.of.Given as goal

abbrev pub invariant-loop-entry : goal.invariant-loop-entry
invariant-loop-entry l =
    (goal.iterator-loop-entry).can_next l.entries × (goal.iterator-loop-entry).is_finite l.entries
    × ((ps : List Property) → IsPropertyBlock (props_bytes l.props) ps
    → (qs : List Property) × HasEntriesLeft l.entries qs × IsSaidUpTo l.options ps qs l.found l.said)
