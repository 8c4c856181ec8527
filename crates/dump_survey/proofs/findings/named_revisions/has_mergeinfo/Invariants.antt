use Rattle.dump_survey.proofs.Prelude.{◌≡◌, List, list_any, Property, IsPropertyBlock, props_bytes, HasEntriesLeft, is_mergeinfo}
use Rattle.dump_survey.proofs.findings.named_revisions.has_mergeinfo.Given as goal

abbrev pub invariant-loop-entry : goal.invariant-loop-entry
invariant-loop-entry l =
    (goal.iterator-loop-entry).can_next l.entries × (goal.iterator-loop-entry).is_finite l.entries
    × ((ps : List Property) → IsPropertyBlock (props_bytes l.props) ps
    → (qs : List Property) × HasEntriesLeft l.entries qs × (list_any is_mergeinfo ps ≡ list_any is_mergeinfo qs))
