use Rattle.dump_survey.proofs.Prelude.{List, Property, IsPropertyBlock, props_bytes, HasEntriesLeft}
use Rattle.dump_survey.proofs.RefusedLemmas.{IsRefusedUpTo}
use Rattle.dump_survey.proofs.findings.refused.refused_in.Given as goal

abbrev pub invariant-loop-entry : goal.invariant-loop-entry
invariant-loop-entry l =
    (goal.iterator-loop-entry).can_next l.entries × (goal.iterator-loop-entry).is_finite l.entries
    × ((ps : List Property) → IsPropertyBlock (props_bytes l.props) ps
    → (qs : List Property) × HasEntriesLeft l.entries qs
    × IsRefusedUpTo l.options l.copy l.numbers.first l.numbers.present ps qs l.unread l.missing l.outside)
