-- The line that is written for a run without a fault.
use Rattle.std.specs.Prelude.{ℕ, List, [], ◌∷◌, codes, decimal}
use Rattle.std.specs.List.{concat}
use Rattle.dump_filter.specs.declared.state.Report.{Report}

abbrev pub report_line : Report → List ℕ
report_line report = concat (codes "revisions kept " ∷ decimal report.revisions_kept
    ∷ codes ", dropped " ∷ decimal report.revisions_dropped
    ∷ codes "; nodes kept " ∷ decimal report.nodes_kept
    ∷ codes ", dropped " ∷ decimal report.nodes_dropped
    ∷ codes "; texts checked " ∷ decimal report.texts_checked
    ∷ codes "\n" ∷ [])
