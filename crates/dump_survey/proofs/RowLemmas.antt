-- The rows of the findings, by the places of the findings in the table.
use Rattle.dump_survey.proofs.Prelude.{◌≡◌, List, map, get_or, refl, sym, ap, ◌∙◌, Finding, DumpFinding, every_finding, every_dump_finding}
use Rattle.std.proofs.Common.{slice_index_or}
use Rattle.std.proofs.Math.ListN.{get_or-map}
use denote.Enum.Declared.{tag_of}
use Rattle.dump_history.specs.contracts.findings.Finding as in_node
use Rattle.dump_history.specs.contracts.findings.DumpFinding as in_dump
use Rattle.dump_history.specs.declared.findings.Finding.TheVariants as findings
use Rattle.dump_history.specs.declared.findings.DumpFinding.TheVariants as dump_wide
use Rattle.dump_survey.specs.FindingRows.{FindingRow, finding_row, dump_row}
use Rattle.dump_survey.specs.steps.LineViews.{kind_view, row_view}
use Rattle.dump_survey.specs.declared.report.finding_rows.Row.{Row}

-- the row at the place of a finding in the list of all findings
in_table : (rows : FindingRow) (f : Finding)
    → get_or (map finding_row every_finding) (tag_of in_node.the_type f) rows ≡ finding_row f
in_table other findings.UnreadBlock = refl
in_table other f = refl

in_dump_table : (other : FindingRow) (f : DumpFinding)
    → get_or (map dump_row every_dump_finding) (tag_of in_dump.the_type f) other ≡ dump_row f
in_dump_table other dump_wide.NoRevision = refl
in_dump_table other f = refl

row_of_finding : (rows : List Row) (other : Row) → map row_view rows ≡ map finding_row every_finding → (f : Finding)
    → row_view (slice_index_or rows (tag_of in_node.the_type f) other) ≡ finding_row f
row_of_finding rows other same f = sym (get_or-map row_view rows (tag_of in_node.the_type f) other)
    ∙ (ap (λ rs. get_or rs (tag_of in_node.the_type f) (row_view other)) same ∙ in_table (row_view other) f)

row_of_dump_finding : (rows : List Row) (other : Row) → map row_view rows ≡ map dump_row every_dump_finding
    → (f : DumpFinding) → row_view (slice_index_or rows (tag_of in_dump.the_type f) other) ≡ dump_row f
row_of_dump_finding rows other same f = sym (get_or-map row_view rows (tag_of in_dump.the_type f) other)
    ∙ (ap (λ rs. get_or rs (tag_of in_dump.the_type f) (row_view other)) same ∙ in_dump_table (row_view other) f)

-- the parts of the row
module _ (rows : List Row) (other : Row) (same : map row_view rows ≡ map finding_row every_finding) (f : Finding) where
  pub words_of_finding : (slice_index_or rows (tag_of in_node.the_type f) other).words.now ≡ (finding_row f).words
  unfolding row_view
  words_of_finding = ap (λ (r : FindingRow). r.words) (row_of_finding rows other same f)

  pub source_of_finding : (slice_index_or rows (tag_of in_node.the_type f) other).states_source
      ≡ (finding_row f).states_source
  unfolding row_view
  source_of_finding = ap (λ (r : FindingRow). r.states_source) (row_of_finding rows other same f)

  pub kind_of_finding : kind_view (slice_index_or rows (tag_of in_node.the_type f) other).kind ≡ (finding_row f).kind
  unfolding row_view
  kind_of_finding = ap (λ (r : FindingRow). r.kind) (row_of_finding rows other same f)

module _ (rows : List Row) (other : Row) (same : map row_view rows ≡ map dump_row every_dump_finding) (f : DumpFinding)
  where
    pub words_of_dump_finding : (slice_index_or rows (tag_of in_dump.the_type f) other).words.now ≡ (dump_row f).words
    unfolding row_view
    words_of_dump_finding = ap (λ (r : FindingRow). r.words) (row_of_dump_finding rows other same f)

    pub kind_of_dump_finding : kind_view (slice_index_or rows (tag_of in_dump.the_type f) other).kind ≡ (dump_row f).kind
    unfolding row_view
    kind_of_dump_finding = ap (λ (r : FindingRow). r.kind) (row_of_dump_finding rows other same f)
