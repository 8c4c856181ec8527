use Rattle.dump_survey.proofs.Prelude.{[], ◌∷◌, ◌++◌, ◌∙◌, Some, refl, ap, codes, decimal, if◌then◌else◌, finding_row, shown_path, reported_view}
use Rattle.dump_survey.specs.Lines.{cut_words, fault_and_place, node_line, source_text}
use Rattle.dump_survey.specs.FindingRows.{KindText}
use Rattle.dump_survey.specs.steps.LineViews.{kind_view}
use Rattle.dump_survey.proofs.LineLemmas.{all_added}
use Rattle.dump_survey.proofs.report.survey_lines.push_node_line.Goals as goal

pub returns : goal.returns
unfolding node_line kind_view
returns c =
    let t = reported_view c.args.reported.now in
    let row = finding_row t.finding in
    let words = c.in_ok-extend_from_slice-3.ensures.items
    ∙ ap (λ w. c.extend_from_slice-2.new.self.items ++ w) c.node_row-row.ensures.words in
    let fault = c.in_ok-push_fault_and_place.ensures
    ∙ ap (λ f. c.push_cut.new.line.items ++ fault_and_place f (Some (record { number = t.number; place = t.place }))) (ap (λ (k : KindText). k.fault) c.node_row-row.ensures.kind) in
    all_added c.args.lines.now.items c.push-2.new.self.items
    (codes "r" ∷ decimal t.revision ∷ codes ": " ∷ shown_path t.path
    ∷ (if row.states_source then source_text t else []) ∷ codes ": " ∷ row.words ∷ cut_words t.prefix
    ∷ fault_and_place row.kind.fault (Some (record { number = t.number; place = t.place }))
    ∷ codes "\n" ∷ []) (
      c.push.new.self.items,
      c.in_ok-push.ensures.items,
      (
        c.push_number.new.line.items,
        c.in_ok-push_number.ensures,
        (
          c.extend_from_slice.new.self.items,
          c.in_ok-extend_from_slice.ensures.items,
          (
            c.push_path.new.line.items,
            c.in_ok-push_path.ensures,
            (
              c.push_reported_source.new.line.items,
              c.in_ok-push_reported_source.ensures,
              (
                c.extend_from_slice-2.new.self.items,
                c.in_ok-extend_from_slice-2.ensures.items,
                (
                  c.extend_from_slice-3.new.self.items,
                  words,
                  (
                    c.push_cut.new.line.items,
                    c.in_ok-push_cut.ensures,
                    (
                      c.push_fault_and_place.new.line.items,
                      fault,
                      (c.push-2.new.self.items, c.in_ok-push-2.ensures.items, refl),
                    ),
                  ),
                ),
              ),
            ),
          ),
        ),
      ),
    )
