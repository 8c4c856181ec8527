use Rattle.dump_survey.proofs.Prelude.{[], ◌∷◌, ◌++◌, ◌∙◌, Some, refl, ap, codes}
use Rattle.dump_text.specs.FaultNames.{fault_name}
use Rattle.dump_survey.specs.Lines.{broken_line, fault_and_place}
use Rattle.dump_survey.proofs.LineLemmas.{all_added}
use Rattle.dump_survey.proofs.report.survey_lines.push_broken_line.Goals as goal

pub returns : goal.returns
unfolding broken_line
returns c = all_added c.args.lines.now.items c.push.new.self.items
    (codes "the dump cannot be read from here on: " ∷ fault_name c.args.kind
    ∷ fault_and_place (Some c.args.kind) (Some c.args.at) ∷ codes "\n" ∷ []) (
      c.extend_from_slice.new.self.items,
      c.in_ok-extend_from_slice.ensures.items,
      (
        c.extend_from_slice-2.new.self.items,
        c.in_ok-extend_from_slice-2.ensures.items
            ∙ ap (λ name. c.extend_from_slice.new.self.items ++ name) (c.as_bytes.ensures.value ∙ c.name.ensures),
        (
          c.push_fault_and_place.new.line.items,
          c.in_ok-push_fault_and_place.ensures,
          (c.push.new.self.items, c.in_ok-push.ensures.items, refl),
        ),
      ),
    )
