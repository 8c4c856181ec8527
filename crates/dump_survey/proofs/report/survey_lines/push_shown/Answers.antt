use Rattle.dump_survey.proofs.Prelude.{◌++◌, sym, ap, ◌∙◌}
use Rattle.dump_survey.proofs.LineLemmas.{printable_shown}
use Rattle.dump_survey.proofs.report.survey_lines.push_shown.Goals as goal

pub returns-then-is_printable : goal.returns-then-is_printable
returns-then-is_printable c =
    c.in_ok-extend_from_slice.ensures.items
    ∙ ap (λ text. c.args.line.now.items ++ text)
    (sym (printable_shown c.args.text.now (sym c.is_printable.ensures ∙ c.if-is_printable.true)))
