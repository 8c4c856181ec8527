use Rattle.dump_survey.proofs.Prelude.{◌≡◌, ◌++◌, length}
use Rattle.dump_survey.specs.Lines.{shown_text}
use Rattle.dump_survey.proofs.report.survey_lines.push_shown.Given as goal

abbrev pub invariant-loop-rest : goal.invariant-loop-rest
invariant-loop-rest l =
    l.initial.line.items ++ shown_text l.text ≡ l.line.items ++ shown_text l.rest

abbrev pub decreases-loop-rest : goal.decreases-loop-rest
decreases-loop-rest l = length l.rest
