use Rattle.dump_survey.proofs.Prelude.{◌-◌, length, map, reported_view}
use Rattle.dump_survey.proofs.SurveyLemmas.{HaveReported}
use Rattle.dump_survey.proofs.findings.survey.survey_dump.Given as goal

abbrev pub invariant-loop-reported : goal.invariant-loop-reported
invariant-loop-reported l = HaveReported l.options l.dump l.surveyor (map reported_view l.reported.items)

abbrev pub decreases-loop-reported : goal.decreases-loop-reported
decreases-loop-reported l = length l.dump - l.surveyor.number
