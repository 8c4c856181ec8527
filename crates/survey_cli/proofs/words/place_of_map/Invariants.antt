use Rattle.survey_cli.proofs.MapLemmas.{IsLooking}
use Rattle.survey_cli.proofs.words.place_of_map.Given as goal

abbrev pub invariant-loop-place : goal.invariant-loop-place
invariant-loop-place l = IsLooking l.line l.place
