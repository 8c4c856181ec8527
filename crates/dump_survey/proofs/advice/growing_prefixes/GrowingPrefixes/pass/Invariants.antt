use Rattle.dump_survey.proofs.Prelude.{drop, map, need_view}
use Rattle.dump_survey.proofs.GrowingPrefixLemmas.{PassSoFar}
use Rattle.dump_survey.proofs.advice.growing_prefixes.GrowingPrefixes.pass.Given as goal

abbrev pub invariant-loop-need : goal.invariant-loop-need
invariant-loop-need l =
    PassSoFar (map need_view l.needs) (map need_view (drop l.need-index l.needs)) l.initial.self l.self l.grew
