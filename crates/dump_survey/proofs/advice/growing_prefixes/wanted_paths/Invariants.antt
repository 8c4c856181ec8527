use Rattle.dump_survey.proofs.Prelude.{map, need_view, grown_prefixes, unmatched}
use Rattle.dump_survey.proofs.GrowingPrefixLemmas.{PassesSoFar}
use Rattle.dump_survey.proofs.advice.growing_prefixes.wanted_paths.Given as goal

abbrev pub invariant-loop-growing_prefixes : goal.invariant-loop-growing_prefixes
invariant-loop-growing_prefixes l = PassesSoFar (map need_view l.needs) l.options.prefixes l.growing_prefixes

abbrev pub decreases-loop-growing_prefixes : goal.decreases-loop-growing_prefixes
decreases-loop-growing_prefixes l = unmatched (map need_view l.needs) (grown_prefixes l.growing_prefixes)
