use Rattle.dump_survey.proofs.Prelude.{◌≡◌, [], drop, flat_map, map, each_once, fronts}
use Rattle.dump_survey.proofs.ParentLemmas.{left_of}
use Rattle.dump_survey.proofs.advice.parents.left_above.Given as goal

abbrev pub invariant-loop-prefix : goal.invariant-loop-prefix
invariant-loop-prefix l = each_once [] (left_of l.options (flat_map fronts (map (λ prefix. prefix.now) l.bare)))
    ≡ each_once l.directories (left_of l.options (flat_map fronts (map (λ prefix. prefix.now) (drop l.prefix-index l.bare))))
