use Rattle.dump_survey.proofs.Prelude.{◌≡◌, each_once, fronts}
use Rattle.dump_survey.proofs.ParentLemmas.{fronts_from, left_of}
use Rattle.dump_survey.proofs.advice.parents.Directories.add_above.Given as goal

abbrev pub invariant-loop-place : goal.invariant-loop-place
invariant-loop-place l = each_once l.initial.self (left_of l.options (fronts l.bare))
    ≡ each_once l.self (left_of l.options (fronts_from l.bare l.place))
