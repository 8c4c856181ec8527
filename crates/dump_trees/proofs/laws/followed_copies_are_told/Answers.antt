use Rattle.dump_trees.proofs.cuts.PlacedCopies.{copies_are_placed, followed_is_told}
use Rattle.dump_trees.proofs.cuts.FollowLemmas.{each_copy_is_over}
use Rattle.dump_trees.proofs.cuts.RestLemmas.{none_at_any_place, all_rests_are_listed, no_returns_bring_nothing}
use Rattle.dump_trees.proofs.laws.followed_copies_are_told.Goals as goal

pub returns-clause-placed : goal.returns-clause-placed
returns-clause-placed c = copies_are_placed

pub returns-clause-told : goal.returns-clause-told
returns-clause-told c = followed_is_told

pub returns-clause-over : goal.returns-clause-over
returns-clause-over c = each_copy_is_over

pub returns-clause-rests : goal.returns-clause-rests
returns-clause-rests c = all_rests_are_listed

pub returns-clause-returns : goal.returns-clause-returns
returns-clause-returns c = no_returns_bring_nothing

pub returns-clause-none : goal.returns-clause-none
returns-clause-none c = none_at_any_place
