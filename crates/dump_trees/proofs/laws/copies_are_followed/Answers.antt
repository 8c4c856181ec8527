use Rattle.dump_trees.proofs.cuts.FollowLemmas.{listed_are_followed, grown_paths_cover, following_is_least, followed_bring_nothing}
use Rattle.dump_trees.proofs.laws.copies_are_followed.Goals as goal

pub returns-clause-listed : goal.returns-clause-listed
returns-clause-listed c = listed_are_followed

pub returns-clause-grown : goal.returns-clause-grown
returns-clause-grown c = grown_paths_cover

pub returns-clause-least : goal.returns-clause-least
returns-clause-least c = following_is_least

pub returns-clause-back : goal.returns-clause-back
returns-clause-back c = followed_bring_nothing
