use Rattle.std.proofs.Common.{refl, map}
use Rattle.dump_trees.specs.steps.Looking.{placed_from}
use Rattle.dump_trees.proofs.cuts.FollowLemmas.{following_is_least}
use Rattle.dump_trees.proofs.cuts.RestLemmas.{all_rests_are_listed}
use Rattle.dump_index.specs.steps.Listed.{listed_of}
use Rattle.dump_index.specs.steps.ToldKinds.{kinds_told_by}
use Rattle.dump_index.proofs.ToldLemmas.{index_tells_kinds}
use Rattle.dump_cut.proofs.laws.followed_paths_are_least.Goals as goal

pub returns : goal.returns
returns c = λ way changes tops additions last revisions trees listed loads comes none.
    let placed = placed_from 1 revisions in
    let told = kinds_told_by (map listed_of changes) in
    let tells = index_tells_kinds changes placed listed in
    following_is_least way trees revisions tops additions last loads
    (comes revisions trees (record { lists = listed; tells = tells; loads = loads }))
    ((all_rests_are_listed way last told revisions trees placed refl tells loads).2 none)
