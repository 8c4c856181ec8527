-- What is excluded too, since copies are followed from what is excluded.
use Rattle.std.specs.Prelude.{◌≡◌, List, [], length, map, Some}
use Rattle.std.specs.List.{AllZip}
use Rattle.dump_trees.specs.Changes.{Change}
use Rattle.dump_trees.specs.steps.FollowedRests.{all_rests}
use Rattle.dump_trees.specs.Following.{Way, Covers, IsInClosure}
use Rattle.dump_trees.specs.steps.Following.{AreFollowed, IsClosed}
use Rattle.dump_trees.specs.steps.LoadCheck.{TellsKinds}
use Rattle.dump_trees.specs.steps.Looking.{placed_from}
use Rattle.dump_trees.specs.Paths.{NodePath}
use Rattle.dump_trees.specs.Revisions.{loaded_over}
use Rattle.dump_trees.specs.Trees.{Tree, root_alone}
use Rattle.dump_index.specs.steps.IndexLaws.{AreListed, IsListed}
use Rattle.dump_index.specs.steps.Listed.{Listed, listed_of}
use Rattle.dump_index.specs.steps.ToldKinds.{kinds_told_by}
use Rattle.dump_index.specs.declared.change.NodeChange.{NodeChange}

-- an index of these changes says what exists in this history, which loads to these trees
pub record IsIndexOf (listed : List Listed) (revisions : List (List Change)) (trees : List Tree) : Type 0 where
  pub lists : AllZip IsListed listed (placed_from 1 revisions)
  pub tells : TellsKinds (kinds_told_by listed) root_alone (placed_from 1 revisions)
  pub loads : loaded_over root_alone revisions ≡ Some trees

-- then these additions, one after the other, make the last paths of the first ones. To each of them a copy is followed
abbrev pub ComeByFollowing : Way → List Listed → List NodePath → List NodePath → List NodePath → Type 0
ComeByFollowing way listed tops additions last = (revisions : List (List Change)) (trees : List Tree) →
    IsIndexOf listed revisions trees → AreFollowed way trees revisions tops additions last

-- once copies are followed to no other path, the last paths cover the least set that has what the first ones cover and what
-- copies are followed to from there
abbrev pub FollowedIsLeast : Type 0
FollowedIsLeast = (way : Way) (changes : List NodeChange) (tops additions last : List NodePath)
    (revisions : List (List Change)) (trees : List Tree) →
    AreListed changes (placed_from 1 revisions) → loaded_over root_alone revisions ≡ Some trees
    → ComeByFollowing way (map listed_of changes) tops additions last
    → all_rests way last (kinds_told_by (map listed_of changes)) (placed_from 1 revisions) (length (placed_from 1 revisions))
    ≡ []
    → IsClosed way trees revisions (Covers last)
    × ((path : NodePath) → Covers last path → IsInClosure way trees revisions tops path)
    × ((path : NodePath) → IsInClosure way trees revisions tops path → Covers last path)
