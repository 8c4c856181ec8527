-- Following copies: the least set of paths that has the given ones, the paths below its members, and the paths to which
-- copies take its members. For included paths it has instead the sources from which its members are copied.
use Rattle.std.specs.Prelude.{◌≡◌, ℕ, not, ◌&&◌, ◌||◌, List, [], ◌∷◌, ◌++◌, length, filter, Some, is_some, slice_get, Contains, IsTrue, IsFalse}
use Rattle.std.specs.List.{list_all}
use Rattle.dump_rules.specs.Settings.{Settings}
use Rattle.dump_trees.specs.Paths.{NodePath}
use Rattle.dump_trees.specs.Trees.{Tree, root_alone}
use Rattle.dump_trees.specs.Changes.{Made, Change}
use Rattle.dump_trees.specs.Revisions.{loaded_over}
use Rattle.dump_trees.specs.steps.Looking.{Placed, placed_from, end_of}
use Rattle.dump_trees.specs.steps.LoadCheck.{ToldKinds, TellsKinds}
use Rattle.dump_trees.specs.Siblings.{is_within, has_node_names}
use Rattle.dump_trees.specs.steps.Siblings.{have_node_names, ExcludesPaths}
use Rattle.dump_trees.specs.steps.ComingBack.{NothingComesBack}
use Rattle.dump_trees.specs.Returns.{is_covered}
use Rattle.dump_trees.specs.steps.Returns.{lie_apart, rests_covered, IsCopyOver}
use Rattle.dump_trees.specs.Following.{Copies, Covers, IsInClosure, Way, from_of, to_of}

-- a set of paths is closed: it has each path below its members, and each path to which a copy is followed from a
-- member, if something exists there at the source
pub record IsClosed (way : Way) (trees : List Tree) (revisions : List (List Change)) (Has : NodePath → Type 0)
    : Type 0 where
  pub below : (path rest : NodePath) → Has path → Has (path ++ rest)
  pub copied : (path source rest : NodePath) (old : Tree) → Copies trees revisions path source old
      → IsTrue (is_some (old (source ++ rest))) → Has (from_of way path source ++ rest)
      → Has (to_of way path source ++ rest)

-- the rests at which a copy is followed, if these are the paths so far. Each is a covered rest of the path from which
-- it is followed. Something exists there at the source, and the path to which it is followed isn't covered yet. For
-- `ToCopies` they are the returns
abbrev pub followed : Way → List NodePath → Tree → NodePath → NodePath → List NodePath
followed way tops old path source =
    filter (λ rest. is_some (old (source ++ rest)) && not (is_covered tops (to_of way path source ++ rest)))
    (rests_covered (from_of way path source) tops)

-- a copy is followed to this path: something exists there at the source, the path from which it is followed is covered,
-- and this path isn't covered yet
pub record IsFollowed (way : Way) (trees : List Tree) (revisions : List (List Change)) (tops : List NodePath)
    (added : NodePath) : Type 0 where
  pub path : NodePath
  pub source : NodePath
  pub rest : NodePath
  pub old : Tree
  pub copy : Copies trees revisions path source old
  pub at : added ≡ to_of way path source ++ rest
  pub exists : IsTrue (is_some (old (source ++ rest)))
  pub from : Covers tops (from_of way path source ++ rest)
  pub new : IsFalse (is_covered tops added)

-- the paths with one more, at any place, and without those at or below it
pub record IsGrown (tops : List NodePath) (added : NodePath) (more : List NodePath) : Type 0 where
  pub front : List NodePath
  pub behind : List NodePath
  pub others : front ++ behind ≡ filter (λ top. not (is_within added top)) tops
  pub joined : more ≡ front ++ added ∷ behind

-- these additions, one after the other, lead from the first paths to the last ones
abbrev pub AreFollowed : Way → List Tree → List (List Change) → List NodePath → List NodePath → List NodePath → Type 0
AreFollowed way trees revisions tops [] last = last ≡ tops
AreFollowed way trees revisions tops (added ∷ additions) last =
    IsFollowed way trees revisions tops added
    × (more : List NodePath) × IsGrown tops added more × AreFollowed way trees revisions more additions last

-- a pass over all copies adds nothing
abbrev pub AddsNothing : Way → List Tree → List (List Change) → List NodePath → Type 0
AddsNothing way trees revisions tops = (path source : NodePath) (old : Tree) → Copies trees revisions path source old
    → followed way tops old path source ≡ []

-- each rest that is listed is an addition, even if the paths have grown since, provided that they don't cover it yet
abbrev pub ListedAreFollowed : Type 0
ListedAreFollowed = (way : Way) (trees : List Tree) (revisions : List (List Change)) (tops more : List NodePath)
    (path source rest : NodePath) (old : Tree) → Copies trees revisions path source old
    → Contains (followed way tops old path source) rest
    → ((other : NodePath) → Covers tops other → Covers more other)
    → IsFalse (is_covered more (to_of way path source ++ rest))
    → IsFollowed way trees revisions more (to_of way path source ++ rest)

-- the grown paths cover what the old ones cover, and what is at or below the addition, and nothing else. None of them
-- is at or below another one, if that is true of the old ones and the addition isn't covered. They have names of nodes,
-- if the old ones and the addition have
abbrev pub GrownPathsCover : Type 0
GrownPathsCover = (tops more : List NodePath) (added : NodePath) → IsGrown tops added more
    → ((path : NodePath) → is_covered more path ≡ (is_covered tops path || is_within added path))
    × (IsFalse (is_covered tops added) → IsTrue (lie_apart tops) → IsTrue (lie_apart more))
    × (IsTrue (list_all has_node_names tops) → IsTrue (has_node_names added) → IsTrue (list_all has_node_names more))

-- something exists at the path after some of the changes of these revisions: those of the first revisions, the last of
-- which may be cut short
pub record ExistsOnce (revisions : List (List Change)) (path : NodePath) : Type 0 where
  pub front : List (List Change)
  pub changes : List Change
  pub more : List Change
  pub rest : List (List Change)
  pub trees : List Tree
  pub tree : Tree
  pub parted : revisions ≡ front ++ (changes ++ more) ∷ rest
  pub loads : loaded_over root_alone (front ++ changes ∷ []) ≡ Some trees
  pub last : slice_get trees (length (front ++ changes ∷ [])) ≡ Some tree
  pub exists : IsTrue (is_some (tree path))

-- once a pass adds nothing, what the last paths cover is closed, and it is the least closed set that has the first ones
abbrev pub FollowingIsLeast : Type 0
FollowingIsLeast = (way : Way) (trees : List Tree) (revisions : List (List Change)) (tops additions last : List NodePath) →
    loaded_over root_alone revisions ≡ Some trees
    → AreFollowed way trees revisions tops additions last → AddsNothing way trees revisions last
    → IsClosed way trees revisions (Covers last)
    × ((path : NodePath) → Covers last path → IsInClosure way trees revisions tops path)
    × ((path : NodePath) → IsInClosure way trees revisions tops path → Covers last path)

-- if paths are excluded, a pass that follows them to their copies adds nothing exactly if nothing comes back
abbrev pub FollowedBringNothingBack : Type 0
FollowedBringNothingBack = (settings : Settings) (trees : List Tree) (revisions : List (List Change))
    (excluded : List NodePath) →
    loaded_over root_alone revisions ≡ Some trees → IsTrue (have_node_names revisions)
    → ExcludesPaths settings excluded → IsTrue (list_all has_node_names excluded)
    → (AddsNothing Way.ToCopies trees revisions excluded → NothingComesBack settings trees revisions)
    × (NothingComesBack settings trees revisions → AddsNothing Way.ToCopies trees revisions excluded)

-- the change at this place copies the source, as it is in this tree, to the path
pub record PlacedCopy (trees : List Tree) (placed : List Placed) (place : ℕ) (path source : NodePath) (old : Tree)
    : Type 0 where
  pub at : Placed
  pub number : ℕ
  pub there : slice_get placed place ≡ Some at
  pub to : at.change.path ≡ path
  pub copies : at.change.made ≡ Some (Made.Copied number source)
  pub tree : slice_get trees number ≡ Some old

-- the copies of the revisions are exactly those at the places of their changes
abbrev pub CopiesArePlaced : Type 0
CopiesArePlaced = (trees : List Tree) (revisions : List (List Change)) (path source : NodePath) (old : Tree) →
    (Copies trees revisions path source old
    → (place : ℕ) × PlacedCopy trees (placed_from 1 revisions) place path source old)
    × ((place : ℕ) → PlacedCopy trees (placed_from 1 revisions) place path source old
    → Copies trees revisions path source old)

-- the rests at which a copy is followed, if a function says what exists at the source at the end of the revision that
-- the copy names
abbrev pub followed_told : Way → List NodePath → ToldKinds → List Placed → ℕ → NodePath → NodePath → List NodePath
followed_told way tops told placed number path source =
    filter (λ rest. is_some (told (end_of placed number) (source ++ rest))
    && not (is_covered tops (to_of way path source ++ rest))) (rests_covered (from_of way path source) tops)

-- they are the same as those of the tree, if the function is right
abbrev pub FollowedIsTold : Type 0
FollowedIsTold = (way : Way) (tops : List NodePath) (told : ToldKinds) (revisions : List (List Change))
    (trees : List Tree) (number : ℕ) (old : Tree) (path source : NodePath) →
    TellsKinds told root_alone (placed_from 1 revisions)
    → loaded_over root_alone revisions ≡ Some trees → slice_get trees number ≡ Some old
    → followed_told way tops told (placed_from 1 revisions) number path source ≡ followed way tops old path source

-- if these paths are excluded, each copy of a history that loads is one for which the returns are found
abbrev pub EachCopyIsOver : Type 0
EachCopyIsOver = (settings : Settings) (excluded : List NodePath) (trees : List Tree) (revisions : List (List Change))
    (path source : NodePath) (old : Tree) →
    loaded_over root_alone revisions ≡ Some trees → IsTrue (have_node_names revisions)
    → ExcludesPaths settings excluded → IsTrue (list_all has_node_names excluded)
    → (copy : Copies trees revisions path source old)
    → IsCopyOver settings excluded (slice_get trees) old copy.change source
