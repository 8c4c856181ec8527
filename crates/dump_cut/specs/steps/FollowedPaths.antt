-- The paths to which one copy is followed, and how more additions extend them.
use Rattle.std.specs.List.{All, AllZip, list_all}
use Rattle.std.specs.Prelude.{◌⊎◌, ℕ, Option, Some, None, ◌≡◌, ◌-◌, ◌++◌, ◌∷◌, [], Bool, not, List, map, Contains, IsTrue, slice_get, if◌then◌else◌}
use Rattle.dump_trees.specs.Changes.{Made, Change}
use Rattle.dump_trees.specs.Following.{Way, to_of}
use Rattle.dump_trees.specs.steps.Following.{PlacedCopy, followed, followed_told}
use Rattle.dump_trees.specs.steps.FollowedRests.{rests_at}
use Rattle.dump_trees.specs.steps.LoadCheck.{ToldKinds}
use Rattle.dump_trees.specs.steps.Looking.{Placed, placed_from}
use Rattle.dump_trees.specs.Paths.{NodePath, names_of}
use Rattle.dump_trees.specs.Returns.{is_covered}
use Rattle.dump_trees.specs.Trees.{Tree}
use Rattle.dump_index.specs.steps.IndexLaws.{IsListed}
use Rattle.dump_index.specs.steps.Listed.{Listed}
use Rattle.dump_index.specs.steps.ToldKinds.{kinds_told_by}
use Rattle.dump_cut.specs.steps.ExcludedPaths.{IsGrownIf}
use Rattle.dump_cut.specs.declared.followed.Addition.{Addition}
use Rattle.dump_cut.specs.steps.FollowedCopies.{ComeByFollowing, IsIndexOf}

-- the paths that are added
abbrev pub added_paths : List Addition → List NodePath
added_paths additions = map (λ (addition : Addition). names_of addition.path.items) additions

-- the copy at this place is followed to the path, if these are the paths so far
pub record IsFollowedTo (way : Way) (trees : List Tree) (revisions : List (List Change)) (tops : List NodePath) (place : ℕ)
    (to : NodePath) : Type 0 where
  pub path : NodePath
  pub source : NodePath
  pub rest : NodePath
  pub old : Tree
  pub copy : PlacedCopy trees (placed_from 1 revisions) place path source old
  pub there : Contains (followed way tops old path source) rest
  pub at : to ≡ to_of way path source ++ rest

-- in each history of which these changes are an index, the copy at this place is followed to each of the paths
abbrev pub AreFollowedTo : Way → List Listed → List NodePath → ℕ → List NodePath → Type 0
AreFollowedTo way listed tops place paths = (revisions : List (List Change)) (trees : List Tree) (path : NodePath) →
    IsIndexOf listed revisions trees → Contains paths path → IsFollowedTo way trees revisions tops place path

-- if the old paths come by following of some first ones, the new paths come of these too, with more additions
abbrev pub KeepsFollowing : Way → List Listed → List NodePath → List NodePath → List NodePath → List NodePath → Type 0
KeepsFollowing way listed old additions new more = (first : List NodePath) →
    ComeByFollowing way listed first additions old → ComeByFollowing way listed first more new

-- the path is added if these paths don't cover it, and then it is one more addition
pub record AddsPath (old before : List NodePath) (added : NodePath) (new after : List NodePath) : Type 0 where
  pub is_new : Bool
  pub outside : is_new ≡ not (is_covered old added)
  pub grown : IsGrownIf old added new is_new
  pub more : after ≡ (if is_new then before ++ added ∷ [] else before)

-- at most one addition is new: this path, with the place of the copy
abbrev pub AddsOne : ℕ → NodePath → List Addition → List Addition → Type 0
AddsOne place path old new = (new ≡ old)
    ⊎ ((added : Addition) × (new ≡ old ++ added ∷ []) × (added.place ≡ place) × (names_of added.path.items ≡ path))

-- the copy at this place leads to the path: it is at or below the path to which the copy is followed
pub record LeadsTo (way : Way) (trees : List Tree) (placed : List Placed) (place : ℕ) (to : NodePath) : Type 0 where
  pub path : NodePath
  pub source : NodePath
  pub rest : NodePath
  pub old : Tree
  pub copy : PlacedCopy trees placed place path source old
  pub at : to ≡ to_of way path source ++ rest

-- in each history of which these changes are an index, each addition is of a path to which the copy at its place leads
abbrev pub ArePlaced : Way → List Listed → List Addition → Type 0
ArePlaced way listed additions = (revisions : List (List Change)) (trees : List Tree) → IsIndexOf listed revisions trees
    → All (λ (a : Addition). LeadsTo way trees (placed_from 1 revisions) a.place (names_of a.path.items)) additions

-- the paths to which what a change makes is followed
abbrev pub paths_made : Way → List NodePath → ToldKinds → List Placed → NodePath → Option Made → List NodePath
paths_made way tops told placed path None = []
paths_made way tops told placed path (Some Made.NewDirectory) = []
paths_made way tops told placed path (Some Made.NewFile) = []
paths_made way tops told placed path (Some (Made.Copied number source)) =
    map (λ rest. to_of way path source ++ rest) (followed_told way tops told placed number path source)

-- no path is added, since the old ones cover all these paths
abbrev pub IsIdle : List NodePath → List NodePath → List NodePath → Type 0
IsIdle old paths new = (new ≡ old) × IsTrue (list_all (is_covered old) paths)

-- no path is added, since the copy of the change at this place, if it makes one, isn't followed to any other path
abbrev pub IsIdleAt : Way → List Listed → List NodePath → ℕ → List NodePath → Type 0
IsIdleAt way listed old place new = (new ≡ old) × ((placed : List Placed) → AllZip IsListed listed placed
    → rests_at way new (kinds_told_by listed) placed (slice_get placed place) ≡ [])

-- the place at which a pass over `count` changes is at this turn: it goes from the first to the last, or from the last
-- to the first if copies are followed to their sources
abbrev pub place_at_turn : Way → ℕ → ℕ → ℕ
place_at_turn Way.ToCopies turn count = turn
place_at_turn Way.ToSources turn count = count - 1 - turn
