-- All rests at which the copies of a dump are followed, in the order of its changes. If excluded paths are followed to
-- their copies, these are its returns.
use Rattle.std.specs.Prelude.{◌≡◌, ℕ, ◌<◌, zero, suc, List, [], ◌++◌, length, map, Option, Some, None, slice_get, Contains, IsTrue}
use Rattle.std.specs.List.{list_all}
use Rattle.dump_rules.specs.Settings.{Settings}
use Rattle.dump_trees.specs.Paths.{NodePath}
use Rattle.dump_trees.specs.Trees.{Tree, root_alone}
use Rattle.dump_trees.specs.Changes.{Made, Change}
use Rattle.dump_trees.specs.Revisions.{loaded_over}
use Rattle.dump_trees.specs.steps.Looking.{Placed, placed_from}
use Rattle.dump_trees.specs.steps.LoadCheck.{ToldKinds, TellsKinds}
use Rattle.dump_trees.specs.Siblings.{has_node_names}
use Rattle.dump_trees.specs.steps.Siblings.{have_node_names, ExcludesPaths}
use Rattle.dump_trees.specs.steps.ComingBack.{NothingComesBack}
use Rattle.dump_trees.specs.Following.{Way}
use Rattle.dump_trees.specs.steps.Following.{followed, AddsNothing, PlacedCopy, followed_told}

-- a rest at which the copy at this place is followed
pub record PlacedRest : Type 0 where
  pub place : ℕ
  pub rest : NodePath

-- the rests of what a change makes at its path; only a copy has any
abbrev pub rests_made : Way → List NodePath → ToldKinds → List Placed → NodePath → Option Made → List NodePath
rests_made way tops told placed path None = []
rests_made way tops told placed path (Some Made.NewDirectory) = []
rests_made way tops told placed path (Some Made.NewFile) = []
rests_made way tops told placed path (Some (Made.Copied number source)) =
    followed_told way tops told placed number path source

-- the rests of the change at a place, if there is one
abbrev pub rests_at : Way → List NodePath → ToldKinds → List Placed → Option Placed → List NodePath
rests_at way tops told placed None = []
rests_at way tops told placed (Some p) = rests_made way tops told placed p.change.path p.change.made

-- the rests of the first changes, up to this many
abbrev pub all_rests : Way → List NodePath → ToldKinds → List Placed → ℕ → List PlacedRest
all_rests way tops told placed zero = []
all_rests way tops told placed (suc count) =
    all_rests way tops told placed count
    ++ map (λ rest. record { place = count; rest = rest }) (rests_at way tops told placed (slice_get placed count))

-- there are no rests exactly if there are none at any place, in whatever order the places are examined
abbrev pub NoneAtAnyPlace : Type 0
NoneAtAnyPlace = (way : Way) (tops : List NodePath) (told : ToldKinds) (placed : List Placed) (count : ℕ) →
    (((place : ℕ) → place < count → rests_at way tops told placed (slice_get placed place) ≡ [])
    → all_rests way tops told placed count ≡ [])
    × (all_rests way tops told placed count ≡ []
    → (place : ℕ) → place < count → rests_at way tops told placed (slice_get placed place) ≡ [])

-- if a dump loads, and the function says what exists, these are exactly the rests of its copies. So a pass adds nothing
-- exactly if there are none
abbrev pub AllRestsAreListed : Type 0
AllRestsAreListed = (way : Way) (tops : List NodePath) (told : ToldKinds) (revisions : List (List Change))
    (trees : List Tree) (placed : List Placed) →
    placed ≡ placed_from 1 revisions → TellsKinds told root_alone placed
    → loaded_over root_alone revisions ≡ Some trees
    → ((r : PlacedRest) → Contains (all_rests way tops told placed (length placed)) r
    → (path source : NodePath) × (old : Tree) × PlacedCopy trees placed r.place path source old
    × Contains (followed way tops old path source) r.rest)
    × ((place : ℕ) (path source rest : NodePath) (old : Tree) → PlacedCopy trees placed place path source old
    → Contains (followed way tops old path source) rest
    → Contains (all_rests way tops told placed (length placed)) (record { place = place; rest = rest }))
    × (all_rests way tops told placed (length placed) ≡ [] → AddsNothing way trees revisions tops)
    × (AddsNothing way trees revisions tops → all_rests way tops told placed (length placed) ≡ [])

-- so nothing comes back exactly if there is no return
abbrev pub NoReturnsBringNothing : Type 0
NoReturnsBringNothing = (settings : Settings) (excluded : List NodePath) (told : ToldKinds)
    (revisions : List (List Change)) (trees : List Tree) (placed : List Placed) →
    placed ≡ placed_from 1 revisions → TellsKinds told root_alone placed
    → loaded_over root_alone revisions ≡ Some trees → IsTrue (have_node_names revisions)
    → ExcludesPaths settings excluded → IsTrue (list_all has_node_names excluded)
    → (all_rests Way.ToCopies excluded told placed (length placed) ≡ [] → NothingComesBack settings trees revisions)
    × (NothingComesBack settings trees revisions
    → all_rests Way.ToCopies excluded told placed (length placed) ≡ [])
