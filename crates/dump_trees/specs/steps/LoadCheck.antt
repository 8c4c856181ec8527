-- Whether a load accepts a change: this is determined by what exists at its path, at its parent and at its copy's
-- source, and for a text delta also by the old text. So whether a dump loads, and which change is rejected first, can
-- be found without trees.
use Rattle.std.specs.Prelude.{◌≡◌, ℕ, zero, suc, Bool, true, false, not, ◌&&◌, ◌||◌, List, [], ◌∷◌, ◌++◌, length, Option, Some, None, option_map, option_and_then, is_some, is_none, slice_get, nat_lt, nat_le, if◌then◌else◌, IsTrue, IsFalse}
use Rattle.std.specs.List.{AllZip, list_all}
use Rattle.dump_trees.specs.Paths.{NodePath, parent_of}
use Rattle.dump_trees.specs.Trees.{Node, Tree}
use Rattle.dump_trees.specs.Changes.{Made, TextChange, Change, History, step}
use Rattle.dump_trees.specs.Restriction.{is_root}
use Rattle.dump_trees.specs.Revisions.{loaded_over}
use Rattle.dump_trees.specs.steps.Looking.{Placed, placed_from, end_of, Origin, origin_of, looked_up, look}
use Rattle.dump_trees.specs.LoadCheck.{sets_props}

-- what a node is: a directory or a file
pub data Kind : Type 0 where
  Directory : Kind
  File : Kind

-- the kind of the node
abbrev pub kind_of_node : Node → Kind
kind_of_node (Node.Directory props) = Kind.Directory
kind_of_node (Node.File props text) = Kind.File

-- the kind of what exists at the path
abbrev pub kind_at : Tree → NodePath → Option Kind
kind_at tree path = option_map kind_of_node (tree path)

-- whether a directory exists there
abbrev pub is_directory : Option Kind → Bool
is_directory None = false
is_directory (Some Kind.Directory) = true
is_directory (Some Kind.File) = false

-- whether a file exists there
abbrev pub is_file : Option Kind → Bool
is_file None = false
is_file (Some Kind.Directory) = false
is_file (Some Kind.File) = true

-- what exists at the paths that a change depends on: at its path, at the parent, and at the source, if it copies. The
-- root has no parent
pub record Kinds : Type 0 where
  pub here : Option Kind
  pub parent : Option Kind
  pub source : Option Kind

-- if something is deleted, it exists and isn't the root
abbrev pub deletion_allowed : Bool → NodePath → Option Kind → Bool
deletion_allowed false path here = true
deletion_allowed true path here = not (is_root path) && is_some here

-- what exists at the path after the deletion, if there is one
abbrev pub kind_left : Bool → Option Kind → Option Kind
kind_left false here = here
kind_left true here = None

-- what is new is made in a directory, and only if nothing exists at the path. What is copied exists, and is copied into
-- a directory, also over something
abbrev pub making_allowed : Option Made → Option Kind → Kinds → Bool
making_allowed None left kinds = true
making_allowed (Some Made.NewDirectory) left kinds = is_none left && is_directory kinds.parent
making_allowed (Some Made.NewFile) left kinds = is_none left && is_directory kinds.parent
making_allowed (Some (Made.Copied number source)) left kinds = is_some kinds.source && is_directory kinds.parent

-- what exists at the path after the change makes something there, if it does
abbrev pub kind_made : Option Made → Option Kind → Option Kind → Option Kind
kind_made None left source = left
kind_made (Some Made.NewDirectory) left source = Some Kind.Directory
kind_made (Some Made.NewFile) left source = Some Kind.File
kind_made (Some (Made.Copied number from)) left source = source

-- whether a load accepts the change if these kinds exist: its deletion and what it makes are allowed, properties are
-- set on something, and a text on a file. A change that does none of this is always accepted. Whether a text delta
-- applies to the old text doesn't depend on kinds
abbrev pub kinds_allow : Change → Kinds → Bool
kinds_allow c kinds =
    deletion_allowed c.deletes c.path kinds.here
    && making_allowed c.made (kind_left c.deletes kinds.here) kinds
    && (not (sets_props c.props) || is_some (kind_made c.made (kind_left c.deletes kinds.here) kinds.source))
    && (not (is_some c.text) || is_file (kind_made c.made (kind_left c.deletes kinds.here) kinds.source))

-- what exists at the source, if something is copied
abbrev pub source_kind : History → Option Made → Option Kind
source_kind history None = None
source_kind history (Some Made.NewDirectory) = None
source_kind history (Some Made.NewFile) = None
source_kind history (Some (Made.Copied number source)) =
    option_and_then (λ old. kind_at old source) (history number)

-- the kinds that exist in the tree before the change, and in the source's tree
abbrev pub kinds_before : History → Tree → Change → Kinds
kinds_before history tree c = record {
  here = kind_at tree c.path;
  parent = option_and_then (λ parent. kind_at tree parent) (parent_of c.path);
  source = source_kind history c.made;
}

-- the node of this origin: the old node is what was there before, and copies are of the trees of the history
abbrev pub node_from : History → Option Node → Origin → Option Node
node_from history old Origin.Nowhere = None
node_from history old (Origin.New node) = Some node
node_from history old Origin.Before = old
node_from history old (Origin.From number source) = option_and_then (λ tree. tree source) (history number)

-- the node whose properties and text a change sets
abbrev pub node_set : History → Tree → Change → Option Node
node_set history tree c = node_from history (tree c.path) (origin_of c.deletes c.made [])

-- whether the load accepts the delta over the text of this node, if the text comes as a delta and the node is a file;
-- otherwise true
abbrev pub delta_applies : Option TextChange → Option Node → Bool
delta_applies None old = true
delta_applies (Some (TextChange.Replaced text)) old = true
delta_applies (Some (TextChange.Patched patch)) None = true
delta_applies (Some (TextChange.Patched patch)) (Some (Node.Directory props)) = true
delta_applies (Some (TextChange.Patched patch)) (Some (Node.File props text)) = is_some (patch text)

-- a load accepts a change exactly if the kinds allow it, and its delta applies
abbrev pub StepIsAllowed : Type 0
StepIsAllowed = (history : History) (tree : Tree) (c : Change) →
    is_some (step history tree c)
    ≡ (kinds_allow c (kinds_before history tree c) && delta_applies c.text (node_set history tree c))

-- a function that returns what exists at a path after a number of changes
abbrev pub ToldKinds : Type 0
ToldKinds = ℕ → NodePath → Option Kind

-- the function is right: if the first revisions load, it says after their changes what exists in their last tree. The
-- last of these revisions may be cut short
abbrev pub TellsKinds : ToldKinds → Tree → List Placed → Type 0
TellsKinds told first placed = (front : List (List Change)) (behind : List Placed) (trees : List Tree) (tree : Tree)
    (path : NodePath) →
    placed ≡ placed_from 1 front ++ behind
    → IsTrue (list_all (λ (p : Placed). nat_le (length front) p.revision) behind)
    → loaded_over first front ≡ Some trees → slice_get trees (length front) ≡ Some tree
    → told (length (placed_from 1 front)) path ≡ kind_at tree path

-- what the function says of the source, if something is copied from a revision before this one; otherwise nothing
abbrev pub source_told : ToldKinds → List Placed → ℕ → Option Made → Option Kind
source_told told placed revision None = None
source_told told placed revision (Some Made.NewDirectory) = None
source_told told placed revision (Some Made.NewFile) = None
source_told told placed revision (Some (Made.Copied number source)) =
    if nat_lt number revision then told (end_of placed number) source else None

-- the kinds that the function says for the change at this place
abbrev pub kinds_told : ToldKinds → List Placed → ℕ → Placed → Kinds
kinds_told told placed place p = record {
  here = told place p.change.path;
  parent = option_and_then (λ parent. told place parent) (parent_of p.change.path);
  source = source_told told placed p.revision p.change.made;
}

-- whether there is a change at this place, and these kinds allow it
abbrev pub allowed_there : ToldKinds → List Placed → ℕ → Option Placed → Bool
allowed_there told placed place None = false
allowed_there told placed place (Some p) = kinds_allow p.change (kinds_told told placed place p)

-- whether each of the first changes, up to this many, is allowed
abbrev pub all_allowed : ToldKinds → List Placed → ℕ → Bool
all_allowed told placed zero = true
all_allowed told placed (suc count) =
    all_allowed told placed count && allowed_there told placed count (slice_get placed count)

-- whether there is a change at this place, and its delta applies to the text that is found there
abbrev pub applies_there : Tree → List Placed → ℕ → Option Placed → Bool
applies_there first placed place None = false
applies_there first placed place (Some p) =
    delta_applies p.change.text
    (looked_up (look first placed) placed place p.change.path (origin_of p.change.deletes p.change.made []))

-- whether each delta of the first changes, up to this many, applies
abbrev pub all_apply : Tree → List Placed → ℕ → Bool
all_apply first placed zero = true
all_apply first placed (suc count) =
    all_apply first placed count && applies_there first placed count (slice_get placed count)

-- a dump loads exactly if each of its changes is allowed, and each delta applies
abbrev pub DumpIsAllowed : Type 0
DumpIsAllowed = (told : ToldKinds) (first : Tree) (revisions : List (List Change)) →
    TellsKinds told first (placed_from 1 revisions)
    → is_some (loaded_over first revisions)
    ≡ (all_allowed told (placed_from 1 revisions) (length (placed_from 1 revisions))
    && all_apply first (placed_from 1 revisions) (length (placed_from 1 revisions)))

-- whether a text comes as a delta
abbrev pub patches_text : Option TextChange → Bool
patches_text None = false
patches_text (Some (TextChange.Replaced text)) = false
patches_text (Some (TextChange.Patched patch)) = true

-- at the end of each revision the function says what exists in this revision's tree; this is needed for sources
abbrev pub TellsEachTree : Type 0
TellsEachTree = (told : ToldKinds) (first : Tree) (revisions : List (List Change)) (trees : List Tree) (number : ℕ)
    (tree : Tree) (path : NodePath) →
    TellsKinds told first (placed_from 1 revisions)
    → loaded_over first revisions ≡ Some trees → slice_get trees number ≡ Some tree
    → told (end_of (placed_from 1 revisions) number) path ≡ kind_at tree path

-- a change that has the same effect on what exists: it may set other properties and another text, which isn't a delta
pub record HasSameKinds (p plain : Placed) : Type 0 where
  pub revision : plain.revision ≡ p.revision
  pub path : plain.change.path ≡ p.change.path
  pub deletes : plain.change.deletes ≡ p.change.deletes
  pub made : plain.change.made ≡ p.change.made
  pub props : is_some plain.change.props ≡ is_some p.change.props
  pub text : is_some plain.change.text ≡ is_some p.change.text
  pub whole : IsTrue (not (patches_text plain.change.text))

-- what is found by looking back over such changes says what exists: properties and texts needn't be known
abbrev pub PlainLooksTellKinds : Type 0
PlainLooksTellKinds = (first : Tree) (placed plain : List Placed) →
    AllZip HasSameKinds placed plain
    → TellsKinds (λ count path. option_map kind_of_node (look first plain count path)) first placed

-- this change is rejected at this place: the changes before it load, and with it they don't; nor does the dump. Its
-- revision can have changes before it and after it
pub record IsRejectedAt (first : Tree) (revisions : List (List Change)) (place : ℕ) (c : Change) : Type 0 where
  pub front : List (List Change)
  pub changes : List Change
  pub more : List Change
  pub rest : List (List Change)
  pub parted : revisions ≡ front ++ (changes ++ c ∷ more) ∷ rest
  pub at : place ≡ length (placed_from 1 (front ++ changes ∷ []))
  pub loads : IsTrue (is_some (loaded_over first (front ++ changes ∷ [])))
  pub rejected : loaded_over first (front ++ (changes ++ c ∷ []) ∷ []) ≡ None
  pub none : loaded_over first revisions ≡ None

-- this is true of the first change that isn't allowed, if the deltas before it apply
abbrev pub FirstRejectionIsThere : Type 0
FirstRejectionIsThere = (told : ToldKinds) (first : Tree) (revisions : List (List Change)) (placed : List Placed)
    (place : ℕ) (p : Placed) →
    placed ≡ placed_from 1 revisions → slice_get placed place ≡ Some p
    → TellsKinds told first placed
    → IsTrue (all_allowed told placed place) → IsTrue (all_apply first placed place)
    → IsFalse (allowed_there told placed place (Some p))
    → IsRejectedAt first revisions place p.change
