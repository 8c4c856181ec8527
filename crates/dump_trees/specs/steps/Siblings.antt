-- Siblings: what is excluded so that the included paths and the directories above them are kept. Siblings are in those
-- directories, and aren't in the cut.
use Rattle.std.specs.Prelude.{◌≡◌, ℕ, Bool, true, false, not, ◌&&◌, ◌||◌, List, [], ◌∷◌, map, Option, Some, None, is_some, slice_get, Contains, IsTrue, IsFalse}
use Rattle.std.specs.List.{list_all, list_any}
use Rattle.dump_rules.specs.declared.options.Side.TheVariants.{Exclude}
use Rattle.dump_rules.specs.Settings.{Settings, keeps_path}
use Rattle.dump_trees.specs.Paths.{NodePath, path_text, path_of, is_short, keeps, below, parent_of}
use Rattle.dump_trees.specs.Trees.{Tree, root_alone}
use Rattle.dump_trees.specs.steps.Trees.{HasDirectories}
use Rattle.dump_trees.specs.Changes.{Change}
use Rattle.dump_trees.specs.Restriction.{is_root}
use Rattle.dump_trees.specs.Revisions.{loaded_over}
use Rattle.dump_trees.specs.Siblings.{has_node_names, is_within}

-- whether there is a rest of a path, and it isn't empty
abbrev pub has_name_behind : Option NodePath → Bool
has_name_behind None = false
has_name_behind (Some []) = false
has_name_behind (Some (name ∷ rest)) = true

-- whether the path is above an included path, or is the root
abbrev pub is_above_included : List NodePath → NodePath → Bool
is_above_included included path =
    is_root path || list_any (λ top. has_name_behind (below path top)) included

-- whether the path is in the cut: it is at, below or above an included path. The root always is
abbrev pub is_in_cut : List NodePath → NodePath → Bool
is_in_cut included path = list_any (λ top. is_within top path) included || is_above_included included path

-- whether there is a parent, and it is above an included path or is the root
abbrev pub is_parent_above : List NodePath → Option NodePath → Bool
is_parent_above included None = false
is_parent_above included (Some parent) = is_above_included included parent

-- each path at which something exists has such names alone
abbrev pub HasNames : Tree → Type 0
HasNames tree = (path : NodePath) → IsTrue (is_some (tree path)) → IsTrue (has_node_names path)

-- whether the path of each of these changes has such names alone
abbrev pub have_node_names : List (List Change) → Bool
have_node_names revisions = list_all (λ changes. list_all (λ (c : Change). has_node_names c.path) changes) revisions

-- whether the path is a sibling: it has names of nodes, its parent is above an included path or is the root, and it
-- isn't in the cut
abbrev pub is_sibling : List NodePath → NodePath → Bool
is_sibling included path =
    has_node_names path && is_parent_above included (parent_of path) && not (is_in_cut included path)

-- these are siblings, and each sibling at which something exists in one of the trees is among them. More siblings do no
-- harm
pub record AreSiblings (included : List NodePath) (trees : List Tree) (siblings : List NodePath) : Type 0 where
  pub each : IsTrue (list_all (is_sibling included) siblings)
  pub all : (number : ℕ) (tree : Tree) (path : NodePath) → slice_get trees number ≡ Some tree
      → IsTrue (is_some (tree path)) → IsTrue (is_sibling included path) → Contains siblings path

-- the settings exclude these paths, each by its text
pub record ExcludesPaths (settings : Settings) (paths : List NodePath) : Type 0 where
  pub side : settings.side ≡ Exclude
  pub prefixes : settings.prefixes ≡ map path_text paths

-- if the siblings are excluded, what exists in one of the trees is kept exactly if it is in the cut
abbrev pub SiblingsLeaveCut : Type 0
SiblingsLeaveCut = (settings : Settings) (included siblings : List NodePath) (trees : List Tree) (number : ℕ)
    (tree : Tree) (path : NodePath) →
    ExcludesPaths settings siblings → AreSiblings included trees siblings
    → slice_get trees number ≡ Some tree → HasDirectories tree → HasNames tree → IsTrue (is_some (tree path))
    → keeps settings path ≡ is_in_cut included path

-- these are siblings, and each named path that isn't in the cut is one of them or below one, if it has names of nodes.
-- A dump also names paths at which nothing ever exists, for example as merge sources
pub record CoverNamed (included named siblings : List NodePath) : Type 0 where
  pub each : IsTrue (list_all (is_sibling included) siblings)
  pub all : (path : NodePath) → Contains named path → IsTrue (has_node_names path)
      → IsFalse (is_in_cut included path) → IsTrue (list_any (λ top. is_within top path) siblings)

-- if the siblings are excluded, a named path with names of nodes is kept exactly if it is in the cut, whether something
-- exists there or not
abbrev pub NamedPathsLeaveCut : Type 0
NamedPathsLeaveCut = (settings : Settings) (included named siblings : List NodePath) (path : NodePath) →
    ExcludesPaths settings siblings → CoverNamed included named siblings
    → Contains named path → IsTrue (has_node_names path)
    → keeps settings path ≡ is_in_cut included path

-- the same holds for a text whose path is canonical and named, as the path of a merge source is
abbrev pub NamedTextsLeaveCut : Type 0
NamedTextsLeaveCut = (settings : Settings) (included named siblings : List NodePath) (text : List ℕ) →
    ExcludesPaths settings siblings → CoverNamed included named siblings
    → Contains named (path_of text) → IsTrue (is_short text)
    → keeps_path settings text ≡ is_in_cut included (path_of text)

-- in each tree that is loaded, if a node exists at a path, a directory exists at each path above it
abbrev pub LoadedTreesHaveDirectories : Type 0
LoadedTreesHaveDirectories = (revisions : List (List Change)) (trees : List Tree) (number : ℕ) (tree : Tree) →
    loaded_over root_alone revisions ≡ Some trees → slice_get trees number ≡ Some tree → HasDirectories tree

-- in each tree that is loaded, paths at which something exists have names of nodes, if the paths of the changes have
abbrev pub LoadedTreesHaveNames : Type 0
LoadedTreesHaveNames = (revisions : List (List Change)) (trees : List Tree) (number : ℕ) (tree : Tree) →
    loaded_over root_alone revisions ≡ Some trees → IsTrue (have_node_names revisions)
    → slice_get trees number ≡ Some tree → HasNames tree

-- a canonical path has names of nodes
abbrev pub ShortPathsHaveNames : Type 0
ShortPathsHaveNames = (text : List ℕ) → IsTrue (is_short text) → IsTrue (has_node_names (path_of text))
