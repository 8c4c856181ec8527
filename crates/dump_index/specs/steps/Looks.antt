-- The looks that find what exists at a path.
use Rattle.std.specs.Prelude.{◌≡◌, ◌≤◌, ℕ, zero, suc, Bool, true, false, ◌||◌, ◌==◌, List, [], ◌∷◌, ◌++◌, Option, Some, None, option_map, slice_get, nat_le, ⊤, if◌then◌else◌}
use Rattle.dump_trees.specs.Paths.{NodePath, names_of, below}
use Rattle.dump_trees.specs.Trees.{root_alone}
use Rattle.dump_trees.specs.steps.Looking.{end_of, origin_of, looked_up, look}
use Rattle.dump_trees.specs.steps.Listing.{names_look}
use Rattle.dump_index.specs.steps.Listed.{Listed, all_placed}
use Rattle.dump_index.specs.steps.InOrder.{ends_in_slash}
use Rattle.dump_index.specs.steps.Kinds.{node_kind, kind_look}
use Rattle.dump_index.specs.declared.change.NodeChange.{NodeChange}
use Rattle.dump_index.specs.declared.change.NodeKind.{NodeKind}
use Rattle.dump_index.specs.declared.change.NodeKind.TheVariants.{Directory as ADirectory, File as AFile}
use Rattle.dump_index.specs.declared.change.NodeMade.{NodeMade}
use Rattle.dump_index.specs.declared.change.NodeMade.TheVariants.{Directory, File, CopyOf}
use Rattle.dump_index.specs.declared.order.Effect.TheVariants.{Texts}
use Rattle.dump_index.specs.declared.origin.Origin.{Origin}
use Rattle.dump_index.specs.declared.origin.Origin.TheVariants.{Nowhere, New, Copied}
use Rattle.dump_index.specs.steps.Keys.{has_effect_at}
use Rattle.dump_index.specs.steps.Touching.{shapes, rest_text, joined_text}

-- the kind of a node after a text is set on it, or not; no load sets a text on a directory, so the result is None then
abbrev pub kind_with_text : Bool → Option NodeKind → Option NodeKind
kind_with_text false kind = kind
kind_with_text true None = None
kind_with_text true (Some ADirectory) = None
kind_with_text true (Some AFile) = Some AFile

-- what exists at the origin of what the change at this place leaves at the path
abbrev pub came_rest : List Listed → ℕ → NodePath → Listed → Option NodePath → Option NodeKind
came_rest listed place path l None = None
came_rest listed place path l (Some rest) =
    option_map node_kind (looked_up (look root_alone (all_placed listed)) (all_placed listed) place path
    (origin_of l.deletes l.made rest))

abbrev pub came_there : List Listed → ℕ → List ℕ → Option Listed → Option NodeKind
came_there listed place path None = None
came_there listed place path (Some l) =
    came_rest listed place (names_of path) l (below (names_of l.path) (names_of path))

-- the same for the latest change that shapes the path; if there is none, what exists in the first tree
abbrev pub came : List Listed → List ℕ → Option ℕ → Option NodeKind
came listed path None = option_map node_kind (root_alone (names_of path))
came listed path (Some place) = came_there listed place path (slice_get listed place)

-- whether one of this number of changes sets a text at the path, and no later change shapes the path
abbrev pub text_since : List Listed → List ℕ → ℕ → Bool
text_since listed path zero = false
text_since listed path (suc count) =
    if shapes listed path count then has_effect_at Texts listed path count
    else (has_effect_at Texts listed path count || text_since listed path count)

-- whether there is a second place, and the first place, if there is one, isn't after it
abbrev pub is_since : Option ℕ → Option ℕ → Bool
is_since shaped None = false
is_since None (Some place) = true
is_since (Some shaped) (Some place) = nat_le shaped place

-- whether there is a place, and it is equal to this one
abbrev pub is_place : Option ℕ → ℕ → Bool
is_place None other = false
is_place (Some place) other = place == other

-- what exists at the origin
abbrev pub origin_kind : List Listed → Origin → Option NodeKind
origin_kind listed Nowhere = None
origin_kind listed (New kind) = Some kind
origin_kind listed (Copied source rest) =
    kind_look listed (end_of (all_placed listed) source.revision) (names_of source.path.now ++ names_of rest.now)

-- the names that can exist right below the origin
abbrev pub origin_names : List Listed → Origin → List (List ℕ)
origin_names listed Nowhere = []
origin_names listed (New kind) = []
origin_names listed (Copied source rest) =
    names_look (all_placed listed) (end_of (all_placed listed) source.revision)
    (names_of source.path.now ++ names_of rest.now)

-- what a change makes when it makes a node of this kind
abbrev pub made_as : NodeKind → NodeMade
made_as ADirectory = Directory
made_as AFile = File

-- whether nothing is made at this rest of a path: there is no copy, and no new node, which only exists at the empty
-- rest
abbrev pub makes_none : Option NodeMade → List ℕ → Bool
makes_none None rest = true
makes_none (Some Directory) [] = false
makes_none (Some Directory) (b ∷ rest) = true
makes_none (Some File) [] = false
makes_none (Some File) (b ∷ rest) = true
makes_none (Some (CopyOf source)) rest = false

-- this is the origin of what the change leaves at the path
abbrev pub IsMadeBy : NodeChange → List ℕ → Origin → Type 0
IsMadeBy c path Nowhere = makes_none c.made (rest_text c.path.now path) ≡ true
IsMadeBy c path (New kind) = (rest_text c.path.now path ≡ []) × (c.made ≡ Some (made_as kind))
IsMadeBy c path (Copied source rest) = (c.made ≡ Some (CopyOf source)) × (rest.now ≡ rest_text c.path.now path)

-- the source of a copy is looked up after at most as many changes as come before the copy, and its text doesn't end in
-- a slash
abbrev pub GoesBack : List Listed → Option ℕ → Origin → Type 0
GoesBack listed shaped Nowhere = ⊤
GoesBack listed shaped (New kind) = ⊤
GoesBack listed None (Copied source rest) = ⊥
GoesBack listed (Some place) (Copied source rest) =
    (end_of (all_placed listed) source.revision ≤ place)
    × (ends_in_slash (joined_text source.path.now rest.now) ≡ false)
