-- What is known of earlier changes, and what a change leaves at its own path.
use Rattle.std.specs.Prelude.{◌≡◌, ◌<◌, ℕ, zero, suc, Bool, true, false, List, Option, Some, None, slice_get, nat_lt, if◌then◌else◌}
use Rattle.dump_trees.specs.Paths.{names_of}
use Rattle.dump_trees.specs.Changes.{Made}
use Rattle.dump_trees.specs.steps.Looking.{end_of}
use Rattle.dump_index.specs.steps.Listed.{Listed, all_placed}
use Rattle.dump_index.specs.steps.InOrder.{ends_in_slash}
use Rattle.dump_index.specs.steps.Kinds.{kind_look}
use Rattle.dump_index.specs.declared.change.NodeKind.{NodeKind}
use Rattle.dump_index.specs.declared.change.NodeKind.TheVariants.{Directory, File}
use Rattle.dump_index.specs.declared.look.Look.{Look}
use Rattle.dump_index.specs.declared.look.Look.TheVariants.{Found, Copied}
use Rattle.dump_index.specs.steps.Touching.{joined_text}
use Rattle.dump_index.specs.steps.Looks.{kind_with_text}

-- the number of changes up to and including the one at this place; 0 if there is no place
abbrev pub count_through : Option ℕ → ℕ
count_through None = zero
count_through (Some place) = suc place

-- these are the kinds that the first changes leave at their paths, each right after its change
abbrev pub AreKindsBehind : List Listed → List (Option NodeKind) → Type 0
AreKindsBehind listed known = (place : ℕ) (kind : Option NodeKind) (l : Listed) →
    slice_get known place ≡ Some kind → slice_get listed place ≡ Some l
    → kind ≡ kind_look listed (suc place) (names_of l.path)

-- what exists at the source of a change of this revision, if the change is a copy of an earlier revision
abbrev pub source_look : List Listed → ℕ → Option Made → Option NodeKind
source_look listed revision None = None
source_look listed revision (Some Made.NewDirectory) = None
source_look listed revision (Some Made.NewFile) = None
source_look listed revision (Some (Made.Copied number source)) =
    if nat_lt number revision then kind_look listed (end_of (all_placed listed) number) source else None

-- what exists at the path of a change after its deletion, if it deletes
abbrev pub left_kind : Bool → Option NodeKind → Option NodeKind
left_kind true here = None
left_kind false here = here

-- what exists there after the change makes something, if it does; a copy makes what exists at its source
abbrev pub made_kind : Option Made → Option NodeKind → Option NodeKind → Option NodeKind
made_kind None left source = left
made_kind (Some Made.NewDirectory) left source = Some Directory
made_kind (Some Made.NewFile) left source = Some File
made_kind (Some (Made.Copied number from)) left source = source

-- one step of a look after fewer changes: it finds what exists at the path, or the copy source at which to look
abbrev pub IsLook : List Listed → ℕ → List ℕ → Look → Type 0
IsLook listed before path (Found kind) = kind_look listed before (names_of path) ≡ kind
IsLook listed before path (Copied source rest set) =
    (kind_look listed before (names_of path)
    ≡ kind_with_text set (kind_look listed (end_of (all_placed listed) source.revision)
    (names_of (joined_text source.path.now rest.now))))
    × (end_of (all_placed listed) source.revision < before)
    × (ends_in_slash (joined_text source.path.now rest.now) ≡ false)
