-- The parts in the code, and the rests that the code still has to visit.
use Rattle.std.specs.Prelude.{◌≡◌, ◌≢◌, ℕ, List, [], ◌∷◌, ◌++◌, Option, Some, None, map, reverse, IsTrue}
use Rattle.std.specs.List.{AllZip, list_all}
use Rattle.dump_trees.specs.Following.{Way}
use Rattle.dump_trees.specs.steps.Following.{followed_told}
use Rattle.dump_trees.specs.steps.Looking.{Placed, end_of}
use Rattle.dump_trees.specs.Paths.{NodePath, names_of}
use Rattle.dump_index.specs.steps.Children.{AreChildren}
use Rattle.dump_index.specs.steps.IndexLaws.{IsListed}
use Rattle.dump_index.specs.steps.Kinds.{kind_look}
use Rattle.dump_index.specs.steps.Listed.{Listed, all_placed}
use Rattle.dump_index.specs.steps.ToldKinds.{kinds_told_by}
use Rattle.dump_index.specs.declared.change.NodeKind.{NodeKind}
use Rattle.dump_additions.specs.declared.parts.Form.{Form}
use Rattle.dump_additions.specs.declared.parts.Form.TheVariants.{Copy, Directory, File}
use Rattle.std.specs.Global.{Vec}
use Rattle.dump_trees.specs.Siblings.{is_node_name}
use Rattle.dump_additions.specs.declared.parts.Part.{Part}
use Rattle.dump_index.specs.declared.change.NodeKind.TheVariants as kinds

-- a part by the names of its rest
pub record PartMeant : Type 0 where
  pub form : Form
  pub rest : NodePath

-- nothing comes back with a copy of what exists at this rest of the source
abbrev pub TakesWhole : List Listed → List NodePath → ℕ → NodePath → NodePath → NodePath → Type 0
TakesWhole listed excluded number path source rest = (placed : List Placed) → AllZip IsListed listed placed
    → followed_told Way.ToCopies excluded (kinds_told_by listed) placed number (path ++ rest) (source ++ rest) ≡ []

-- something does
abbrev pub TakesSomeBack : List Listed → List NodePath → ℕ → NodePath → NodePath → NodePath → Type 0
TakesSomeBack listed excluded number path source rest = (placed : List Placed) → AllZip IsListed listed placed
    → followed_told Way.ToCopies excluded (kinds_told_by listed) placed number (path ++ rest) (source ++ rest) ≢ []

-- what exists at the path in this revision
abbrev pub kind_in : List Listed → ℕ → NodePath → Option NodeKind
kind_in listed number path = kind_look listed (end_of (all_placed listed) number) path

-- how what exists at this rest of the source is written: it is copied, if nothing comes back with it
abbrev pub IsFormAt : List Listed → List NodePath → ℕ → NodePath → NodePath → NodePath → Option Form → Type 0
IsFormAt listed excluded number path source rest (Some Copy) = TakesWhole listed excluded number path source rest
IsFormAt listed excluded number path source rest (Some Directory) =
    TakesSomeBack listed excluded number path source rest × (kind_in listed number (source ++ rest) ≡ Some kinds.Directory)
IsFormAt listed excluded number path source rest (Some File) =
    TakesSomeBack listed excluded number path source rest × (kind_in listed number (source ++ rest) ≡ Some kinds.File)
IsFormAt listed excluded number path source rest None =
    TakesSomeBack listed excluded number path source rest × (kind_in listed number (source ++ rest) ≡ None)

mutual
  -- these are the parts in which what exists at this rest is written
  pub data ArePartsOf (listed : List Listed) (excluded : List NodePath) (number : ℕ) (path source : NodePath)
      : NodePath → List PartMeant → Type 0 where
    NoPart : (rest : NodePath) → IsFormAt listed excluded number path source rest None
        → ArePartsOf listed excluded number path source rest []
    Copied : (rest : NodePath) → IsFormAt listed excluded number path source rest (Some Copy)
        → ArePartsOf listed excluded number path source rest (record { form = Copy; rest = rest } ∷ [])
    WrittenFile : (rest : NodePath) → IsFormAt listed excluded number path source rest (Some File)
        → ArePartsOf listed excluded number path source rest (record { form = File; rest = rest } ∷ [])
    Opened : (rest : NodePath) (names : List (List ℕ)) (parts : List PartMeant)
        → IsFormAt listed excluded number path source rest (Some Directory)
        → AreChildren listed (end_of (all_placed listed) number) (source ++ rest) names
        → ArePartsIn listed excluded number path source rest names parts
        → ArePartsOf listed excluded number path source rest (record { form = Directory; rest = rest } ∷ parts)

  -- and those of what is in the directory there by these names, one after the other
  pub data ArePartsIn (listed : List Listed) (excluded : List NodePath) (number : ℕ) (path source : NodePath)
      : NodePath → List (List ℕ) → List PartMeant → Type 0 where
    NoName : (rest : NodePath) → ArePartsIn listed excluded number path source rest [] []
    Named : (rest : NodePath) (name : List ℕ) (names : List (List ℕ)) (first others : List PartMeant)
        → ArePartsOf listed excluded number path source (rest ++ name ∷ []) first
        → ArePartsIn listed excluded number path source rest names others
        → ArePartsIn listed excluded number path source rest (name ∷ names) (first ++ others)

-- a part of the code, as a value of the definitions
abbrev pub part_meant : Part → PartMeant
part_meant part = record { form = part.form; rest = names_of part.rest.items }

-- the form of a node that isn't copied
abbrev pub form_of : Option NodeKind → Option Form
form_of None = None
form_of (Some kinds.Directory) = Some Directory
form_of (Some kinds.File) = Some File

module _ (listed : List Listed) (excluded : List NodePath) (number : ℕ) (path source : NodePath) where
  -- these are the parts in which what exists at these rests is written, one after the other
  abbrev pub AreAllParts : List NodePath → List PartMeant → Type 0
  AreAllParts [] parts = parts ≡ []
  AreAllParts (rest ∷ rests) parts = (first : List PartMeant) × (others : List PartMeant) × (parts ≡ first ++ others)
      × ArePartsOf listed excluded number path source rest first × AreAllParts rests others

-- the rests that are still to visit, of which the last one in the stack comes next
abbrev pub pending : List (Vec ℕ) → List NodePath
pending left = map (λ (rest : Vec ℕ). names_of rest.items) (reverse left)

-- these paths, each below the rest
abbrev pub children_of : NodePath → List NodePath → List NodePath
children_of rest paths = map (λ path. rest ++ path) paths

-- the rests of what is in the directory at this rest of the copied source come before the other ones
abbrev pub AddsInside : List Listed → ℕ → NodePath → NodePath → List NodePath → List NodePath → Type 0
AddsInside listed number source rest old new = (names : List (List ℕ))
    × AreChildren listed (end_of (all_placed listed) number) (source ++ rest) names
    × IsTrue (list_all is_node_name names)
    × (new ≡ children_of rest (map (λ name. name ∷ []) names) ++ old)
