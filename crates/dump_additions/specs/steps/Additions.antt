-- What is written in place of the copies of a dump with which something excluded comes back, and before copies over something.
use Rattle.std.specs.Prelude.{◌≡◌, ℕ, suc, Bool, true, false, not, ◌&&◌, List, [], ◌∷◌, ◌++◌, Option, Some, None, is_some, IsTrue, IsFalse, ⊤}
use Rattle.std.specs.List.{AllZip}
use Rattle.dump_text.specs.PropertyList.{Property}
use Rattle.dump_trees.specs.Changes.{Made, is_copied}
use Rattle.dump_trees.specs.steps.ExpansionCases.{deletion_of}
use Rattle.dump_trees.specs.steps.Looking.{end_of}
use Rattle.dump_trees.specs.Paths.{NodePath, names_of}
use Rattle.dump_trees.specs.steps.WritingOut.{copy_of, file_of, directory_of}
use Rattle.dump_history.specs.WrittenNodes.{WrittenNode}
use Rattle.dump_history.specs.steps.WrittenNodes.{replacing, written_change}
use Rattle.dump_history.specs.WrittenNodes as format
use Rattle.dump_index.specs.steps.Kinds.{kind_look}
use Rattle.dump_index.specs.steps.Listed.{Listed, all_placed}
use Rattle.dump_index.specs.declared.change.NodeKind.{NodeKind}
use Rattle.dump_index.specs.declared.change.NodeKind.TheVariants as kinds
use Rattle.dump_index.specs.declared.change.Setting.TheVariants.{Keeps}
use Rattle.dump_changes.specs.steps.FileTexts.{ToldText}
use Rattle.dump_changes.specs.steps.NodeProperties.{ArePropertiesAt}
use Rattle.dump_changes.specs.steps.PatchedTexts.{IsTextAt}
use Rattle.dump_expansion.specs.steps.GivenSteads.{GivenStead}
use Rattle.dump_additions.specs.declared.parts.Form.{Form}
use Rattle.dump_additions.specs.declared.parts.Form.TheVariants.{Copy, Directory, File}
use Rattle.dump_additions.specs.steps.Parts.{ArePartsOf, PartMeant, TakesWhole, kind_in}

-- the kind that a copy says that it is of
abbrev pub kind_said : WrittenNode → Option format.NodeKind
kind_said (WrittenNode.Deletion path) = None
kind_said (WrittenNode.Copy kind number source path) = Some kind
kind_said (WrittenNode.Directory replaces path entries) = None
kind_said (WrittenNode.File replaces path entries text md5 sha1) = None

-- the text that a file says that it has, with its digests
abbrev pub text_said : WrittenNode → Option ToldText
text_said (WrittenNode.Deletion path) = None
text_said (WrittenNode.Copy kind number source path) = None
text_said (WrittenNode.Directory replaces path entries) = None
text_said (WrittenNode.File replaces path entries text md5 sha1) = Some record { text = text; md5 = md5; sha1 = sha1 }

-- the node says that it copies a node of this kind, if there is one
abbrev pub SaysKind : Option NodeKind → WrittenNode → Type 0
SaysKind None w = ⊤
SaysKind (Some kinds.Directory) w = kind_said w ≡ Some format.NodeKind.Dir
SaysKind (Some kinds.File) w = kind_said w ≡ Some format.NodeKind.File

-- whether the change at this place copies over something that exists before it, and doesn't delete it first
abbrev pub copies_over : List Listed → ℕ → Listed → Bool
copies_over listed place l = is_copied l.made && not l.deletes && is_some (kind_look listed place (names_of l.path))

-- before the change, which stays, is a node that deletes what exists at its path
abbrev pub IsCleared : Listed → GivenStead → Type 0
IsCleared l g = (w : WrittenNode) × (written_change w ≡ deletion_of (names_of l.path))
    × (g ≡ record { number = l.record_number; nodes = w ∷ []; keeps = true })

module _ (blocks : List (List ℕ)) (texts : List ToldText) (listed : List Listed) (excluded : List NodePath) (number : ℕ)
    (path source : NodePath) where
  -- the node writes what exists at this rest of the source in this form: a directory or a file as it is there in the revision
  -- of this number, with the digests that the record which sets the file's text last has
  abbrev pub IsNodeOfForm : Form → NodePath → WrittenNode → Type 0
  IsNodeOfForm Copy rest w = (written_change w ≡ copy_of number (source ++ rest) (path ++ rest))
      × SaysKind (kind_in listed number (source ++ rest)) w
  IsNodeOfForm Directory rest w = (text : List ℕ) × (entries : List Property) × (names_of text ≡ source ++ rest)
      × (written_change w ≡ directory_of (path ++ rest) entries)
      × ArePropertiesAt blocks listed text (end_of (all_placed listed) number) entries
  IsNodeOfForm File rest w = (text : List ℕ) × (entries : List Property) × (its : ToldText)
      × (names_of text ≡ source ++ rest)
      × (written_change w ≡ file_of (path ++ rest) entries its.text)
      × (text_said w ≡ Some its)
      × ArePropertiesAt blocks listed text (end_of (all_placed listed) number) entries
      × IsTextAt texts listed text (end_of (all_placed listed) number) its

  abbrev pub IsNodeOf : PartMeant → WrittenNode → Type 0
  IsNodeOf part w = IsNodeOfForm part.form part.rest w

  -- the nodes write the parts, one each
  abbrev pub AreNodesOf : List PartMeant → List WrittenNode → Type 0
  AreNodesOf parts nodes = AllZip IsNodeOf parts nodes

module _ (blocks : List (List ℕ)) (texts : List ToldText) (listed : List Listed) (excluded : List NodePath) where
  -- the node makes a directory or a file with these properties at the path of the change at this place, a file with the text
  -- that is there after it; it replaces what exists there before it, if something does
  abbrev pub MakesRoot : ℕ → Listed → List Property → Form → WrittenNode → Type 0
  MakesRoot place l own Copy w = ⊥
  MakesRoot place l own Directory w = (l.text ≡ Keeps)
      × (written_change w
      ≡ replacing (is_some (kind_look listed place (names_of l.path))) (directory_of (names_of l.path) own))
  MakesRoot place l own File w = (its : ToldText)
      × IsTextAt texts listed l.path (suc place) its
      × (text_said w ≡ Some its)
      × (written_change w
      ≡ replacing (is_some (kind_look listed place (names_of l.path))) (file_of (names_of l.path) own its.text))

  -- so with the properties that are there after it
  pub record IsRootOf (place : ℕ) (l : Listed) (form : Form) (w : WrittenNode) : Type 0 where
    pub own : List Property
    pub own_are : ArePropertiesAt blocks listed l.path (suc place) own
    pub makes : MakesRoot place l own form w

  -- the change at this place copies a directory or a file, and these nodes write it, with what is in it
  pub record IsAddition (place : ℕ) (l : Listed) (g : GivenStead) : Type 0 where
    pub number : ℕ
    pub source : NodePath
    pub copies : l.made ≡ Some (Made.Copied number source)
    pub form : Form
    pub parts : List PartMeant
    pub are_parts : ArePartsOf listed excluded number (names_of l.path) source []
        (record { form = form; rest = [] } ∷ parts)
    pub root : WrittenNode
    pub is_root : IsRootOf place l form root
    pub nodes : List WrittenNode
    pub are_nodes : AreNodesOf blocks texts listed excluded number (names_of l.path) source parts nodes
    pub given : g ≡ record { number = l.record_number; nodes = root ∷ nodes; keeps = false }

  -- nothing comes back with what is made at the path
  abbrev pub BringsNone : NodePath → Option Made → Type 0
  BringsNone path None = ⊤
  BringsNone path (Some Made.NewDirectory) = ⊤
  BringsNone path (Some Made.NewFile) = ⊤
  BringsNone path (Some (Made.Copied number source)) = TakesWhole listed excluded number path source []

  -- of the changes from this place on, those with which something comes back have these in their place, and the others that copy
  -- over something have these before them, in order. So svnadmin load takes a copy over what is written in place of an earlier one
  pub data AreAdditionsFrom : ℕ → List Listed → List GivenStead → Type 0 where
    NoChange : (place : ℕ) → AreAdditionsFrom place [] []
    Kept : (place : ℕ) (l : Listed) (more : List Listed) (given : List GivenStead) → BringsNone (names_of l.path) l.made
        → IsFalse (copies_over listed place l) → AreAdditionsFrom (suc place) more given → AreAdditionsFrom place (l ∷ more) given
    Cleared : (place : ℕ) (l : Listed) (more : List Listed) (g : GivenStead) (given : List GivenStead)
        → BringsNone (names_of l.path) l.made → IsTrue (copies_over listed place l) → IsCleared l g
        → AreAdditionsFrom (suc place) more given → AreAdditionsFrom place (l ∷ more) (g ∷ given)
    Added : (place : ℕ) (l : Listed) (more : List Listed) (g : GivenStead) (given : List GivenStead)
        → IsAddition place l g → AreAdditionsFrom (suc place) more given
        → AreAdditionsFrom place (l ∷ more) (g ∷ given)
