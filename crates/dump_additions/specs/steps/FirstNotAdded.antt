-- Which copy can't be written as other nodes, and why.
use Rattle.std.specs.Prelude.{◌≡◌, ◌≢◌, ◌⊎◌, ℕ, suc, false, List, [], ◌∷◌, ◌++◌, Option, Some, None, slice_get, take, IsTrue}
use Rattle.std.specs.List.{Contains, list_all}
use Rattle.dump_trees.specs.Changes.{Made}
use Rattle.dump_trees.specs.steps.Looking.{end_of}
use Rattle.dump_trees.specs.Paths.{NodePath, names_of}
use Rattle.dump_history.specs.WrittenNodes.{can_be_written}
use Rattle.dump_index.specs.steps.Listed.{Listed, all_placed}
use Rattle.dump_index.specs.declared.change.NodeKind.TheVariants as kinds
use Rattle.dump_index.specs.declared.change.Setting.TheVariants.{Keeps}
use Rattle.dump_changes.specs.steps.FileTexts.{ToldText}
use Rattle.dump_changes.specs.steps.MadeTexts.{IsNoTextAt}
use Rattle.dump_changes.specs.declared.no_text.NoText.{NoText}
use Rattle.dump_expansion.specs.steps.GivenSteads.{GivenStead}
use Rattle.dump_additions.specs.steps.Additions.{AreAdditionsFrom, BringsNone, IsAddition, IsCleared, copies_over}
use Rattle.dump_additions.specs.steps.Parts.{ArePartsOf, PartMeant, TakesSomeBack, kind_in}
use Rattle.dump_additions.specs.declared.not_added.Reason.{Reason}
use Rattle.dump_additions.specs.declared.not_added.Reason.TheVariants.{Text, NoLoad, NotWritable}
use Rattle.dump_additions.specs.declared.parts.Form.{Form}
use Rattle.dump_additions.specs.declared.parts.Form.TheVariants.{File}

-- the text of what exists at this rest of the source can't be made
abbrev pub IsNoTextIn : List ToldText → List Listed → ℕ → NodePath → NodePath → NoText → Type 0
IsNoTextIn texts listed number source rest why = (text : List ℕ) × (names_of text ≡ source ++ rest)
    × IsNoTextAt texts listed text (end_of (all_placed listed) number) why

module _ (blocks : List (List ℕ)) (texts : List ToldText) (listed : List Listed) (excluded : List NodePath) (number : ℕ)
    (path source : NodePath) where
  -- one of the parts is a file whose text can't be made
  abbrev pub HasNoText : List PartMeant → NoText → Type 0
  HasNoText parts why = (rest : NodePath) × Contains parts (record { form = File; rest = rest })
      × IsNoTextIn texts listed number source rest why

module _ (blocks : List (List ℕ)) (texts : List ToldText) (listed : List Listed) (excluded : List NodePath) where
  -- why the copy of this source that the change at this place makes can't be written, where these are its parts
  abbrev pub IsReason : ℕ → Listed → ℕ → NodePath → List PartMeant → Reason → Type 0
  -- the text of the file that is copied can't be made, or that of a file in the directory
  IsReason place l number source parts (Text why) =
      (form : Form) × (inside : List PartMeant) × (parts ≡ record { form = form; rest = [] } ∷ inside)
      × (((form ≡ File) × IsNoTextAt texts listed l.path (suc place) why)
      ⊎ HasNoText blocks texts listed excluded number (names_of l.path) source inside why)
  -- nothing exists at the source, or a directory does, and is given a text
  IsReason place l number source parts NoLoad =
      (kind_in listed number source ≡ None) ⊎ ((kind_in listed number source ≡ Some kinds.Directory) × (l.text ≢ Keeps))
  -- one of the nodes that would be in its place isn't read as it is meant
  IsReason place l number source parts NotWritable =
      (g : GivenStead) × IsAddition blocks texts listed excluded place l g × (list_all can_be_written g.nodes ≡ false)

  -- the copy that the change at this place makes can't be written, for this reason
  pub record CannotBeAdded (place : ℕ) (l : Listed) (reason : Reason) : Type 0 where
    pub number : ℕ
    pub source : NodePath
    pub copies : l.made ≡ Some (Made.Copied number source)
    pub parts : List PartMeant
    pub are_parts : ArePartsOf listed excluded number (names_of l.path) source [] parts
    pub why : IsReason place l number source parts reason

  -- something comes back with what is made at the path
  abbrev pub BringsSome : NodePath → Option Made → Type 0
  BringsSome path None = ⊥
  BringsSome path (Some Made.NewDirectory) = ⊥
  BringsSome path (Some Made.NewFile) = ⊥
  BringsSome path (Some (Made.Copied number source)) = TakesSomeBack listed excluded number path source []

  -- the change at this place copies over something, and a node that deletes it isn't read as it is meant
  abbrev pub CannotBeCleared : ℕ → Listed → Reason → Type 0
  CannotBeCleared place l reason = BringsNone blocks texts listed excluded (names_of l.path) l.made
      × IsTrue (copies_over listed place l) × (reason ≡ NotWritable)
      × ((g : GivenStead) × IsCleared l g × (list_all can_be_written g.nodes ≡ false))

  -- the change at this place can't be in the dump with additions: something comes back with it that can't be written, or what it
  -- copies over can't be deleted
  abbrev pub CannotStay : ℕ → Listed → Reason → Type 0
  CannotStay place l reason = (BringsSome (names_of l.path) l.made × CannotBeAdded place l reason)
      ⊎ CannotBeCleared place l reason

  -- it is the first such change
  pub record IsFirstNotAdded (place : ℕ) (reason : Reason) : Type 0 where
    pub before : List GivenStead
    pub are_before : AreAdditionsFrom blocks texts listed excluded 0 (take place listed) before
    pub change : Listed
    pub is_at : slice_get listed place ≡ Some change
    pub why : CannotStay place change reason
