-- Nodes that are added to others, and why some can't be.
use Rattle.std.specs.Prelude.{◌≡◌, ◌≢◌, ◌⊎◌, ℕ, suc, Bool, true, false, List, ◌++◌, map, Option, Some, None, Result, Ok, Err, IsTrue, IsFalse}
use Rattle.std.specs.Global.{Vec}
use Rattle.std.specs.List.{list_all}
use Rattle.dump_text.specs.PropertyList.{Property}
use Rattle.dump_trees.specs.steps.Looking.{end_of}
use Rattle.dump_trees.specs.Paths.{NodePath, names_of}
use Rattle.dump_trees.specs.steps.WritingOut.{directory_of}
use Rattle.dump_history.specs.WrittenNodes.{WrittenNode, can_be_written}
use Rattle.dump_history.specs.steps.WrittenNodes.{written_change}
use Rattle.dump_index.specs.steps.Listed.{Listed, all_placed}
use Rattle.dump_index.specs.declared.change.Setting.TheVariants.{Keeps}
use Rattle.dump_changes.specs.steps.FileTexts.{ToldText}
use Rattle.dump_changes.specs.steps.MadeTexts.{IsNoTextAt, told_of_file}
use Rattle.dump_changes.specs.steps.NodeProperties.{ArePropertiesAt}
use Rattle.dump_changes.specs.steps.PatchedTexts.{IsTextAt}
use Rattle.dump_changes.specs.declared.file_text.FileText.{FileText}
use Rattle.dump_changes.specs.declared.no_text.NoText.{NoText}
use Rattle.dump_expansion.specs.steps.GivenSteads.{GivenStead}
use Rattle.dump_expansion.specs.steps.Given.{given_of}
use Rattle.dump_expansion.specs.steps.NewNodes.{written_of}
use Rattle.dump_expansion.specs.declared.expanding.Stead as code
use Rattle.dump_expansion.specs.declared.written_node.NewNode.{NewNode}
use Rattle.dump_additions.specs.steps.Additions.{AreAdditionsFrom, AreNodesOf, BringsNone, IsAddition, IsCleared, IsNodeOf, IsRootOf, copies_over}
use Rattle.dump_additions.specs.steps.FirstNotAdded.{CannotBeAdded, CannotStay, HasNoText, IsFirstNotAdded, IsNoTextIn}
use Rattle.dump_additions.specs.steps.Parts.{PartMeant}
use Rattle.dump_additions.specs.declared.not_added.NotAdded.{NotAdded}
use Rattle.dump_additions.specs.declared.not_added.Reason.{Reason}
use Rattle.dump_additions.specs.declared.not_added.Reason.TheVariants.{Text, NoLoad, NotWritable}
use Rattle.dump_additions.specs.declared.parts.Form.{Form}
use Rattle.dump_additions.specs.declared.parts.Form.TheVariants.{Directory, File}

-- the node makes a directory as it is at this rest of the source
abbrev pub IsDirectoryNode : List (List ℕ) → List Listed → ℕ → NodePath → NodePath → NodePath → WrittenNode → Type 0
IsDirectoryNode blocks listed number path source rest w =
    (text : List ℕ) × (entries : List Property) × (names_of text ≡ source ++ rest)
    × (written_change w ≡ directory_of (path ++ rest) entries)
    × ArePropertiesAt blocks listed text (end_of (all_placed listed) number) entries

-- the change at this place, which makes a copy in this form, leaves a file with this text at its path, or copies a
-- directory and sets no text; otherwise the text can't be made, or a text is set on a directory
abbrev pub IsRootText : List ToldText → List Listed → ℕ → Listed → Form → Result (Option FileText) Reason → Type 0
IsRootText texts listed place l form (Ok (Some text)) = (form ≡ File)
    × IsTextAt texts listed l.path (suc place) (told_of_file text)
IsRootText texts listed place l form (Ok None) = (form ≡ Directory) × (l.text ≡ Keeps)
IsRootText texts listed place l form (Err (Text why)) = (form ≡ File) × IsNoTextAt texts listed l.path (suc place) why
IsRootText texts listed place l form (Err NoLoad) = (form ≡ Directory) × (l.text ≢ Keeps)
IsRootText texts listed place l form (Err NotWritable) = ⊥

-- the result of the code, as a value of the definitions
abbrev pub given_found : Result (Vec code.Stead) NotAdded → Result (List GivenStead) NotAdded
given_found (Ok steads) = Ok (map given_of steads.items)
given_found (Err not_added) = Err not_added

module _ (blocks : List (List ℕ)) (texts : List ToldText) (listed : List Listed) (excluded : List NodePath) (number : ℕ)
    (path source : NodePath) where
  -- the node writes the part, or the part is a file whose text can't be made
  abbrev pub IsNodeOrNoText : PartMeant → Result NewNode NoText → Type 0
  IsNodeOrNoText part (Ok node) = IsNodeOf blocks texts listed excluded number path source part (written_of node)
  IsNodeOrNoText part (Err why) = (part.form ≡ File) × IsNoTextIn texts listed number source part.rest why

  -- the nodes that write the parts are appended, or one of the parts is a file whose text can't be made
  abbrev pub AddsNodes : List PartMeant → List WrittenNode → List WrittenNode → Option NoText → Type 0
  AddsNodes parts old new None = (more : List WrittenNode) × (new ≡ old ++ more)
      × AreNodesOf blocks texts listed excluded number path source parts more
  AddsNodes parts old new (Some why) = HasNoText blocks texts listed excluded number path source parts why

-- these nodes are for the node with this number; or one of them can't be written
abbrev pub IsSteadFor : ℕ → List WrittenNode → Bool → Result code.Stead Reason → Type 0
IsSteadFor number nodes keeps (Ok stead) = (given_of stead ≡ record { number = number; nodes = nodes; keeps = keeps })
    × (list_all can_be_written nodes ≡ true)
IsSteadFor number nodes keeps (Err reason) = (reason ≡ NotWritable) × (list_all can_be_written nodes ≡ false)

-- what is written before the change at this place, if it brings nothing back; or that this can't be written
abbrev pub IsClearingOr : List Listed → ℕ → Listed → Result (Option code.Stead) Reason → Type 0
IsClearingOr listed place l (Ok None) = IsFalse (copies_over listed place l)
IsClearingOr listed place l (Ok (Some stead)) = IsTrue (copies_over listed place l)
    × IsCleared l (given_of stead)
    × (list_all can_be_written (given_of stead).nodes ≡ true)
IsClearingOr listed place l (Err reason) = IsTrue (copies_over listed place l) × (reason ≡ NotWritable)
    × ((g : GivenStead) × IsCleared l g × (list_all can_be_written g.nodes ≡ false))

module _ (blocks : List (List ℕ)) (texts : List ToldText) (listed : List Listed) (excluded : List NodePath) where
  -- the node writes what the change at this place makes at its path; or the reason why this can't be written
  abbrev pub IsRootOr : ℕ → Listed → Form → Result NewNode Reason → Type 0
  IsRootOr place l form (Ok node) = IsRootOf blocks texts listed excluded place l form (written_of node)
  IsRootOr place l form (Err reason) = IsRootText texts listed place l form (Err reason)

  -- what is written in place of the change at this place, or why it can't be written
  abbrev pub IsSteadOr : ℕ → Listed → Result code.Stead Reason → Type 0
  IsSteadOr place l (Ok stead) = IsAddition blocks texts listed excluded place l (given_of stead)
      × (list_all can_be_written (given_of stead).nodes ≡ true)
  IsSteadOr place l (Err reason) = CannotBeAdded blocks texts listed excluded place l reason

  -- what is written in place of the change at this place, or before it; or why nothing can be written
  abbrev pub IsAdditionOr : ℕ → Listed → Result (Option code.Stead) Reason → Type 0
  IsAdditionOr place l (Ok None) = BringsNone blocks texts listed excluded (names_of l.path) l.made
      × IsFalse (copies_over listed place l)
  IsAdditionOr place l (Ok (Some stead)) = IsSteadOr place l (Ok stead)
      ⊎ (BringsNone blocks texts listed excluded (names_of l.path) l.made × IsClearingOr listed place l (Ok (Some stead)))
  IsAdditionOr place l (Err reason) = CannotStay blocks texts listed excluded place l reason

  -- what is written in place of all such changes, or before them; or the first one for which nothing can be written
  abbrev pub AreAdditions : Result (List GivenStead) NotAdded → Type 0
  AreAdditions (Ok given) = AreAdditionsFrom blocks texts listed excluded 0 listed given
      × (list_all (λ (g : GivenStead). list_all can_be_written g.nodes) given ≡ true)
  AreAdditions (Err not_added) = IsFirstNotAdded blocks texts listed excluded not_added.place not_added.reason
