-- The texts of files, as the whole texts and the deltas of a dump make them.
use Rattle.std.specs.Prelude.{◌≡◌, ℕ, Bool, true, false, List, [], ◌∷◌, map, Option, Some, None, if◌then◌else◌, option_and_then, option_map, slice_get, unwrap_or, IsTrue}
use Rattle.svndiff.specs.Svndiff.{patch}
use Rattle.dump_text.specs.PropertyList.{Property}
use Rattle.dump_records.specs.RecordText.{DumpRecord}
use Rattle.dump_digest.specs.steps.Checks.{TellsOtherMd5, TellsOtherSha1}
use Rattle.dump_trees.specs.steps.Looking.{Placed, look}
use Rattle.dump_trees.specs.Paths.{names_of}
use Rattle.dump_trees.specs.Trees.{Node, root_alone}
use Rattle.dump_history.specs.RecordChanges.{Patching}
use Rattle.dump_index.specs.steps.InOrder.{are_in_order}
use Rattle.dump_index.specs.steps.Listed.{Listed, listed_of}
use Rattle.dump_index.specs.steps.Settings.{IsTrail}
use Rattle.dump_index.specs.declared.change.NodeChange.{NodeChange}
use Rattle.dump_index.specs.declared.change.Setting.{Setting}
use Rattle.dump_index.specs.declared.change.Setting.TheVariants.{Edits, EditsNothing, Keeps, Replaces}
use Rattle.dump_index.specs.declared.trail.Part.TheVariants.{Text}
use Rattle.dump_changes.specs.TextDeltas.{AgreesWithSvndiff}
use Rattle.dump_changes.specs.steps.FileTexts.{ToldText, no_text, record_texts}
use Rattle.dump_changes.specs.steps.NodeProperties.{ListNodes}

-- this text, with the digests of a record
abbrev pub told_with : ToldText → List ℕ → ToldText
told_with own text = record { text = text; md5 = own.md5; sha1 = own.sha1 }

-- what a change makes of a text, if its own record has this text, or this delta. The digests of a record are those of the new
-- text, also where it has a delta
abbrev pub told_left : Setting → (own old : ToldText) → Option ToldText
told_left Keeps own old = Some old
told_left Replaces own old = Some own
told_left Edits own old = option_map (told_with own) (patch own.text old.text)
told_left EditsNothing own old = Some old

-- the same, by the texts of the records
abbrev pub told_set_by : List ToldText → Option Listed → ToldText → Option ToldText
told_set_by texts None old = Some old
told_set_by texts (Some l) old = told_left l.text (unwrap_or (slice_get texts l.record_number) no_text) old

-- what the changes at these places, the latest one first, make of an empty text
abbrev pub told_patched : List ToldText → List Listed → List ℕ → Option ToldText
told_patched texts listed [] = Some no_text
told_patched texts listed (place ∷ trail) =
    option_and_then (told_set_by texts (slice_get listed place)) (told_patched texts listed trail)

-- whether there is a change, and it has a delta
abbrev pub is_edit : Setting → Bool
is_edit Keeps = false
is_edit Replaces = false
is_edit Edits = true
is_edit EditsNothing = false

abbrev pub has_delta : Option Listed → Bool
has_delta None = false
has_delta (Some l) = is_edit l.text

-- the first of these places, if the change there has a delta
abbrev pub latest_delta : List Listed → List ℕ → Option ℕ
latest_delta listed [] = None
latest_delta listed (place ∷ trail) = if has_delta (slice_get listed place) then Some place else None

-- no other digest is given for the text than its own
abbrev pub HasOwnDigests : ToldText → Type 0
HasOwnDigests its = (TellsOtherMd5 its.md5 its.text → ⊥) × (TellsOtherSha1 its.sha1 its.text → ⊥)

-- the changes of the trail make this text of what is at the path after so many changes. Where the latest one has a delta, the
-- digests of its record are those of the text; those of a whole text are not looked at here
pub record IsTextAt (texts : List ToldText) (listed : List Listed) (path : List ℕ) (count : ℕ) (its : ToldText) : Type 0 where
  pub trail : List ℕ
  pub sets : IsTrail Text listed count path trail
  pub makes : told_patched texts listed trail ≡ Some its
  pub digests : (place : ℕ) → latest_delta listed trail ≡ Some place → HasOwnDigests its

-- if a file is at the path after so many changes, this is its text, for each reading of deltas that agrees with svndiff
abbrev pub PatchedTextsAreFound : Type 0
PatchedTextsAreFound = (patched : Patching) (records : List DumpRecord) (changes : List NodeChange) (placed : List Placed)
    (path : List ℕ) (count : ℕ) (its : ToldText) (props : List Property) (text : List ℕ) →
    AgreesWithSvndiff patched → ListNodes patched records changes placed → IsTrue (are_in_order 0 changes)
    → IsTextAt (record_texts records) (map listed_of changes) path count its
    → look root_alone placed count (names_of path) ≡ Some (Node.File props text) → text ≡ its.text
