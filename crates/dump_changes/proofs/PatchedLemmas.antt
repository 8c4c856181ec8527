-- The text that a trail of whole texts and deltas gives.
use Rattle.dump_changes.proofs.Prelude.{◌≡◌, ℕ, ◌+◌, Bool, true, false, cond, List, [], ◌∷◌, map, Option, Some, None, option_map, refl, sym, ap, ◌∙◌, arith, DumpRecord, Patching}
use Rattle.std.proofs.Common.{slice_get, unwrap_or, option_and_then, reverse, take, drop, get_or, length, ◌<◌, ◌++◌}
use Rattle.std.specs.Borrow.{Bor}
use Rattle.std.proofs.lemmas.List.{map-append, reverse-append, take-append-drop, take_more}
use Rattle.std.proofs.lemmas.Option.{slice_get-map}
use Rattle.std.proofs.lemmas.Simd.{map-map}
use Rattle.svndiff.specs.Svndiff.{patch}
use Rattle.dump_digest.specs.RecordParts.{has_text}
use Rattle.dump_records.specs.RecordText.{has_text_delta}
use Rattle.dump_trees.specs.Changes.{TextChange}
use Rattle.dump_trees.specs.steps.Looking.{Placed}
use Rattle.dump_trees.specs.Trees.{Node}
use Rattle.dump_history.specs.RecordChanges.{text_change_of}
use Rattle.dump_index.specs.steps.IndexLaws.{HasText, text_after, text_by, text_there}
use Rattle.dump_index.specs.steps.Listed.{Listed, listed_of}
use Rattle.dump_index.specs.declared.change.NodeChange.{NodeChange}
use Rattle.dump_index.specs.declared.change.Setting.{Setting}
use Rattle.dump_index.specs.declared.change.Setting.TheVariants.{Keeps, Replaces, Edits, EditsNothing}
use Rattle.dump_index.proofs.PartLemmas.{texts_found}
use Rattle.dump_changes.specs.TextDeltas.{AgreesWithSvndiff}
use Rattle.dump_changes.specs.steps.DeltaTexts.{patched_by, text_of_parts}
use Rattle.dump_changes.specs.steps.FileTexts.{ToldText, no_text, record_texts, told_text}
use Rattle.dump_changes.specs.steps.MadeTexts.{IsDefect, IsDigestDefect}
use Rattle.dump_changes.specs.declared.no_text.TextDefect.{TextDefect}
use Rattle.dump_changes.specs.declared.no_text.TextDefect.TheVariants.{Delta, Md5, Sha1}
use Rattle.dump_changes.specs.declared.node_text.NodeText.{NodeText}
use Rattle.dump_changes.specs.steps.NodeTexts.{told_of}
use Rattle.dump_changes.specs.steps.NodeProperties.{ListNodes, node_numbers}
use Rattle.dump_changes.specs.steps.PatchedTexts.{PatchedTextsAreFound, latest_delta, told_left, told_patched, told_set_by, told_with}
use Rattle.dump_changes.proofs.PropertyLemmas.{made_by, none_placed}
use Rattle.dump_changes.proofs.TextLemmas.{its_text, whole_set}

-- a change that edits a text applies the delta of its record
edit_set : (patched : Patching) (r : DumpRecord) (t : Option TextChange) → text_change_of patched r ≡ t → HasText Edits t
    → t ≡ Some (TextChange.Patched (patched r.text))
edit_set patched r None its has = absurd has
edit_set patched r (Some (TextChange.Replaced text)) its has = absurd has
edit_set patched r (Some (TextChange.Patched patch)) its has = cases (has_text r) (has_text_delta r) its
  where
    cases : (some delta : Bool)
        → cond some (Some (cond delta (TextChange.Patched (patched r.text)) (TextChange.Replaced r.text))) None
        ≡ Some (TextChange.Patched patch)
        → Some (TextChange.Patched patch) ≡ Some (TextChange.Patched (patched r.text))
    cases false delta is = absurd (let bad : None ≡ Some (TextChange.Patched patch) = is in cc)
    cases true true is = sym is
    cases true false is =
        absurd (let bad : TextChange.Replaced r.text ≡ TextChange.Patched patch =
        (let both : Some (TextChange.Replaced r.text) ≡ Some (TextChange.Patched patch) = is in cc) in cc)

-- what a change makes of a text, by its setting and by what it is
set_as : (patched : Patching) → AgreesWithSvndiff patched → (r : DumpRecord) (s : Setting) (t : Option TextChange)
    → text_change_of patched r ≡ t → HasText s t → (old new : ToldText) → told_left s (told_text r) old ≡ Some new
    → text_by t old.text ≡ Some new.text
set_as patched agrees r Keeps None its has old new is = ap (option_map (λ (t : ToldText). t.text)) is
set_as patched agrees r Keeps (Some change) its has old new is = absurd has
set_as patched agrees r EditsNothing t its has old new is = absurd has
set_as patched agrees r Replaces t its has old new is =
    ap (λ (change : Option TextChange). text_by change old.text) (whole_set patched r Replaces t its has refl)
    ∙ ap (option_map (λ (t : ToldText). t.text)) is
set_as patched agrees r Edits t its has old new is =
    ap (λ (change : Option TextChange). text_by change old.text) (edit_set patched r t its has)
    ∙ agrees r.text old.text new.text (made (patch r.text old.text) is)
  where
    made : (o : Option (List ℕ)) → option_map (told_with (told_text r)) o ≡ Some new → o ≡ Some new.text
    made None is = absurd (let bad : None ≡ Some new = is in cc)
    made (Some text) is = ap (option_map (λ (t : ToldText). t.text)) is

module _ (patched : Patching) (agrees : AgreesWithSvndiff patched) (records : List DumpRecord) (changes : List NodeChange)
    (placed : List Placed) (nodes : ListNodes patched records changes placed) where
  -- so of the change at a place
  one_place : (place : ℕ) (old new : ToldText) (o : Option Listed) → slice_get (map listed_of changes) place ≡ o
      → told_set_by (record_texts records) o old ≡ Some new → text_there (slice_get placed place) old.text ≡ Some new.text
  one_place place old new None there is =
      ap (λ (p : Option Placed). text_there p old.text) (none_placed (map listed_of changes) placed nodes.listed place there)
      ∙ ap (option_map (λ (t : ToldText). t.text)) is
  one_place place old new (Some l) there is =
      let numbers : map (λ (l : Listed). l.record_number) (map listed_of changes) ≡ node_numbers 0 records =
      map-map (λ (l : Listed). l.record_number) listed_of changes ∙ nodes.numbers in
      let by = made_by patched None 0 records placed (map listed_of changes) nodes.make nodes.listed numbers place l there in
      let made = by.2 in
      let further : 0 + made.further ≡ made.further = omega arith in
      let own : slice_get (record_texts records) l.record_number ≡ Some (told_text made.r) =
      slice_get-map told_text records l.record_number
      ∙ ap (option_map told_text) (ap (slice_get records) (made.number_is ∙ further) ∙ made.at) in
      let set : told_left l.text (told_text made.r) old ≡ Some new =
      ap (λ (t : Option ToldText). told_left l.text (unwrap_or t no_text) old) (sym own) ∙ is in
      ap (λ (p : Option Placed). text_there p old.text) by.1
      ∙ set_as patched agrees made.r l.text by.0.change.text (its_text patched made.r by.0.change made.makes) made.says.text old new set

  -- and of all places
  all_places : (trail : List ℕ) (new : ToldText) → told_patched (record_texts records) (map listed_of changes) trail ≡ Some new
      → text_after placed trail ≡ Some new.text
  all_places [] new is = ap (option_map (λ (t : ToldText). t.text)) is
  all_places (place ∷ trail) new is =
      cases (told_patched (record_texts records) (map listed_of changes) trail) (all_places trail) is
    where
      cases : (before : Option ToldText) → ((old : ToldText) → before ≡ Some old → text_after placed trail ≡ Some old.text)
          → option_and_then (told_set_by (record_texts records) (slice_get (map listed_of changes) place)) before ≡ Some new
          → text_after placed (place ∷ trail) ≡ Some new.text
      cases None further is = absurd (let bad : None ≡ Some new = is in cc)
      cases (Some old) further is =
          ap (λ (o : Option (List ℕ)). option_and_then (text_there (slice_get placed place)) o) (further old refl)
          ∙ one_place place old new (slice_get (map listed_of changes) place) refl is

pub patched_found : PatchedTextsAreFound
patched_found patched records changes placed path count its props text agrees nodes ordered is there =
    let found = texts_found changes placed count path is.trail (Node.File props text) ordered nodes.listed is.sets there in
    let both : Some text ≡ Some its.text = sym found ∙ all_places patched agrees records changes placed nodes is.trail its is.makes in
    cc

-- the texts of a trail that is looked at from its oldest change on: one change more
pub one_more : (texts : List ToldText) (listed : List Listed) (places : List ℕ) (i place : ℕ) (old : ToldText)
    (new : Option ToldText) → i < length places → place ≡ get_or places i 0
    → told_patched texts listed (reverse (take i places)) ≡ Some old
    → told_set_by texts (slice_get listed place) old ≡ new → told_patched texts listed (reverse (take (i + 1) places)) ≡ new
one_more texts listed places i place old new more is before sets =
    ap (λ (ps : List ℕ). told_patched texts listed (reverse ps)) (take_more places i 0 more)
    ∙ ap (told_patched texts listed) (reverse-append (take i places) (get_or places i 0 ∷ []))
    ∙ ap (λ (o : Option ToldText). option_and_then (told_set_by texts (slice_get listed (get_or places i 0))) o) before
    ∙ ap (λ n. told_set_by texts (slice_get listed n) old) (sym is) ∙ sets

-- the newer ones, the one that is looked at, and the older ones
pub around : (places : List ℕ) (i : ℕ) → i < length places
    → reverse places ≡ reverse (drop (i + 1) places) ++ get_or places i 0 ∷ reverse (take i places)
around places i more =
    let newer : List ℕ = reverse (drop (i + 1) places) in
    ap (λ (ps : List ℕ). reverse ps) (sym (take-append-drop (i + 1) places))
    ∙ reverse-append (take (i + 1) places) (drop (i + 1) places)
    ∙ ap (λ (ps : List ℕ). newer ++ reverse ps) (take_more places i 0 more)
    ∙ ap (λ (ps : List ℕ). newer ++ ps) (reverse-append (take i places) (get_or places i 0 ∷ []))

-- no later change makes a text again
none_stays : (texts : List ToldText) (listed : List Listed) (newer older : List ℕ) → told_patched texts listed older ≡ None
    → told_patched texts listed (newer ++ older) ≡ None
none_stays texts listed [] older none = none
none_stays texts listed (place ∷ newer) older none =
    ap (λ (o : Option ToldText). option_and_then (told_set_by texts (slice_get listed place)) o)
    (none_stays texts listed newer older none)

pub none_at_last : (texts : List ToldText) (listed : List Listed) (places : List ℕ) (i : ℕ)
    → told_patched texts listed (reverse (take i places)) ≡ None → told_patched texts listed (reverse places) ≡ None
none_at_last texts listed places i none =
    ap (λ (ps : List ℕ). told_patched texts listed (reverse ps)) (sym (take-append-drop i places))
    ∙ ap (told_patched texts listed) (reverse-append (take i places) (drop i places))
    ∙ none_stays texts listed (reverse (drop i places)) (reverse (take i places)) none

-- what a change with a delta makes of a text
pub set_by_delta : (texts : List ToldText) (o : Option Listed) (l : Listed) (own old : ToldText) → Some l ≡ o → l.text ≡ Edits
    → own ≡ unwrap_or (slice_get texts l.record_number) no_text → told_set_by texts o old ≡ told_left Edits own old
set_by_delta texts o l own old there edits is =
    ap (λ (x : Option Listed). told_set_by texts x old) (sym there)
    ∙ ap (λ s. told_left s (unwrap_or (slice_get texts l.record_number) no_text) old) edits
    ∙ ap (λ t. told_left Edits t old) (sym is)

-- the text of a record, if it is there
pub own_or : (found : Option NodeText) (none own : NodeText) (t : Option ToldText) → option_map told_of found ≡ t
    → told_of none ≡ no_text → own ≡ unwrap_or found none → told_of own ≡ unwrap_or t no_text
own_or None none own t is empty own_is =
    ap told_of own_is ∙ (empty ∙ ap (λ (o : Option ToldText). unwrap_or o no_text) is)
own_or (Some found) none own t is empty own_is =
    ap told_of own_is ∙ ap (λ (o : Option ToldText). unwrap_or o no_text) is

-- the digest of a text that a delta makes is another one
pub digest_told : (texts : List ToldText) (listed : List Listed) (trail : List ℕ) (place : ℕ) (its : ToldText) (d : TextDefect)
    → latest_delta listed trail ≡ Some place → told_patched texts listed trail ≡ Some its → IsDigestDefect its (Some d)
    → IsDefect texts listed trail place d
digest_told texts listed trail place its (Delta defect byte) latest makes tells = absurd tells
digest_told texts listed trail place its Md5 latest makes tells = (latest, its, makes, tells)
digest_told texts listed trail place its Sha1 latest makes tells = (latest, its, makes, tells)

-- one delta more
pub patched_more : (deltas : List (List ℕ)) (delta old : List ℕ)
    → patched_by (deltas ++ delta ∷ []) old ≡ option_and_then (patch delta) (patched_by deltas old)
patched_more [] delta old = cases (patch delta old)
  where
    cases : (o : Option (List ℕ)) → option_and_then (patched_by []) o ≡ o
    cases None = refl
    cases (Some text) = refl
patched_more (first ∷ deltas) delta old = cases (patched_more deltas delta) (patch first old)
  where
    cases : ((text : List ℕ) → patched_by (deltas ++ delta ∷ []) text ≡ option_and_then (patch delta) (patched_by deltas text))
        → (o : Option (List ℕ)) → option_and_then (patched_by (deltas ++ delta ∷ [])) o
        ≡ option_and_then (patch delta) (option_and_then (patched_by deltas) o)
    cases further None = refl
    cases further (Some text) = further text

-- the same of parts of a dump
pub parts_more : (base : List ℕ) (deltas more : List (Bor (List ℕ))) (delta : Bor (List ℕ)) (old : List ℕ) (new : Option (List ℕ))
    → more ≡ deltas ++ delta ∷ [] → text_of_parts base deltas ≡ Some old → patch delta.now old ≡ new
    → text_of_parts base more ≡ new
parts_more base deltas more delta old new is before makes =
    ap (text_of_parts base) is
    ∙ ap (λ ds. patched_by ds base) (map-append (λ (d : Bor (List ℕ)). d.now) deltas (delta ∷ []))
    ∙ patched_more (map (λ (d : Bor (List ℕ)). d.now) deltas) delta.now base
    ∙ ap (option_and_then (patch delta.now)) before ∙ makes
