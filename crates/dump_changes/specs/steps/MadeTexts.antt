-- Texts that are made of whole texts and deltas, as values of the specs.
use Rattle.std.specs.Prelude.{◌≡◌, ℕ, List, [], ◌∷◌, ◌++◌, Option, Some, None, Result, Ok, Err, option_copied, slice_get, unwrap_or, ⊤}
use Rattle.svndiff.specs.declared.error.NotApplied.{NotApplied}
use Rattle.svndiff.specs.declared.error.NotApplied.TheVariants as errors
use Rattle.dump_digest.specs.steps.Checks.{TellsOtherMd5, TellsOtherSha1}
use Rattle.dump_index.specs.steps.Listed.{Listed}
use Rattle.dump_index.specs.steps.Settings.{IsTrail}
use Rattle.dump_index.specs.declared.trail.Part.TheVariants.{Text}
use Rattle.dump_changes.specs.steps.DeltaTexts.{text_of_parts}
use Rattle.dump_changes.specs.steps.FileTexts.{ToldText}
use Rattle.dump_changes.specs.steps.PatchedTexts.{HasOwnDigests, IsTextAt, latest_delta, told_patched, told_set_by}
use Rattle.dump_changes.specs.steps.TextBytes.{bytes_of}
use Rattle.dump_changes.specs.declared.file_text.FileText.{FileText}
use Rattle.dump_changes.specs.declared.made_text.MadeText.{MadeText}
use Rattle.dump_changes.specs.declared.no_text.NoText.{NoText}
use Rattle.dump_changes.specs.declared.no_text.TextDefect.{TextDefect}
use Rattle.dump_changes.specs.declared.no_text.TextDefect.TheVariants.{Delta, Md5, Sha1}

-- the text that its parts make, with its digests
abbrev pub told_of_file : FileText → ToldText
told_of_file t = record {
  text = unwrap_or (text_of_parts t.base.now t.deltas.items) [];
  md5 = option_copied t.md5;
  sha1 = option_copied t.sha1;
}

-- the same while it is made
abbrev pub told_of_made : MadeText → ToldText
told_of_made t = record { text = bytes_of t.bytes; md5 = option_copied t.md5; sha1 = option_copied t.sha1 }

-- the error says that there is no text, unless memory is out
abbrev pub SaysNone : NotApplied → Option ToldText → Type 0
SaysNone errors.Memory told = ⊤
SaysNone (errors.Broken defect place) told = told ≡ None

-- the older changes of a trail give a text, and the change at this place, which follows them, makes nothing of it
pub record IsBroken (texts : List ToldText) (listed : List Listed) (trail : List ℕ) (place : ℕ) : Type 0 where
  pub newer : List ℕ
  pub older : List ℕ
  pub old : ToldText
  pub is_between : trail ≡ newer ++ place ∷ older
  pub before : told_patched texts listed older ≡ Some old
  pub makes_nothing : told_set_by texts (slice_get listed place) old ≡ None

-- the trail gives no text, since the delta of the change at this place can't be applied; or that delta is the latest change, and
-- its record has another digest than the text that it makes
abbrev pub IsDefect : List ToldText → List Listed → List ℕ → ℕ → TextDefect → Type 0
IsDefect texts listed trail place (Delta defect byte) =
    (told_patched texts listed trail ≡ None) × IsBroken texts listed trail place
IsDefect texts listed trail place Md5 = (latest_delta listed trail ≡ Some place)
    × (its : ToldText) × (told_patched texts listed trail ≡ Some its) × TellsOtherMd5 its.md5 its.text
IsDefect texts listed trail place Sha1 = (latest_delta listed trail ≡ Some place)
    × (its : ToldText) × (told_patched texts listed trail ≡ Some its) × TellsOtherSha1 its.sha1 its.text

abbrev pub IsNoText : List ToldText → List Listed → List ℕ → NoText → Type 0
IsNoText texts listed trail why = IsDefect texts listed trail why.place why.defect

-- so the text of what is at the path after so many changes can't be made
abbrev pub IsNoTextAt : List ToldText → List Listed → List ℕ → ℕ → NoText → Type 0
IsNoTextAt texts listed path count why = (trail : List ℕ) × IsTrail Text listed count path trail × IsNoText texts listed trail why

-- what is found of the text: the text, or why it can't be made
abbrev pub IsFoundText : List ToldText → List Listed → List ℕ → ℕ → Result FileText NoText → Type 0
IsFoundText texts listed path count (Ok text) = IsTextAt texts listed path count (told_of_file text)
IsFoundText texts listed path count (Err why) = IsNoTextAt texts listed path count why

-- which of the digests that are given for the text is another one, if one is
abbrev pub IsDigestDefect : ToldText → Option TextDefect → Type 0
IsDigestDefect its None = HasOwnDigests its
IsDigestDefect its (Some Md5) = TellsOtherMd5 its.md5 its.text
IsDigestDefect its (Some Sha1) = TellsOtherSha1 its.sha1 its.text
IsDigestDefect its (Some (Delta defect byte)) = ⊥
