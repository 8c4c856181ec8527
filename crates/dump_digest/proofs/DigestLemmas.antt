-- A header gives another digest than the text's exactly if it is there and isn't that digest.
use Rattle.dump_digest.proofs.Prelude.{◌≡◌, ◌↔◌, ℕ, Bool, true, ◌||◌, List, refl, sym, ap, ◌∙◌, Option, Some, None, is_some, Bor, IsFalse, if◌then◌else◌, same_Some, inl, inr, cases_Bool, md5_name, sha1_name, has_header, header_value, DumpRecord, has_value, some_copied, has_whole_text, TellsOther, HasOtherDigest, is_told_text}
use Rattle.std.proofs.Common.{option_copied}

-- the text of a record, if it has one that isn't a delta
abbrev pub whole_part : DumpRecord → Option (List ℕ)
whole_part r = if has_whole_text r then Some r.text else None

-- a text that is taken from a record is its whole text
pub text_there : (r : DumpRecord) (text : List ℕ) → Some text ≡ whole_part r → (has_whole_text r ≡ true)
    × (text ≡ r.text)
text_there r text is = elim (cases_Bool (has_whole_text r)) [
  | inl e ↦ (e, same_Some text r.text (is ∙ rw e refl))
  | inr e ↦ let bad : Some text ≡ None = is ∙ rw e refl in cc
]

-- a digest isn't ok exactly if the record has another one for its text
pub digest_told : (name : List ℕ) (r : DumpRecord) (size : ℕ) (digest : List ℕ) (ok : Bool) (told : Option (List ℕ))
    → has_whole_text r ≡ true
    → told ≡ header_value name r.headers → (IsFalse ok ↔ TellsOther told size digest) → IsFalse ok
    ↔ HasOtherDigest name r size digest
digest_told name r size digest ok told text is means =
    let there : is_some told ≡ has_header name r.headers = ap is_some is ∙ has_value name r.headers in (
      λ e. let other = means.0 e in (text, (sym there ∙ other.0, λ digits h. other.1 digits (is ∙ h))),
      λ other. means.1 (there ∙ other.1.0, λ digits h. other.1.1 digits (sym is ∙ h)),
    )

-- a text is checked exactly if the record has a digest of it
pub text_told : (r : DumpRecord) (checked : Bool) (md5 sha1 : Option (Bor (List ℕ))) → has_whole_text r ≡ true
    → option_copied md5 ≡ header_value md5_name r.headers
    → option_copied sha1 ≡ header_value sha1_name r.headers → checked ≡ (is_some md5 || is_some sha1)
    → checked ≡ is_told_text r
text_told r checked md5 sha1 text first second is =
    let one : is_some md5 ≡ has_header md5_name r.headers = some_copied md5 ∙ ap is_some first
    ∙ has_value md5_name r.headers in
    let other : is_some sha1 ≡ has_header sha1_name r.headers = some_copied sha1 ∙ ap is_some second
    ∙ has_value sha1_name r.headers in
    is ∙ rw (one, other, text) refl
