-- What a verdict's parts mean together.
use Rattle.dump_digest.proofs.Prelude.{◌≡◌, ◌↔◌, Bool, true, false, ◌||◌, refl, sym, ap, ◌∙◌, false_from_ne_true, or-false, Option, is_some, IsTrue, IsFalse, IsSome, absurd_bool, or_right, md5_name, sha1_name, DumpRecord, Settings, Verdict, is_revision_record, is_kept_node, HasPropertyBlock, HasBadMergeinfo, HasOtherDigest, is_told_text, IsVerdict}
use Rattle.dump_digest.proofs.MergeLemmas.{merge_other}
use Rattle.md5.specs.Md5.{md5}
use Rattle.sha1.specs.Sha1.{sha1}

unread : (r : DumpRecord) (ok : Bool) → (IsTrue ok ↔ HasPropertyBlock r) → IsFalse ok ↔ (¬ HasPropertyBlock r)
unread r ok means = (λ none has. absurd_bool _ (means.1 has) none, λ none. false_from_ne_true ok (λ e. none (means.0 e)))

-- properties that aren't needed
pub not_asked : (r : DumpRecord) → IsFalse (is_revision_record r) → IsFalse true
    ↔ (IsTrue (is_revision_record r) × ¬ HasPropertyBlock r)
not_asked r none = (λ e. cc, λ bad. absurd (absurd_bool _ bad.0 none))

-- properties of a node that are needed
pub found_properties : {T : Type 0} (r : DumpRecord) (found : Option T) (ok : Bool) → ok ≡ is_some found
    → (IsSome found ↔ HasPropertyBlock r) → IsFalse ok ↔ (¬ HasPropertyBlock r)
found_properties r found ok is means = unread r ok (λ e. means.0 (sym is ∙ e), λ has. is ∙ means.1 has)

-- and those of a revision
pub asked : {T : Type 0} (r : DumpRecord) (ok : Bool) (found : Option T) → IsTrue (is_revision_record r)
    → ok ≡ is_some found
    → (IsSome found ↔ HasPropertyBlock r) → IsFalse ok ↔ (IsTrue (is_revision_record r) × ¬ HasPropertyBlock r)
asked r ok found revision is means =
    let read = found_properties r found ok is means in
    (λ e. (revision, read.0 e), λ bad. read.1 bad.1)

-- a node that is kept
pub kept_verdict : (settings : Settings) (r : DumpRecord) (v : Verdict) → IsTrue (is_kept_node settings r)
    → (IsFalse v.props_ok ↔ (¬ HasPropertyBlock r))
    → (IsFalse v.md5_ok ↔ HasOtherDigest md5_name r 16 (md5 r.text))
    → (IsFalse v.sha1_ok ↔ HasOtherDigest sha1_name r 20 (sha1 r.text))
    → (IsFalse v.merge_ok ↔ ∥ HasBadMergeinfo settings r ∥₁)
    → v.checked ≡ is_told_text r
    → IsVerdict settings r v
kept_verdict settings r v kept props first second merge checked = record {
  props = (λ e. (or_right (is_revision_record r) (is_kept_node settings r) kept, props.0 e), λ bad. props.1 bad.1);
  md5 = (λ e. let other = first.0 e in (kept, other.0, other.1), λ bad. first.1 (bad.1, bad.2));
  sha1 = (λ e. let other = second.0 e in (kept, other.0, other.1), λ bad. second.1 (bad.1, bad.2));
  merge = merge;
  checked = checked ∙ rw kept refl;
}

-- another record
pub other_verdict : (settings : Settings) (r : DumpRecord) (props_ok : Bool) → IsFalse (is_kept_node settings r)
    → (IsFalse props_ok ↔ (IsTrue (is_revision_record r) × ¬ HasPropertyBlock r))
    → IsVerdict settings r
    (record { props_ok = props_ok; md5_ok = true; sha1_ok = true; merge_ok = true; checked = false })
other_verdict settings r props_ok other props = record {
  props =
      let revision = ap (λ b. is_revision_record r || b) other ∙ or-false (is_revision_record r) in
      (λ e. let bad = props.0 e in (revision ∙ bad.0, bad.1), λ bad. props.1 (sym revision ∙ bad.0, bad.1));
  md5 = (λ e. cc, λ bad. absurd (absurd_bool _ bad.0 other));
  sha1 = (λ e. cc, λ bad. absurd (absurd_bool _ bad.0 other));
  merge = merge_other settings r other;
  checked = rw other refl;
}
