-- Each record has a verdict.
use Rattle.dump_digest.proofs.Prelude.{◌≡◌, ◌≢◌, ◌⊎◌, ◌↔◌, ℕ, Bool, true, false, ◌||◌, List, refl, sym, ap, ◌∙◌, inl, inr, Option, Some, None, IsTrue, IsFalse, Result, Ok, Err, bytes_eq, same_Some, ForSome, ∥∥₁_elim, cases_Bool, bytes_eq-Decides, md5_name, sha1_name, has_header, header_value, Property, absurd_bool, false_true, false_from_ne_true, DumpRecord, Settings, is_revision_record, is_kept_node, has_whole_text, is_checked_text, value_of, HasPropertyList, HasPropertyBlock, HasBadProperties, DiffersFromDigest, HasBadMd5, HasBadSha1, HasBadMergeinfo, properties_read, IsVerdict, Verdict}
use Rattle.dump_digest.proofs.MergeLemmas.{bad_of, merge_means}
use Rattle.dump_digest.proofs.PropertyBlocks.{block_or_not}
use Rattle.md5.specs.Md5.{md5}
use Rattle.sha1.specs.Sha1.{sha1}
use Rattle.hex.specs.Hex.{decode_sized}
use Rattle.hex.specs.declared.error.FromHexError.{FromHexError}

-- if a kept node has bad mergeinfo, it can be found
pub bad_choice : (settings : Settings) (r : DumpRecord) → IsTrue (is_kept_node settings r) → (ps : List Property)
    → HasPropertyList r ps
    → HasBadMergeinfo settings r ⊎ (¬ HasBadMergeinfo settings r)
bad_choice settings r keep ps block = elim (cases_Bool (properties_read ps)) [
  | inl read ↦ inr (λ bad. absurd_bool (properties_read ps) read
      ((merge_means settings r (properties_read ps) ps keep block refl).1 ∣ bad ∣₁))
  | inr bad ↦
      let (p, within, entry) = bad_of ps bad in
      inl (value_of p, (keep, ps, block, p, within, entry.named, refl), entry.none)
]

-- whether something holds, as a truth value
abbrev IsTold : Type 0 → Type 0
IsTold Fault = (ok : Bool) × (IsFalse ok ↔ Fault)

told : (Fault : Type 0) → Fault ⊎ (¬ Fault) → IsTold Fault
told Fault (inl bad) = (false, ((λ e. bad), λ h. refl))
told Fault (inr good) = (true, ((λ e. absurd (false_true (sym e))), λ h. absurd (good h)))

both : (A B : Type 0) → A ⊎ (¬ A) → B ⊎ (¬ B) → (A × B) ⊎ (¬ (A × B))
both A B (inl a) (inl b) = inl (a, b)
both A B (inl a) (inr b) = inr (λ h. b h.1)
both A B (inr a) b = inr (λ h. a h.0)

each : (A B C : Type 0) → A ⊎ (¬ A) → B ⊎ (¬ B) → C ⊎ (¬ C) → (A × B × C) ⊎ (¬ (A × B × C))
each A B C (inl a) (inl b) (inl c) = inl (a, b, c)
each A B C (inl a) (inl b) (inr c) = inr (λ h. c h.2)
each A B C (inl a) (inr b) c = inr (λ h. b h.1)
each A B C (inr a) b c = inr (λ h. a h.0)

so : (b : Bool) → (b ≡ true) ⊎ (¬ (b ≡ true))
so true = inl refl
so false = inr false_true

properties_choice : (settings : Settings) (r : DumpRecord) → HasBadProperties settings r
    ⊎ (¬ HasBadProperties settings r)
properties_choice settings r =
    both (IsTrue (is_revision_record r || is_kept_node settings r)) (¬ HasPropertyBlock r)
    (so (is_revision_record r || is_kept_node settings r)) (elim (block_or_not r) [
      | inl has ↦ inr (λ none. none has)
      | inr none ↦ inl none
    ])

same_bytes : (a b : List ℕ) → (a ≢ b) ⊎ (¬ (a ≢ b))
same_bytes a b = elim (cases_Bool (bytes_eq a b)) [
  | inl is ↦ inr (λ other. other ((bytes_eq-Decides a b).0 is))
  | inr is ↦ inl (λ same. absurd_bool (bytes_eq a b) ((bytes_eq-Decides a b).1 same) is)
]

decoded_choice : (decoded : Result (List ℕ) FromHexError) (digest : List ℕ) → (decoded ≢ Ok digest)
    ⊎ (¬ (decoded ≢ Ok digest))
decoded_choice (Ok bytes) digest = elim (same_bytes bytes digest) [
  | inl other ↦ inl (λ e. other (of_ok bytes digest e))
  | inr same ↦ inr (λ other. same (λ e. other (ap Ok e)))
]
  where
    of_ok : (a b : List ℕ) → ◌≡◌ {A = Result (List ℕ) FromHexError} (Ok a) (Ok b) → a ≡ b
    of_ok a b e = cc
decoded_choice (Err error) digest = inl (λ e. cc)

digest_choice : (name : List ℕ) (r : DumpRecord) (size : ℕ) (digest : List ℕ) → DiffersFromDigest name r size digest
    ⊎ (¬ DiffersFromDigest name r size digest)
digest_choice name r size digest =
    both (IsTrue (has_header name r.headers)) (ForSome (header_value name r.headers)
    (λ digits. decode_sized digits size ≢ Ok digest))
    (so (has_header name r.headers)) (by_value (header_value name r.headers))
  where
    by_value : (value : Option (List ℕ)) → ForSome value (λ digits. decode_sized digits size ≢ Ok digest)
        ⊎ (¬ ForSome value (λ digits. decode_sized digits size ≢ Ok digest))
    by_value None = inl (λ digits e. absurd (let no : None ≡ Some digits = e in cc))
    by_value (Some digits) = elim (decoded_choice (decode_sized digits size) digest) [
      | inl other ↦ inl (λ x e same. other (ap (λ d. decode_sized d size) (same_Some digits x e) ∙ same))
      | inr same ↦ inr (λ other. same (other digits refl))
    ]

md5_choice : (settings : Settings) (r : DumpRecord) → HasBadMd5 settings r ⊎ (¬ HasBadMd5 settings r)
md5_choice settings r =
    each (IsTrue (is_kept_node settings r)) (IsTrue (has_whole_text r)) (DiffersFromDigest md5_name r 16 (md5 r.text))
    (so (is_kept_node settings r)) (so (has_whole_text r)) (digest_choice md5_name r 16 (md5 r.text))

sha1_choice : (settings : Settings) (r : DumpRecord) → HasBadSha1 settings r ⊎ (¬ HasBadSha1 settings r)
sha1_choice settings r =
    each (IsTrue (is_kept_node settings r)) (IsTrue (has_whole_text r)) (DiffersFromDigest sha1_name r 20 (sha1 r.text))
    (so (is_kept_node settings r)) (so (has_whole_text r)) (digest_choice sha1_name r 20 (sha1 r.text))

merge_choice : (settings : Settings) (r : DumpRecord) → HasBadMergeinfo settings r ⊎ (¬ HasBadMergeinfo settings r)
merge_choice settings r = elim (cases_Bool (is_kept_node settings r)) [
  | inl keep ↦ elim (block_or_not r) [
    | inl (ps, list) ↦ bad_choice settings r keep ps list
    | inr none ↦ inr (λ (value, of, bad). none (of.1, of.2))
  ]
  | inr drop ↦ inr (λ (value, of, bad). absurd_bool (is_kept_node settings r) of.0 drop)
]

-- each record has a verdict
pub verdict_exists : (settings : Settings) (r : DumpRecord) → (v : Verdict) × IsVerdict settings r v
verdict_exists settings r =
    let (props_ok, props) = told (HasBadProperties settings r) (properties_choice settings r) in
    let (md5_ok, md5_is) = told (HasBadMd5 settings r) (md5_choice settings r) in
    let (sha1_ok, sha1_is) = told (HasBadSha1 settings r) (sha1_choice settings r) in
    let (merge_ok, merge) = told (HasBadMergeinfo settings r) (merge_choice settings r) in (
      record { props_ok = props_ok; md5_ok = md5_ok; sha1_ok = sha1_ok; merge_ok = merge_ok; checked = is_checked_text settings r },
      record {
        props = props;
        md5 = md5_is;
        sha1 = sha1_is;
        merge = (
          (λ e. ∣ merge.0 e ∣₁),
          λ h. false_from_ne_true merge_ok
              (λ fine. ∥∥₁_elim h (λ x y. absurd x) (λ bad. false_true (sym (merge.1 bad) ∙ fine))),
        );
        checked = refl;
      },
    )
