-- The faults of the mergeinfo of a kept node.
use Rattle.dump_filter.proofs.Prelude.{◌≡◌, ◌⊎◌, ◌↔◌, ◌||◌, ℕ, Bool, true, false, List, refl, sym, ap, subst, inl, inr, Option, Some, None, Contains, IsFalse, IsTrue, if◌then◌else◌, or_right, list_any, ∥∥₁_elim, FaultKind, Property, property_block_once, DumpRecord, Settings, KeptRevisions, HasMergeLines, HasMissingSource, HasForeignNumber, value_misses, value_foreign, found, finds, missing_there, missing_back, foreign_there, foreign_back, has_lines, record_item, Done, done_record, done_settings, done_verdict, is_asked, is_revision_record, is_kept_node, is_mergeinfo, value_of, HasPropertyList, HasPropertyBlock, IsReadNode, IsMergeinfoValueOf, HasBadMergeinfo, bad_choice, misses, is_foreign, merge_fault, HasGoodMergeinfo, first_true, second_true, and_from, false_true, absurd_bool, block_or_not, property_list_once}
use Rattle.dump_text.specs.declared.fault.FaultKind.TheVariants as faults

-- some element that passes a test
-- a kept node has mergeinfo that misses a source
abbrev pub Misses : Settings → DumpRecord → Type 0
Misses settings r = (value : List ℕ) × IsMergeinfoValueOf settings r value × HasMissingSource settings value

-- a kept node has mergeinfo with a number that the dump can't have
abbrev pub IsForeign : Settings → KeptRevisions → ℕ → DumpRecord → Type 0
IsForeign settings kept present r = (value : List ℕ) × IsMergeinfoValueOf settings r value
    × HasForeignNumber settings kept present value

-- what is found of a node's mergeinfo
abbrev pub MergeJudged : Settings → KeptRevisions → ℕ → DumpRecord → Option FaultKind → Type 0
MergeJudged settings kept present r None = (¬ HasBadMergeinfo settings r) × (¬ Misses settings r)
    × (¬ IsForeign settings kept present r)
MergeJudged settings kept present r (Some fault) = ((fault ≡ faults.MergeInfo) × HasBadMergeinfo settings r)
    ⊎ ((fault ≡ faults.MergeSource) × (¬ HasBadMergeinfo settings r) × Misses settings r)
    ⊎ ((fault ≡ faults.MergeRange) × (¬ HasBadMergeinfo settings r) × (¬ Misses settings r)
    × IsForeign settings kept present r)

-- the properties of a kept node
module _ (settings : Settings) (r : DumpRecord) (keep : is_kept_node settings r ≡ true) (ps : List Property)
    (block : HasPropertyList r ps) where
  own_value : (p : Property) → Contains ps p → is_mergeinfo p ≡ true → IsMergeinfoValueOf settings r (value_of p)
  own_value p within is = (keep, ps, block, p, within, is, refl)

  none_passes : (passes : Property → Bool) → list_any passes ps ≡ false → (qs : List Property) → HasPropertyList r qs
      → (p : Property) → Contains qs p → passes p ≡ true → ⊥
  none_passes passes none qs other p within so =
      let same : qs ≡ ps = property_list_once r qs ps other block in
      absurd_bool (list_any passes ps) (finds passes ps p
      (subst (λ (l : List Property). Contains l p) same within) so) none

  module _ (kept : KeptRevisions) (present : ℕ) (fine : ¬ HasBadMergeinfo settings r) where
    lines_of : (p : Property) → Contains ps p → is_mergeinfo p ≡ true → HasMergeLines (value_of p)
    lines_of p within is = has_lines (value_of p) (λ none. fine (value_of p, own_value p within is, none))

    some_misses : list_any (misses settings) ps ≡ true → Misses settings r
    some_misses some =
        let (p, within, so) = found (misses settings) ps some in
        let is = first_true (is_mergeinfo p) (value_misses settings (value_of p)) so in (
          value_of p,
          own_value p within is,
          missing_there settings (value_of p) (lines_of p within is)
              (second_true (is_mergeinfo p) (value_misses settings (value_of p)) so),
        )

    none_misses : list_any (misses settings) ps ≡ false → ¬ Misses settings r
    none_misses none (value, (kept, qs, other, p, within, is, same), missing) =
        none_passes (misses settings) none qs other p within
        (and_from (is_mergeinfo p) (value_misses settings (value_of p)) is
        (missing_back settings (value_of p) (subst (HasMissingSource settings) (sym same) missing)))

    some_is_foreign : list_any (is_foreign settings kept.first present) ps ≡ true → IsForeign settings kept present r
    some_is_foreign some =
        let (p, within, so) = found (is_foreign settings kept.first present) ps some in
        let is = first_true (is_mergeinfo p) (value_foreign settings kept.first present (value_of p)) so in (
          value_of p,
          own_value p within is,
          foreign_there settings kept present (value_of p) (lines_of p within is)
              (second_true (is_mergeinfo p) (value_foreign settings kept.first present (value_of p)) so),
        )

    none_is_foreign : list_any (is_foreign settings kept.first present) ps ≡ false → ¬ IsForeign settings kept present r
    none_is_foreign none (value, (keeps, qs, other, p, within, is, same), bad) =
        none_passes (is_foreign settings kept.first present) none qs other p within
        (and_from (is_mergeinfo p) (value_foreign settings kept.first present (value_of p)) is
        (foreign_back settings kept present (value_of p)
        (subst (HasForeignNumber settings kept present) (sym same) bad)))

    values_judged : MergeJudged settings kept present r (merge_fault settings kept.first present true ps)
    values_judged = by_source (list_any (misses settings) ps) refl
      where
        by_range : ¬ Misses settings r → (c : Bool) → list_any (is_foreign settings kept.first present) ps ≡ c
            → MergeJudged settings kept present r (if c then Some faults.MergeRange else None)
        by_range sources true some = inr (inr (refl, fine, sources, some_is_foreign some))
        by_range sources false none = (fine, sources, none_is_foreign none)

        by_source : (b : Bool) → list_any (misses settings) ps ≡ b → MergeJudged settings kept present r
            (if b then Some faults.MergeSource else if list_any
            (is_foreign settings kept.first present) ps then Some faults.MergeRange else None)
        by_source true some = inr (inl (refl, fine, some_misses some))
        by_source false none = by_range (none_misses none) (list_any (is_foreign settings kept.first present) ps) refl

  -- the fault that is found in a kept node's mergeinfo is there, if the verdict is right
  pub merge_judged : (kept : KeptRevisions) (present : ℕ) (ok : Bool) → IsFalse ok ↔ ∥ HasBadMergeinfo settings r ∥₁
      → MergeJudged settings kept present r (merge_fault settings kept.first present ok ps)
  merge_judged kept present true means = values_judged kept present
      (λ bad. absurd (false_true (sym (means.1 ∣ bad ∣₁))))
  merge_judged kept present false means = inl (refl, bad)
    where
      bad : HasBadMergeinfo settings r
      bad = elim (bad_choice settings r keep ps block) [
        | inl some ↦ some
        | inr none ↦ absurd (∥∥₁_elim (means.0 refl) (λ x y. absurd x) none)
      ]

-- if a kept node's mergeinfo has no fault, each value is lines of mergeinfo
pub lines_told : (settings : Settings) (r : DumpRecord) → is_kept_node settings r ≡ true → ¬ HasBadMergeinfo settings r
    → HasPropertyBlock r → HasGoodMergeinfo r.props
lines_told settings r keep fine (qs, list) ps block p within is none =
    let same : ps ≡ qs = property_block_once r.props ps qs block list.0 in
    let here = subst (λ (l : List Property). Contains l p) same within in
    fine (value_of p, (keep, qs, list, p, here, is, refl), none)

-- the properties of a kept node are needed
pub asked_node : (d : Done) → IsReadNode d → IsTrue (is_asked (done_settings d) (record_item (done_record d)))
asked_node d (kept, read, ok) = or_right (is_revision_record (record_item (done_record d)))
    (is_kept_node (done_settings d) (record_item (done_record d))) kept

-- each value of its mergeinfo is lines of mergeinfo
pub read_lines : (d : Done) → IsReadNode d → HasGoodMergeinfo (record_item (done_record d)).props
read_lines d (kept, read, ok) =
    lines_told (done_settings d) (record_item (done_record d)) kept
    (λ bad. absurd_bool (done_verdict d).merge_ok ok (d.judged.verdict_is.merge.1 ∣ bad ∣₁))
    (elim (block_or_not (record_item (done_record d))) [
      | inl block ↦ block
      | inr none ↦ absurd (absurd_bool (done_verdict d).props_ok read
          (d.judged.verdict_is.props.1 (asked_node d (kept, read, ok), none)))
    ])

-- and so are those of a revision
pub asked_revision : (d : Done) → IsTrue (is_revision_record (record_item (done_record d)))
    → IsTrue (is_asked (done_settings d) (record_item (done_record d)))
asked_revision d revision = ap (λ b. b || is_kept_node (done_settings d) (record_item (done_record d))) revision
