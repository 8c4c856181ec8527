-- The text of a record alone is what is written for it, whichever records follow.
use Rattle.dump_filter.proofs.Prelude.{◌≡◌, ℕ, ◌+◌, ◌<◌, ◌≤◌, ◌==◌, Bool, true, false, not, ◌&&◌, List, [], ◌∷◌, length, refl, sym, ap, ap₂, ◌∙◌, subst, arith, inl, inr, suc, Some, All, Contains, MatchBool, list_any, leb_tells, copy_revision_name, Header, Property, header_number, DumpRecord, Settings, KeptRevisions, image, IsNewMergeinfo, HasForeignNumber, later_revisions, is_kept_node, is_mergeinfo, value_of, HasPropertyBlock, CopyChange, is_bare, is_pad, is_padded, revision_number, becomes_plain, stays_copy, without_copy_headers, IsWrittenCopyNumber, IsNewCopy, is_copy, AreNewProperties, IsRevisionOutput, IsNodeOutput, copied_headers, revision_own, pads, IsOwnRevision, IsOwnNode, HasNoSource, GoesOn, and_from, not_from_false}
use Rattle.dump_filter.proofs.groups.KeptLemmas.{all_weaker, whole_is, next_written, image_kept}
use Rattle.dump_filter.proofs.answer.MergeLemmas.{IsForeign}
use Rattle.dump_filter.proofs.written.CopyLemmas.{AreCopyLines}
use Rattle.dump_filter.proofs.written.PropertyOutput.{IsNewValue}

-- a revision's own text is what is written for it, whichever revisions are kept later
pub revision_out : (settings : Settings) (kept : KeptRevisions) (from : ℕ) (whole : KeptRevisions) (y : DumpRecord)
    (ns : List DumpRecord) (padded : Bool) (text : List ℕ)
    → GoesOn kept from whole → revision_number y ≤ from → All (λ n. n < revision_number y) kept.numbers
    → HasPropertyBlock y
    → is_padded settings (record { revision = y; nodes = ns }) ≡ padded
    → IsOwnRevision settings kept y padded text
    → IsRevisionOutput settings whole (record { revision = y; nodes = ns }) text
revision_out settings kept from whole y ns padded text g low below (ps, block) pad own = (
  ps,
  block,
  own ps block
      ∙ ap₂ (λ n b. revision_own y n b ps) (sym (next_written settings kept from whole y g low below)) (sym pad),
)

-- a group without a kept node is padded if its pending revision is
pub pads_is : (settings : Settings) (y : DumpRecord) (ns : List DumpRecord)
    → list_any (is_kept_node settings) ns ≡ false
    → is_padded settings (record { revision = y; nodes = ns })
    ≡ pads settings (record { revision = y; bare = length ns == 0 })
pads_is settings y ns none =
    ap (λ b. not (is_bare (record { revision = y; nodes = ns })) && not b && is_pad settings.empty && not
    settings.preserve) none
    ∙ short (is_bare (record { revision = y; nodes = ns })) (is_pad settings.empty) (not settings.preserve)
  where
    short : (a c d : Bool) → (not a && true && c && d) ≡ (not a && c && d)
    short true c d = refl
    short false c d = refl

-- a copy's source if the dump goes on
new_copy_kept : (settings : Settings) (kept whole : KeptRevisions) (present : ℕ) (r : DumpRecord)
    (headers : List Header) → GoesOn kept (present + 1) whole
    → ¬ HasNoSource settings kept present r → IsNewCopy settings kept r headers → IsNewCopy settings whole r headers
new_copy_kept settings kept whole present r headers g good new = by_plain (becomes_plain settings r) refl new
  where
    number_kept : becomes_plain settings r ≡ false → is_copy r ≡ true → (old n : ℕ)
        → header_number copy_revision_name r.headers ≡ Some old
        → IsWrittenCopyNumber settings kept old n → IsWrittenCopyNumber settings whole old n
    number_kept plain copy old n at is = by_case settings.renumber refl is
      where
        low : settings.renumber ≡ true → old < present + 1
        low renumber = elim (leb_tells old present) [
          | inl within ↦ let under = within.1 in omega arith
          | inr over ↦ absurd (good (
            and_from settings.renumber (stays_copy settings r) renumber
                (and_from (is_copy r) (not (becomes_plain settings r)) copy
                (not_from_false (becomes_plain settings r) plain)),
            old,
            at,
            inr over.1,
          ))
        ]

        by_case : (b : Bool) → settings.renumber ≡ b → MatchBool b (image kept old ≡ Some n) (n ≡ old)
            → MatchBool settings.renumber (image whole old ≡ Some n) (n ≡ old)
        by_case true e h = subst (λ b. MatchBool b (image whole old ≡ Some n) (n ≡ old)) (sym e)
            (image_kept kept (present + 1) whole old g (low e) ∙ h)
        by_case false e h = subst (λ b. MatchBool b (image whole old ≡ Some n) (n ≡ old)) (sym e) h

    by_copy : becomes_plain settings r ≡ false → (c : Bool) → is_copy r ≡ c
        → AreCopyLines settings kept r.headers c headers → AreCopyLines settings whole r.headers c headers
    by_copy plain true copy (old, n, at, is, lines) = (old, n, at, number_kept plain copy old n at is, lines)
    by_copy plain false copy lines = lines

    by_plain : (b : Bool) → becomes_plain settings r ≡ b
        → MatchBool b (headers ≡ without_copy_headers r.headers)
        (AreCopyLines settings kept r.headers (is_copy r) headers)
        → IsNewCopy settings whole r headers
    by_plain true plain lines = rw plain lines
    by_plain false plain h = rw plain (by_copy plain (is_copy r) refl h)

-- new values of mergeinfo if the dump goes on
properties_kept : (settings : Settings) (kept whole : KeptRevisions) (present : ℕ) → GoesOn kept (present + 1) whole
    → (ps new : List Property)
    → ((p : Property) → Contains ps p → is_mergeinfo p ≡ true → ¬ HasForeignNumber settings kept present (value_of p))
    → AreNewProperties settings kept ps new → AreNewProperties settings whole ps new
properties_kept settings kept whole present g [] [] known all = tt
properties_kept settings kept whole present g [] (q ∷ new) known all = absurd all
properties_kept settings kept whole present g (p ∷ ps) [] known all = absurd all
properties_kept settings kept whole present g (p ∷ ps) (q ∷ new) known ((name, value), all) = (
  (name, by_case (is_mergeinfo p) refl value),
  properties_kept settings kept whole present g ps new (λ x (i, within, at). known x (suc i, omega arith, at)) all,
)
  where
    moved : ¬ HasForeignNumber settings kept present (value_of p) → (v : List ℕ) → IsNewMergeinfo settings kept
        (value_of p) v
        → IsNewMergeinfo settings whole (value_of p) v
    moved fine v is = subst (λ (k : KeptRevisions). IsNewMergeinfo settings k (value_of p) v)
        (sym (whole_is kept (present + 1) whole g))
        (later_revisions settings kept g.later present (value_of p) v
        (λ on. all_weaker (λ n. present + 1 ≤ n) (λ n. present < n) g.later (λ n up. omega (arith, up)) g.behind)
        fine is)

    by_case : (b : Bool) → is_mergeinfo p ≡ b → IsNewValue settings kept p q.value b
        → IsNewValue settings whole p q.value b
    by_case true is (v, set, new_value) = (v, set, moved (known p (0, omega arith, refl) is) v new_value)
    by_case false is new_value = new_value

-- a kept node's own text is what is written for it, whichever revisions are kept later
pub node_out : (settings : Settings) (kept whole : KeptRevisions) (present : ℕ) (r : DumpRecord) (copy : CopyChange)
    (text : List ℕ) → GoesOn kept (present + 1) whole
    → is_kept_node settings r ≡ true → ¬ HasNoSource settings kept present r → ¬ IsForeign settings kept present r
    → HasPropertyBlock r → IsNewCopy settings kept r (copied_headers copy r.headers)
    → IsOwnNode settings kept r copy text
    → IsNodeOutput settings whole r text
node_out settings kept whole present r copy text g keep good known (ps, block) copied own =
    let (new, properties, is) = own ps block in (
      copied_headers copy r.headers,
      ps,
      new,
      new_copy_kept settings kept whole present r (copied_headers copy r.headers) g good copied,
      block,
      properties_kept settings kept whole present g ps new
          (λ p within merge foreign. known (value_of p, (keep, ps, block, p, within, merge, refl), foreign)) properties,
      is,
    )
