-- Which fault a record has after others.
use Rattle.dump_filter.proofs.Prelude.{◌≡◌, ◌⊎◌, ℕ, ◌<◌, nat_lt, Bool, true, false, not, ◌&&◌, ◌||◌, List, [], ◌∷◌, ◌++◌, refl, sym, ap, ◌∙◌, subst, arith, append_assoc, inl, inr, Option, Some, None, IsTrue, MatchBool, Result, Ok, Err, is_some, if◌then◌else◌, last_or, list_all, list_any, FaultKind, spelled_number, copy_revision_name, with_header_value, header_number, has_bad_kind, has_bad_number, DumpRecord, is_lawful, part_of_node, keeps, Settings, KeptRevisions, image, is_revision_record, is_node, is_kept_node, CopyChange, revision_number, revision_numbers, first_number, kept_revisions, is_whole_file, becomes_plain, stays_copy, IsWrittenCopyNumber, IsNewCopy, is_copy, has_lost_source, copied_headers, ends_in_group, IsOutOfOrder, State, front_kept, takes_node, rises, is_in_order, is_orphan, HasNoSource, imaged, source_change, copy_change, is_plain, kept_numbers, Shape, Stands, Fresh, Idle, Passed, Waits, copy_both, copy_there, false_true, false_from_ne_true, first_true, second_true, not-true, not_from_false, and_from, absurd_bool}
use borrow.Author.Tests.{ltb-true, ltb-false}
use Rattle.dump_text.specs.declared.fault.FaultKind.TheVariants as faults
use Rattle.dump_filter.specs.declared.copies.CopyChange.TheVariants as copies
use Rattle.dump_filter.proofs.groups.GroupLemmas.{plain_other, plain_more, any_more}
use Rattle.dump_filter.proofs.groups.NumberLemmas.{first_other, kept_group, passed_keeps}
use Rattle.dump_filter.proofs.knowing.StandsNext.{ends_open}

-- the order: a node follows if there is a group, and a revision if its number rises
module _ (settings : Settings) (before : List DumpRecord) (s : State) (text : List ℕ)
    (st : Stands settings before s text) (r : DumpRecord) where
  -- the last record says whether a node may follow, too
  ends_is : ends_in_group (last_or None before) ≡ takes_node s.group
  ends_is = ends_open settings before s st.shape

  -- a record that may come next isn't out of order
  pub ordered : (is_node r ≡ true → is_revision_record r ≡ false) → is_in_order s r ≡ true → ¬ IsOutOfOrder before r
  ordered alone good (inl bad) =
      let node : is_node r ≡ true = first_true (is_node r) (not (ends_in_group (last_or None before))) bad in
      let none : ends_in_group (last_or None before) ≡ false =
      not-true (ends_in_group (last_or None before))
      (second_true (is_node r) (not (ends_in_group (last_or None before))) bad) in
      let some : takes_node s.group ≡ true = sym (rw node refl) ∙ good in
      absurd_bool (takes_node s.group) some (sym ends_is ∙ none)
  ordered alone good (inr (rev, present, at, low)) =
      let other : is_node r ≡ false =
      false_from_ne_true (is_node r) (λ node. absurd_bool (is_revision_record r) rev (alone node)) in
      let up : rises s.revisions.present (revision_number r) ≡ true = sym (rw (other, rev) refl) ∙ good in
      let above = ltb-true present (revision_number r)
      (ap (λ p. rises p (revision_number r)) (sym (st.present_is ∙ at)) ∙ up) in
      absurd (omega arith)

  -- a record that may not come next is out of order
  pub disordered : is_in_order s r ≡ false → IsOutOfOrder before r
  disordered bad = by_kind (is_node r) (is_revision_record r) refl refl bad
    where
      by_present : is_revision_record r ≡ true → (p : Option ℕ) → s.revisions.present ≡ p
          → rises p (revision_number r) ≡ false → IsOutOfOrder before r
      by_present rev None is low = absurd (false_true (sym low))
      by_present rev (Some p) is low = inr (rev, p, sym st.present_is ∙ is, ltb-false p (revision_number r) low)

      by_kind : (n v : Bool) → is_node r ≡ n → is_revision_record r ≡ v
          → (if n then takes_node s.group else if v then rises s.revisions.present (revision_number r) else true) ≡ false
          → IsOutOfOrder before r
      by_kind true v node is none =
          inl (and_from (is_node r) (not (ends_in_group (last_or None before))) node
          (not_from_false (ends_in_group (last_or None before)) (ends_is ∙ none)))
      by_kind false true other rev low = by_present rev s.revisions.present refl low
      by_kind false false other no_rev no_way = absurd (false_true (sym no_way))

-- a revision above the present one
pub above_present : (s : State) (r : DumpRecord) → is_in_order s r ≡ true → is_node r ≡ false
    → is_revision_record r ≡ true → (p : ℕ) → s.revisions.present ≡ Some p → p < revision_number r
above_present s r good other rev p is =
    ltb-true p (revision_number r) (ap (λ q. rises q (revision_number r)) (sym is) ∙ sym (rw (other, rev) refl) ∙ good)

-- if a node is kept, its group is kept
numbers_with : (settings : Settings) (closed ns : List DumpRecord) (y r : DumpRecord) → is_node y ≡ false
    → is_revision_record y ≡ true → list_all is_plain ns ≡ true → is_plain r ≡ true
    → list_any (is_kept_node settings) (ns ++ r ∷ []) ≡ true
    → kept_numbers settings ((closed ++ y ∷ ns) ++ r ∷ []) ≡ kept_numbers settings closed ++ revision_number y ∷ []
numbers_with settings closed ns y r other rev all plain more =
    ap (kept_numbers settings) (append_assoc closed (y ∷ ns) (r ∷ []))
    ∙ kept_group settings closed (ns ++ r ∷ []) y other rev (plain_more ns r all plain)
    ∙ ap (λ b. kept_numbers settings closed ++ (if b then revision_number y ∷ [] else []))
    (passed_keeps settings y (ns ++ r ∷ []) more)

-- the kept revisions with that of a kept node
pub kept_with_node : (settings : Settings) (before : List DumpRecord) (s : State) (r : DumpRecord)
    → Shape settings before s → s.revisions.kept.first ≡ first_number (revision_numbers before)
    → is_plain r ≡ true → is_kept_node settings r ≡ true → takes_node s.group ≡ true
    → kept_revisions settings (before ++ r ∷ []) ≡ front_kept s.revisions.kept s.group
kept_with_node settings before s r (Fresh t c) first_is plain keep ends = absurd (false_true ends)
kept_with_node settings before s r (Idle t closed y other no_rev c) first_is plain keep ends = absurd (false_true ends)
kept_with_node settings before s r (Passed t closed y ns other rev all some c) first_is plain keep ends =
    let first = first_other (closed ++ y ∷ ns) r (plain_other r plain) ∙ sym first_is in
    let more = any_more settings ns r ∙ ap (λ b. b || is_kept_node settings r) some in
    let numbers = numbers_with settings closed ns y r other rev all plain more ∙ sym c.numbers_are in
    λ i. record { first = first i; numbers = numbers i }
kept_with_node settings before s r (Waits t closed y ns other rev all none c) first_is plain keep ends =
    let first = first_other (closed ++ y ∷ ns) r (plain_other r plain) ∙ sym first_is in
    let more = any_more settings ns r ∙ ap (λ b. b || is_kept_node settings r) none ∙ keep in
    let numbers = numbers_with settings closed ns y r other rev all plain more
    ∙ ap (λ (ns : List ℕ). ns ++ revision_number y ∷ []) (sym c.numbers_are) in
    λ i. record { first = first i; numbers = numbers i }

-- a node that breaks no rule is a copy if its copy revision can be read
copies_told : (number : ℕ) (r : DumpRecord) → IsTrue (is_lawful number r.headers) → is_node r ≡ true
    → is_copy r ≡ is_some (header_number copy_revision_name r.headers)
copies_told number r lawful node =
    let k = keeps number r.headers lawful in
    sym (copy_both r.headers (false_from_ne_true (has_bad_kind r.headers) k.kind) node)
    ∙ copy_there r.headers (false_from_ne_true (has_bad_number r.headers) k.number_ok)

-- what the filter does with a kept node's copy source, or its fault
abbrev pub CopyJudged : Settings → KeptRevisions → ℕ → DumpRecord → Result CopyChange FaultKind → Type 0
CopyJudged settings kept present r (Ok copy) =
    IsNewCopy settings kept r (copied_headers copy r.headers) × (¬ IsTrue (is_orphan settings r))
    × (¬ HasNoSource settings kept present r)
CopyJudged settings kept present r (Err fault) = ((fault ≡ faults.CopySource) × IsTrue (is_orphan settings r))
    ⊎ ((fault ≡ faults.CopyRevision) × (¬ IsTrue (is_orphan settings r)) × HasNoSource settings kept present r)

module _ (settings : Settings) (kept : KeptRevisions) (present : ℕ) (number : ℕ) (r : DumpRecord)
    (lawful : IsTrue (is_lawful number r.headers))
    (node : is_node r ≡ true) where
  -- a copy whose source is kept, or no copy
  module _ (lost : has_lost_source settings r ≡ false) where
    plain_false : becomes_plain settings r ≡ false
    plain_false = ap (λ b. b && is_whole_file r) lost

    no_orphan : ¬ IsTrue (is_orphan settings r)
    no_orphan h = absurd_bool (has_lost_source settings r)
        (first_true (has_lost_source settings r) (not (is_whole_file r)) h) lost

    source_judged : (found : Option ℕ) → header_number copy_revision_name r.headers ≡ found → is_copy r ≡ is_some found
        → CopyJudged settings kept present r (source_change settings kept present found)
    source_judged None at copy = (
      rw (plain_false, copy) refl,
      no_orphan,
      λ h. absurd_bool (is_copy r)
          (first_true (is_copy r) (not (becomes_plain settings r))
          (second_true settings.renumber (stays_copy settings r) h.0)) copy,
    )
    source_judged (Some n) at copy = by_renumber settings.renumber refl
      where
        stays_so : stays_copy settings r ≡ true
        stays_so = and_from (is_copy r) (not (becomes_plain settings r)) copy
            (not_from_false (becomes_plain settings r) plain_false)

        the_number : (m : ℕ) → header_number copy_revision_name r.headers ≡ Some m → m ≡ n
        the_number m is = let same : Some m ≡ Some n = sym is ∙ at in cc

        new : (m : ℕ) → IsWrittenCopyNumber settings kept n m
            → IsNewCopy settings kept r (with_header_value copy_revision_name (spelled_number m) r.headers)
        new m is = rw (plain_false, copy) (n, m, at, is, refl)

        by_image : settings.renumber ≡ true → nat_lt present n ≡ false → (i : Option ℕ) → image kept n ≡ i
            → CopyJudged settings kept present r (imaged i)
        by_image renumber low None is =
            inr (
              refl,
              no_orphan,
              (
                and_from settings.renumber
                    (stays_copy settings r) renumber stays_so,
                n,
                at,
                inl is,
              ),
            )
        by_image renumber low (Some m) is =
            (new m (subst (λ b. MatchBool b (image kept n ≡ Some m) (m ≡ n)) (sym renumber) is), no_orphan, none)
          where
            none : ¬ HasNoSource settings kept present r
            none (on, m', at', inl no_image) =
                let same = the_number m' at' in
                let bad : None ≡ Some m = sym no_image ∙ ap (image kept) same ∙ is in
                cc
            none (on, m', at', inr above) =
                let same = the_number m' at' in
                let under = ltb-false present n low in
                absurd (omega (arith, same, under, above))

        by_place : settings.renumber ≡ true → (b : Bool) → nat_lt present n ≡ b
            → CopyJudged settings kept present r (if b then Err faults.CopyRevision else imaged (image kept n))
        by_place renumber true over =
            inr (
              refl,
              no_orphan,
              (
                and_from settings.renumber (stays_copy settings r) renumber stays_so,
                n,
                at,
                inr
                    (ltb-true present n over),
              ),
            )
        by_place renumber false low = by_image renumber low (image kept n) refl

        by_renumber : (b : Bool) → settings.renumber ≡ b
            → CopyJudged settings kept present r
            (if b then (if nat_lt present n then Err faults.CopyRevision else imaged (image kept n))
            else Ok (copies.Renumbered n))
        by_renumber true renumber = by_place renumber (nat_lt present n) refl
        by_renumber false renumber = (
          new n (subst (λ b. MatchBool b (image kept n ≡ Some n) (n ≡ n)) (sym renumber) refl),
          no_orphan,
          λ h. absurd_bool settings.renumber (first_true settings.renumber (stays_copy settings r) h.0) renumber,
        )

  -- the decision about a kept node's copy source is right: what the filter does with it, or its fault
  pub copy_judged : CopyJudged settings kept present r (copy_change settings kept present r)
  copy_judged = by_lost (has_lost_source settings r) refl
    where
      by_whole : has_lost_source settings r ≡ true → (c : Bool) → is_whole_file r ≡ c
          → CopyJudged settings kept present r (if c then Ok copies.Dropped else Err faults.CopySource)
      by_whole lost true whole =
          let plain : becomes_plain settings r ≡ true =
          and_from (has_lost_source settings r) (is_whole_file r) lost whole in (
            rw plain refl,
            (λ h. absurd_bool (is_whole_file r) whole
                (not-true (is_whole_file r) (second_true (has_lost_source settings r) (not (is_whole_file r)) h))),
            λ h. absurd_bool (becomes_plain settings r) plain (not-true (becomes_plain settings r)
                (second_true (is_copy r) (not (becomes_plain settings r))
                (second_true settings.renumber (stays_copy settings r) h.0))),
          )
      by_whole lost false whole =
          inl (
            refl,
            and_from (has_lost_source settings r) (not (is_whole_file r)) lost
                (not_from_false (is_whole_file r) whole),
          )

      found : has_lost_source settings r ≡ false
          → CopyJudged settings kept present r
          (source_change settings kept present (part_of_node r (header_number copy_revision_name r.headers)))
      found lost = rw node (source_judged lost (header_number copy_revision_name r.headers) refl
          (copies_told number r lawful node))

      by_lost : (b : Bool) → has_lost_source settings r ≡ b
          → CopyJudged settings kept present r
          (if b then (if is_whole_file r then Ok copies.Dropped else Err faults.CopySource)
          else source_change settings kept present (part_of_node r (header_number copy_revision_name r.headers)))
      by_lost true lost = by_whole lost (is_whole_file r) refl
      by_lost false lost = found lost
