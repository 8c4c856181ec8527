-- The kept revisions so far, and those of the whole list.
use Rattle.dump_filter.proofs.Prelude.{◌≡◌, ℕ, ◌+◌, ◌<◌, ◌≤◌, Bool, true, false, List, [], ◌∷◌, ◌++◌, length, refl, sym, ap, ◌∙◌, arith, append_assoc, All, if◌then◌else◌, All-append, All-cons, All-head, All-nil, All-tail, DumpRecord, Settings, KeptRevisions, new_number, image, new_number_above, new_number_pushed, image_pushed, rise_pushed, revision_number, written_number, PendingRevision, PresentGroup, NoGroup, Pending, Written, stays, next_number, with_kept, front_kept, end_kept, open_from, GoesOn, AreRising}
use Rattle.std.proofs.lemmas.List.{append-nil}

-- the same claim of each number, weakened
pub all_weaker : (P Q : ℕ → Type 0) (ns : List ℕ) → ((n : ℕ) → P n → Q n) → All P ns → All Q ns
all_weaker P Q ns weaker all = λ k d low. weaker _ (all k d low)

all_one : (P : ℕ → Type 0) (n : ℕ) → P n → All P (n ∷ [])
all_one P n p = All-cons P n [] p (All-nil P)

-- later numbers change nothing below them
number_goes_on : (first : ℕ) (numbers later : List ℕ) (m : ℕ) → All (λ n. m ≤ n) later
    → new_number (record { first = first; numbers = numbers ++ later }) m
    ≡ new_number (record { first = first; numbers = numbers }) m
number_goes_on first numbers [] m all =
    ap (λ ns. new_number (record { first = first; numbers = ns }) m) (append-nil numbers)
number_goes_on first numbers (n ∷ later) m all =
    ap (λ ns. new_number (record { first = first; numbers = ns }) m) (sym (append_assoc numbers (n ∷ []) later))
    ∙ number_goes_on first (numbers ++ n ∷ []) later m (All-tail (λ k. m ≤ k) n later all)
    ∙ new_number_pushed (record { first = first; numbers = numbers }) n m (All-head (λ k. m ≤ k) n later all)

image_goes_on : (first : ℕ) (numbers later : List ℕ) (m : ℕ) → All (λ n. m < n) later
    → image (record { first = first; numbers = numbers ++ later }) m
    ≡ image (record { first = first; numbers = numbers }) m
image_goes_on first numbers [] m all = ap (λ ns. image (record { first = first; numbers = ns }) m) (append-nil numbers)
image_goes_on first numbers (n ∷ later) m all =
    ap (λ ns. image (record { first = first; numbers = ns }) m) (sym (append_assoc numbers (n ∷ []) later))
    ∙ image_goes_on first (numbers ++ n ∷ []) later m (All-tail (λ k. m < k) n later all)
    ∙ image_pushed (record { first = first; numbers = numbers }) n m (All-head (λ k. m < k) n later all)

-- the kept revisions of a list that goes on are those kept so far and the later ones
pub whole_is : (kept : KeptRevisions) (from : ℕ) (whole : KeptRevisions) (g : GoesOn kept from whole)
    → whole ≡ record { first = kept.first; numbers = kept.numbers ++ g.later }
whole_is kept from whole g = λ i. record { first = g.first_is i; numbers = g.numbers_are i }

-- the image of a number below all that may come
pub image_kept : (kept : KeptRevisions) (from : ℕ) (whole : KeptRevisions) (m : ℕ) → GoesOn kept from whole → m < from
    → image whole m ≡ image kept m
image_kept kept from whole m g low =
    ap (λ (k : KeptRevisions). image k m) (whole_is kept from whole g)
    ∙ image_goes_on kept.first kept.numbers g.later m
    (all_weaker (λ n. from ≤ n) (λ n. m < n) g.later (λ n up. omega (arith, up, low)) g.behind)

-- the number of a revision that comes after all kept ones
pub next_written : (settings : Settings) (kept : KeptRevisions) (from : ℕ) (whole : KeptRevisions) (r : DumpRecord)
    → GoesOn kept from whole
    → revision_number r ≤ from → All (λ n. n < revision_number r) kept.numbers
    → written_number settings whole (revision_number r) ≡ next_number settings kept r
next_written settings kept from whole r g low below = by_case settings.renumber
  where
    at : new_number whole (revision_number r) ≡ kept.first + length kept.numbers
    at = ap (λ (k : KeptRevisions). new_number k (revision_number r)) (whole_is kept from whole g)
        ∙ number_goes_on kept.first kept.numbers g.later (revision_number r)
        (all_weaker (λ n. from ≤ n) (λ n. revision_number r ≤ n) g.later (λ n up. omega (arith, up, low)) g.behind)
        ∙ new_number_above kept (revision_number r) below

    by_case : (b : Bool) → (if b then new_number whole (revision_number r) else revision_number r)
        ≡ (if b then kept.first + length kept.numbers else revision_number r)
    by_case true = at
    by_case false = refl

-- what may come after a pending revision that is kept might come before
reopened : (kept whole : KeptRevisions) (r : DumpRecord) (p q : ℕ) → revision_number r ≡ p → p ≤ q
    → GoesOn (with_kept kept r) q whole → GoesOn kept p whole
reopened kept whole r p q is low g = record {
  first_is = g.first_is;
  later = revision_number r ∷ g.later;
  numbers_are = g.numbers_are ∙ append_assoc kept.numbers (revision_number r ∷ []) g.later;
  behind = All-cons (λ n. p ≤ n) (revision_number r) g.later (omega (arith, is))
      (all_weaker (λ n. q ≤ n) (λ n. p ≤ n) g.later (λ n up. omega (arith, up, low)) g.behind);
}

-- a list that goes on from a number goes on from a lower one, too
pub lowered : (kept whole : KeptRevisions) (p q : ℕ) → p ≤ q → GoesOn kept q whole → GoesOn kept p whole
lowered kept whole p q low g = record {
  first_is = g.first_is;
  later = g.later;
  numbers_are = g.numbers_are;
  behind = all_weaker (λ n. q ≤ n) (λ n. p ≤ n) g.later (λ n up. omega (arith, up, low)) g.behind;
}

-- a list that goes on where the pending revision is kept goes on from the least number that was open
pub front_reopened : (kept whole : KeptRevisions) (group : PresentGroup) (present : ℕ) → AreRising kept present group
    → GoesOn (front_kept kept group) (present + 1) whole → GoesOn kept (open_from present group) whole
front_reopened kept whole NoGroup present up g = g
front_reopened kept whole Written present up g = g
front_reopened kept whole (Pending w) present up g =
    reopened kept whole w.revision present (present + 1) up.waits (omega arith) g

-- a list that goes on after the group's end goes on from the least number that was open
pub end_reopened : (settings : Settings) (kept whole : KeptRevisions) (group : PresentGroup) (present next : ℕ)
    → AreRising kept present group → present < next
    → GoesOn (end_kept settings kept group) next whole → GoesOn kept (open_from present group) whole
end_reopened settings kept whole NoGroup present next up low g =
    lowered kept whole (present + 1) next (omega (arith, low)) g
end_reopened settings kept whole Written present next up low g =
    lowered kept whole (present + 1) next (omega (arith, low)) g
end_reopened settings kept whole (Pending w) present next up low g = by_case (stays settings w) g
  where
    by_case : (b : Bool) → GoesOn (if b then with_kept kept w.revision else kept) next whole → GoesOn kept present whole
    by_case true h = reopened kept whole w.revision present next up.waits (omega (arith, low)) h
    by_case false h = lowered kept whole present next (omega (arith, low)) h

-- the kept revisions go on rising
pushed_rising : (kept : KeptRevisions) (r : DumpRecord) (bare : Bool) (present : ℕ)
    → AreRising kept present (Pending (record { revision = r; bare = bare }))
    → AreRising (with_kept kept r) present NoGroup
pushed_rising kept r bare present up =
    let at = up.waits in
    let low = up.low in
    let below : All (λ n. n < revision_number r) kept.numbers =
    all_weaker (λ n. n < present) (λ n. n < revision_number r) kept.numbers
    (λ n under. omega (arith, under, at)) up.below in
    record {
      low = low;
      rise = rise_pushed kept.first (revision_number r) kept.numbers up.rise below (omega (arith, at, low));
      below = All-append (λ n. n < present + 1) kept.numbers (revision_number r ∷ [])
          (all_weaker (λ n. n < present) (λ n. n < present + 1) kept.numbers (λ n under. omega (arith, under)) up.below)
          (all_one (λ n. n < present + 1) (revision_number r) (omega (arith, at)));
      waits = tt;
    }

dropped_rising : (kept : KeptRevisions) (w : PendingRevision) (present : ℕ) → AreRising kept present (Pending w)
    → AreRising kept present NoGroup
dropped_rising kept w present up = record {
  low = up.low;
  rise = up.rise;
  below = all_weaker (λ n. n < present) (λ n. n < present + 1) kept.numbers (λ n under. omega (arith, under)) up.below;
  waits = tt;
}

-- without a pending revision it is the same whether there is a group
written_rising : (kept : KeptRevisions) (present : ℕ) → AreRising kept present NoGroup → AreRising kept present Written
written_rising kept present up = record { low = up.low; rise = up.rise; below = up.below; waits = tt }

closed_rising : (kept : KeptRevisions) (present : ℕ) → AreRising kept present Written → AreRising kept present NoGroup
closed_rising kept present up = record { low = up.low; rise = up.rise; below = up.below; waits = tt }

-- the kept revisions rise where a pending one is kept for its node
pub front_rising : (kept : KeptRevisions) (group : PresentGroup) (present : ℕ) → AreRising kept present group
    → AreRising (front_kept kept group) present Written
front_rising kept NoGroup present up = written_rising kept present up
front_rising kept Written present up = up
front_rising kept (Pending w) present up =
    written_rising (with_kept kept w.revision) present (pushed_rising kept w.revision w.bare present up)

-- the kept revisions rise where the present group ends
pub end_rising : (settings : Settings) (kept : KeptRevisions) (group : PresentGroup) (present : ℕ)
    → AreRising kept present group
    → AreRising (end_kept settings kept group) present NoGroup
end_rising settings kept NoGroup present up = up
end_rising settings kept Written present up = closed_rising kept present up
end_rising settings kept (Pending w) present up = by_case (stays settings w)
  where
    by_case : (b : Bool) → AreRising (if b then with_kept kept w.revision else kept) present NoGroup
    by_case true = pushed_rising kept w.revision w.bare present up
    by_case false = dropped_rising kept w present up

-- a revision that becomes pending
pub next_rising : (kept : KeptRevisions) (r : DumpRecord) (present : ℕ) → AreRising kept present NoGroup
    → present < revision_number r
    → AreRising kept (revision_number r) (Pending (record { revision = r; bare = true }))
next_rising kept r present up above = let low = up.low in record {
  low = omega (arith, low, above);
  rise = up.rise;
  below = all_weaker (λ n. n < present + 1) (λ n. n < revision_number r) kept.numbers
      (λ n under. omega (arith, under, above)) up.below;
  waits = refl;
}

-- where the first revision is pending and none is kept yet, the kept revisions rise
pub first_rising : (r : DumpRecord)
    → AreRising (record { first = revision_number r; numbers = [] }) (revision_number r)
    (Pending (record { revision = r; bare = true }))
first_rising r = record { low = omega arith; rise = tt; below = All-nil (λ n. n < revision_number r); waits = refl }

-- the pending revision is above all kept ones
pub below_pending : (kept : KeptRevisions) (w : PendingRevision) (present : ℕ) → AreRising kept present (Pending w)
    → All (λ n. n < revision_number w.revision) kept.numbers
below_pending kept w present up =
    let at = up.waits in
    all_weaker (λ n. n < present) (λ n. n < revision_number w.revision) kept.numbers
    (λ n under. omega (arith, under, at)) up.below
