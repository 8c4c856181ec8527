-- The kept revisions of records in order, and their new numbers.
use Rattle.dump_filter.proofs.Prelude.{◌≡◌, ℕ, zero, suc, ◌+◌, ◌<◌, ◌≤◌, Bool, true, false, ◌||◌, cond, List, [], ◌∷◌, ◌++◌, nat_lt, refl, ◌∙◌, arith, Option, Some, None, Contains, subst, lt-ltb, nat_tests, sum_by-le-sum_by, DumpRecord, Settings, KeptRevisions, new_number, RiseFrom, below, below-cons, is_revision_record, is_node, group_of, keeps_group, revision_number, revision_numbers, first_number, kept_revisions, AreFaultFree, kept_numbers}
use Rattle.dump_filter.proofs.again.Order.{RisesFrom, present_behind, AreInOrder, in_order}
use Rattle.dump_filter.proofs.again.ReadAgain.{AtEach}

-- the kept numbers of a list, by its first record

-- if the first record is a kept revision, its number comes before the kept numbers of the records after it
pub kept_revision : (settings : Settings) (r : DumpRecord) (rest : List DumpRecord) → is_revision_record r ≡ true
    → keeps_group settings (group_of r rest) ≡ true
    → kept_numbers settings (r ∷ rest) ≡ revision_number r ∷ kept_numbers settings rest
kept_revision settings r rest rev keep = rw rev (rw keep refl)

-- a dropped revision adds no kept number
pub dropped_revision : (settings : Settings) (r : DumpRecord) (rest : List DumpRecord) → is_revision_record r ≡ true
    → keeps_group settings (group_of r rest) ≡ false
    → kept_numbers settings (r ∷ rest) ≡ kept_numbers settings rest
dropped_revision settings r rest rev drop = rw rev (rw drop refl)

-- a record that is no revision adds no kept number
pub no_revision : (settings : Settings) (r : DumpRecord) (rest : List DumpRecord) → is_revision_record r ≡ false
    → kept_numbers settings (r ∷ rest) ≡ kept_numbers settings rest
no_revision settings r rest other = rw other refl

-- they rise

rise_lower : (low high : ℕ) (numbers : List ℕ) → low ≤ high → RiseFrom high numbers → RiseFrom low numbers
rise_lower low high [] within up = tt
rise_lower low high (n ∷ numbers) within up = let over = up.0 in (omega arith, up.1)

rise_next : (settings : Settings) (low : ℕ) (r : DumpRecord) (rest : List DumpRecord) → is_revision_record r ≡ true
    → low ≤ revision_number r
    → RiseFrom (revision_number r + 1) (kept_numbers settings rest) → RiseFrom low (kept_numbers settings (r ∷ rest))
rise_next settings low r rest rev within up = cases (keeps_group settings (group_of r rest)) refl
  where
    cases : (b : Bool) → keeps_group settings (group_of r rest) ≡ b → RiseFrom low (kept_numbers settings (r ∷ rest))
    cases true keep = rw (kept_revision settings r rest rev keep) (within, up)
    cases false drop = rw (dropped_revision settings r rest rev drop)
        (rise_lower low (revision_number r + 1) (kept_numbers settings rest) (omega arith) up)

-- the numbers of records after the present revision begin here
abbrev floor : Option ℕ → List DumpRecord → ℕ
floor None records = first_number (revision_numbers records)
floor (Some present) records = present + 1

floor_here : (p : Option ℕ) (r : DumpRecord) (rest : List DumpRecord) → is_revision_record r ≡ true
    → RisesFrom p (revision_number r) → floor p (r ∷ rest) ≤ revision_number r
floor_here None r rest rev above =
    let first : first_number (revision_numbers (r ∷ rest)) ≡ revision_number r = rw rev refl in omega (arith, first)
floor_here (Some q) r rest rev above = omega (arith, above)

floor_later : (p : Option ℕ) (r : DumpRecord) (rest : List DumpRecord) → is_revision_record r ≡ false
    → floor p (r ∷ rest) ≡ floor p rest
floor_later None r rest other = rw other refl
floor_later (Some q) r rest other = refl

rise_from : (settings : Settings) (g : Bool) (p : Option ℕ) (records : List DumpRecord) → AreInOrder g p records
    → RiseFrom (floor p records) (kept_numbers settings records)
rise_from settings g p [] are = tt
rise_from settings g p (r ∷ rest) are = cases (is_revision_record r) refl
    (λ h q is. rise_from settings h q rest is) are.2
  where
    cases : (b : Bool) → is_revision_record r ≡ b
        → ((h : Bool) (q : Option ℕ) → AreInOrder h q rest → RiseFrom (floor q rest) (kept_numbers settings rest))
        → AreInOrder (is_revision_record r || is_node r) (present_behind p r) rest
        → RiseFrom (floor p (r ∷ rest)) (kept_numbers settings (r ∷ rest))
    cases true rev later order =
        rise_next settings (floor p (r ∷ rest)) r rest rev (floor_here p r rest rev (are.1 rev))
        (later _ (Some (revision_number r)) (rw rev at order))
    cases false other later order =
        rw (floor_later p r rest other, no_revision settings r rest other) (later _ p (rw other at order))

-- if no record has a fault, the kept numbers rise from the number of the first revision on
pub kept_rise : (settings : Settings) (records : List DumpRecord) → AreFaultFree settings records
    → RiseFrom (kept_revisions settings records).first (kept_revisions settings records).numbers
kept_rise settings records free = rise_from settings false None records (in_order settings records free)

-- new numbers

below_step : (a b n : ℕ) → a ≤ b → cond (nat_lt n a) 1 0 ≤ cond (nat_lt n b) 1 0
below_step a b n low = grind (arith, nat_tests)

below_over : (a b : ℕ) (numbers : List ℕ) → Contains numbers a → a < b → below a numbers < below b numbers
below_over a b [] has low = let within = has.1 in absurd (omega arith)
below_over a b (n ∷ numbers) (zero, within, is) low =
    let here : n ≡ a = is in
    let rest = sum_by-le-sum_by (λ k. cond (nat_lt k a) 1 0) (λ k. cond (nat_lt k b) 1 0) numbers
    (λ k. below_step a b k (omega arith)) in
    let none : nat_lt n a ≡ false = grind (arith, nat_tests) in
    let one : nat_lt n b ≡ true = grind (arith, nat_tests) in
    let lower : below a (n ∷ numbers) ≡ 0 + below a numbers = below-cons a n numbers ∙ rw none refl in
    let higher : below b (n ∷ numbers) ≡ 1 + below b numbers = below-cons b n numbers ∙ rw one refl in
    omega arith
below_over a b (n ∷ numbers) (suc i, within, is) low =
    let rest = below_over a b numbers (i, omega arith, is) low in
    let first = below-cons a n numbers in
    let second = below-cons b n numbers in
    let step = below_step a b n (omega arith) in
    omega arith

-- the new numbers of a kept revision and of any later one
pub new_number_rises : (kept : KeptRevisions) (a b : ℕ) → Contains kept.numbers a → a < b
    → new_number kept a < new_number kept b
new_number_rises kept a b has low = let under = below_over a b kept.numbers has low in omega arith

-- revision 0 is always kept, so that each other kept one has one below it
zero_kept : (settings : Settings) (records : List DumpRecord) → first_number (revision_numbers records) ≡ 0 → (k : ℕ)
    → Contains (kept_numbers settings records) k → 1 ≤ k
    → 1 ≤ below k (kept_numbers settings records)
zero_kept settings [] first k has some = let within = has.1 in absurd (omega arith)
zero_kept settings (r ∷ rest) first k has some = cases (is_revision_record r) refl
    (λ is in_rest. zero_kept settings rest is k in_rest some)
  where
    cases : (b : Bool) → is_revision_record r ≡ b
        → (first_number (revision_numbers rest) ≡ 0 → Contains (kept_numbers settings rest) k
        → 1 ≤ below k (kept_numbers settings rest))
        → 1 ≤ below k (kept_numbers settings (r ∷ rest))
    cases true rev later =
        let is : revision_number r ≡ 0 = rw rev at first in
        let keep : keeps_group settings (group_of r rest) ≡ true = rw is refl in
        let one : nat_lt (revision_number r) k ≡ true = lt-ltb (revision_number r) k (omega arith) in
        let counted : below k (revision_number r ∷ kept_numbers settings rest)
        ≡ 1 + below k (kept_numbers settings rest) =
        below-cons k (revision_number r) (kept_numbers settings rest) ∙ rw one refl in
        rw (kept_revision settings r rest rev keep) (omega arith)
    cases false other later =
        let is : first_number (revision_numbers rest) ≡ 0 = rw other at first in
        let in_rest = rw (no_revision settings r rest other) at has in
        rw (no_revision settings r rest other) (later is in_rest)

-- a kept revision above 0 gets a new number above 0
pub positive : (settings : Settings) (records : List DumpRecord) (k : ℕ)
    → Contains (kept_revisions settings records).numbers k → 1 ≤ k
    → 1 ≤ new_number (kept_revisions settings records) k
positive settings records k has some = cases (first_number (revision_numbers records)) refl
  where
    cases : (first : ℕ) → first_number (revision_numbers records) ≡ first
        → 1 ≤ new_number (kept_revisions settings records) k
    cases zero is = let under = zero_kept settings records is k has some in omega arith
    cases (suc n) is = omega arith

-- no revision is below the first one

above_each : (first : ℕ) (before : List DumpRecord) (g : Bool) (p : Option ℕ) (records : List DumpRecord)
    → first ≤ floor p records → AreInOrder g p records
    → AtEach (λ done r after. is_revision_record r ≡ true → first ≤ revision_number r) before records
above_each first before g p [] low are = tt
above_each first before g p (r ∷ rest) low are = (
  here,
  cases (is_revision_record r) refl (λ h q over is. above_each first (before ++ r ∷ []) h q rest over is) are.2,
)
  where
    here : is_revision_record r ≡ true → first ≤ revision_number r
    here rev = let over = floor_here p r rest rev (are.1 rev) in omega (arith, low, over)

    cases : (b : Bool) → is_revision_record r ≡ b
        → ((h : Bool) (q : Option ℕ) → first ≤ floor q rest → AreInOrder h q rest
        → AtEach (λ done x after. is_revision_record x ≡ true → first ≤ revision_number x) (before ++ r ∷ []) rest)
        → AreInOrder (is_revision_record r || is_node r) (present_behind p r) rest
        → AtEach (λ done x after. is_revision_record x ≡ true → first ≤ revision_number x) (before ++ r ∷ []) rest
    cases true rev later order =
        later _ (Some (revision_number r)) (let within = here rev in omega (arith, within)) (rw rev at order)
    cases false other later order =
        later _ p (subst (λ n. first ≤ n) (floor_later p r rest other) low) (rw other at order)

-- if no record has a fault, no revision's number is below that of the first one
pub revisions_above : (settings : Settings) (records : List DumpRecord) → AreFaultFree settings records
    → AtEach (λ before r after. is_revision_record r ≡ true
    → (kept_revisions settings records).first ≤ revision_number r) [] records
revisions_above settings records free =
    above_each (kept_revisions settings records).first [] false None records (omega arith)
    (in_order settings records free)
