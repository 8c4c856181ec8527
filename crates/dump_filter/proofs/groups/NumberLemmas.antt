-- The revisions of a list of records: their numbers, the first, the present one, and the kept ones.
use Rattle.dump_filter.proofs.Prelude.{◌≡◌, ℕ, ◌+◌, ◌==◌, Bool, true, false, ◌||◌, List, [], ◌∷◌, ◌++◌, length, map, filter, refl, ap, ◌∙◌, arith, Some, None, count_by, if◌then◌else◌, last_or_pushed, list_all, list_any, last_or, map-append, filter-append, sum_by-append, DumpRecord, Settings, is_revision_record, is_node, is_kept_node, Group, groups, group_number, keeps_group, keeps_empty, revision_number, revision_numbers, first_number, present_revision, is_plain, kept_numbers}
use Rattle.std.proofs.lemmas.List.{append-nil}
use Rattle.dump_filter.proofs.groups.GroupLemmas.{groups_before, groups_revision, groups_other}

-- the numbers with one more record
pub numbers_more : (before : List DumpRecord) (r : DumpRecord) → revision_numbers (before ++ r ∷ [])
    ≡ revision_numbers before ++ (if is_revision_record r then revision_number r ∷ [] else [])
numbers_more [] r = cases (is_revision_record r) refl
  where
    cases : (b : Bool) → is_revision_record r ≡ b
        → revision_numbers (r ∷ []) ≡ (if b then revision_number r ∷ [] else [])
    cases true is = rw is refl
    cases false is = rw is refl
numbers_more (x ∷ before) r = cases (is_revision_record x) refl (numbers_more before r)
  where
    own : List ℕ
    own = if is_revision_record r then revision_number r ∷ [] else []

    cases : (b : Bool) → is_revision_record x ≡ b → revision_numbers (before ++ r ∷ []) ≡ revision_numbers before ++ own
        → revision_numbers (x ∷ (before ++ r ∷ [])) ≡ revision_numbers (x ∷ before) ++ own
    cases true is more = rw is (ap (λ (t : List ℕ). revision_number x ∷ t) more)
    cases false is more = rw is more

pub numbers_other : (before : List DumpRecord) (r : DumpRecord) → is_revision_record r ≡ false
    → revision_numbers (before ++ r ∷ []) ≡ revision_numbers before
numbers_other before r other =
    numbers_more before r
    ∙ ap (λ b. revision_numbers before ++ (if b then revision_number r ∷ [] else [])) other
    ∙ append-nil (revision_numbers before)

pub numbers_revision : (before : List DumpRecord) (r : DumpRecord) (ns : List DumpRecord) → is_node r ≡ false
    → is_revision_record r ≡ true → list_all is_plain ns ≡ true
    → revision_numbers (before ++ r ∷ ns) ≡ revision_numbers before ++ revision_number r ∷ []
numbers_revision before r ns other rev all =
    ap (map group_number) (groups_before before ns r other ∙ ap (λ (gs : List Group). groups before ++ gs)
    (groups_revision r ns rev all))
    ∙ map-append group_number (groups before) (record { revision = r; nodes = ns } ∷ [])

-- a record that is no revision leaves the present revision as it is
pub present_other : (before : List DumpRecord) (r : DumpRecord) → is_revision_record r ≡ false
    → present_revision (before ++ r ∷ []) ≡ present_revision before
present_other before r other = ap (last_or None) (numbers_other before r other)

-- after a revision and its nodes that revision is the present one
pub present_group : (before : List DumpRecord) (r : DumpRecord) (ns : List DumpRecord) → is_node r ≡ false
    → is_revision_record r ≡ true → list_all is_plain ns ≡ true
    → present_revision (before ++ r ∷ ns) ≡ Some (revision_number r)
present_group before r ns other rev all = ap (last_or None) (numbers_revision before r ns other rev all)
    ∙ last_or_pushed None (revision_numbers before) (revision_number r)

-- a record that is no revision leaves the first number as it is
pub first_other : (before : List DumpRecord) (r : DumpRecord) → is_revision_record r ≡ false
    → first_number (revision_numbers (before ++ r ∷ [])) ≡ first_number (revision_numbers before)
first_other before r other = ap first_number (numbers_other before r other)

some_last : (p : ℕ) (ns : List ℕ) → last_or (Some p) ns ≡ None → ⊥
some_last p [] e = cc
some_last p (n ∷ ns) e = some_last n ns e

-- before the first revision there is none
pub no_numbers : (before : List DumpRecord) → present_revision before ≡ None → revision_numbers before ≡ []
no_numbers before none = cases (revision_numbers before) none
  where
    cases : (ns : List ℕ) → last_or None ns ≡ None → ns ≡ []
    cases [] e = refl
    cases (n ∷ ns) e = absurd (some_last n ns e)

-- the first revision stays the first
pub first_stays : (before : List DumpRecord) (r : DumpRecord) (present : ℕ) → is_node r ≡ false
    → is_revision_record r ≡ true → present_revision before ≡ Some present
    → first_number (revision_numbers (before ++ r ∷ [])) ≡ first_number (revision_numbers before)
first_stays before r present other rev is = ap first_number (numbers_revision before r [] other rev refl)
    ∙ cases (revision_numbers before) is
  where
    cases : (ns : List ℕ) → last_or None ns ≡ Some present
        → first_number (ns ++ revision_number r ∷ []) ≡ first_number ns
    cases [] e = cc
    cases (n ∷ ns) e = refl

-- the first revision's number is the first number
pub first_begins : (before : List DumpRecord) (r : DumpRecord) → is_node r ≡ false → is_revision_record r ≡ true
    → present_revision before ≡ None
    → first_number (revision_numbers (before ++ r ∷ [])) ≡ revision_number r
first_begins before r other rev none =
    ap first_number (numbers_revision before r [] other rev refl ∙ ap (λ (ns : List ℕ). ns ++ revision_number r ∷ [])
    (no_numbers before none))

-- the kept revisions of a list that ends with a group
pub kept_group : (settings : Settings) (closed ns : List DumpRecord) (y : DumpRecord) → is_node y ≡ false
    → is_revision_record y ≡ true → list_all is_plain ns ≡ true
    → kept_numbers settings (closed ++ y ∷ ns)
    ≡ kept_numbers settings closed ++ (if keeps_group settings
    (record { revision = y; nodes = ns }) then revision_number y ∷ [] else [])
kept_group settings closed ns y other rev all =
    let g : Group = record { revision = y; nodes = ns } in
    ap (λ (gs : List Group). map group_number (filter (keeps_group settings) gs))
    (groups_before closed ns y other ∙ ap (λ (gs : List Group). groups closed ++ gs) (groups_revision y ns rev all))
    ∙ ap (map group_number) (filter-append (keeps_group settings) (groups closed) (g ∷ []))
    ∙ map-append group_number (filter (keeps_group settings) (groups closed)) (filter (keeps_group settings) (g ∷ []))
    ∙ ap (λ (ns : List ℕ). kept_numbers settings closed ++ ns) (one g)
  where
    one : (g : Group) → map group_number (filter (keeps_group settings) (g ∷ [])) ≡
        (if keeps_group settings g then group_number g ∷ [] else [])
    one g = by_case (keeps_group settings g) refl
      where
        by_case : (b : Bool) → keeps_group settings g ≡ b → map group_number (filter (keeps_group settings) (g ∷ [])) ≡
            (if b then group_number g ∷ [] else [])
        by_case true is = rw is refl
        by_case false is = rw is refl

-- a version or UUID record adds no kept number
pub kept_other : (settings : Settings) (closed : List DumpRecord) (y : DumpRecord) → is_node y ≡ false
    → is_revision_record y ≡ false
    → kept_numbers settings (closed ++ y ∷ []) ≡ kept_numbers settings closed
kept_other settings closed y other no_rev =
    ap (λ (gs : List Group). map group_number (filter (keeps_group settings) gs))
    (groups_before closed [] y other ∙ ap (λ (gs : List Group). groups closed ++ gs) (groups_other y no_rev)
    ∙ append-nil (groups closed))

-- counts of groups
pub count_one : {X : Type 0} (p : X → Bool) (xs : List X) (x : X) → count_by p (xs ++ x ∷ []) ≡ count_by p xs +
    (if p x then 1 else 0)
count_one p xs x = sum_by-append (λ y. if p y then 1 else 0) xs (x ∷ []) ∙ ap (λ n. count_by p xs + n) (omega arith)

-- a revision and its nodes add one group to a count, if it is counted
pub group_counts : (p : Group → Bool) (closed ns : List DumpRecord) (y : DumpRecord) → is_node y ≡ false
    → is_revision_record y ≡ true → list_all is_plain ns ≡ true
    → count_by p (groups (closed ++ y ∷ ns)) ≡ count_by p (groups closed) +
    (if p (record { revision = y; nodes = ns }) then 1 else 0)
group_counts p closed ns y other rev all =
    ap (count_by p) (groups_before closed ns y other ∙ ap (λ (gs : List Group). groups closed ++ gs)
    (groups_revision y ns rev all))
    ∙ count_one p (groups closed) (record { revision = y; nodes = ns })

-- a version or UUID record adds no group to a count
pub other_counts : (p : Group → Bool) (closed : List DumpRecord) (y : DumpRecord) → is_node y ≡ false
    → is_revision_record y ≡ false
    → count_by p (groups (closed ++ y ∷ [])) ≡ count_by p (groups closed)
other_counts p closed y other no_rev =
    ap (count_by p) (groups_before closed [] y other ∙ ap (λ (gs : List Group). groups closed ++ gs)
    (groups_other y no_rev) ∙ append-nil (groups closed))

-- a group with a kept node is kept
pub passed_keeps : (settings : Settings) (y : DumpRecord) (ns : List DumpRecord)
    → list_any (is_kept_node settings) ns ≡ true
    → keeps_group settings (record { revision = y; nodes = ns }) ≡ true
passed_keeps settings y ns some =
    ap (λ b. revision_number y == 0 || b || keeps_empty settings.empty (length ns == 0)) some
    ∙ mix (revision_number y == 0) (keeps_empty settings.empty (length ns == 0))
  where
    mix : (a b : Bool) → ((a || true) || b) ≡ true
    mix true b = refl
    mix false b = refl
