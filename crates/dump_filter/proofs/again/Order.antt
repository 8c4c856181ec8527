-- Records in order: nodes in groups, and revision numbers that rise.
use Rattle.dump_filter.proofs.Prelude.{◌≡◌, ℕ, ◌<◌, Bool, true, false, ◌||◌, List, [], ◌∷◌, ◌++◌, refl, sym, ap, ◌∙◌, subst, arith, append_assoc, inl, inr, Option, Some, None, MatchOption, not, ◌&&◌, if◌then◌else◌, last_or_pushed, ⊤, last_or, transport, leb_tells, DumpRecord, Settings, is_revision_record, is_node, revision_number, revision_numbers, present_revision, ends_in_group, IsOutOfOrder, AreFaultFree, absurd_bool}
use Rattle.std.proofs.lemmas.List.{append-nil}
use Rattle.dump_text.specs.declared.fault.FaultKind.TheVariants as faults
use Rattle.dump_filter.proofs.groups.NumberLemmas.{numbers_more}

-- whether a revision of this number may follow the present one
abbrev pub RisesFrom : Option ℕ → ℕ → Type 0
RisesFrom present number = MatchOption present ⊤ (λ q. q < number)

-- the present revision after a record
abbrev pub present_behind : Option ℕ → DumpRecord → Option ℕ
present_behind present r = if is_revision_record r then Some (revision_number r) else present

-- the records are in order; a node may come first or not, and numbers rise from the present revision on
abbrev pub AreInOrder : Bool → Option ℕ → List DumpRecord → Type 0
AreInOrder open_group present [] = Unit {0}
AreInOrder open_group present (r ∷ rest) = (is_node r ≡ true → open_group ≡ true)
    × (is_revision_record r ≡ true → RisesFrom present (revision_number r))
    × AreInOrder (is_revision_record r || is_node r) (present_behind present r) rest

-- one more record

present_more : (before : List DumpRecord) (r : DumpRecord) → present_revision (before ++ r ∷ []) ≡ present_behind
    (present_revision before) r
present_more before r = ap (last_or None) (numbers_more before r) ∙ cases (is_revision_record r)
  where
    cases : (b : Bool) → last_or None (revision_numbers before ++ (if b then revision_number r ∷ [] else []))
        ≡ (if b then Some (revision_number r) else present_revision before)
    cases true = last_or_pushed None (revision_numbers before) (revision_number r)
    cases false = ap (last_or None) (append-nil (revision_numbers before))

ends_more : (before : List DumpRecord) (r : DumpRecord) → ends_in_group (last_or None (before ++ r ∷ [])) ≡
    (is_revision_record r || is_node r)
ends_more before r = ap ends_in_group (last_or_pushed None before r)

-- records after others are in order
abbrev AreInOrderBehind : List DumpRecord → List DumpRecord → Type 0
AreInOrderBehind before rest = AreInOrder (ends_in_group (last_or None before)) (present_revision before) rest

order_moves : (before : List DumpRecord) (r : DumpRecord) (rest : List DumpRecord)
    → AreInOrderBehind (before ++ r ∷ []) rest
    ≡ AreInOrder (is_revision_record r || is_node r) (present_behind (present_revision before) r) rest
order_moves before r rest = λ i. AreInOrder (ends_more before r i) (present_more before r i) rest

-- from records that aren't out of order

node_follows : (before : List DumpRecord) (r : DumpRecord) → ¬ IsOutOfOrder before r → is_node r ≡ true
    → ends_in_group (last_or None before) ≡ true
node_follows before r fine node = cases (ends_in_group (last_or None before)) refl
  where
    cases : (b : Bool) → ends_in_group (last_or None before) ≡ b → b ≡ true
    cases true is = refl
    cases false is = absurd (fine (inl (rw (node, is) refl)))

number_rises : (before : List DumpRecord) (r : DumpRecord) → ¬ IsOutOfOrder before r → is_revision_record r ≡ true
    → RisesFrom (present_revision before) (revision_number r)
number_rises before r fine rev = cases (present_revision before) refl
  where
    cases : (p : Option ℕ) → present_revision before ≡ p → RisesFrom p (revision_number r)
    cases None is = tt
    cases (Some q) is = elim (leb_tells (revision_number r) q) [
      | inl low ↦ absurd (fine (inr (rev, q, is, low.1)))
      | inr high ↦ high.1
    ]

order_behind : (settings : Settings) (before rest : List DumpRecord) → AreFaultFree settings (before ++ rest)
    → AreInOrderBehind before rest
order_behind settings before [] free = tt
order_behind settings before (r ∷ rest) free =
    let fine = free before rest r refl faults.Order in
    let moved : (before ++ r ∷ []) ++ rest ≡ before ++ r ∷ rest = append_assoc before (r ∷ []) rest in (
      node_follows before r fine,
      number_rises before r fine,
      transport (order_moves before r rest) (order_behind settings (before ++ r ∷ []) rest
          (subst (AreFaultFree settings) (sym moved) free)),
    )

-- records without a fault are in order
pub in_order : (settings : Settings) (records : List DumpRecord) → AreFaultFree settings records
    → AreInOrder false None records
in_order settings records free = order_behind settings [] records free

-- and the other way around

fits_order : (before : List DumpRecord) (r : DumpRecord)
    → (is_node r ≡ true → ends_in_group (last_or None before) ≡ true)
    → (is_revision_record r ≡ true → RisesFrom (present_revision before) (revision_number r)) → ¬ IsOutOfOrder before r
fits_order before r node rev (inl bad) = lone (is_node r) (ends_in_group (last_or None before)) node bad
  where
    lone : (n g : Bool) → (n ≡ true → g ≡ true) → (n && not g) ≡ true → ⊥
    lone true true follows h = cc
    lone true false follows h = absurd_bool false (follows refl) refl
    lone false g follows h = cc
fits_order before r node rev (inr (is_rev, present, is, low)) = cases
    (subst (λ (p : Option ℕ). RisesFrom p (revision_number r)) is (rev is_rev))
  where
    cases : present < revision_number r → ⊥
    cases high = omega arith

order_split : (before mid after : List DumpRecord) (r : DumpRecord) → AreInOrderBehind before (mid ++ r ∷ after)
    → ¬ IsOutOfOrder (before ++ mid) r
order_split before [] after r are =
    subst (λ (l : List DumpRecord). ¬ IsOutOfOrder l r) (sym (append-nil before)) (fits_order before r are.0 are.1)
order_split before (x ∷ mid) after r are =
    subst (λ (l : List DumpRecord). ¬ IsOutOfOrder l r) (append_assoc before (x ∷ []) mid)
    (order_split (before ++ x ∷ []) mid after r (transport (sym (order_moves before x (mid ++ r ∷ after))) are.2))

-- no record of a list in order is out of order after those before it
pub order_fits : (records : List DumpRecord) → AreInOrder false None records → (before after : List DumpRecord)
    (r : DumpRecord)
    → records ≡ before ++ r ∷ after → ¬ IsOutOfOrder before r
order_fits records are before after r is = order_split [] before after r
    (subst (λ (l : List DumpRecord). AreInOrder false None l) is are)
