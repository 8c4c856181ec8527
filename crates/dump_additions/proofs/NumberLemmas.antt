-- What is given for the nodes of a dump, and what is in place of their changes.
use Rattle.std.proofs.Common.{◌≡◌, ℕ, suc, ◌<◌, ◌≤◌, Bool, true, false, ◌&&◌, ◌==◌, cond, List, [], ◌∷◌, map, nat_lt, nat_le, refl, sym, ap, ◌∙◌, subst, arith}
use Rattle.std.specs.Prelude.{if◌then◌else◌}
use Rattle.std.specs.List.{list_all}
use Rattle.std.proofs.lemmas.Bool.{and_from, and_parts, eq-eqb, eqb-true, false_from_ne_true, le-leb, leb-true, lt-ltb, ltb-true}
use Rattle.dump_records.specs.RecordText.{DumpRecord}
use Rattle.dump_digest.specs.RecordParts.{is_node}
use Rattle.dump_trees.specs.Paths.{NodePath}
use Rattle.dump_history.specs.steps.ExpandedDumps.{Stead}
use Rattle.dump_index.specs.steps.Listed.{Listed}
use Rattle.dump_changes.specs.steps.FileTexts.{ToldText}
use Rattle.dump_changes.specs.steps.NodeProperties.{node_numbers}
use Rattle.dump_expansion.specs.steps.ByChanges.{are_given_for, steads_for}
use Rattle.dump_expansion.specs.steps.GivenSteads.{GivenStead, left_alone, own_form}
use Rattle.dump_additions.specs.steps.Additions.{Added, Cleared, Kept, NoChange, AreAdditionsFrom, copies_over}
use Rattle.dump_additions.proofs.AdditionLemmas.{AreSteadsFrom, ClearedFirst, InPlace, IsSteadAt, LeftAlone}

-- whether each number is greater than those before it
abbrev pub rise : List ℕ → Bool
rise [] = true
rise (n ∷ numbers) = list_all (λ m. nat_lt n m) numbers && rise numbers

all_more : (n k : ℕ) (numbers : List ℕ) → n < k → list_all (λ m. nat_le k m) numbers ≡ true
    → list_all (λ m. nat_lt n m) numbers ≡ true
all_more n k [] low all = refl
all_more n k (m ∷ numbers) low all =
    let parts = and_parts (nat_le k m) (list_all (λ x. nat_le k x) numbers) all in
    let one = leb-true k m parts.0 in
    and_from _ _ (lt-ltb n m (omega arith)) (all_more n k numbers low parts.1)

all_from : (n k : ℕ) (numbers : List ℕ) → n ≤ k → list_all (λ m. nat_le k m) numbers ≡ true
    → list_all (λ m. nat_le n m) numbers ≡ true
all_from n k [] low all = refl
all_from n k (m ∷ numbers) low all =
    let parts = and_parts (nat_le k m) (list_all (λ x. nat_le k x) numbers) all in
    let one = leb-true k m parts.0 in
    and_from _ _ (le-leb n m (omega arith)) (all_from n k numbers low parts.1)

-- the numbers of the nodes among records rise
node_numbers_rise : (number : ℕ) (records : List DumpRecord)
    → (rise (node_numbers number records) ≡ true) × (list_all (λ m. nat_le number m) (node_numbers number records) ≡ true)
node_numbers_rise number [] = (refl, refl)
node_numbers_rise number (r ∷ records) = cases (node_numbers_rise (suc number) records) (is_node r)
  where
    cases : (rise (node_numbers (suc number) records) ≡ true)
        × (list_all (λ m. nat_le (suc number) m) (node_numbers (suc number) records) ≡ true) → (b : Bool)
        → (rise (cond b (number ∷ node_numbers (suc number) records) (node_numbers (suc number) records)) ≡ true)
        × (list_all (λ m. nat_le number m) (cond b (number ∷ node_numbers (suc number) records) (node_numbers (suc number) records)) ≡ true)
    cases (up, low) true = (
      and_from _ _ (all_more number (suc number) (node_numbers (suc number) records) (omega arith) low) up,
      and_from _ _ (le-leb number number (omega arith))
          (all_from number (suc number) (node_numbers (suc number) records) (omega arith) low),
    )
    cases (up, low) false = (up, all_from number (suc number) (node_numbers (suc number) records) (omega arith) low)

pub numbers_rise : (records : List DumpRecord) → rise (node_numbers 0 records) ≡ true
numbers_rise records = (node_numbers_rise 0 records).0

-- what is given for later nodes isn't given for this one
later_number : (n : ℕ) (numbers : List ℕ) (g : GivenStead) (given : List GivenStead)
    → are_given_for numbers (g ∷ given) ≡ true → list_all (λ m. nat_lt n m) numbers ≡ true → (g.number == n) ≡ false
later_number n [] g given are all = absurd (let bad : false ≡ true = are in cc)
later_number n (m ∷ numbers) g given are all =
    cases (λ more. later_number n numbers g given more parts.1) (g.number == m) refl are
  where
    parts : (nat_lt n m ≡ true) × (list_all (λ x. nat_lt n x) numbers ≡ true)
    parts = and_parts (nat_lt n m) (list_all (λ x. nat_lt n x) numbers) all

    cases : (are_given_for numbers (g ∷ given) ≡ true → (g.number == n) ≡ false) → (b : Bool) → (g.number == m) ≡ b
        → (if b then are_given_for numbers given else are_given_for numbers (g ∷ given)) ≡ true → (g.number == n) ≡ false
    cases further false other is = further is
    cases further true same is =
        let low = ltb-true n m parts.0 in
        let at = eqb-true g.number m same in
        false_from_ne_true (g.number == n) (λ bad. let both = eqb-true g.number n bad in absurd (omega arith))

-- what is given for this node isn't given for later ones
head_other : (n : ℕ) (numbers : List ℕ) (g : GivenStead) (given : List GivenStead) → (g.number == n) ≡ false
    → steads_for (n ∷ numbers) (g ∷ given) ≡ left_alone ∷ steads_for numbers (g ∷ given)
head_other n numbers g given other = rw other refl

given_other : (n : ℕ) (numbers : List ℕ) (g : GivenStead) (given : List GivenStead) → (g.number == n) ≡ false
    → are_given_for (n ∷ numbers) (g ∷ given) ≡ are_given_for numbers (g ∷ given)
given_other n numbers g given other = rw other refl

head_same : (n : ℕ) (numbers : List ℕ) (g : GivenStead) (given : List GivenStead) → (g.number == n) ≡ true
    → steads_for (n ∷ numbers) (g ∷ given)
    ≡ record { nodes = g.nodes; own = own_form g.keeps } ∷ steads_for numbers given
head_same n numbers g given same = rw same refl

given_same : (n : ℕ) (numbers : List ℕ) (g : GivenStead) (given : List GivenStead) → (g.number == n) ≡ true
    → are_given_for (n ∷ numbers) (g ∷ given) ≡ are_given_for numbers given
given_same n numbers g given same = rw same refl

abbrev pub numbers_of : List Listed → List ℕ
numbers_of ls = map (λ (l : Listed). l.record_number) ls

module _ (blocks : List (List ℕ)) (texts : List ToldText) (listed : List Listed) (excluded : List NodePath) where
  abbrev Steads : ℕ → List Listed → List Stead → Type 0
  Steads = AreSteadsFrom blocks texts listed excluded

  -- nothing is given for the first change
  alone_stead : (place : ℕ) (l : Listed) (more : List Listed) (given : List GivenStead)
      → copies_over listed place l ≡ false
      → list_all (λ m. nat_lt l.record_number m) (numbers_of more) ≡ true
      → are_given_for (numbers_of more) given ≡ true → Steads (suc place) more (steads_for (numbers_of more) given)
      → (are_given_for (numbers_of (l ∷ more)) given ≡ true) × Steads place (l ∷ more) (steads_for (numbers_of (l ∷ more)) given)
  alone_stead place l more [] over low are steads = (refl, (LeftAlone refl over, steads))
  alone_stead place l more (g ∷ given) over low are steads =
      let other = later_number l.record_number (numbers_of more) g given are low in (
        given_other l.record_number (numbers_of more) g given other ∙ are,
        subst (Steads place (l ∷ more)) (sym (head_other l.record_number (numbers_of more) g given other))
            (LeftAlone refl over, steads),
      )

  -- this is given for it
  given_stead : (place : ℕ) (l : Listed) (more : List Listed) (g : GivenStead) (given : List GivenStead)
      → g.number ≡ l.record_number
      → IsSteadAt blocks texts listed excluded place l (record { nodes = g.nodes; own = own_form g.keeps })
      → are_given_for (numbers_of more) given ≡ true → Steads (suc place) more (steads_for (numbers_of more) given)
      → (are_given_for (numbers_of (l ∷ more)) (g ∷ given) ≡ true)
      × Steads place (l ∷ more) (steads_for (numbers_of (l ∷ more)) (g ∷ given))
  given_stead place l more g given number_is own are steads =
      let number = eq-eqb g.number l.record_number number_is in (
        given_same l.record_number (numbers_of more) g given number ∙ are,
        subst (Steads place (l ∷ more)) (sym (head_same l.record_number (numbers_of more) g given number)) (own, steads),
      )

  pub steads_are : (place : ℕ) (ls : List Listed) (given : List GivenStead)
      → AreAdditionsFrom blocks texts listed excluded place ls given → rise (numbers_of ls) ≡ true
      → (are_given_for (numbers_of ls) given ≡ true) × Steads place ls (steads_for (numbers_of ls) given)
  steads_are place _ _ (NoChange _) up = (refl, refl)
  steads_are place _ _ (Kept _ l more given none over rest) up =
      let parts = and_parts (list_all (λ m. nat_lt l.record_number m) (numbers_of more)) (rise (numbers_of more)) up in
      let its = steads_are (suc place) more given rest parts.1 in
      alone_stead place l more given over parts.0 its.0 its.1
  steads_are place _ _ (Cleared _ l more g given none over (w, deletes, is) rest) up =
      let parts = and_parts (list_all (λ m. nat_lt l.record_number m) (numbers_of more)) (rise (numbers_of more)) up in
      let its = steads_are (suc place) more given rest parts.1 in
      given_stead place l more g given (ap (λ (x : GivenStead). x.number) is)
      (ClearedFirst w (ap (λ (x : GivenStead). record { nodes = x.nodes; own = own_form x.keeps }) is) deletes over) its.0 its.1
  steads_are place _ _ (Added _ l more g given a rest) up =
      let parts = and_parts (list_all (λ m. nat_lt l.record_number m) (numbers_of more)) (rise (numbers_of more)) up in
      let its = steads_are (suc place) more given rest parts.1 in
      given_stead place l more g given (ap (λ (x : GivenStead). x.number) a.given)
      (InPlace g a (ap (λ b. record { nodes = g.nodes; own = own_form b }) (ap (λ (x : GivenStead). x.keeps) a.given))) its.0 its.1
