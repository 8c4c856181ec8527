-- The tally of a dump's revisions, record by record, says what is found in the dump as a whole.
use Rattle.dump_survey.proofs.Prelude.{◌≡◌, ℕ, suc, ◌+◌, ◌≤◌, ◌==◌, Bool, true, false, not, ◌&&◌, ◌||◌, List, [], ◌∷◌, ◌++◌, length, filter, map, take_while, Option, Some, None, is_some, option_map, if◌then◌else◌, cond, refl, sym, ap, ap₂, ◌∙◌, arith, and-true, and_assoc, or-false, or-true, or_assoc, list_all, list_any, and_parts, eqb-true, take_while-cons, DumpRecord, Settings, is_revision_record, is_node, is_kept_node, group_of, groups, group_number, first_number, revision_number, revision_numbers, keeps_empty, counts_from, has_ordered_nodes, go_up, DumpFinding, rise, begins_at, copies_from_before, has_source_before, is_found_in_dump, first_has_node, Present, Tally, open_behind, no_tally, keeps_open, first_with, rises, revision_tally, node_tally, other_tally, next_tally, tally_behind, is_tallied}
use Rattle.std.proofs.Common.{zero}
use Rattle.dump_history.specs.declared.findings.DumpFinding.TheVariants as dump_wide

-- one more record
pub tally_more : (settings : Settings) (t : Tally) (records : List DumpRecord) (r : DumpRecord)
    → tally_behind settings t (records ++ r ∷ []) ≡ next_tally settings (tally_behind settings t records) r
tally_more settings t [] r = refl
tally_more settings t (x ∷ records) r = tally_more settings (next_tally settings t x) records r

node_count : (t : Tally) (kept early : Bool) (p : Option Present) → (node_tally t kept early p).count ≡ t.count
node_count t kept early None = refl
node_count t kept early (Some p) = refl

-- the number of revisions
count_is : (settings : Settings) (t : Tally) (records : List DumpRecord)
    → (tally_behind settings t records).count ≡ t.count + length (groups records)
count_is settings t [] = omega arith
count_is settings t (r ∷ records) = by (λ u. count_is settings u records) (is_revision_record r) (is_node r)
  where
    by : ((u : Tally) → (tally_behind settings u records).count ≡ u.count + length (groups records)) → (v n : Bool)
        → (tally_behind settings (if v then revision_tally settings t (revision_number r)
        else if n then node_tally t (is_kept_node settings r) (copies_from_before t.first r) t.present else other_tally settings t) records).count
        ≡ t.count + length (if v then group_of r records ∷ groups records else groups records)
    by more true n = more (revision_tally settings t (revision_number r)) ∙ omega arith
    by more false true = more (node_tally t (is_kept_node settings r) (copies_from_before t.first r) t.present)
        ∙ ap (λ c. c + length (groups records)) (node_count t (is_kept_node settings r) (copies_from_before t.first r) t.present)
    by more false false = more (other_tally settings t)

-- there are at most as many revisions as records
pub count_within : (settings : Settings) (t : Tally) (records : List DumpRecord)
    → (tally_behind settings t records).count ≤ t.count + length records
count_within settings t [] = omega arith
count_within settings t (r ∷ records) = by (λ u. count_within settings u records) (is_revision_record r) (is_node r)
  where
    by : ((u : Tally) → (tally_behind settings u records).count ≤ u.count + length records) → (v n : Bool)
        → (tally_behind settings (if v then revision_tally settings t (revision_number r)
        else if n then node_tally t (is_kept_node settings r) (copies_from_before t.first r) t.present else other_tally settings t) records).count
        ≤ t.count + length (r ∷ records)
    by more true n = let h = more (revision_tally settings t (revision_number r)) in omega arith
    by more false true =
        let h = more (node_tally t (is_kept_node settings r) (copies_from_before t.first r) t.present) in
        let same = node_count t (is_kept_node settings r) (copies_from_before t.first r) t.present in omega arith
    by more false false = let h = more (other_tally settings t) in omega arith

-- the number of the present revision
abbrev pub present_number : Option Present → Option ℕ
present_number p = option_map (λ (p : Present). p.number) p

-- the present revision is the one that a node belongs to
pub present_is : (settings : Settings) (t : Tally) (records : List DumpRecord)
    → present_number (tally_behind settings t records).present ≡ open_behind (present_number t.present) records
present_is settings t [] = refl
present_is settings t (r ∷ records) =
    present_is settings (next_tally settings t r) records
    ∙ ap (λ p. open_behind p records) (by (is_revision_record r) (is_node r))
  where
    of_node : (p : Option Present) → t.present ≡ p
        → present_number (node_tally t (is_kept_node settings r) (copies_from_before t.first r) p).present ≡ present_number p
    of_node None is = ap present_number is
    of_node (Some p) is = refl

    by : (v n : Bool) → present_number (if v then revision_tally settings t (revision_number r)
        else if n then node_tally t (is_kept_node settings r) (copies_from_before t.first r) t.present else other_tally settings t).present
        ≡ (if v then Some (revision_number r) else if n then present_number t.present else None)
    by true n = refl
    by false true = of_node t.present refl
    by false false = refl

node_numbered : (t : Tally) (kept early : Bool) (p : Option Present)
    → (node_tally t kept early p).numbered ≡ t.numbered
node_numbered t kept early None = refl
node_numbered t kept early (Some p) = refl

pub node_begins : (t : Tally) (kept early : Bool) (p : Option Present) → (node_tally t kept early p).first ≡ t.first
node_begins t kept early None = refl
node_begins t kept early (Some p) = refl

-- the number of the first revision, if there were this many revisions, the first of them with this number, and if then
-- revisions with these numbers follow
abbrev first_of : ℕ → ℕ → List ℕ → ℕ
first_of count first numbers = if count == 0 then first_number numbers else first

one_more : (n : ℕ) → (n + 1 == 0) ≡ false
one_more n = grind arith

-- after one more revision that number is known
first_known : (t : Tally) (number : ℕ) (numbers : List ℕ)
    → first_of (t.count + 1) (first_with t number) numbers ≡ first_of t.count t.first (number ∷ numbers)
first_known t number numbers =
    ap (λ b. if b then first_number numbers else first_with t number) (one_more t.count)

-- the number of the first revision
begins_is : (settings : Settings) (t : Tally) (records : List DumpRecord) → (t.count ≡ 0 → t.first ≡ 0)
    → (tally_behind settings t records).first ≡ first_of t.count t.first (revision_numbers records)
begins_is settings t [] none = by (t.count == 0) refl
  where
    by : (b : Bool) → (t.count == 0) ≡ b → t.first ≡ (if b then 0 else t.first)
    by true is = none (eqb-true t.count 0 is)
    by false is = refl
begins_is settings t (r ∷ records) none =
    by (λ u known. begins_is settings u records known) (is_revision_record r) (is_node r)
  where
    by : ((u : Tally) → (u.count ≡ 0 → u.first ≡ 0)
        → (tally_behind settings u records).first ≡ first_of u.count u.first (revision_numbers records)) → (v n : Bool)
        → (tally_behind settings (if v then revision_tally settings t (revision_number r)
        else if n then node_tally t (is_kept_node settings r) (copies_from_before t.first r) t.present
        else other_tally settings t) records).first
        ≡ first_of t.count t.first (map group_number
        (if v then group_of r records ∷ groups records else groups records))
    by more true n = more (revision_tally settings t (revision_number r))
        (λ bad. absurd (let worse : t.count + 1 ≡ 0 = bad in omega (arith, worse)))
        ∙ first_known t (revision_number r) (revision_numbers records)
    by more false true =
        let count = node_count t (is_kept_node settings r) (copies_from_before t.first r) t.present in
        let first = node_begins t (is_kept_node settings r) (copies_from_before t.first r) t.present in
        more (node_tally t (is_kept_node settings r) (copies_from_before t.first r) t.present)
        (λ is. first ∙ none (sym count ∙ is))
        ∙ ap₂ (λ c f. first_of c f (revision_numbers records)) count first
    by more false false = more (other_tally settings t) none

-- the same for all records
pub begins_at_is : (settings : Settings) (records : List DumpRecord)
    → (tally_behind settings no_tally records).first ≡ begins_at records
begins_at_is settings records = begins_is settings no_tally records (λ is. refl)

-- whether the numbers go up by one from the first number
numbered_is : (settings : Settings) (t : Tally) (records : List DumpRecord)
    → (tally_behind settings t records).numbered
    ≡ (t.numbered
    && counts_from (first_of t.count t.first (revision_numbers records) + t.count) (revision_numbers records))
numbered_is settings t [] = sym (and-true t.numbered)
numbered_is settings t (r ∷ records) = by (λ u. numbered_is settings u records) (is_revision_record r) (is_node r)
  where
    by : ((u : Tally) → (tally_behind settings u records).numbered
        ≡ (u.numbered
        && counts_from (first_of u.count u.first (revision_numbers records) + u.count) (revision_numbers records)))
        → (v n : Bool)
        → (tally_behind settings (if v then revision_tally settings t (revision_number r)
        else if n then node_tally t (is_kept_node settings r) (copies_from_before t.first r) t.present
        else other_tally settings t) records).numbered
        ≡ (t.numbered && counts_from (first_of t.count t.first (map group_number
        (if v then group_of r records ∷ groups records else groups records)) + t.count) (map group_number
        (if v then group_of r records ∷ groups records else groups records)))
    by more true n =
        let first = first_with t (revision_number r) in
        let next : first_of (t.count + 1) first (revision_numbers records) + (t.count + 1)
        ≡ suc (first + t.count)
        = ap (λ f. f + (t.count + 1)) (first_known t (revision_number r) (revision_numbers records))
        ∙ omega arith in
        more (revision_tally settings t (revision_number r))
        ∙ (and_assoc t.numbered (revision_number r == first + t.count)
        (counts_from (first_of (t.count + 1) first (revision_numbers records) + (t.count + 1))
        (revision_numbers records))
        ∙ ap (λ c. t.numbered && ((revision_number r == first + t.count)
        && counts_from c (revision_numbers records))) next)
    by more false true =
        let count = node_count t (is_kept_node settings r) (copies_from_before t.first r) t.present in
        let first = node_begins t (is_kept_node settings r) (copies_from_before t.first r) t.present in
        more (node_tally t (is_kept_node settings r) (copies_from_before t.first r) t.present)
        ∙ ap₂ (λ b c. b && counts_from c (revision_numbers records))
        (node_numbered t (is_kept_node settings r) (copies_from_before t.first r) t.present)
        (ap₂ (λ c f. first_of c f (revision_numbers records) + c) count first)
    by more false false = more (other_tally settings t)

node_rising : (t : Tally) (kept early : Bool) (p : Option Present)
    → ((node_tally t kept early p).last ≡ t.last) × ((node_tally t kept early p).rising ≡ t.rising)
node_rising t kept early None = (refl, refl)
node_rising t kept early (Some p) = (refl, refl)

-- whether these numbers rise after the last number before them, if there is one
abbrev rise_behind : Option ℕ → List ℕ → Bool
rise_behind None numbers = rise numbers
rise_behind (Some last) numbers = go_up last numbers

none_behind : (last : Option ℕ) → rise_behind last [] ≡ true
none_behind None = refl
none_behind (Some last) = refl

number_behind : (last : Option ℕ) (number : ℕ) (numbers : List ℕ)
    → (rises last number && go_up number numbers) ≡ rise_behind last (number ∷ numbers)
number_behind None number numbers = refl
number_behind (Some last) number numbers = refl

-- whether the revision numbers rise
rising_is : (settings : Settings) (t : Tally) (records : List DumpRecord)
    → (tally_behind settings t records).rising ≡ (t.rising && rise_behind t.last (revision_numbers records))
rising_is settings t [] = sym (ap (λ b. t.rising && b) (none_behind t.last) ∙ and-true t.rising)
rising_is settings t (r ∷ records) = by (λ u. rising_is settings u records) (is_revision_record r) (is_node r)
  where
    by : ((u : Tally) → (tally_behind settings u records).rising
        ≡ (u.rising && rise_behind u.last (revision_numbers records))) → (v n : Bool)
        → (tally_behind settings (if v then revision_tally settings t (revision_number r)
        else if n then node_tally t (is_kept_node settings r) (copies_from_before t.first r) t.present
        else other_tally settings t) records).rising
        ≡ (t.rising && rise_behind t.last (map group_number
        (if v then group_of r records ∷ groups records else groups records)))
    by more true n = more (revision_tally settings t (revision_number r))
        ∙ (and_assoc t.rising (rises t.last (revision_number r))
        (go_up (revision_number r) (revision_numbers records))
        ∙ ap (λ b. t.rising && b) (number_behind t.last (revision_number r) (revision_numbers records)))
    by more false true =
        let same = node_rising t (is_kept_node settings r) (copies_from_before t.first r) t.present in
        more (node_tally t (is_kept_node settings r) (copies_from_before t.first r) t.present)
        ∙ ap₂ (λ b l. b && rise_behind l (revision_numbers records)) same.1 same.0
    by more false false = more (other_tally settings t)

-- the nodes that follow
abbrev pub nodes : List DumpRecord → List DumpRecord
nodes records = take_while is_node records

pub nodes_more : (r : DumpRecord) (records : List DumpRecord) → is_node r ≡ true → nodes (r ∷ records) ≡ r ∷ nodes records
nodes_more r records is = take_while-cons is_node r records ∙ ap (λ b. cond b (r ∷ nodes records) []) is

pub nodes_none : (r : DumpRecord) (records : List DumpRecord) → is_node r ≡ false → nodes (r ∷ records) ≡ []
nodes_none r records is = take_while-cons is_node r records ∙ ap (λ b. cond b (r ∷ nodes records) []) is

-- whether the record isn't both a node and a revision
abbrev pub is_single : DumpRecord → Bool
is_single r = not (is_node r && is_revision_record r)

-- whether the present revision is kept if these nodes follow
abbrev pub closes : Settings → Option Present → List DumpRecord → Bool
closes settings None ns = true
closes settings (Some p) ns =
    p.number == 0 || (p.kept || list_any (is_kept_node settings) ns)
    || keeps_empty settings.empty (p.bare && length ns == 0)

pub closes_none : (settings : Settings) (p : Option Present) → closes settings p [] ≡ keeps_open settings p
closes_none settings None = refl
closes_none settings (Some p) =
    ap₂ (λ k b. p.number == 0 || k || keeps_empty settings.empty b) (or-false p.kept) (and-true p.bare)

pub some_left : (n : ℕ) (b : Bool) → (b && (suc n == 0)) ≡ false
some_left n true = grind arith
some_left n false = refl

-- whether the first revision has a node, if there were this many revisions and this is the present one
abbrev first_has : ℕ → Option Present → List DumpRecord → Bool
first_has zero p records = first_has_node (groups records)
first_has (suc zero) None records = false
first_has (suc zero) (Some p) records = not (length (nodes records) == 0)
first_has (suc (suc n)) p records = false

not_one : (n : ℕ) → (suc (suc n) == 1) ≡ false
not_one n = grind arith

not_zero : (n : ℕ) → (suc n == 0) ≡ false
not_zero n = grind arith

module _ (settings : Settings) (t : Tally) (r : DumpRecord) (records : List DumpRecord)
    (more : (u : Tally) (n : ℕ) → u.count ≡ n
    → (tally_behind settings u records).node_in_first ≡ (u.node_in_first || first_has n u.present records)) where
  -- a record that is no node ends the first revision
  none_first : (n : ℕ) (p : Option Present) → is_node r ≡ false → first_has (suc n) p (r ∷ records) ≡ false
  none_first zero None other = refl
  none_first zero (Some p) other = ap (λ (ns : List DumpRecord). not (length ns == 0)) (nodes_none r records other)
  none_first (suc n) p other = refl

  first_revision : (n : ℕ) → t.count ≡ n → is_node r ≡ false → is_revision_record r ≡ true
      → (tally_behind settings (revision_tally settings t (revision_number r)) records).node_in_first
      ≡ (t.node_in_first || first_has n t.present (r ∷ records))
  first_revision zero count other rev = more (revision_tally settings t (revision_number r)) 1 (omega arith)
      ∙ ap (λ b. t.node_in_first || first_has_node (if b then group_of r records ∷ groups records else groups records))
      (sym rev)
  first_revision (suc n) count other rev = more (revision_tally settings t (revision_number r)) (suc (suc n)) (omega arith)
      ∙ ap (λ b. t.node_in_first || b) (sym (none_first n t.present other))

  first_other : (n : ℕ) → t.count ≡ n → is_node r ≡ false → is_revision_record r ≡ false
      → (tally_behind settings (other_tally settings t) records).node_in_first
      ≡ (t.node_in_first || first_has n t.present (r ∷ records))
  first_other zero count other rev = more (other_tally settings t) zero count
      ∙ ap (λ b. t.node_in_first || first_has_node (if b then group_of r records ∷ groups records else groups records))
      (sym rev)
  first_other (suc n) count other rev = more (other_tally settings t) (suc n) count
      ∙ ap (λ b. t.node_in_first || b) (closed n ∙ sym (none_first n t.present other))
    where
      closed : (n : ℕ) → first_has (suc n) None records ≡ false
      closed zero = refl
      closed (suc n) = refl

  node_first : (n : ℕ) (p : Option Present) → t.count ≡ n → t.present ≡ p → is_node r ≡ true
      → is_revision_record r ≡ false → ((node_tally t (is_kept_node settings r) (copies_from_before t.first r) p).node_in_first
      || first_has n (node_tally t (is_kept_node settings r) (copies_from_before t.first r) p).present records)
      ≡ (t.node_in_first || first_has n p (r ∷ records))
  node_first zero None count is node rev =
      ap (λ b. t.node_in_first || first_has_node (if b then group_of r records ∷ groups records else groups records))
      (sym rev)
  node_first zero (Some p) count is node rev =
      ap (λ b. b || first_has_node (groups records))
      (ap (λ c. t.node_in_first || c == 1) count ∙ or-false t.node_in_first)
      ∙ ap (λ b. t.node_in_first || first_has_node (if b then group_of r records ∷ groups records else groups records))
      (sym rev)
  node_first (suc zero) None count is node rev =
      ap (λ q. t.node_in_first || first_has 1 q records) is
  node_first (suc zero) (Some p) count is node rev =
      ap (λ c. (t.node_in_first || c == 1) || not (length (nodes records) == 0)) count
      ∙ (or_assoc t.node_in_first true (not (length (nodes records) == 0))
      ∙ ap (λ b. t.node_in_first || not b) (sym (ap (λ (ns : List DumpRecord). length ns == 0) (nodes_more r records node)
      ∙ not_zero (length (nodes records)))))
  node_first (suc (suc n)) None count is node rev = refl
  node_first (suc (suc n)) (Some p) count is node rev =
      ap (λ b. b || false)
      (ap (λ c. t.node_in_first || c == 1) count ∙ ap (λ b. t.node_in_first || b) (not_one n)
      ∙ or-false t.node_in_first)

  first_node : (n : ℕ) → t.count ≡ n → is_node r ≡ true → is_revision_record r ≡ false
      → (tally_behind settings (node_tally t (is_kept_node settings r) (copies_from_before t.first r) t.present) records).node_in_first
      ≡ (t.node_in_first || first_has n t.present (r ∷ records))
  first_node n count node rev =
      more (node_tally t (is_kept_node settings r) (copies_from_before t.first r) t.present) n
      (node_count t (is_kept_node settings r) (copies_from_before t.first r) t.present ∙ count)
      ∙ node_first n t.present count refl node rev

  first_step : (n : ℕ) → t.count ≡ n → (v m : Bool) → is_revision_record r ≡ v → is_node r ≡ m → not (m && v) ≡ true
      → (tally_behind settings (if v then revision_tally settings t (revision_number r)
      else if m then node_tally t (is_kept_node settings r) (copies_from_before t.first r) t.present else other_tally settings t) records).node_in_first
      ≡ (t.node_in_first || first_has n t.present (r ∷ records))
  first_step n count true true rev node single = cc
  first_step n count true false rev other single = first_revision n count other rev
  first_step n count false true rev node single = first_node n count node rev
  first_step n count false false rev other single = first_other n count other rev

-- whether the first revision has a node, by the tally and by the groups
first_is : (settings : Settings) (t : Tally) (records : List DumpRecord) → list_all is_single records ≡ true
    → (n : ℕ) → t.count ≡ n
    → (tally_behind settings t records).node_in_first ≡ (t.node_in_first || first_has n t.present records)
first_is settings t [] single n count = sym (ap (λ b. t.node_in_first || b) (nothing n t.present) ∙ or-false t.node_in_first)
  where
    nothing : (n : ℕ) (p : Option Present) → first_has n p [] ≡ false
    nothing zero p = refl
    nothing (suc zero) None = refl
    nothing (suc zero) (Some p) = refl
    nothing (suc (suc n)) p = refl
first_is settings t (r ∷ records) single n count =
    let parts = and_parts (is_single r) (list_all is_single records) single in
    first_step settings t r records (λ u m is. first_is settings u records parts.1 m is) n count (is_revision_record r)
    (is_node r) refl refl parts.0

-- whether a node is outside of any revision, by the tally and by the records
outside_is : (settings : Settings) (t : Tally) (records : List DumpRecord) → list_all is_single records ≡ true
    → (tally_behind settings t records).node_outside
    ≡ (t.node_outside || not (has_ordered_nodes (is_some t.present) records))
outside_is settings t [] single = sym (or-false t.node_outside)
outside_is settings t (r ∷ records) single =
    let parts = and_parts (is_single r) (list_all is_single records) single in
    by (λ u. outside_is settings u records parts.1) (is_revision_record r) (is_node r) parts.0
  where
    More : Type 0
    More = (u : Tally) → (tally_behind settings u records).node_outside
        ≡ (u.node_outside || not (has_ordered_nodes (is_some u.present) records))

    of_node : More → (p : Option Present)
        → (tally_behind settings (node_tally t (is_kept_node settings r) (copies_from_before t.first r) p) records).node_outside
        ≡ (t.node_outside || not (is_some p && has_ordered_nodes true records))
    of_node more None = more (node_tally t (is_kept_node settings r) (copies_from_before t.first r) None) ∙ sym (or-true t.node_outside)
    of_node more (Some p) = more (node_tally t (is_kept_node settings r) (copies_from_before t.first r) (Some p))

    by : More → (v n : Bool) → not (n && v) ≡ true
        → (tally_behind settings (if v then revision_tally settings t (revision_number r)
        else if n then node_tally t (is_kept_node settings r) (copies_from_before t.first r) t.present else other_tally settings t) records).node_outside
        ≡ (t.node_outside || not ((not n || is_some t.present) && has_ordered_nodes (v || n) records))
    by more true true single = cc
    by more true false single = more (revision_tally settings t (revision_number r))
    by more false true single = of_node more t.present
    by more false false single = more (other_tally settings t)

-- whether one of the nodes that follow in the present revision is a copy from before this number
abbrev own_before : ℕ → Option Present → List DumpRecord → Bool
own_before first None ns = false
own_before first (Some p) ns = list_any (copies_from_before first) ns

-- whether a node of the present revision, or of a later one, is a copy from before the first revision
abbrev later_before : Tally → List DumpRecord → Bool
later_before t records = own_before t.first t.present (nodes records)
    || has_source_before (first_of t.count t.first (revision_numbers records)) (groups records)

module _ (settings : Settings) (t : Tally) (r : DumpRecord) (records : List DumpRecord)
    (more : (u : Tally) → (tally_behind settings u records).source_before
    ≡ (u.source_before || later_before u records)) where
  -- after a record that is no node, the present revision has all its nodes
  none_before : (first : ℕ) (p : Option Present) → is_node r ≡ false → own_before first p (nodes (r ∷ records)) ≡ false
  none_before first None other = refl
  none_before first (Some p) other = ap (list_any (copies_from_before first)) (nodes_none r records other)

  before_revision : is_node r ≡ false
      → (tally_behind settings (revision_tally settings t (revision_number r)) records).source_before
      ≡ (t.source_before || (own_before t.first t.present (nodes (r ∷ records))
      || has_source_before (first_of t.count t.first (revision_number r ∷ revision_numbers records))
      (group_of r records ∷ groups records)))
  before_revision other = more (revision_tally settings t (revision_number r))
      ∙ ap (λ f. t.source_before || (list_any (copies_from_before (first_with t (revision_number r))) (nodes records)
      || has_source_before f (groups records))) (first_known t (revision_number r) (revision_numbers records))
      ∙ ap (λ b. t.source_before || (b
      || has_source_before (first_with t (revision_number r)) (group_of r records ∷ groups records)))
      (sym (none_before t.first t.present other))

  before_other : is_node r ≡ false
      → (tally_behind settings (other_tally settings t) records).source_before
      ≡ (t.source_before || (own_before t.first t.present (nodes (r ∷ records))
      || has_source_before (first_of t.count t.first (revision_numbers records)) (groups records)))
  before_other other = more (other_tally settings t)
      ∙ ap (λ b. t.source_before
      || (b || has_source_before (first_of t.count t.first (revision_numbers records)) (groups records)))
      (sym (none_before t.first t.present other))

  node_before : (p : Option Present) → is_node r ≡ true → t.present ≡ p
      → ((node_tally t (is_kept_node settings r) (copies_from_before t.first r) p).source_before
      || later_before (node_tally t (is_kept_node settings r) (copies_from_before t.first r) p) records)
      ≡ (t.source_before || (own_before t.first p (nodes (r ∷ records))
      || has_source_before (first_of t.count t.first (revision_numbers records)) (groups records)))
  node_before None node is =
      ap (λ q. t.source_before || (own_before t.first q (nodes records)
      || has_source_before (first_of t.count t.first (revision_numbers records)) (groups records))) is
  node_before (Some p) node is =
      or_assoc t.source_before (copies_from_before t.first r) _
      ∙ ap (λ b. t.source_before || b) (sym (or_assoc (copies_from_before t.first r)
      (list_any (copies_from_before t.first) (nodes records))
      (has_source_before (first_of t.count t.first (revision_numbers records)) (groups records))))
      ∙ ap (λ ns. t.source_before || (list_any (copies_from_before t.first) ns
      || has_source_before (first_of t.count t.first (revision_numbers records)) (groups records)))
      (sym (nodes_more r records node))

  before_step : (v n : Bool) → is_node r ≡ n → not (n && v) ≡ true
      → (tally_behind settings (if v then revision_tally settings t (revision_number r)
      else if n then node_tally t (is_kept_node settings r) (copies_from_before t.first r) t.present
      else other_tally settings t) records).source_before
      ≡ (t.source_before || (own_before t.first t.present (nodes (r ∷ records))
      || has_source_before (first_of t.count t.first (map group_number
      (if v then group_of r records ∷ groups records else groups records)))
      (if v then group_of r records ∷ groups records else groups records)))
  before_step true true node single = cc
  before_step true false other single = before_revision other
  before_step false true node single =
      more (node_tally t (is_kept_node settings r) (copies_from_before t.first r) t.present)
      ∙ node_before t.present node refl
  before_step false false other single = before_other other

-- whether a node is a copy from before the first revision, by the tally and by the groups
source_is : (settings : Settings) (t : Tally) (records : List DumpRecord) → list_all is_single records ≡ true
    → (tally_behind settings t records).source_before ≡ (t.source_before || later_before t records)
source_is settings t [] single = sym (ap (λ b. t.source_before || (b || false)) (none t.present) ∙ or-false t.source_before)
  where
    none : (p : Option Present) → own_before t.first p [] ≡ false
    none None = refl
    none (Some p) = refl
source_is settings t (r ∷ records) single =
    let parts = and_parts (is_single r) (list_all is_single records) single in
    before_step settings t r records (λ u. source_is settings u records parts.1) (is_revision_record r) (is_node r) refl
    parts.0

zero_more : (n : ℕ) → 0 + n ≡ n
zero_more n = omega arith

-- the tally of all records says, finding by finding, what is found in the dump, with this answer about left numbers
pub each_tallied : (settings : Settings) (records : List DumpRecord) → list_all is_single records ≡ true
    → (left named unread : Bool) → left ≡ (not settings.renumber && named) → (f : DumpFinding)
    → is_tallied (tally_behind settings no_tally records) left unread f
    ≡ is_found_in_dump settings records (record { named = named; unread = unread }) f
each_tallied settings records single left named unread left_is dump_wide.NoRevision =
    ap (λ c. c == 0) (count_is settings no_tally records ∙ zero_more (length (groups records)))
each_tallied settings records single left named unread left_is dump_wide.OtherNumbers = ap not (numbered_is settings no_tally records
    ∙ ap (λ n. counts_from n (revision_numbers records))
    (let same : begins_at records + 0 ≡ begins_at records = omega arith in same))
each_tallied settings records single left named unread left_is dump_wide.NumberFalls =
    ap not (rising_is settings no_tally records)
each_tallied settings records single left named unread left_is dump_wide.UnreadRevision = refl
each_tallied settings records single left named unread left_is dump_wide.NodeInFirst =
    ap₂ (λ f b. f == 0 && b) (begins_at_is settings records)
    (first_is settings no_tally records single 0 refl)
each_tallied settings records single left named unread left_is dump_wide.SourceBefore = source_is settings no_tally records single
each_tallied settings records single left named unread left_is dump_wide.NodeOutside = outside_is settings no_tally records single
each_tallied settings records single left named unread left_is dump_wide.NumbersLeft = left_is

-- equal tests filter equally
pub filter_same : {X : Type 0} (p q : X → Bool) → ((x : X) → p x ≡ q x) → (xs : List X) → filter p xs ≡ filter q xs
filter_same p q same [] = refl
filter_same p q same (x ∷ xs) =
    ap₂ (λ b ys. cond b (x ∷ ys) ys) (same x) (filter_same p q same xs)
