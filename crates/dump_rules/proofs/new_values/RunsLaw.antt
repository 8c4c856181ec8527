-- Each map of a range list has exactly one spelling.
use Rattle.dump_rules.proofs.Prelude.{◌≡◌, ℕ, ◌<◌, ◌≤◌, ◌^◌, Bool, true, false, ◌==◌, List, [], ◌∷◌, ◌++◌, length, nat_lt, nat_le, map, refl, sym, ap, subst, ◌∙◌, inl, inr, arith, rules, Some, None, append-nil, append_assoc, codes, list_all, join_with_byte, AllZip, is_ascii_digit, digits_value, leb-true, and_parts, eqb-true, IsNumeralModel, numerals_by_value, digits_value_short, number_of, spelled_number, number_of-spelled, number_spells, Range, HasNumber, AreRuns, star, IsRangeText, IsRangeList, run_text, runs_text, range_parts, EachMapHasOneSpelling, HaveNumbers, ranges_of, list_ranges, runs_of}
use Rattle.dump_rules.proofs.reading.RangeLemmas.{number_parts, range_of_text}
use Rattle.dump_rules.proofs.reading.RangeListLemmas.{split_joined, joined_some, all_lack}
use Rattle.dump_rules.proofs.new_values.JoinLemmas.{runs_are, same_trans, same_sym}
use Rattle.dump_rules.proofs.new_values.Unique.{runs_once, first_in_order, later_runs}

-- numbers are small

own : IsNumeralModel (λ (ds : List ℕ). list_all is_ascii_digit ds ≡ true) (digits_value 10)
own = numerals_by_value (λ (ds : List ℕ). list_all is_ascii_digit ds ≡ true) (search rules)

-- a number that is read from digits is less than ten to the eighteenth
pub number_small : (digits : List ℕ) (n : ℕ) → number_of digits ≡ Some n → n < 10 ^ 18
number_small digits n is =
    let value = (number_spells digits n is).value in
    let parts = and_parts _ (list_all is_ascii_digit digits) (number_parts digits n is) in
    let sizes = and_parts (nat_lt 0 (length digits)) (nat_le (length digits) 18) parts.0 in
    let small = digits_value_short own digits 18 parts.1 (leb-true (length digits) 18 sizes.1) in
    subst (λ (m : ℕ). m < 10 ^ 18) value small

-- a range's ends
pub end_small : (text : List ℕ) (r : Range) → IsRangeText text r → r.to < 10 ^ 18
end_small text r is = elim is.spelled [
  | inl single ↦ subst (λ (m : ℕ). m < 10 ^ 18) (sym single.2) (number_small single.0 r.from single.1)
  | inr span ↦ number_small span.1 r.to span.3
]

-- each range that a text spells has numbers
pub have_numbers : (parts : List (List ℕ)) (ranges : List Range) → AllZip IsRangeText parts ranges → HaveNumbers ranges
have_numbers [] [] all = tt
have_numbers (part ∷ parts) (r ∷ ranges) all = (all.0.order, have_numbers parts ranges all.1)
have_numbers parts ranges all = absurd all

-- each number of a range list is small
abbrev pub AreSmall : List Range → Type 0
AreSmall ranges = (kind : Bool) (n : ℕ) → HasNumber ranges kind n → (1 ≤ n) × (n < 10 ^ 18)

-- each number of ranges that texts spell is at least one and less than ten to the eighteenth
pub are_small : (parts : List (List ℕ)) (ranges : List Range) → AllZip IsRangeText parts ranges → AreSmall ranges
are_small [] [] all kind n has = absurd has
are_small (part ∷ parts) (r ∷ ranges) all kind n (inl has) =
    let low = all.0.low in
    let first = has.1 in
    let last = has.2 in
    let small = end_small part r all.0 in
    (omega arith, omega arith)
are_small (part ∷ parts) (r ∷ ranges) all kind n (inr has) = are_small parts ranges all.1 kind n has
are_small parts ranges all kind n has = absurd all

-- runs are spelled

pub run_spelled : (r : Range) → 1 ≤ r.from → r.from ≤ r.to → r.to < 10 ^ 18 → IsRangeText (run_text r) r
run_spelled r low order small = go (r.from == r.to) refl
  where
    go : (t : Bool) → (r.from == r.to) ≡ t → IsRangeText (run_text r) r
    go true e =
        let one = eqb-true r.from r.to e in
        record {
          low = low;
          order = order;
          spelled = inl (
            spelled_number r.from,
            number_of-spelled r.from (omega arith),
            sym one,
            rw e (ap (λ t. t ++ star r.inheritable) (append-nil (spelled_number r.from))),
          );
        }
    go false e =
        record {
          low = low;
          order = order;
          spelled = inr (
            spelled_number r.from,
            spelled_number r.to,
            number_of-spelled r.from (omega arith),
            number_of-spelled r.to small,
            rw e (ap (λ t. t ++ star r.inheritable)
                (sym (append_assoc (spelled_number r.from) (codes "-") (spelled_number r.to)))),
          );
        }

-- each run, as it is written, is a text of that run
pub runs_spelled : (runs : List Range) → AreRuns runs → AreSmall runs → AllZip IsRangeText (map run_text runs) runs
runs_spelled [] are small = tt
runs_spelled (r ∷ rest) are small =
    let order = first_in_order r rest are in
    let low = (small r.inheritable r.from (inl (refl, omega arith, order))).0 in
    let high = (small r.inheritable r.to (inl (refl, order, omega arith))).1 in
    (run_spelled r low order high, runs_spelled rest (later_runs r rest are) (λ kind n has. small kind n (inr has)))

-- a text is one range list

not_empty : (r : Range) → ¬ IsRangeText [] r
not_empty r is = let bad : None ≡ Some r = range_of_text [] r is in cc

ranges_are : (parts : List (List ℕ)) (ranges : List Range) → AllZip IsRangeText parts ranges → ranges ≡ ranges_of parts
ranges_are [] [] all = refl
ranges_are (part ∷ parts) (r ∷ ranges) all =
    rw (range_of_text part r all.0) (ap (λ l. r ∷ l) (ranges_are parts ranges all.1))
ranges_are parts ranges all = absurd all

-- a range list is read as the ranges that it is
pub list_is : (list : List ℕ) (ranges : List Range) → IsRangeList list ranges → ranges ≡ list_ranges list
list_is list ranges is = go list is.0 ranges is.1 is.2
  where
    go : (list : List ℕ) (parts : List (List ℕ)) (ranges : List Range) → AllZip IsRangeText parts ranges
        → list ≡ join_with_byte 44 parts → ranges ≡ list_ranges list
    go [] [] ranges all e = ranges_are [] ranges all
    go (b ∷ list) [] ranges all e = let bad : b ∷ list ≡ [] = e in cc
    go [] (part ∷ parts) [] all e = refl
    go [] ([] ∷ parts) (r ∷ ranges) all e = absurd (not_empty r all.0)
    go [] ((c ∷ part) ∷ parts) (r ∷ ranges) all e =
        let some = joined_some 44 (c ∷ part) parts (c, part, refl) in
        let bad : [] ≡ some.0 ∷ some.1 = e ∙ some.2 in cc
    go (b ∷ list) (part ∷ parts) ranges all e =
        let cut : range_parts (b ∷ list) ≡ part ∷ parts =
        ap range_parts e ∙ split_joined 44 part parts (all_lack 44 (part ∷ parts) ranges refl refl all) in
        ranges_are (part ∷ parts) ranges all ∙ ap ranges_of (sym cut)

-- each map that a range list means has one spelling, which is read as that map
pub each_map_has_one_spelling : EachMapHasOneSpelling
each_map_has_one_spelling text ranges is consistent =
    let are = runs_are ranges (have_numbers is.0 ranges is.1) consistent in
    let small = are_small is.0 ranges is.1 in
    let spelled : IsRangeList (runs_text (runs_of ranges)) (runs_of ranges) = (
      map run_text (runs_of ranges),
      runs_spelled (runs_of ranges) are.0 (λ kind n has. small kind n ((are.1 kind n).0 has)),
      refl,
    ) in (
      runs_of ranges,
      are.0,
      are.1,
      spelled,
      (λ others runs same. runs_once others (runs_of ranges) runs are.0
          (same_trans others ranges (runs_of ranges) (same_sym ranges others same) are.1)),
      (λ read reads. list_is (runs_text (runs_of ranges)) read reads
          ∙ sym (list_is (runs_text (runs_of ranges)) (runs_of ranges) spelled)),
    )
