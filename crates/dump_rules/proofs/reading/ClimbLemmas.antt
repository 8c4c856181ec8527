-- If each range begins above those of the other kind before it, no number is in ranges of both kinds.
use Rattle.dump_rules.proofs.Prelude.{◌≡◌, ℕ, ◌+◌, ◌-◌, ◌<◌, ◌≤◌, max, Bool, true, false, not, ◌==◌, List, [], ◌∷◌, take, drop, length, nat_lt, refl, sym, ap, subst, ◌∙◌, inl, inr, arith, ltb-true, cond_some, option_and_then_some, Some, None, Option, option_and_then, is_some, position, list_all, AllZip, HighestNumbers, Range, HasNumber, IsConsistent, range_of, range_parts, part_agrees, raised, raised_by, highest_numbers}
use Rattle.dump_rules.proofs.reading.RangeLemmas.{position_split, position_whole, cut_first}
use Rattle.dump_rules.proofs.reading.RangeListLemmas.{Reads, all_agree}

-- the highest number of a kind
abbrev highest_of : HighestNumbers → Bool → ℕ
highest_of highest true = highest.inheritable
highest_of highest false = highest.starred

-- the numbers of each kind are above the highest of the other
abbrev AreAbove : HighestNumbers → List Range → Type 0
AreAbove highest ranges = (kind : Bool) (n : ℕ) → HasNumber ranges kind n → highest_of highest (not kind) < n

record Climb (highest : HighestNumbers) (parts : List (List ℕ)) : Type 0 where
  ranges : List Range
  reads : AllZip Reads parts ranges
  consistent : IsConsistent ranges
  over : AreAbove highest ranges

-- a range that raises the highest numbers begins above the highest of the other kind, and the highest of its own kind
-- is at least its end
record Raised (highest : HighestNumbers) (r : Range) (next : HighestNumbers) : Type 0 where
  above : highest_of highest (not r.inheritable) < r.from
  reaches : r.to ≤ highest_of next r.inheritable
  plain : highest.inheritable ≤ next.inheritable
  starred : highest.starred ≤ next.starred

raised_is : (highest : HighestNumbers) (from to : ℕ) (kind : Bool) (next : HighestNumbers)
    → raised highest (record { from = from; to = to; inheritable = kind }) ≡ Some next
    → Raised highest (record { from = from; to = to; inheritable = kind }) next
raised_is highest from to true next up =
    let made : HighestNumbers = record { inheritable = max highest.inheritable to; starred = highest.starred } in
    let parts = cond_some (nat_lt highest.starred from) made next up in
    let plain = ap (λ (t : HighestNumbers). t.inheritable) parts.1 in
    let starred = ap (λ (t : HighestNumbers). t.starred) parts.1 in
    record { above = ltb-true _ _ parts.0; reaches = omega arith; plain = omega arith; starred = omega arith }
raised_is highest from to false next up =
    let made : HighestNumbers = record { inheritable = highest.inheritable; starred = max highest.starred to } in
    let parts = cond_some (nat_lt highest.inheritable from) made next up in
    let plain = ap (λ (t : HighestNumbers). t.inheritable) parts.1 in
    let starred = ap (λ (t : HighestNumbers). t.starred) parts.1 in
    record { above = ltb-true _ _ parts.0; reaches = omega arith; plain = omega arith; starred = omega arith }

climb-cons : (highest : HighestNumbers) (part : List ℕ) (parts : List (List ℕ)) (r : Range) (next : HighestNumbers)
    → range_of part ≡ Some r → raised highest r ≡ Some next → Climb next parts → Climb highest (part ∷ parts)
climb-cons highest part parts r next read up rest = record {
  ranges = r ∷ rest.ranges;
  reads = (read, rest.reads);
  consistent = apart;
  over = over;
}
  where
    is : Raised highest r next
    is = raised_is highest r.from r.to r.inheritable next up

    low : (kind : Bool) (n : ℕ) → r.inheritable ≡ kind → n ≤ r.to → highest_of next kind < n → ⊥
    low kind n same high over =
        let reaches = subst (λ (k : Bool). r.to ≤ highest_of next k) same is.reaches in omega arith

    apart : (n : ℕ) → HasNumber (r ∷ rest.ranges) true n → HasNumber (r ∷ rest.ranges) false n → ⊥
    apart n (inl here) (inl there) = let bad : true ≡ false = sym here.0 ∙ there.0 in cc
    apart n (inl here) (inr later) = low true n here.0 here.2 (rest.over false n later)
    apart n (inr later) (inl here) = low false n here.0 here.2 (rest.over true n later)
    apart n (inr first) (inr second) = rest.consistent n first second

    over : AreAbove highest (r ∷ rest.ranges)
    over kind n (inl here) =
        let above = subst (λ (k : Bool). highest_of highest (not k) < r.from) here.0 is.above in
        let first = here.1 in
        omega arith
    over true n (inr later) = let above = rest.over true n later in let keeps = is.starred in omega arith
    over false n (inr later) = let above = rest.over false n later in let keeps = is.plain in omega arith

climbs : (highest : HighestNumbers) (parts : List (List ℕ)) (last : HighestNumbers)
    → highest_numbers highest parts ≡ Some last → Climb highest parts
climbs highest [] last is =
    record { ranges = []; reads = tt; consistent = λ n has. absurd has; over = λ kind n has. absurd has }
climbs highest (part ∷ parts) last is =
    option_and_then_some (λ next. highest_numbers next parts) (raised_by highest (range_of part)) last is
    (λ next up more. go (range_of part) refl next up (climbs next parts last more))
  where
    go : (o : Option Range) → range_of part ≡ o → (next : HighestNumbers) → raised_by highest o ≡ Some next
        → Climb next parts → Climb highest (part ∷ parts)
    go None e next up later = let bad : Path (Option HighestNumbers) None (Some next) = up in cc
    go (Some r) e next up later = climb-cons highest part parts r next e up later

-- one more part

-- a list with a comma has no highest numbers if its first part is no range or begins too low
pub climb_none : (highest : HighestNumbers) (list : List ℕ) (k : ℕ) → position (λ b. b == 44) list ≡ Some k
    → raised_by highest (range_of (take k list)) ≡ None → highest_numbers highest (range_parts list) ≡ None
climb_none highest list k here none = ap (highest_numbers highest) (position_split 44 k list here) ∙ rw none refl

-- a list has the highest numbers that the parts after its first comma have, if they begin with those of its first part
pub climb_some : (highest : HighestNumbers) (list : List ℕ) (k : ℕ) (next : HighestNumbers) → position (λ b. b == 44) list ≡ Some k
    → raised_by highest (range_of (take k list)) ≡ Some next
    → highest_numbers highest (range_parts list) ≡ highest_numbers next (range_parts (take (length list - (k + 1)) (drop (k + 1) list)))
climb_some highest list k next here some =
    ap (highest_numbers highest) (cut_first k list here) ∙ rw some refl

-- a list without a comma has highest numbers if its only part does
pub climb_last : (highest : HighestNumbers) (list : List ℕ) → position (λ b. b == 44) list ≡ None
    → highest_numbers highest (range_parts list) ≡ raised_by highest (range_of list)
climb_last highest list none = ap (highest_numbers highest) (position_whole 44 list none) ∙ last (raised_by highest (range_of list))
  where
    last : (o : Option HighestNumbers) → option_and_then (λ next. highest_numbers next []) o ≡ o
    last None = refl
    last (Some next) = refl

-- parts that have highest numbers are ranges, and none of them contradicts another
pub some_agrees : (highest : HighestNumbers) (parts : List (List ℕ)) → is_some (highest_numbers highest parts) ≡ true
    → list_all (λ part. part_agrees parts (range_of part)) parts ≡ true
some_agrees highest parts some = go (highest_numbers highest parts) refl some
  where
    go : (o : Option HighestNumbers) → highest_numbers highest parts ≡ o → is_some o ≡ true
        → list_all (λ part. part_agrees parts (range_of part)) parts ≡ true
    go None e some = let bad : false ≡ true = some in cc
    go (Some last) e some =
        let up = climbs highest parts last e in
        all_agree parts up.ranges up.reads up.consistent parts up.ranges up.reads (λ kind n has. has)
