-- Searching a list for contradictions block by block finds none exactly if each of its parts agrees with all.
use Rattle.dump_rules.proofs.Prelude.{◌≡◌, ℕ, zero, suc, ◌-◌, ◌<◌, ◌≤◌, Bool, true, false, not, ◌&&◌, ◌||◌, nat_le, nat_lt, max, List, [], ◌∷◌, length, get_or, refl, sym, ap, ◌∙◌, inl, inr, Option, Some, None, arith, list_all, list_any, IsNonDecreasingBy, IsPartitionPoint, Any-from_list_any, get_or_default, list_any_at, list_any_none, or_cases, or_left, or_right, and_parts, and_from, and_left, and_right, not-true, not_from_false, leb-true, le-leb, le-ltb, cases_lt, false_from_ne_true, both_ways, nat_tests, Ends, block_agrees, block_contradicts, ends_range, kind_agrees, kind_part_agrees, meets, parts_agree, raised_ends, Range, contradicts, is_other, range_of, part_agrees, part_contradicts}
use mathlib.Core.Bool.{beq}

-- a block, compared with the parts

-- a part that is no range contradicts no range of a block
pub none_contradicts : (kind : Bool) (block : List Ends) → block_contradicts kind block None ≡ false
none_contradicts kind [] = refl
none_contradicts kind (ends ∷ block) = none_contradicts kind block

-- of four, the first and the third or the second and the fourth
pub crossed : (a b c d : Bool) → ((a || b) || (c || d)) ≡ ((a || c) || (b || d))
crossed true b c d = refl
crossed false true true d = refl
crossed false true false d = refl
crossed false false c d = refl

any_or : (f g : List ℕ → Bool) (parts : List (List ℕ)) → list_any (λ part. f part || g part) parts ≡
    (list_any f parts || list_any g parts)
any_or f g [] = refl
any_or f g (part ∷ parts) =
    ap (λ (b : Bool). (f part || g part) || b) (any_or f g parts) ∙ crossed (f part) (g part) (list_any f parts)
    (list_any g parts)

neither : (a b : Bool) → (not a && not b) ≡ not (a || b)
neither true b = refl
neither false b = refl

-- a block agrees with all parts if none of these contradicts one of its ranges
pub agrees_unless : (kind : Bool) (all : List (List ℕ)) (block : List Ends)
    → block_agrees kind all block ≡ not (list_any (λ part. block_contradicts kind block (range_of part)) all)
agrees_unless kind all [] = ap not (sym (list_any_none (λ part. false) all (λ k d low. refl)))
agrees_unless kind all (ends ∷ block) =
    let one = λ (part : List ℕ). part_contradicts (ends_range kind ends) (range_of part) in
    let others = λ (part : List ℕ). block_contradicts kind block (range_of part) in
    ap (λ (b : Bool). not (list_any one all) && b) (agrees_unless kind all block)
    ∙ neither (list_any one all) (list_any others all)
    ∙ ap not (sym (any_or one others all))

-- places of a list

any_place : {X : Type 0} (f : X → Bool) (d : X) (xs : List X) → list_any f xs ≡ true
    → (k : ℕ) × (k < length xs) × (f (get_or xs k d) ≡ true)
any_place f d xs some =
    let at = Any-from_list_any f xs some in
    (at.0, at.2, ap f (get_or_default xs at.0 d at.1 at.2 ∙ at.3) ∙ at.4)

none_any : {X : Type 0} (f : X → Bool) (d : X) (xs : List X) → ((k : ℕ) → k < length xs → f (get_or xs k d) ≡ false)
    → list_any f xs ≡ false
none_any f d xs none = list_any_none f xs (λ k e low. ap f (get_or_default xs k e d low) ∙ none k low)

all_place : {X : Type 0} (f : X → Bool) (d : X) (xs : List X) → list_all f xs ≡ true → (k : ℕ) → k < length xs
    → f (get_or xs k d) ≡ true
all_place f d [] all k low = absurd (omega arith)
all_place f d (x ∷ xs) all zero low = (and_parts _ _ all).0
all_place f d (x ∷ xs) all (suc k) low = all_place f d xs (and_parts _ _ all).1 k (omega arith)

place_all : {X : Type 0} (f : X → Bool) (d : X) (xs : List X) → ((k : ℕ) → k < length xs → f (get_or xs k d) ≡ true)
    → list_all f xs ≡ true
place_all f d [] each = refl
place_all f d (x ∷ xs) each = and_from _ _ (each 0 (omega arith))
    (place_all f d xs (λ k low. each (suc k) (omega arith)))

same_if : (a b : Bool) → (a ≡ true → b ≡ true) → (b ≡ true → a ≡ true) → a ≡ b
same_if true true there back = refl
same_if true false there back = sym (there refl)
same_if false true there back = back refl
same_if false false there back = refl

-- the ranges of one kind, compared with all parts

contradicts_back : (r s : Range) → contradicts r s ≡ true → contradicts s r ≡ true
contradicts_back r s is =
    let front = and_parts _ _ is in
    let parts = and_parts _ _ front.0 in
    and_from _ _ (and_from _ _ (other (r.inheritable) (s.inheritable) parts.0) front.1) parts.1
  where
    other : (a b : Bool) → is_other a b ≡ true → is_other b a ≡ true
    other true true is = is
    other true false is = refl
    other false true is = refl
    other false false is = is

third_kind : (a b c : Bool) → is_other a b ≡ true → is_other b c ≡ true → is_other a c ≡ false
third_kind true false true one two = refl
third_kind true false c one two = let bad : false ≡ true = two in cc
third_kind false true false one two = refl
third_kind false true c one two = let bad : false ≡ true = two in cc
third_kind a b c one two = let bad : false ≡ true = one in cc

-- if the part of a range s agrees with all, s doesn't contradict the range r of a part of the other kind
unlike : (kind : Bool) (all : List (List ℕ)) (r : Range) (k : ℕ) → k < length all → range_of (get_or all k []) ≡ Some r
    → is_other kind r.inheritable ≡ true → (o : Option Range) → kind_part_agrees kind all o ≡ true
    → part_contradicts r o ≡ true → ⊥
unlike kind all r k low is other None agrees contra = let bad : false ≡ true = agrees in cc
unlike kind all r k low is other (Some s) agrees contra =
    let kinds = and_parts _ _ (and_parts _ _ contra).0 in
    elim (or_cases _ _ agrees) [
      | inl far ↦ both_ways _ (third_kind kind r.inheritable s.inheritable other kinds.0) far
      | inr near ↦
          let back : part_contradicts s (range_of (get_or all k [])) ≡ true =
          ap (part_contradicts s) is ∙ contradicts_back r s contra in
          both_ways _ (not-true _ near) (list_any_at _ all k [] low back)
    ]

whole : (kind : Bool) (all : List (List ℕ)) → kind_agrees kind all all ≡ true → (k : ℕ) → k < length all
    → (o : Option Range) → range_of (get_or all k []) ≡ o → kind_part_agrees kind all o ≡ true
    → part_agrees all o ≡ true
whole kind all half k low None is agrees = agrees
whole kind all half k low (Some r) is agrees =
    elim (or_cases _ _ agrees) [
      | inl other ↦ not_from_false _ (none_any _ [] all (λ j high. false_from_ne_true _ (λ contra.
          unlike kind all r k low is other (range_of (get_or all j [])) (all_place _ [] all half j high) contra)))
      | inr near ↦ near
    ]

partly : (kind : Bool) (all : List (List ℕ)) (o : Option Range) → part_agrees all o ≡ true
    → kind_part_agrees kind all o ≡ true
partly kind all None agrees = agrees
partly kind all (Some r) agrees = or_right _ _ agrees

-- all parts agree if they are ranges and those of one kind agree with all
pub one_kind_suffices : (kind : Bool) (all : List (List ℕ)) → kind_agrees kind all all ≡ parts_agree all all
one_kind_suffices kind all =
    same_if _ _
    (λ half. place_all _ [] all (λ k low. whole kind all half k low (range_of (get_or all k [])) refl
    (all_place _ [] all half k low)))
    (λ full. place_all _ [] all (λ k low. partly kind all (range_of (get_or all k [])) (all_place _ [] all full k low)))

-- ranges in an order that can be searched

length_raised : (highest : ℕ) (block : List Ends) → length (raised_ends highest block) ≡ length block
length_raised highest [] = refl
length_raised highest (ends ∷ block) = ap suc (length_raised (max highest ends.to) block)

from_raised : (highest : ℕ) (block : List Ends) (k : ℕ) (d : Ends) → (get_or (raised_ends highest block) k d).from ≡
    (get_or block k d).from
from_raised highest [] k d = refl
from_raised highest (ends ∷ block) zero d = refl
from_raised highest (ends ∷ block) (suc k) d = from_raised (max highest ends.to) block k d

-- raising the ends leaves the order of the beginnings unchanged
pub from_rises : (highest : ℕ) (block : List Ends) → IsNonDecreasingBy (λ (e : Ends). e.from) block
    → IsNonDecreasingBy (λ (e : Ends). e.from) (raised_ends highest block)
from_rises highest block up i j d order low =
    let size = length_raised highest block in
    let first = from_raised highest block i d in
    let second = from_raised highest block j d in
    let rises = up i j d order (omega arith) in
    omega arith

above_raised : (highest : ℕ) (block : List Ends) (k : ℕ) (d : Ends) → k < length (raised_ends highest block)
    → highest ≤ (get_or (raised_ends highest block) k d).to
above_raised highest [] k d low = absurd (omega arith)
above_raised highest (ends ∷ block) zero d low = omega arith
above_raised highest (ends ∷ block) (suc k) d low =
    let behind = above_raised (max highest ends.to) block k d (omega arith) in omega arith

-- raised ends are in rising order
pub to_rises : (highest : ℕ) (block : List Ends) → IsNonDecreasingBy (λ (e : Ends). e.to) (raised_ends highest block)
to_rises highest [] i j d order low = absurd (omega arith)
to_rises highest (ends ∷ block) zero zero d order low = omega arith
to_rises highest (ends ∷ block) zero (suc j) d order low = above_raised (max highest ends.to) block j d (omega arith)
to_rises highest (ends ∷ block) (suc i) zero d order low = absurd (omega arith)
to_rises highest (ends ∷ block) (suc i) (suc j) d order low = to_rises (max highest ends.to) block i j d (omega arith)
    (omega arith)

head_low : (to : ℕ) (ends : Ends) (block : List Ends) → IsNonDecreasingBy (λ (e : Ends). e.from) (ends ∷ block)
    → list_any (λ e. nat_le e.from to) block ≡ true → nat_le ends.from to ≡ true
head_low to ends block up some =
    let at = any_place (λ (e : Ends). nat_le e.from to) ends block some in
    let rises = up 0 (suc at.0) ends (omega arith) (omega (arith, at.1)) in
    let low = leb-true _ _ at.2 in
    le-leb _ _ (omega arith)

either_max : (from a b : ℕ) → nat_le from (max a b) ≡ (nat_le from a || nat_le from b)
either_max from a b = grind (arith, nat_tests)

regroup : (f h t m g : Bool) → (g ≡ true → f ≡ true) → ((f && (h || t)) || (m || ((h || t) && g))) ≡
    (((f && t) || m) || (h && (f || g)))
regroup f h t m g up = grind arith

same_meets : (from to highest : ℕ) (block : List Ends) → IsNonDecreasingBy (λ (e : Ends). e.from) block
    → list_any (meets from to) (raised_ends highest block)
    ≡ (list_any (meets from to) block || (nat_le from highest && list_any (λ e. nat_le e.from to) block))
same_meets from to highest [] up = sym (and_right _ _ refl)
same_meets from to highest (ends ∷ block) up =
    let begun = λ (e : Ends). nat_le e.from to in
    let behind = same_meets from to (max highest ends.to) block
    (λ i j d order low. up (suc i) (suc j) d (omega arith) (omega arith)) in
    ap (λ b. (nat_le ends.from to && nat_le from (max highest ends.to)) || b) behind
    ∙ ap (λ b. (nat_le ends.from to && b) || (list_any (meets from to) block || (b && list_any begun block)))
    (either_max from highest ends.to)
    ∙ regroup (nat_le ends.from to) (nat_le from highest) (nat_le from ends.to) (list_any (meets from to) block)
    (list_any begun block) (head_low to ends block up)

-- raising the ends of sorted ranges doesn't change whether one of them has a number in common with another range
pub raised_meets : (from to : ℕ) (block : List Ends) → IsNonDecreasingBy (λ (e : Ends). e.from) block
    → list_any (meets from to) (raised_ends 0 block) ≡ list_any (meets from to) block
raised_meets from to block up =
    same_meets from to 0 block up ∙ same_if _ _ (λ some. elim
    (or_cases _ _ some) [ inl here ↦ here | inr there ↦ all_reach (and_parts _ _ there) ]) (or_left _ _)
  where
    all_reach : (nat_le from 0 ≡ true) × (list_any (λ (e : Ends). nat_le e.from to) block ≡ true)
        → list_any (meets from to) block ≡ true
    all_reach (none, some) =
        let d : Ends = record { from = 0; to = 0 } in
        let at = any_place (λ (e : Ends). nat_le e.from to) d block some in
        let zero_from = leb-true _ _ none in
        list_any_at (meets from to) block at.0 d at.1 (and_from _ _ at.2 (le-leb _ _ (omega arith)))

-- if no range begins at or before its end, none has a number in common with it
pub none_meets : (from to begun : ℕ) (block : List Ends) → begun ≤ 0
    → IsPartitionPoint (λ (e : Ends). nat_le e.from to ≡ true) (λ e. nat_le e.from to ≡ false) block begun
    → nat_lt 0 begun ≡ list_any (meets from to) block
none_meets from to begun block none point =
    let d : Ends = record { from = 0; to = 0 } in
    le-ltb 0 begun none ∙ sym (none_any (meets from to) d block (λ k low. and_left _ _ (point.1 k d (omega arith) low)))

-- the last range that begins at or before its end decides for all
pub last_meets : (from to begun : ℕ) (block : List Ends) (d : Ends) → 0 < begun → begun ≤ length block
    → IsPartitionPoint (λ (e : Ends). nat_le e.from to ≡ true) (λ e. nat_le e.from to ≡ false) block begun
    → IsNonDecreasingBy (λ (e : Ends). e.to) block
    → nat_le from (get_or block (begun - 1) d).to ≡ list_any (meets from to) block
last_meets from to begun block d some fits point up =
    same_if _ _
    (λ reaches. list_any_at (meets from to) block (begun - 1) d (omega arith)
    (and_from _ _ (point.0 (begun - 1) d (omega arith) (omega arith)) reaches))
    (λ met.
    let at = any_place (meets from to) d block met in
    let first : nat_le (get_or block at.0 d).from to ≡ true = (and_parts _ _ at.2).0 in
    let second : nat_le from (get_or block at.0 d).to ≡ true = (and_parts _ _ at.2).1 in
    elim (cases_lt at.0 begun) [
      | inl before ↦
          let rises = up at.0 (begun - 1) d (omega (arith, before)) (omega arith) in
          let reaches = leb-true _ _ second in
          le-leb _ _ (omega (arith, rises, reaches))
      | inr behind ↦ absurd (both_ways _ (point.1 at.0 d behind at.1) first)
    ])

-- contradictions as numbers in common

any_under : (b : Bool) (from to : ℕ) (block : List Ends)
    → list_any (λ (e : Ends). (b && nat_le e.from to) && nat_le from e.to) block ≡ (b && list_any (meets from to) block)
any_under true from to block = refl
any_under false from to [] = refl
any_under false from to (ends ∷ block) = any_under false from to block

-- a range contradicts one of a block of the other kind if it has a number in common with one
pub meets_contradicts : (kind : Bool) (block : List Ends) (s : Range)
    → block_contradicts kind block (Some s) ≡ (is_other kind s.inheritable && list_any (meets s.from s.to) block)
meets_contradicts kind block s = any_under (is_other kind s.inheritable) s.from s.to block

any_alike : {X : Type 0} (f g : X → Bool) → ((x : X) → f x ≡ g x) → (xs : List X) → list_any f xs ≡ list_any g xs
any_alike f g each [] = refl
any_alike f g each (x ∷ xs) = ap (λ b. b || list_any f xs) (each x) ∙ ap (λ b. g x || b) (any_alike f g each xs)

-- kinds that differ are unlike
pub differ : (a b : Bool) → not (beq a b) ≡ is_other a b
differ true true = refl
differ true false = refl
differ false true = refl
differ false false = refl

-- two blocks that have a number in common with the same ranges contradict the same parts
pub alike_contradict : (kind : Bool) (block other : List Ends)
    → ((from to : ℕ) → list_any (meets from to) other ≡ list_any (meets from to) block) → (parts : List (List ℕ))
    → list_any (λ part. block_contradicts kind other (range_of part)) parts ≡ list_any
    (λ part. block_contradicts kind block (range_of part)) parts
alike_contradict kind block other same = any_alike _ _ (λ part. at (range_of part))
  where
    at : (o : Option Range) → block_contradicts kind other o ≡ block_contradicts kind block o
    at None = none_contradicts kind other ∙ sym (none_contradicts kind block)
    at (Some s) =
        meets_contradicts kind other s
        ∙ ap (λ b. is_other kind s.inheritable && b) (same s.from s.to)
        ∙ sym (meets_contradicts kind block s)
