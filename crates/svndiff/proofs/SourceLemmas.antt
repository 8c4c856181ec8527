-- How the source view slides over the old text.
use Rattle.svndiff.proofs.Prelude.{Bool, List, None, Option, Some, ap, arith, drop, drop-drop, drop_all, if◌then◌else◌, inl, inr, length, length-drop, nat_le, nat_tests, places, refl, rules, same_lists, sym, take, true, ℕ, ◌&&◌, ◌++◌, ◌+◌, ◌-◌, ◌==◌, ◌||◌, ◌∙◌, ◌≡◌, ◌≤◌, ◌⊎◌}
use Rattle.svndiff.specs.Svndiff.{Source, slid}
use Rattle.svndiff.specs.steps.Readings.{between}

pub length-between : (xs : List ℕ) (from to : ℕ) → to ≤ length xs → length (between xs from to) ≡ to - from
length-between xs from to within = search (rules, places)

-- what is left of them when some are let go
pub drop-between : (xs : List ℕ) (from to passed : ℕ) → to ≤ length xs → passed ≤ to - from → from ≤ to
    → drop passed (between xs from to) ≡ between xs (from + passed) to
drop-between xs from to passed within few order = same_lists _ _ (search (rules, places)) (λ k d h. grind (arith, places))

-- the next bytes behind them
pub between_more : (xs : List ℕ) (from to more : ℕ) → from ≤ to → to + more ≤ length xs
    → between xs from to ++ take more (drop to xs) ≡ between xs from (to + more)
between_more xs from to more order within = same_lists _ _ (search (rules, places)) (λ k d h. grind (arith, places))

-- the old text after a slide
abbrev pub slid_to : (offset : ℕ) → (kept : List ℕ) → (lacks : ℕ) → (unread : List ℕ) → Source
slid_to offset kept lacks unread = record { offset = offset; held = kept ++ take lacks unread; unread = drop lacks unread }

-- the conditions of a slide that is allowed
allowed : (b1 b2 b3 b4 : Bool) (x y : Option Source) → b1 ≡ true → (b2 || b3) ≡ true → b4 ≡ true → x ≡ y
    → (if b1 && (b2 || b3) && b4 then x else None) ≡ y
allowed b1 b2 b3 b4 x y one two three is = rw (one, two, three) is

-- a slide that keeps these bytes and reads as many as it lacks
pub slid_is : (base held : List ℕ) (old start end offset size lacks : ℕ) → drop (offset - old) held ≡ between base start end
    → start ≤ end → end ≤ length base → old ≤ offset → (end - start ≤ size) ⊎ (size ≤ 0)
    → lacks ≡ size - (end - start) → lacks ≤ length base - end
    → slid offset size record { offset = old; held = held; unread = drop end base }
    ≡ Some record { offset = offset; held = between base start (end + lacks); unread = drop (end + lacks) base }
slid_is base held old start end offset size lacks kept order within ahead allows is enough =
    let few : length (drop (offset - old) held) ≡ end - start = ap length kept ∙ length-between base start end within in
    let more : size - length (drop (offset - old) held) ≡ lacks = ap (λ n. size - n) few ∙ sym is in
    let forward : nat_le old offset ≡ true = grind (arith, nat_tests, ahead) in
    let fits : ((size == 0) || nat_le (length (drop (offset - old) held)) size) ≡ true = rw few (elim allows [
      | inl small ↦ grind (arith, nat_tests, small)
      | inr none ↦ grind (arith, nat_tests, none)
    ]) in
    let read : nat_le (size - length (drop (offset - old) held)) (length (drop end base)) ≡ true =
    rw more (rw length-drop (grind (arith, nat_tests, enough))) in
    let new : Source = record { offset = offset; held = between base start (end + lacks); unread = drop (end + lacks) base } in
    let same : Some (slid_to offset (drop (offset - old) held) (size - length (drop (offset - old) held)) (drop end base)) ≡ Some new =
    rw (more, kept, between_more base start end lacks order (omega arith), drop-drop) refl in
    allowed _ (size == 0) (nat_le (length (drop (offset - old) held)) size) _ _ (Some new) forward fits read same

-- none are left when all are let go
pub none-between : (xs : List ℕ) (from to passed : ℕ) → to - from ≤ passed
    → drop passed (between xs from to) ≡ between xs to to
none-between xs from to passed many =
    let none : to - to ≡ 0 = omega arith in
    drop_all passed _ (search (rules, places)) ∙ sym (ap (λ n. take n (drop to xs)) none)
