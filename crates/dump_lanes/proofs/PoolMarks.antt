-- The marks of a pool's queues, as they join a list.
use Rattle.dump_lanes.proofs.Prelude.{◌≡◌, ◌+◌, ℕ, zero, suc, List, [], ◌∷◌, ◌++◌, replicate, refl, ap, ◌∙◌, arith, map-append, Note, Mark, Item, End, count_ends, marks_in}
use Rattle.std.proofs.lemmas.List.{append-nil}
use Rattle.dump_lanes.specs.steps.LaneMarks.{items_of}
use Rattle.dump_lanes.proofs.MarkLists.{items_of-append}

-- this many end marks are counted as this many
pub count_ends-replicate : (T : Type 0) (n : ℕ) → count_ends {T = T} (replicate n End) ≡ n
count_ends-replicate T zero = refl
count_ends-replicate T (suc n) = let t = count_ends-replicate T n in omega arith

items_of-ends : (T : Type 0) (n : ℕ) → items_of {T = T} (replicate n End) ≡ []
items_of-ends T zero = refl
items_of-ends T (suc n) = items_of-ends T n

module _ {T : Type 0} where
  -- marks joined to others have the end marks of both
  pub count_ends-append : (xs ys : List (Mark T)) → count_ends (xs ++ ys) ≡ count_ends xs + count_ends ys
  count_ends-append [] ys = omega arith
  count_ends-append (Item x ∷ xs) ys = count_ends-append xs ys
  count_ends-append (End ∷ xs) ys = let t = count_ends-append xs ys in omega arith

  -- end marks join
  pub items_of-then_ends : (ms : List (Mark T)) (n : ℕ) → items_of (ms ++ replicate n End) ≡ items_of ms
  items_of-then_ends ms n =
      items_of-append ms (replicate n End) ∙ (ap (λ l. items_of ms ++ l) (items_of-ends T n) ∙ append-nil (items_of ms))

  -- a note with this mark joins
  pub marks_in-then : (notes : List (Note T)) (n : Note T) (m : Mark T) → n.mark ≡ m
      → marks_in (notes ++ n ∷ []) ≡ marks_in notes ++ m ∷ []
  marks_in-then notes n m is =
      map-append (λ (k : Note T). k.mark) notes (n ∷ []) ∙ ap (λ k. marks_in notes ++ k ∷ []) is
