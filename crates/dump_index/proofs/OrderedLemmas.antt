-- The first changes that are in order.
use Rattle.std.proofs.Common.{Some, take, drop, get_or, ◌≡◌, ◌<◌, ◌≤◌, ◌+◌, ℕ, true, false, ◌&&◌, List, [], ◌∷◌, ◌++◌, length, append-nil, append_assoc, sym, ap, ◌∙◌, arith}
use Rattle.std.proofs.lemmas.List.{drop_more, take-append-drop, take_all, take_more}
use Rattle.std.proofs.Math.Seq.{length-take-le}
use Rattle.dump_index.specs.steps.InOrder.{are_in_order, comes_in_order}
use Rattle.dump_index.specs.steps.OutOfOrder.{IsFirstOutOfOrder}
use Rattle.dump_index.specs.declared.change.NodeChange.{NodeChange}

-- the first changes are in order; so they and others are in order exactly if the others are, from this revision on
abbrev pub OrderedSoFar : List NodeChange → ℕ → ℕ → Type 0
OrderedSoFar changes least place =
    (others : List NodeChange) → are_in_order 0 (take place changes ++ others) ≡ are_in_order least others

module _ (changes : List NodeChange) (least place : ℕ) (d : NodeChange) (low : place < length changes)
    (so_far : OrderedSoFar changes least place) where
  abbrev next : NodeChange
  next = get_or changes place d

  pub one_more_ordered : comes_in_order least (get_or changes place d) ≡ true
      → OrderedSoFar changes (get_or changes place d).revision (place + 1)
  one_more_ordered ordered others =
      ap (λ front. are_in_order 0 (front ++ others)) (take_more changes place d low)
      ∙ (ap (are_in_order 0) (append_assoc (take place changes) (next ∷ []) others)
      ∙ (so_far (next ∷ others) ∙ ap (λ b. b && are_in_order next.revision others) ordered))

  pub out_of_order : comes_in_order least (get_or changes place d) ≡ false → IsFirstOutOfOrder changes (Some place)
  out_of_order other = (
    take place changes,
    next,
    drop (place + 1) changes,
    sym (take-append-drop place changes) ∙ ap (λ rest. take place changes ++ rest) (drop_more changes place d low),
    length-take-le place changes (omega arith),
    ap (are_in_order 0) (sym (append-nil (take place changes))) ∙ so_far [],
    so_far (next ∷ []) ∙ ap (λ b. b && true) other,
  )

pub all_ordered : (changes : List NodeChange) (least place : ℕ) → length changes ≤ place
    → OrderedSoFar changes least place → are_in_order 0 changes ≡ true
all_ordered changes least place high so_far =
    sym (ap (are_in_order 0) (append-nil (take place changes) ∙ take_all place changes high)) ∙ so_far []
