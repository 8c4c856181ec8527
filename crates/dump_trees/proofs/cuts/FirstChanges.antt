-- The changes of a history up to one in the midst of a revision, and those after it.
use Rattle.dump_trees.proofs.Prelude.{◌≡◌, ◌+◌, sym, ap, ◌∙◌, arith, append_assoc, Change}
use Rattle.std.proofs.Common.{List, [], ◌∷◌, ◌++◌, length}
use Rattle.dump_trees.specs.steps.Looking.{Placed, placed_from}
use Rattle.dump_trees.proofs.histories.KeptNumbers.{length_push}
use Rattle.dump_trees.proofs.expansions.BackLemmas.{from_more}
use Rattle.dump_trees.proofs.cuts.CheckedLoads.{AreFrom, of_one, from_append, one_from, all_from, placed_append, placed_cut}

-- the changes after those of the first revisions and the ones that are done
abbrev pub changes_after : List (List Change) → List Change → List Change → List (List Change) → List Placed
changes_after front done more rest =
    of_one (1 + length front) more ++ placed_from (1 + length (front ++ (done ++ more) ∷ [])) rest

module _ (front : List (List Change)) (done more : List Change) (rest revisions : List (List Change))
    (parted : revisions ≡ front ++ (done ++ more) ∷ rest) where
  abbrev whole : List (List Change)
  whole = front ++ (done ++ more) ∷ []

  pub changes_parted : placed_from 1 revisions ≡ placed_from 1 (front ++ done ∷ []) ++ changes_after front done more rest
  changes_parted = ap (placed_from 1) (parted ∙ sym (append_assoc front ((done ++ more) ∷ []) rest))
      ∙ (placed_append 1 whole rest
      ∙ (ap (λ ps. ps ++ placed_from (1 + length whole) rest) (placed_cut 1 front done more)
      ∙ append_assoc (placed_from 1 (front ++ done ∷ [])) (of_one (1 + length front) more)
      (placed_from (1 + length whole) rest)))

  pub are_later : AreFrom (length (front ++ done ∷ [])) (changes_after front done more rest)
  are_later =
      let size = length_push front done in
      let other = length_push front (done ++ more) in
      from_append (length (front ++ done ∷ [])) (of_one (1 + length front) more) (placed_from (1 + length whole) rest)
      (from_more (length (front ++ done ∷ [])) (1 + length front) (omega arith) (of_one (1 + length front) more)
      (one_from (1 + length front) more))
      (from_more (length (front ++ done ∷ [])) (1 + length whole) (omega arith) (placed_from (1 + length whole) rest)
      (all_from (1 + length whole) rest))
