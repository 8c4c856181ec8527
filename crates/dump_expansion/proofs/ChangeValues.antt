-- Examples for the definitions of what is in place of the changes of a dump.
use Rattle.std.proofs.Common.{◌≡◌, ℕ, true, false, [], ◌∷◌, codes, refl}
use Rattle.dump_trees.specs.Changes.{Change}
use Rattle.dump_history.specs.steps.ExpandedDumps.{OwnForm, Stead}
use Rattle.dump_history.specs.WrittenNodes.{WrittenNode}
use Rattle.dump_history.specs.steps.WrittenNodes.{written_change}
use Rattle.dump_expansion.specs.steps.ByChanges.{are_given_for, expanded_by, steads_for}
use Rattle.dump_expansion.specs.steps.GivenSteads.{GivenStead, left_alone}

abbrev deletes_trunk : WrittenNode
deletes_trunk = WrittenNode.Deletion (codes "trunk")

-- a deletion is given for the node with this number, which is kept
abbrev kept : ℕ → GivenStead
kept number = record { number = number; nodes = deletes_trunk ∷ []; keeps = true }

-- nothing is given in place of the node with this number, which isn't kept
abbrev gone : ℕ → GivenStead
gone number = record { number = number; nodes = []; keeps = false }

-- are_given_for

nothing_given : are_given_for (3 ∷ 4 ∷ 6 ∷ []) [] ≡ true
nothing_given = refl

given_in_order : are_given_for (3 ∷ 4 ∷ 6 ∷ []) (kept 3 ∷ gone 6 ∷ []) ≡ true
given_in_order = refl

given_for_no_node : are_given_for (3 ∷ 4 ∷ 6 ∷ []) (kept 3 ∷ gone 5 ∷ []) ≡ false
given_for_no_node = refl

given_out_of_order : are_given_for (3 ∷ 4 ∷ 6 ∷ []) (gone 6 ∷ kept 3 ∷ []) ≡ false
given_out_of_order = refl

given_twice : are_given_for (3 ∷ 4 ∷ 6 ∷ []) (kept 3 ∷ gone 3 ∷ []) ≡ false
given_twice = refl

-- steads_for

-- the deletion and the node, and then nothing
abbrev node_after : Stead
node_after = record { nodes = deletes_trunk ∷ []; own = OwnForm.AsItIs }

abbrev nothing : Stead
nothing = record { nodes = []; own = OwnForm.LeftOut }

each_by_number : steads_for (3 ∷ 4 ∷ 6 ∷ []) (kept 3 ∷ gone 6 ∷ []) ≡ node_after ∷ left_alone ∷ nothing ∷ []
each_by_number = refl

-- expanded_by

-- changes of three revisions, of which the second one has none
three_revisions : (a b c : Change)
    → expanded_by (node_after ∷ left_alone ∷ nothing ∷ []) ((a ∷ []) ∷ [] ∷ (b ∷ c ∷ []) ∷ [])
    ≡ (written_change deletes_trunk ∷ a ∷ []) ∷ [] ∷ (b ∷ []) ∷ []
three_revisions a b c = refl
