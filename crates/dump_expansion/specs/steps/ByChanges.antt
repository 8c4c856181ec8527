-- What is in place of the changes that a dump makes, by its revisions.
use Rattle.std.specs.Prelude.{◌≡◌, ℕ, Bool, true, false, ◌==◌, List, [], ◌∷◌, length, take, drop, if◌then◌else◌, IsTrue}
use Rattle.dump_records.specs.DumpText.{Ending, HasRecords}
use Rattle.dump_records.specs.RecordText.{DumpRecord}
use Rattle.dump_trees.specs.Changes.{Change}
use Rattle.dump_history.specs.RecordChanges.{Patching}
use Rattle.dump_history.specs.DumpChanges.{MakeRevisions}
use Rattle.dump_history.specs.steps.ExpandedDumps.{Stead}
use Rattle.dump_history.specs.steps.ExpandedText.{expanded_changes, made_in_stead}
use Rattle.dump_changes.specs.steps.NodeProperties.{node_numbers}
use Rattle.dump_expansion.specs.steps.GivenSteads.{GivenStead, left_alone, own_form, steads_in}

-- whether what is given is for some of the nodes with these numbers, in their order
abbrev pub are_given_for : List ℕ → List GivenStead → Bool
are_given_for [] [] = true
are_given_for [] (g ∷ given) = false
are_given_for (n ∷ numbers) [] = true
are_given_for (n ∷ numbers) (g ∷ given) =
    if g.number == n then are_given_for numbers given else are_given_for numbers (g ∷ given)

-- what is in place of the nodes with these numbers, in order: what is given for them, and else the nodes themselves
abbrev pub steads_for : List ℕ → List GivenStead → List Stead
steads_for [] given = []
steads_for (n ∷ numbers) [] = left_alone ∷ steads_for numbers []
steads_for (n ∷ numbers) (g ∷ given) =
    if g.number == n then record { nodes = g.nodes; own = own_form g.keeps } ∷ steads_for numbers given
    else left_alone ∷ steads_for numbers (g ∷ given)

-- the changes that are made in place of those of each revision, by what is in place of each change, in order
abbrev pub expanded_by : List Stead → List (List Change) → List (List Change)
expanded_by steads [] = []
expanded_by steads (changes ∷ revisions) =
    expanded_changes (take (length changes) steads) changes ∷ expanded_by (drop (length changes) steads) revisions

-- where what is given is for nodes of the dump, in their order, the revisions that are made in place of the dump's follow
-- from the numbers of the nodes and from what is given for these
abbrev pub SteadsAreByChanges : Type 0
SteadsAreByChanges = (patched : Patching) (dump : List ℕ) (records : List DumpRecord) (revisions : List (List Change))
    (given : List GivenStead) →
    HasRecords dump records Ending.Whole → MakeRevisions patched records revisions
    → IsTrue (are_given_for (node_numbers 0 records) given)
    → made_in_stead records (steads_in 0 records given) revisions
    ≡ expanded_by (steads_for (node_numbers 0 records) given) revisions
