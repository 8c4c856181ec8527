-- What a caller gives to be in place of the nodes of a dump, and what the dump becomes.
use Rattle.std.specs.Prelude.{ℕ, ◌+◌, Bool, true, false, ◌==◌, List, [], ◌∷◌, if◌then◌else◌}
use Rattle.dump_records.specs.DumpText.{Ending, HasRecords}
use Rattle.dump_records.specs.RecordText.{DumpRecord}
use Rattle.dump_digest.specs.RecordParts.{is_node}
use Rattle.dump_history.specs.steps.ExpandedDumps.{OwnForm, Stead}
use Rattle.dump_history.specs.steps.ExpandedText.{IsExpandedText}
use Rattle.dump_history.specs.WrittenNodes.{WrittenNode}

-- in place of the node with this record number are these nodes, and after them the node itself, if it is kept
pub record GivenStead : Type 0 where
  pub number : ℕ
  pub nodes : List WrittenNode
  pub keeps : Bool

-- what is left of a node that is kept, or isn't
abbrev pub own_form : Bool → OwnForm
own_form true = OwnForm.AsItIs
own_form false = OwnForm.LeftOut

-- nothing is in place of the record but itself
abbrev pub left_alone : Stead
left_alone = record { nodes = []; own = OwnForm.AsItIs }

-- what is in place of the record for which this is given; only a node gets it
abbrev pub stead_at : DumpRecord → GivenStead → Stead
stead_at r g = if is_node r then record { nodes = g.nodes; own = own_form g.keeps } else left_alone

-- what is in place of each of the records, of which the first has this number: what is given is used in order, each at the
-- record of its number, and from the first on whose number does not come any more it is not used
abbrev pub steads_in : ℕ → List DumpRecord → List GivenStead → List Stead
steads_in number [] given = []
steads_in number (r ∷ records) [] = left_alone ∷ steads_in (number + 1) records []
steads_in number (r ∷ records) (g ∷ given) =
    if g.number == number then stead_at r g ∷ steads_in (number + 1) records given
    else left_alone ∷ steads_in (number + 1) records (g ∷ given)

-- the text is the dump, expanded by what is given
abbrev pub IsExpandedBy : List GivenStead → List ℕ → List ℕ → Type 0
IsExpandedBy given dump text = (records : List DumpRecord) → HasRecords dump records Ending.Whole
    → IsExpandedText records (steads_in 0 records given) text
