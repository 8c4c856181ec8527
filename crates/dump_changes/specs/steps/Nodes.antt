-- The change that a node makes, as an index lists it.
use Rattle.std.specs.Prelude.{ℕ, Bool, true, false, not, ◌&&◌, List, [], ◌∷◌, Option, Some, None, is_some, unwrap_or}
use Rattle.dump_text.specs.PropertyList.{Property}
use Rattle.dump_records.specs.RecordText.{DumpRecord}
use Rattle.dump_trees.specs.Changes.{Change}
use Rattle.dump_history.specs.RecordChanges.{Patching, MakesChange, has_known_action, has_undefined_delta, loads_as_written}
use Rattle.dump_index.specs.steps.Listed.{Listed}
use Rattle.dump_index.specs.steps.IndexLaws.{IsListed}

-- whether there is an entry
abbrev pub has_entry : List Property → Bool
has_entry [] = false
has_entry (p ∷ ps) = true

-- whether the node, which has these properties, makes a change that is modelled
abbrev pub is_told : DumpRecord → Option (List Property) → Bool
is_told r ps =
    is_some ps && (not (has_undefined_delta r) && (has_known_action r && loads_as_written r (unwrap_or ps [])))

-- what an index says of a node of a revision: whatever text deltas make, the node makes a change of which this is said;
-- or it makes none
abbrev pub IsChangeOf : DumpRecord → ℕ → Option Listed → Type 0
IsChangeOf r revision None = (patched : Patching) (c : Change) → MakesChange patched r c → ⊥
IsChangeOf r revision (Some l) = (patched : Patching) → (c : Change) × MakesChange patched r c
    × IsListed l (record { revision = revision; change = c })
