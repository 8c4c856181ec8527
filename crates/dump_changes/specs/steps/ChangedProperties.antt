-- How the changes of a dump change a node's properties.
use Rattle.std.specs.Prelude.{◌≡◌, ℕ, List, Some, map, slice_get}
use Rattle.dump_text.specs.PropertyList.{Property}
use Rattle.dump_records.specs.RecordText.{DumpRecord}
use Rattle.dump_trees.specs.Changes.{Change}
use Rattle.dump_trees.specs.steps.Looking.{Placed}
use Rattle.dump_history.specs.RecordChanges.{MakesChange, Patching}
use Rattle.dump_index.specs.steps.IndexLaws.{HasProps, props_after, props_by}
use Rattle.dump_index.specs.steps.Listed.{Listed, listed_of}
use Rattle.dump_index.specs.steps.Settings.{IsTrail}
use Rattle.dump_index.specs.declared.change.NodeChange.{NodeChange}
use Rattle.dump_index.specs.declared.trail.Part.TheVariants.{Props}
use Rattle.dump_changes.specs.steps.NodeProperties.{ListNodes, property_blocks}
use Rattle.dump_changes.specs.declared.property_edit.NodeProperty.{NodeProperty}

-- a property that a node has
abbrev pub as_property : NodeProperty → Property
as_property p = record { name = p.name.now; value = Some p.value.now }

-- the change makes these properties of the old ones, if its record is one of those with these property blocks
abbrev pub AreChangedBy : List (List ℕ) → Listed → List Property → List Property → Type 0
AreChangedBy blocks l old new = (patched : Patching) (records : List DumpRecord) (r : DumpRecord) (c : Change) →
    blocks ≡ property_blocks records → slice_get records l.record_number ≡ Some r → MakesChange patched r c
    → HasProps l.props c.props → props_by c.props old ≡ Some new

-- the changes of a trail set these properties of what is at the path after the first `count` changes, if they are of
-- the nodes of records that have these property blocks
abbrev pub AreMadeOnTrail : List (List ℕ) → List Listed → List ℕ → ℕ → List Property → Type 0
AreMadeOnTrail blocks listed path count props = (trail : List ℕ) × IsTrail Props listed count path trail
    × ((patched : Patching) (records : List DumpRecord) (changes : List NodeChange) (placed : List Placed) →
    blocks ≡ property_blocks records → listed ≡ map listed_of changes → ListNodes patched records changes placed
    → props_after placed trail ≡ Some props)
