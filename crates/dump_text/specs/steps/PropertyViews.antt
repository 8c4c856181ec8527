-- What contracts say of property blocks.
use Rattle.std.specs.Prelude.{◌≡◌, ℕ, bytes_eq, List, [], ◌++◌, Option, Some, None, if◌then◌else◌}
use Rattle.dump_text.specs.declared.props.Props.{Props}
use Rattle.dump_text.specs.declared.props.PropsReading.{PropsReading}
use Rattle.dump_text.specs.declared.props.Entry.{Entry}
use Rattle.dump_text.specs.declared.props.Entries.{Entries}
use Rattle.dump_text.specs.PropertyList.{Property, IsEntry, IsPropertyBlock, has_deletes, property_block_text}
use Rattle.dump_text.specs.steps.PropertyReading.{HasPropertyChanges}

-- the bytes of a property block
abbrev pub props_bytes : Props → List ℕ
props_bytes p = p.bytes.now

-- what was found in the property block with these bytes
pub record IsReadingOf (reading : PropsReading) (bytes : List ℕ) : Type 0 where
  pub reads : ∥ HasPropertyChanges bytes ∥₁
  pub written : (ps : List Property) → IsPropertyBlock bytes ps
      → reading.spelled ≡ bytes_eq bytes (property_block_text ps)
  pub deleting : (ps : List Property) → IsPropertyBlock bytes ps → reading.deletes ≡ has_deletes ps

-- an entry as its name and value, if it has one
abbrev pub entry_property : Entry → Property
entry_property e = record { name = e.name.now; value = if e.gone then None else Some e.value.now }

-- the bytes that an iterator over properties has not yet read
abbrev pub entries_text : Entries → List ℕ
entries_text entries = entries.rest.now

-- the properties that an iterator has not yet returned
abbrev pub HasEntriesLeft : Entries → List Property → Type 0
HasEntriesLeft entries ps = IsPropertyBlock (entries_text entries) ps

-- one call of an iterator over properties: it returns the next one and goes on after its entry, or none if none is
-- left
abbrev pub EntryStep : Entries → Option Entry → Entries → Type 0
EntryStep old None new = HasEntriesLeft old [] × (new ≡ old)
EntryStep old (Some e) new = (text : List ℕ)
    × (entries_text old ≡ text ++ entries_text new) × IsEntry text (entry_property e)
