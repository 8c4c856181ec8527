-- What the functions find that read the entries of a property block.
use Rattle.std.specs.Prelude.{◌≡◌, ℕ, Bool, ◌&&◌, List, [], ◌∷◌, ◌++◌, length, Some, None, bytes_eq}
use Rattle.dump_text.specs.declared.parts.Part.{Part}
use Rattle.dump_text.specs.declared.parts.Parts.{Parts}
use Rattle.dump_text.specs.declared.parts.Parts.TheVariants.{Set, Deleted}
use Rattle.dump_text.specs.Number.{number_of, spelled_number}
use Rattle.dump_text.specs.PropertyList.{Property, sized_text, IsEntry, AreEntries, property_block_text}

-- the text begins with a part: this letter, a length in these digits, and that many bytes
pub record IsSized (letter : ℕ) (text digits bytes rest : List ℕ) : Type 0 where
  pub cut : text ≡ sized_text (letter ∷ []) digits bytes ++ rest
  pub size : number_of digits ≡ Some (length bytes)

-- the text begins with a part of this letter
abbrev pub HasSized : ℕ → List ℕ → Type 0
HasSized letter text = (digits bytes rest : List ℕ) × IsSized letter text digits bytes rest

-- the part is at the front of the text
abbrev pub IsPartOf : ℕ → List ℕ → Part → Type 0
IsPartOf letter text part = IsSized letter text part.digits.now part.bytes.now part.rest.now

-- the text is the letter, a space, and then this
abbrev pub IsLetter : ℕ → List ℕ → List ℕ → Type 0
IsLetter letter text behind = text ≡ letter ∷ 32 ∷ behind

-- the text begins with the letter and a space
abbrev pub HasLetter : ℕ → List ℕ → Type 0
HasLetter letter text = (behind : List ℕ) × IsLetter letter text behind

-- the text begins with an entry
abbrev pub HasEntry : List ℕ → Type 0
HasEntry text = (p : Property) × (entry rest : List ℕ) × (text ≡ entry ++ rest) × IsEntry entry p

-- the text begins with an entry of these parts
abbrev pub IsEntryOf : List ℕ → Parts → Type 0
IsEntryOf text (Set name value) = IsPartOf 75 text name × IsPartOf 86 name.rest.now value
IsEntryOf text (Deleted name) = IsPartOf 68 text name

-- the property of an entry with these parts
abbrev pub parts_property : Parts → Property
parts_property (Set name value) = record { name = name.bytes.now; value = Some value.bytes.now }
parts_property (Deleted name) = record { name = name.bytes.now; value = None }

-- the text after them
abbrev pub parts_rest : Parts → List ℕ
parts_rest (Set name value) = value.rest.now
parts_rest (Deleted name) = name.rest.now

-- whether the length of a part has no leading zeros
abbrev pub is_shortest : Part → Bool
is_shortest part = bytes_eq part.digits.now (spelled_number (length part.bytes.now))

-- whether no length of an entry has leading zeros
abbrev pub are_shortest : Parts → Bool
are_shortest (Set name value) = is_shortest name && is_shortest value
are_shortest (Deleted name) = is_shortest name

-- the text is the entries of a list, and then the end line
abbrev pub HasEntries : List ℕ → Type 0
HasEntries text = (ps : List Property) × AreEntries text ps

-- the text is a property block as the filter writes it
abbrev pub IsWritten : List ℕ → Type 0
IsWritten text = (ps : List Property) × (text ≡ property_block_text ps)
