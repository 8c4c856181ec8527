-- What is looked up in a property list.
use Rattle.std.specs.Prelude.{ℕ, List, Option, ◌&&◌, find, option_and_then, is_some, bytes_eq, IsFalse}
use Rattle.dump_text.specs.PropertyList.{Property, IsPropertyBlock, has_deletes}

-- the text is the property block of a list without deletions
abbrev pub HasProperties : List ℕ → Type 0
HasProperties text = (ps : List Property) × IsPropertyBlock text ps × IsFalse (has_deletes ps)

-- the text is the property block of a list, which may have deletions
abbrev pub HasPropertyChanges : List ℕ → Type 0
HasPropertyChanges text = (ps : List Property) × IsPropertyBlock text ps

-- the value of the first property of this name that isn't deleted
abbrev pub property_value : List ℕ → List Property → Option (List ℕ)
property_value name ps = option_and_then (λ (p : Property). p.value)
    (find (λ (p : Property). bytes_eq p.name name && is_some p.value) ps)
