-- Properties that the entries of a property block edit.
use Rattle.dump_changes.proofs.Prelude.{◌≡◌, Bool, true, false, not, cond, List, [], ◌∷◌, ◌++◌, map, Option, Some, None, refl, sym, ap, ◌∙◌, append-nil, bytes_eq, is_some, if◌then◌else◌, ℕ, Entry, Property, entry_property}
use Rattle.std.specs.List.{filter}
use Rattle.std.proofs.lemmas.List.{map-append}
use Rattle.dump_text.specs.Names.{property_length_name}
use Rattle.dump_text.specs.HeaderLine.{has_header}
use Rattle.dump_records.specs.RecordText.{DumpRecord, has_prop_delta}
use Rattle.dump_trees.specs.Changes.{PropertyChange, edited_with, with_entry}
use Rattle.dump_history.specs.RecordChanges.{property_change_of}
use Rattle.dump_index.specs.steps.IndexLaws.{HasProps, props_by}
use Rattle.dump_index.specs.declared.change.Setting.TheVariants.{Replaces}
use Rattle.dump_changes.specs.declared.property_edit.NodeProperty.{NodeProperty}
use Rattle.dump_changes.specs.steps.ChangedProperties.{as_property}

-- whether the property has another name
abbrev pub has_other_name : List ℕ → NodeProperty → Bool
has_other_name name p = not (bytes_eq p.name.now name)

-- the properties with other names
others : (name : List ℕ) (props : List NodeProperty) → map as_property (filter (has_other_name name) props)
    ≡ filter (λ (p : Property). not (bytes_eq p.name name)) (map as_property props)
others name [] = refl
others name (p ∷ props) = cases (has_other_name name p) (others name props)
  where
    cases : (b : Bool) → map as_property (filter (has_other_name name) props)
        ≡ filter (λ (p : Property). not (bytes_eq p.name name)) (map as_property props)
        → map as_property (cond b (p ∷ filter (has_other_name name) props) (filter (has_other_name name) props))
        ≡ cond b (as_property p ∷ filter (λ (p : Property). not (bytes_eq p.name name)) (map as_property props))
        (filter (λ (p : Property). not (bytes_eq p.name name)) (map as_property props))
    cases true same = ap (λ ps. as_property p ∷ ps) same
    cases false same = same

module _ (entry : Entry) (props kept : List NodeProperty) (kept_are : kept ≡ filter (has_other_name entry.name.now) props) where
  -- an entry that removes its property
  pub taken_away : entry.gone ≡ true → map as_property kept ≡ with_entry (entry_property entry) (map as_property props)
  taken_away gone =
      ap (map as_property) kept_are ∙ others entry.name.now props ∙ sym (append-nil _)
      ∙ ap (λ (b : Bool). filter (λ (p : Property). not (bytes_eq p.name entry.name.now)) (map as_property props)
      ++ (if is_some (if b then None else Some entry.value.now) then record { name = entry.name.now; value = if b then None else Some entry.value.now } ∷ [] else [])) (sym gone)

  -- an entry that sets its property
  pub set_last : (all : List NodeProperty) (new : NodeProperty) → entry.gone ≡ false → all ≡ kept ++ new ∷ []
      → new.name.now ≡ entry.name.now → new.value.now ≡ entry.value.now
      → map as_property all ≡ with_entry (entry_property entry) (map as_property props)
  set_last all new gone all_are name value =
      ap (map as_property) (all_are ∙ ap (λ ps. ps ++ new ∷ []) kept_are)
      ∙ map-append as_property (filter (has_other_name entry.name.now) props) (new ∷ [])
      ∙ ap (λ ps. ps ++ as_property new ∷ []) (others entry.name.now props)
      ∙ ap (λ (p : Property). filter (λ (p : Property). not (bytes_eq p.name entry.name.now)) (map as_property props) ++ p ∷ [])
      (λ i. record { name = name i; value = Some (value i) })
      ∙ ap (λ (b : Bool). filter (λ (p : Property). not (bytes_eq p.name entry.name.now)) (map as_property props)
      ++ (if is_some (if b then None else Some entry.value.now) then record { name = entry.name.now; value = if b then None else Some entry.value.now } ∷ [] else [])) (sym gone)

-- a block that replaces the properties
pub replaced : (r : DumpRecord) (ps old new : List Property) → HasProps Replaces (property_change_of r ps)
    → new ≡ edited_with ps [] → props_by (property_change_of r ps) old ≡ Some new
replaced r ps old new has is = cases (has_header property_length_name r.headers) (has_prop_delta r) has
  where
    change : Bool → Bool → Option PropertyChange
    change set delta = if set then Some (if delta then PropertyChange.Edited ps else PropertyChange.Replaced ps) else None

    cases : (set delta : Bool) → HasProps Replaces (change set delta) → props_by (change set delta) old ≡ Some new
    cases true true has = absurd has
    cases true false has = ap Some (sym is)
    cases false delta has = absurd has
