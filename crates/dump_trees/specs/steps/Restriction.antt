-- Restricted trees, and the changes that the filter writes (svndumpfilter in "Version Control with Subversion"). The
-- given directories are the parent directories: an administrator creates them before the load.
use Rattle.std.specs.Prelude.{◌≡◌, ℕ, Bool, true, false, not, ◌&&◌, Option, Some, None, is_some, map, if◌then◌else◌, IsTrue, IsFalse, ⊤, option_map}
use Rattle.dump_text.specs.PropertyList.{Property}
use Rattle.dump_rules.specs.Settings.{Settings}
use Rattle.dump_trees.specs.Paths.{keeps}
use Rattle.dump_trees.specs.Changes.{Made, PropertyChange, TextChange, Change}
use Rattle.dump_trees.specs.Restriction.{AreNewProps, NewNumber, NewProperty}

-- what is written has the same name as the old entry, and it has a value exactly if the old entry has one
abbrev pub KeepsEntries : NewProperty → Type 0
KeepsEntries IsNew = (old new : Property) → IsNew old new
    → (new.name ≡ old.name) × (is_some new.value ≡ is_some old.value)

-- whether old properties are edited
abbrev pub edits_props : Option PropertyChange → Bool
edits_props None = false
edits_props (Some (PropertyChange.Replaced entries)) = false
edits_props (Some (PropertyChange.Edited entries)) = true

-- whether a text is set that isn't a delta
abbrev pub sets_whole_text : Option TextChange → Bool
sets_whole_text None = false
sets_whole_text (Some (TextChange.Replaced text)) = true
sets_whole_text (Some (TextChange.Patched patch)) = false

-- whether a text is set that isn't a delta, and no old properties are edited
abbrev pub sets_whole : Change → Bool
sets_whole c = sets_whole_text c.text && not (edits_props c.props)

-- what a kept change makes, and what the filter writes for it. A copy whose source is kept gets a new number. A copy
-- whose source isn't kept becomes a new file, and is set as a whole
abbrev pub IsNewMade : Settings → NewNumber → Bool → Option Made → Option Made → Type 0
IsNewMade settings IsNumber is_whole None None = ⊤
IsNewMade settings IsNumber is_whole (Some Made.NewDirectory) (Some Made.NewDirectory) = ⊤
IsNewMade settings IsNumber is_whole (Some Made.NewFile) (Some Made.NewFile) = ⊤
IsNewMade settings IsNumber is_whole (Some (Made.Copied old source)) (Some (Made.Copied new same)) =
    IsTrue (keeps settings source) × IsNumber old new × (same ≡ source)
IsNewMade settings IsNumber is_whole (Some (Made.Copied old source)) (Some Made.NewFile) =
    IsFalse (keeps settings source) × IsTrue is_whole
IsNewMade settings IsNumber is_whole _ _ = ⊥

-- a kept change, and what the filter writes for it
pub record IsNewChange (settings : Settings) (IsNew : NewProperty) (IsNumber : NewNumber) (old new : Change)
    : Type 0 where
  pub path : new.path ≡ old.path
  pub deletes : new.deletes ≡ old.deletes
  pub made : IsNewMade settings IsNumber (sets_whole old) old.made new.made
  pub props : AreNewProps IsNew old.props new.props
  pub text : new.text ≡ old.text

-- what the filter writes for what a kept change makes: a copy of a path that isn't kept becomes a new file
abbrev pub filtered_made : Settings → (ℕ → ℕ) → Option Made → Option Made
filtered_made settings renumber None = None
filtered_made settings renumber (Some Made.NewDirectory) = Some Made.NewDirectory
filtered_made settings renumber (Some Made.NewFile) = Some Made.NewFile
filtered_made settings renumber (Some (Made.Copied number source)) =
    if keeps settings source then Some (Made.Copied (renumber number) source) else Some Made.NewFile

-- what the filter writes for a change of properties, if a function makes the new entries
abbrev pub filtered_props : (Property → Property) → PropertyChange → PropertyChange
filtered_props make (PropertyChange.Replaced entries) = PropertyChange.Replaced (map make entries)
filtered_props make (PropertyChange.Edited entries) = PropertyChange.Edited (map make entries)

-- what the filter writes for a kept change, if functions make the new properties and the new numbers
abbrev pub filtered_change : Settings → (Property → Property) → (ℕ → ℕ) → Change → Change
filtered_change settings make renumber c = record {
  path = c.path;
  deletes = c.deletes;
  made = filtered_made settings renumber c.made;
  props = option_map (filtered_props make) c.props;
  text = c.text;
}
