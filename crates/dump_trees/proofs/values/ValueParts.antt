-- Parts of the examples: options, changes, and what exists in a loaded dump.
use Rattle.dump_trees.proofs.Prelude.{◌≡◌, refl, ap, slice_get, Property, Include, Exclude, DropEmptied, Settings, path_of, keeps, Node, Tree, root_alone, Made, PropertyChange, TextChange, Change, NewProperty, KeepsEntries, IsNewChange, IsMade, loaded_over, EmptyRule}
use Rattle.std.specs.Prelude.{ℕ, Bool, true, false, ◌&&◌, List, [], ◌∷◌, ◌++◌, length, Option, Some, None, option_and_then, is_some, is_none}
use Rattle.dump_rules.specs.PlainSettings.{plain_settings}

-- options

-- these prefixes are included, emptied revisions dropped, and the others renumbered
abbrev pub including_all : List (List ℕ) → Settings
including_all prefixes = record (plain_settings Include prefixes) { empty = DropEmptied; renumber = true }

-- so is this prefix
abbrev pub including : List ℕ → Settings
including prefix = including_all (prefix ∷ [])

-- this prefix is excluded
abbrev pub excluding : List ℕ → Settings
excluding prefix = record (including prefix) { side = Exclude }

-- no revision without a kept change is kept
abbrev pub none_more : EmptyRule
none_more changes = false

-- the filter leaves properties as they are
abbrev pub as_it_was : NewProperty
as_it_was = IsMade (λ p. p)

-- changes

-- a change that does nothing
abbrev pub change : List ℕ → Change
change path = record { path = path_of path; deletes = false; made = None; props = None; text = None }

-- a new directory
abbrev pub directory : List ℕ → Change
directory path = record { path = path_of path; deletes = false; made = Some Made.NewDirectory; props = None; text = None }

-- a new file with a text
abbrev pub file : List ℕ → List ℕ → Change
file path text =
    record {
      path = path_of path;
      deletes = false;
      made = Some Made.NewFile;
      props = None;
      text = Some (TextChange.Replaced text);
    }

-- a copy
abbrev pub copy : ℕ → List ℕ → List ℕ → Change
copy number source path = record {
  path = path_of path;
  deletes = false;
  made = Some (Made.Copied number (path_of source));
  props = None;
  text = None;
}

-- a deletion
abbrev pub deletion : List ℕ → Change
deletion path = record { path = path_of path; deletes = true; made = None; props = None; text = None }

-- the change, which also deletes what exists at its path
abbrev pub replacing : Change → Change
replacing c = record c { deletes = true }

-- the change, which also sets these properties
abbrev pub setting : List Property → Change → Change
setting props c = record c { props = Some (PropertyChange.Replaced props) }

-- the change, which also edits properties with these entries
abbrev pub editing : List Property → Change → Change
editing entries c = record c { props = Some (PropertyChange.Edited entries) }

-- the change, which also sets this text
abbrev pub writing : List ℕ → Change → Change
writing text c = record c { text = Some (TextChange.Replaced text) }

-- the change, which also patches the text
abbrev pub patching : (List ℕ → Option (List ℕ)) → Change → Change
patching patch c = record c { text = Some (TextChange.Patched patch) }

-- a property
abbrev pub property : List ℕ → List ℕ → Property
property name value = record { name = name; value = Some value }

-- an entry that removes the property of this name
abbrev pub removal : List ℕ → Property
removal name = record { name = name; value = None }

-- the filter keeps entries if it leaves properties as they are
pub entries_stay : KeepsEntries as_it_was
entries_stay old new same = (ap (λ (p : Property). p.name) same, ap (λ (p : Property). is_some p.value) same)

-- what is written of changes

-- a new directory is written as it is
pub same_directory : (settings : Settings) (number : ℕ → ℕ → Type 0) (path : List ℕ)
    → IsNewChange settings as_it_was number (directory path) (directory path)
same_directory settings number path = record { path = refl; deletes = refl; made = tt; props = tt; text = refl }

-- so is a new file
pub same_file : (settings : Settings) (number : ℕ → ℕ → Type 0) (path text : List ℕ)
    → IsNewChange settings as_it_was number (file path text) (file path text)
same_file settings number path text = record { path = refl; deletes = refl; made = tt; props = tt; text = refl }

-- a copy of a kept path is written with its new number
pub same_copy : (settings : Settings) (number : ℕ → ℕ → Type 0) (old new : ℕ) (source path : List ℕ)
    → keeps settings (path_of source) ≡ true → number old new
    → IsNewChange settings as_it_was number (copy old source path) (copy new source path)
same_copy settings number old new source path kept is =
    record { path = refl; deletes = refl; made = (kept, is, refl); props = tt; text = refl }

-- loaded dumps

-- what exists at a path in a revision
abbrev pub node_at : Option (List Tree) → ℕ → List ℕ → Option Node
node_at trees number path =
    option_and_then (λ tree. tree (path_of path)) (option_and_then (λ ts. slice_get ts number) trees)

-- what exists at a path after these revisions are loaded into a new repository
abbrev pub stands : List (List Change) → List ℕ → Option Node
stands revisions path = node_at (loaded_over root_alone revisions) (length revisions) path

-- whether these revisions load, and one more that has only this change is rejected
abbrev pub is_rejected : List (List Change) → Change → Bool
is_rejected revisions c =
    is_some (loaded_over root_alone revisions) && is_none (loaded_over root_alone (revisions ++ (c ∷ []) ∷ []))
