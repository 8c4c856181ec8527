-- Copies by which something excluded comes back: its path at the source isn't kept, and the path that it is copied to
-- is kept.
use Rattle.std.specs.Prelude.{◌≡◌, ℕ, zero, suc, List, [], Option, Some, None, Contains, IsTrue}
use Rattle.dump_text.specs.PropertyList.{Property}
use Rattle.dump_rules.specs.Settings.{Settings}
use Rattle.dump_trees.specs.Paths.{keeps}
use Rattle.dump_trees.specs.Changes.{PropertyChange, TextChange, Change, new_text}

-- the entries of a change of properties
abbrev pub entries_in : Option PropertyChange → List Property
entries_in None = []
entries_in (Some (PropertyChange.Replaced entries)) = entries
entries_in (Some (PropertyChange.Edited entries)) = entries

-- one of the entries of the change is this property
abbrev pub SetsProperty : Property → Change → Type 0
SetsProperty p c = Contains (entries_in c.props) p

-- the change makes this text of that old one: it sets this text, or its delta makes it
abbrev pub MakesText : List ℕ → List ℕ → Change → Type 0
MakesText old text c = (change : TextChange) × (c.text ≡ Some change) × (new_text change old ≡ Some text)

-- one of the changes of these revisions does this, and its path is kept
pub record SomeKeptDoes (settings : Settings) (revisions : List (List Change)) (Does : Change → Type 0) : Type 0 where
  pub changes : List Change
  pub change : Change
  pub among : Contains revisions changes
  pub there : Contains changes change
  pub kept : IsTrue (keeps settings change.path)
  pub does : Does change

-- this many kept changes make the text, beginning with an empty one: each changes the text that the one before it made
abbrev pub AreMaking : Settings → List (List Change) → ℕ → List ℕ → Type 0
AreMaking settings revisions zero text = text ≡ []
AreMaking settings revisions (suc count) text = SomeKeptDoes settings revisions
    (λ c. (old : List ℕ) × MakesText old text c × AreMaking settings revisions count old)

-- some number of kept changes make the text
abbrev pub IsMadeByKept : Settings → List (List Change) → List ℕ → Type 0
IsMadeByKept settings revisions text = (count : ℕ) × AreMaking settings revisions count text
