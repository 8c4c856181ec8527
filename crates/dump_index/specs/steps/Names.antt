-- Names that are added to others.
use Rattle.std.specs.Prelude.{◌≡◌, ℕ, Bool, true, false, ◌&&◌, ◌||◌, List, map, Option, Some, None, is_some, slice_get, bytes_eq, nat_lt}
use Rattle.std.specs.Borrow.{Bor}
use Rattle.dump_trees.specs.Paths.{is_name}
use Rattle.dump_index.specs.steps.Listed.{Listed}
use Rattle.dump_index.specs.steps.Children.{is_child_named}
use Rattle.dump_index.specs.steps.Keys.{PathKey}

-- the borrowed texts
abbrev pub texts_of : List (Bor (List ℕ)) → List (List ℕ)
texts_of texts = map (λ (text : Bor (List ℕ)). text.now) texts

-- whether there is such a change, and it makes something
abbrev pub makes_there : Option Listed → Bool
makes_there None = false
makes_there (Some l) = is_some l.made

-- whether the change at this place makes something
abbrev pub makes_at : List Listed → ℕ → Bool
makes_at listed place = makes_there (slice_get listed place)

-- whether the key is of this path, and of one of this number of first changes that makes something
abbrev pub makes_key : List Listed → ℕ → List ℕ → PathKey → Bool
makes_key listed count path key = bytes_eq key.0 path && (nat_lt key.1 count && makes_at listed key.1)

-- the new names are the old ones and those that pass the test
abbrev pub AddsNames : List (Bor (List ℕ)) → List (Bor (List ℕ)) → (List ℕ → Bool) → Type 0
AddsNames old new more = (name : List ℕ) → is_child_named (texts_of new) name ≡ (is_child_named (texts_of old) name || more name)

-- each of them can be the name of a node
abbrev pub AreNames : List (Bor (List ℕ)) → Type 0
AreNames names = (name : List ℕ) → is_child_named (texts_of names) name ≡ true → is_name name ≡ true
