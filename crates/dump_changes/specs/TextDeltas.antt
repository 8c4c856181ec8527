-- The readings of text deltas that read svndiff, version 0, as its definition does.
use Rattle.std.specs.Prelude.{◌≡◌, ℕ, List, Some}
use Rattle.svndiff.specs.Svndiff.{patch}
use Rattle.dump_history.specs.RecordChanges.{Patching}

-- where the definition makes a text of a delta and an old text, the reading makes the same. Of other deltas it may make anything
abbrev pub AgreesWithSvndiff : Patching → Type 0
AgreesWithSvndiff patched = (delta old text : List ℕ) → patch delta old ≡ Some text → patched delta old ≡ Some text
