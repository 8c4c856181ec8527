-- The paths that are added to those that mergeinfo names.
use Rattle.std.specs.Prelude.{◌≡◌, ◌==◌, ◌⊎◌, ℕ, List, ◌++◌, codes, Contains, IsTrue, IsFalse}
use Rattle.std.specs.List.{slice_split}
use Rattle.dump_text.specs.HeaderLine.{has_byte}
use Rattle.dump_text.specs.PropertyList.{Property}
use Rattle.dump_records.specs.RecordText.{DumpRecord}
use Rattle.dump_digest.specs.RecordParts.{HasPropertyList, is_mergeinfo, value_of}
use Rattle.dump_trees.specs.CanonicalPaths.{canonical_path}
use Rattle.dump_trees.specs.Paths.{NodePath}

-- the new paths are the old ones and those of which this is true
pub record AddsPaths (old new : List NodePath) (Added : NodePath → Type 0) : Type 0 where
  pub kept : (path : NodePath) → Contains old path → Contains new path
  pub all : (path : NodePath) → Added path → Contains new path
  pub each : (path : NodePath) → Contains new path → Contains old path ⊎ Added path

-- the line names the path, which it has before its last colon
abbrev pub IsInLine : List ℕ → NodePath → Type 0
IsInLine line path = (text ranges : List ℕ) × (line ≡ text ++ codes ":" ++ ranges) × IsFalse (has_byte 58 ranges)
    × (path ≡ canonical_path text)

-- one of the lines names the path
abbrev pub IsInLines : List (List ℕ) → NodePath → Type 0
IsInLines lines path = (line : List ℕ) × Contains lines line × IsInLine line path

-- a line of the value names the path
abbrev pub IsInValue : List ℕ → NodePath → Type 0
IsInValue value path = IsInLines (slice_split (λ c. c == 10) value) path

-- a value of mergeinfo among the properties names the path
abbrev pub IsInProperties : List Property → NodePath → Type 0
IsInProperties ps path = (p : Property) × Contains ps p × IsTrue (is_mergeinfo p) × IsInValue (value_of p) path

-- the mergeinfo of the record names the path
abbrev pub IsInRecord : DumpRecord → NodePath → Type 0
IsInRecord r path = (ps : List Property) × HasPropertyList r ps × IsInProperties ps path
