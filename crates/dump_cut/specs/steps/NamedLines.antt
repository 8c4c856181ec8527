-- The paths that mergeinfo names, and siblings that cover those outside the cut.
use Rattle.std.specs.Prelude.{◌≡◌, ◌==◌, Bool, ◌||◌, ℕ, List, ◌++◌, codes, Contains, IsTrue, IsFalse}
use Rattle.std.specs.List.{slice_split}
use Rattle.dump_text.specs.HeaderLine.{has_byte}
use Rattle.dump_text.specs.PropertyList.{Property}
use Rattle.dump_records.specs.DumpText.{Ending, HasRecords}
use Rattle.dump_records.specs.RecordText.{DumpRecord}
use Rattle.dump_rules.specs.Mergeinfo.{IsMergeinfo, MergeLine}
use Rattle.dump_digest.specs.RecordParts.{HasPropertyList, is_mergeinfo, value_of}
use Rattle.dump_trees.specs.CanonicalPaths.{canonical_path}
use Rattle.dump_trees.specs.Paths.{NodePath}
use Rattle.dump_trees.specs.Returns.{is_covered}
use Rattle.dump_trees.specs.steps.Siblings.{is_in_cut}

-- whether the path is in the cut, or these siblings cover it
abbrev pub is_left_by : List NodePath → List NodePath → NodePath → Bool
is_left_by included siblings path = is_in_cut included path || is_covered siblings path

-- this holds for the path of each line of the value, as a load reads it
abbrev pub CoverValue : List NodePath → List NodePath → List ℕ → Type 0
CoverValue included siblings value = (lines : List MergeLine) (line : MergeLine) → IsMergeinfo value lines
    → Contains lines line → IsTrue (is_left_by included siblings (canonical_path line.path))

-- it holds for each value of mergeinfo among the properties; the name may occur more than once
abbrev pub CoverProperties : List NodePath → List NodePath → List Property → Type 0
CoverProperties included siblings ps = (p : Property) → Contains ps p → IsTrue (is_mergeinfo p)
    → CoverValue included siblings (value_of p)

-- it holds for the properties of the record
abbrev pub CoverLinesOf : List NodePath → List NodePath → DumpRecord → Type 0
CoverLinesOf included siblings r = (ps : List Property) → HasPropertyList r ps → CoverProperties included siblings ps

-- it holds for all records of the dump
abbrev pub CoverMergeinfo : List NodePath → List NodePath → List ℕ → Type 0
CoverMergeinfo included siblings dump = (records : List DumpRecord) (ending : Ending) (r : DumpRecord) →
    HasRecords dump records ending → Contains records r → CoverLinesOf included siblings r

-- mergeinfo of the dump names the path, as a load reads it: a line has it before its last colon
pub record NamesPath (dump : List ℕ) (path : NodePath) : Type 0 where
  pub records : List DumpRecord
  pub ending : Ending
  pub r : DumpRecord
  pub ps : List Property
  pub p : Property
  pub line : List ℕ
  pub text : List ℕ
  pub ranges : List ℕ
  pub has : HasRecords dump records ending
  pub among : Contains records r
  pub properties : HasPropertyList r ps
  pub there : Contains ps p
  pub merges : IsTrue (is_mergeinfo p)
  pub in_value : Contains (slice_split (λ c. c == 10) (value_of p)) line
  pub parted : line ≡ text ++ codes ":" ++ ranges
  pub last : IsFalse (has_byte 58 ranges)
  pub names : path ≡ canonical_path text

-- these are the paths that mergeinfo of the dump names
pub record AreMergePaths (dump : List ℕ) (paths : List NodePath) : Type 0 where
  pub all : (path : NodePath) → NamesPath dump path → Contains paths path
  pub each : (path : NodePath) → Contains paths path → NamesPath dump path
