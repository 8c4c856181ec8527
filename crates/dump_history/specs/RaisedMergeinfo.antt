-- What a load makes of mergeinfo after other revisions (svnadmin load of Subversion 1.14, load-fs-vtable.c): its
-- numbers become higher by as many, and its lines are spelled again. That is so if it names no revision from its own
-- one on; else the load leaves some numbers as they are.
use Rattle.std.specs.Prelude.{◌≡◌, ◌↔◌, ℕ, ◌+◌, Bool, List, Some, Contains, MatchBool}
use Rattle.dump_text.specs.PropertyList.{Property}
use Rattle.dump_rules.specs.Prefix.{bare_path}
use Rattle.dump_rules.specs.RangeList.{HasNumber}
use Rattle.dump_rules.specs.Mergeinfo.{MergeLine, IsMergeinfo}
use Rattle.dump_digest.specs.RecordParts.{is_mergeinfo}

-- the revision number is in a line of this path, as this kind; a leading slash doesn't count
abbrev pub HasMergedNumber : List MergeLine → List ℕ → Bool → ℕ → Type 0
HasMergedNumber lines path kind number = (line : MergeLine) × Contains lines line
    × (bare_path line.path ≡ bare_path path) × HasNumber line.ranges kind number

-- the new lines have for each path the numbers that the old ones have, each higher by this many
abbrev pub AreRaisedLines : ℕ → List MergeLine → List MergeLine → Type 0
AreRaisedLines count old new = (path : List ℕ) (kind : Bool) (number : ℕ) →
    HasMergedNumber new path kind number
    ↔ ((before : ℕ) × (number ≡ count + before) × HasMergedNumber old path kind before)

-- the new value is mergeinfo, and its lines are those of the old one, raised
abbrev pub IsRaisedValue : ℕ → List ℕ → List ℕ → Type 0
IsRaisedValue count old new = (lines raised : List MergeLine)
    × IsMergeinfo old lines × IsMergeinfo new raised × AreRaisedLines count lines raised

-- a property after this many revisions: mergeinfo is raised, and all else stays as it is
pub record IsRaised (count : ℕ) (old new : Property) : Type 0 where
  pub name : new.name ≡ old.name
  pub value : MatchBool (is_mergeinfo old)
      ((value raised : List ℕ) × (old.value ≡ Some value) × (new.value ≡ Some raised)
      × IsRaisedValue count value raised)
      (new.value ≡ old.value)
