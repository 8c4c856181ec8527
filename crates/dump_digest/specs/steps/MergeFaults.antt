-- The faults of a node's mergeinfo, which are those of all its properties together.
use Rattle.std.specs.Prelude.{ℕ, Bool, ◌&&◌, List, Contains, Option, Some, None, if◌then◌else◌, IsTrue}
use Rattle.std.specs.List.{list_any}
use Rattle.dump_text.specs.declared.fault.FaultKind.{FaultKind}
use Rattle.dump_text.specs.declared.fault.FaultKind.TheVariants.{MergeInfo, MergeSource, MergeRange}
use Rattle.dump_text.specs.PropertyList.{Property, IsPropertyBlock}
use Rattle.dump_rules.specs.Settings.{Settings}
use Rattle.dump_rules.specs.Mergeinfo.{HasMergeLines}
use Rattle.dump_rules.specs.steps.RewrittenLines.{value_misses, value_foreign}
use Rattle.dump_digest.specs.RecordParts.{is_mergeinfo, value_of}

-- whether the property is mergeinfo with a line whose path isn't kept, and missing sources aren't skipped
abbrev pub misses : Settings → Property → Bool
misses settings p = is_mergeinfo p && value_misses settings (value_of p)

-- whether the property is mergeinfo with a number that the dump can't have
abbrev pub is_foreign : Settings → ℕ → ℕ → Property → Bool
is_foreign settings first present p = is_mergeinfo p && value_foreign settings first present (value_of p)

-- the fault of the mergeinfo in the properties of a kept node, whose values can be read or not
abbrev pub merge_fault : Settings → ℕ → ℕ → Bool → List Property → Option FaultKind
merge_fault settings first present ok ps =
    if ok then
    (if list_any (misses settings) ps then Some MergeSource
    else if list_any (is_foreign settings first present) ps then Some MergeRange
    else None)
    else Some MergeInfo

-- each value of mergeinfo in the block is lines of mergeinfo
abbrev pub HasGoodMergeinfo : List ℕ → Type 0
HasGoodMergeinfo block = (ps : List Property) → IsPropertyBlock block ps → (p : Property) → Contains ps p
    → IsTrue (is_mergeinfo p)
    → ¬ ¬ HasMergeLines (value_of p)
