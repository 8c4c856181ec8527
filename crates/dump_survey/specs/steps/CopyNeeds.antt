-- The copies that need their source, in the form in which the program searches for the prefixes to add.
use Rattle.std.specs.Prelude.{◌≡◌, ◌<◌, ℕ, Bool, true, false, not, ◌&&◌, List, [], ◌∷◌, ◌++◌, Option, Some, None, length, filter, map, bytes_eq, if◌then◌else◌, IsTrue, ⊤}
use Rattle.std.specs.List.{list_any, filter_map}
use Rattle.dump_records.specs.RecordText.{DumpRecord}
use Rattle.dump_rules.specs.declared.options.Side.{Side}
use Rattle.dump_rules.specs.declared.options.Side.TheVariants.{Include, Exclude}
use Rattle.dump_rules.specs.Prefix.{matches_path}
use Rattle.dump_digest.specs.RecordParts.{is_node, is_copy, node_path}
use Rattle.dump_filter.specs.NewHeaders.{is_whole_file}
use Rattle.dump_history.specs.RecordChanges.{copy_path}
use Rattle.dump_survey.specs.declared.advice.copy_needs.CopyNeed.{CopyNeed}
use Rattle.dump_survey.specs.declared.advice.copy_needs.NeedCollector.{NeedCollector}
use Rattle.dump_survey.specs.PrefixesToAdd.{wanted_path, matches_itself}

-- a need: if a prefix matches the first path, a prefix has to match the second one, which matches itself
pub record PathNeed : Type 0 where
  pub matched : List ℕ
  pub wanted : List ℕ

-- the need that a value of the program means
abbrev pub need_view : CopyNeed → PathNeed
need_view n = record { matched = n.matched.now; wanted = n.wanted.now }

-- the other path of the copy
abbrev pub other_path : Side → DumpRecord → List ℕ
other_path Include r = node_path r
other_path Exclude r = copy_path r

-- whether the node is a copy that the filter can't write without its source
abbrev pub needs_source : DumpRecord → Bool
needs_source r = is_node r && is_copy r && not (is_whole_file r)

-- the two paths of the copy
abbrev pub copy_need : Side → DumpRecord → PathNeed
copy_need side r = record { matched = other_path side r; wanted = wanted_path side r }

-- what the record needs, if it is such a copy
abbrev pub need_of : Side → DumpRecord → Option PathNeed
need_of side r = if needs_source r && matches_itself (wanted_path side r) then Some (copy_need side r) else None

-- what the records need
abbrev pub needs_of : Side → List DumpRecord → List PathNeed
needs_of side records = filter_map (need_of side) records

-- a collector that was given these records
pub record HasCollected (first : NeedCollector) (records : List DumpRecord) (now : NeedCollector) : Type 0 where
  pub side : now.side ≡ first.side
  pub needs : map need_view now.needs.items ≡ map need_view first.needs.items ++ needs_of first.side records

-- whether a prefix matches the path
abbrev pub is_matched : List (List ℕ) → List ℕ → Bool
is_matched prefixes path = list_any (λ prefix. matches_path prefix path) prefixes

-- whether the need isn't met: a prefix matches its first path, and none matches the second one
abbrev pub is_unmet : List (List ℕ) → PathNeed → Bool
is_unmet prefixes n = is_matched prefixes n.matched && not (is_matched prefixes n.wanted)

-- the prefixes of the options, and the prefixes that were added
pub record Grown : Type 0 where
  pub given : List (List ℕ)
  pub added : List (List ℕ)

-- all these prefixes
abbrev pub grown_prefixes : Grown → List (List ℕ)
grown_prefixes g = g.given ++ g.added

-- each of the paths is the wanted path of a need that isn't met with the prefixes and the paths before it, and it
-- matches itself
abbrev pub AreNeeded : List PathNeed → List (List ℕ) → List (List ℕ) → Type 0
AreNeeded needs prefixes [] = ⊤
AreNeeded needs prefixes (path ∷ paths) =
    IsTrue (list_any (λ (n : PathNeed). is_unmet prefixes n && bytes_eq n.wanted path) needs)
    × IsTrue (matches_itself path) × AreNeeded needs (prefixes ++ path ∷ []) paths

-- the number of needs whose wanted path no prefix matches
abbrev pub unmatched : List PathNeed → List (List ℕ) → ℕ
unmatched needs prefixes = length (filter (λ (n : PathNeed). not (is_matched prefixes n.wanted)) needs)

-- each wanted path matches itself
abbrev pub each_matches_itself : List PathNeed → Bool
each_matches_itself needs = not (list_any (λ (n : PathNeed). not (matches_itself n.wanted)) needs)

-- a pass over the needs added what is needed. If it added nothing, each need is met. If it added something, fewer
-- needs are unmatched.
pub record IsPass (needs : List PathNeed) (old new : Grown) (grew : Bool) : Type 0 where
  pub given : new.given ≡ old.given
  pub more : List (List ℕ)
  pub added : new.added ≡ old.added ++ more
  pub needed : AreNeeded needs (grown_prefixes old) more
  pub closed : grew ≡ false → list_any (is_unmet (grown_prefixes new)) needs ≡ false
  pub fewer : grew ≡ true → unmatched needs (grown_prefixes new) < unmatched needs (grown_prefixes old)
