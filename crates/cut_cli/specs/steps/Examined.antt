-- What is found in a dump before it is filtered.
use Rattle.std.specs.Prelude.{◌≡◌, ℕ, true, List, map, Option, Some, None, IsTrue, MatchBool, Result, Ok, Err, option_map}
use Rattle.std.specs.List.{list_all}
use Rattle.dump_records.specs.DumpText.{Ending, HasRecords}
use Rattle.dump_records.specs.RecordText.{DumpRecord}
use Rattle.dump_filter.specs.Groups.{revision_numbers}
use Rattle.dump_trees.specs.Paths.{NodePath}
use Rattle.dump_cut.specs.steps.NamedPaths.{has_named_paths}
use Rattle.dump_index.specs.steps.Listed.{Listed, listed_of}
use Rattle.dump_index.specs.declared.change.NodeChange.{NodeChange}
use Rattle.dump_changes.specs.ListedDumps.{rise_from}
use Rattle.dump_changes.specs.steps.ListedDumps.{AreListedIn, are_numbered}
use Rattle.dump_changes.specs.steps.NodeProperties.{HaveNodeNumbers}
use Rattle.cut_cli.specs.steps.Cuts.{AreChangesOf, AreListedButNumbers, BringsNothingBack, ExcludesWithReturns, HasAdditionsFor, IsObstacleTo, IsReadyFor, IsSetUp, IsTakenDump, writes_additions}
use Rattle.cut_cli.specs.Words.{CutMeaning}
use Rattle.cut_cli.specs.declared.examine.Obstacle.{Obstacle}
use Rattle.cut_cli.specs.declared.examine.Obstacle.TheVariants.{OddDelete}
use Rattle.cut_cli.specs.declared.examine.Ready.{Ready}
use Rattle.cut_cli.specs.declared.expansion.Expansion.{Expansion}
use Rattle.cut_cli.specs.declared.read.Front.{Front}
use Rattle.cut_cli.specs.declared.read.Known.{Known}

-- the text that the filter reads in place of the dump
abbrev pub expansion_text : Option Expansion → Option (List ℕ)
expansion_text expansion = option_map (λ (e : Expansion). e.text.items) expansion

-- how the dump is cut, or why it isn't
abbrev pub IsExamined : CutMeaning → List ℕ → Result Ready Obstacle → Type 0
IsExamined m dump (Ok ready) = IsReadyFor m dump (expansion_text ready.expansion) ready.options ready.deletes
IsExamined m dump (Err obstacle) = IsObstacleTo m dump obstacle

-- how a dump with these changes is cut; or a path can't be deleted after one of them
abbrev pub IsPrepared : CutMeaning → List NodePath → List Listed → Result Ready Obstacle → Type 0
IsPrepared m excluded read (Ok ready) = IsSetUp m excluded read ready.options ready.deletes × (ready.expansion ≡ None)
IsPrepared m excluded read (Err obstacle) = (place : ℕ) × (obstacle ≡ OddDelete place)

-- the text can be cut: a load takes it, and nothing comes back in it
abbrev pub IsFrontToCut : List ℕ → List NodePath → Front → Type 0
IsFrontToCut text excluded front = IsTakenDump text front.index × BringsNothingBack front.index excluded
    × IsTrue (list_all has_named_paths front.index)

-- how a dump with additions is cut, or why it isn't; or there is one that can't be cut
abbrev pub IsExpandedToCut : CutMeaning → List ℕ → List Listed → List NodePath → Option (Result Ready Obstacle) → Type 0
IsExpandedToCut m dump listed excluded None = (text : List ℕ) × HasAdditionsFor dump listed excluded text
IsExpandedToCut m dump listed excluded (Some found) =
    writes_additions m.side m.keep ≡ true → ExcludesWithReturns m dump listed excluded → IsExamined m dump found

-- these are the changes of the dump; or, if its revisions aren't numbered 0, 1, 2 and so on, they are these except for
-- the numbers of the revisions from which they copy
abbrev pub AreReadAs : List DumpRecord → List NodeChange → List NodeChange → Type 0
AreReadAs records changes known =
    MatchBool (are_numbered records) (changes ≡ known) (AreListedButNumbers changes (map listed_of known))

-- the changes of the whole dump were read as these
pub record AreKnownOf (dump : List ℕ) (known : List NodeChange) : Type 0 where
  pub records : List DumpRecord
  pub changes : List NodeChange
  pub whole : HasRecords dump records Ending.Whole
  pub rise : rise_from 0 (revision_numbers records) ≡ true
  pub are_listed : AreListedIn records changes
  pub numbers : HaveNodeNumbers records changes
  pub read_as : AreReadAs records changes known

-- these changes were read of the dump: all of them, unless the reading stops before its end
pub record IsKnownOf (dump : List ℕ) (known : Known) : Type 0 where
  pub named : IsTrue (list_all has_named_paths (map listed_of known.changes.items))
  pub whole : known.stop ≡ None → AreKnownOf dump known.changes.items

-- an index says this of the changes of the dump, unless the reading stops before its end
abbrev pub IsFrontOf : List ℕ → Front → Type 0
IsFrontOf dump front = front.stop ≡ None → AreChangesOf dump front.index
