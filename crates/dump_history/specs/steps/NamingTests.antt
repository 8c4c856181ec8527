-- Tests that show which nodes name a revision.
use Rattle.std.specs.Prelude.{◌↔◌, Bool, false, ◌&&◌, List, [], ◌∷◌, if◌then◌else◌, IsTrue}
use Rattle.std.specs.List.{list_any}
use Rattle.dump_records.specs.RecordText.{DumpRecord}
use Rattle.dump_rules.specs.Settings.{Settings}
use Rattle.dump_digest.specs.RecordParts.{is_kept_node}
use Rattle.dump_filter.specs.Groups.{Group, keeps_group}
use Rattle.dump_history.specs.NumberGaps.{NamesRevision}

-- the test shows which nodes name a revision
abbrev pub TellsNaming : (DumpRecord → Bool) → Type 0
TellsNaming names = (r : DumpRecord) → IsTrue (names r) ↔ NamesRevision r

-- whether one of these nodes is kept and names a revision, by such a test
abbrev pub nodes_name : Settings → (DumpRecord → Bool) → List DumpRecord → Bool
nodes_name settings names nodes = list_any (λ r. is_kept_node settings r && names r) nodes

-- whether a node of these groups does
abbrev pub groups_name : Settings → (DumpRecord → Bool) → List Group → Bool
groups_name settings names gs = list_any (λ (g : Group). nodes_name settings names g.nodes) gs

-- whether a node after the first dropped one of them does
abbrev pub groups_name_behind : Settings → (DumpRecord → Bool) → List Group → Bool
groups_name_behind settings names [] = false
groups_name_behind settings names (g ∷ gs) =
    if keeps_group settings g then groups_name_behind settings names gs else groups_name settings names gs
