-- Dumps whose copies are trimmed: what the filter writes, and after its nodes deletions of what they take to paths that
-- aren't kept. So a copy of which a part isn't kept stays a copy, and nothing has to be written out in its place.
use Rattle.std.specs.Prelude.{◌≡◌, ℕ, Bool, true, ◌&&◌, List, [], ◌∷◌, ◌++◌, map, IsTrue}
use Rattle.std.specs.List.{AllZip, list_all}
use Rattle.dump_records.specs.DumpText.{line_feeds}
use Rattle.dump_records.specs.RecordText.{DumpRecord}
use Rattle.dump_digest.specs.RecordParts.{is_node}
use Rattle.dump_history.specs.WrittenNodes.{WrittenNode, node_record, can_be_written}
use Rattle.dump_history.specs.ExpandedText.{AreRecordTexts}

-- what is written after

-- the records, and after each these nodes
abbrev pub records_behind : List DumpRecord → List (List WrittenNode) → List DumpRecord
records_behind [] behind = []
records_behind (r ∷ records) [] = []
records_behind (r ∷ records) (nodes ∷ behind) =
    r ∷ (map (node_record r.place r.version) nodes ++ records_behind records behind)

-- whether these nodes may follow the record: only a node is followed by nodes, and these have to be such that can be
-- written
abbrev pub may_stand_behind : DumpRecord → List WrittenNode → Bool
may_stand_behind r [] = true
may_stand_behind r (w ∷ nodes) = is_node r && list_all can_be_written (w ∷ nodes)

-- the text has the records, and after each these nodes, which may follow it
pub record IsTrimmedText (records : List DumpRecord) (behind : List (List WrittenNode)) (text : List ℕ) : Type 0 where
  pub may : AllZip (λ r nodes. IsTrue (may_stand_behind r nodes)) records behind
  pub lfs : ℕ
  pub front : List ℕ
  pub spelled : text ≡ line_feeds lfs ++ front
  pub texts : AreRecordTexts (records_behind records behind) front
