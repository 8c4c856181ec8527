-- Copies to directories of which a part is excluded at the copy alone: the filter takes each as it is, and deletes of that part
-- follow it.
use Rattle.std.specs.Prelude.{ℕ, List, [], ◌∷◌, map, if◌then◌else◌}
use Rattle.dump_records.specs.DumpText.{Ending, HasRecords}
use Rattle.dump_records.specs.RecordText.{DumpRecord}
use Rattle.dump_digest.specs.RecordParts.{is_node}
use Rattle.dump_history.specs.TrimmedDumps.{IsTrimmedText}
use Rattle.dump_history.specs.WrittenNodes.{WrittenNode}

-- what is written

-- the nodes that delete these paths
abbrev pub delete_nodes : List (List ℕ) → List WrittenNode
delete_nodes paths = map WrittenNode.Deletion paths

-- the deletes that follow each record: after a node those of the next list of these paths, if there is one; else none
abbrev pub deletes_behind : List DumpRecord → List (List (List ℕ)) → List (List WrittenNode)
deletes_behind [] deletes = []
deletes_behind (r ∷ records) [] = [] ∷ deletes_behind records []
deletes_behind (r ∷ records) (paths ∷ deletes) =
    if is_node r then delete_nodes paths ∷ deletes_behind records deletes
    else [] ∷ deletes_behind records (paths ∷ deletes)

-- the text is the dump with these deletes after its nodes
abbrev pub IsTrimmedBy : List (List (List ℕ)) → List ℕ → List ℕ → Type 0
IsTrimmedBy deletes dump text = (records : List DumpRecord) → HasRecords dump records Ending.Whole
    → IsTrimmedText records (deletes_behind records deletes) text
