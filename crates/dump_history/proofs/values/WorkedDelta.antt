-- An example dump of version 3, as records: a file that is patched and whose properties are edited.
use Rattle.dump_history.proofs.Prelude.{◌≡◌, ◌++◌, Option, None, refl, inl, inr, Header, Property, DumpRecord, HasPropertyList, path_of, Node, Tree, root_alone, put, Made, PropertyChange, TextChange, Change, MakesChange, MakeRevisions, LoadsAs}
use Rattle.std.proofs.Common.{ℕ, false, List, [], ◌∷◌, Some, codes}
use Rattle.dump_history.proofs.values.DeltaValues.{behind, removal}
use Rattle.dump_history.proofs.values.WorkedDump.{line}

abbrev record_of : List Header → List ℕ → List ℕ → DumpRecord
record_of headers props text =
    record { place = 0; version = 3; headers = headers; props = props; text = text }

abbrev revision : List ℕ → DumpRecord
revision number = record_of (line (codes "Revision-number") number ∷ []) [] []

-- lines of a node with deltas, whose property block has this length
abbrev delta_lines : List ℕ → List Header
delta_lines length = line (codes "Prop-delta") (codes "true") ∷ line (codes "Prop-content-length") length
    ∷ line (codes "Text-delta") (codes "true") ∷ line (codes "Text-content-length") (codes "1") ∷ []

abbrev file_line : List ℕ → List Header
file_line action = line (codes "Node-path") (codes "f") ∷ line (codes "Node-kind") (codes "file")
    ∷ line (codes "Node-action") action ∷ []

-- the file is added, and then changed
abbrev added : DumpRecord
added = record_of (file_line (codes "add") ++ delta_lines (codes "24")) (codes "K 1\np\nV 1\nv\nPROPS-END\n")
    (codes "x")

abbrev changed : DumpRecord
changed = record_of (file_line (codes "change") ++ delta_lines (codes "16")) (codes "D 1\np\nPROPS-END\n") (codes "y")

abbrev records : List DumpRecord
records = record_of (line (codes "SVN-fs-dump-format-version") (codes "3") ∷ []) [] []
    ∷ revision (codes "0") ∷ revision (codes "1") ∷ added ∷ revision (codes "2") ∷ changed ∷ []

abbrev setting : Property
setting = record { name = codes "p"; value = Some (codes "v") }

-- what these nodes make
abbrev change : Option Made → Property → List ℕ → Change
change made entry delta = record {
  path = path_of (codes "f");
  deletes = false;
  made = made;
  props = Some (PropertyChange.Edited (entry ∷ []));
  text = Some (TextChange.Patched (λ old. Some (old ++ delta)));
}

abbrev revisions : List (List Change)
revisions = (change (Some Made.NewFile) setting (codes "x") ∷ []) ∷ (change None removal (codes "y") ∷ []) ∷ []

reads_added : HasPropertyList added (setting ∷ [])
reads_added = (
  inr (
    codes "K 1\np\nV 1\nv\n",
    codes "PROPS-END\n",
    refl,
    inl (codes "v", refl, (codes "1", codes "1", refl, refl, refl)),
    refl,
  ),
  λ deletes. cc,
)

reads_changed : HasPropertyList changed (removal ∷ [])
reads_changed =
    (inr (codes "D 1\np\n", codes "PROPS-END\n", refl, inr (refl, (codes "1", refl, refl)), refl), λ deletes. refl)

makes_added : MakesChange behind added (change (Some Made.NewFile) setting (codes "x"))
makes_added = (setting ∷ [], reads_added, refl, refl)

makes_changed : MakesChange behind changed (change None removal (codes "y"))
makes_changed = (removal ∷ [], reads_changed, refl, refl)

makes : MakeRevisions behind records revisions
makes = record {
  numbered = refl;
  ordered = refl;
  changes = (tt, ((makes_added, tt), ((makes_changed, tt), tt)));
}

-- the file with its properties and its text, as each stage of each change puts it
abbrev file : List Property → List ℕ → Tree → Tree
file props text tree = put (path_of (codes "f")) (Node.File props text) tree

abbrev first_tree : Tree
first_tree = file (setting ∷ []) (codes "x") (file (setting ∷ []) [] (file [] [] root_alone))

abbrev second_tree : Tree
second_tree = file [] (codes "xy") (file [] (codes "x") first_tree)

-- the dump loads, and has these trees
loads : LoadsAs behind root_alone records revisions (root_alone ∷ first_tree ∷ second_tree ∷ [])
loads = record { makes = makes; loads = refl }

-- at the end the file has the patched text, and no property
at_the_end : second_tree (path_of (codes "f")) ≡ Some (Node.File [] (codes "xy"))
at_the_end = refl
