-- An example dump with a dropped revision and a copy whose number changes: its records, its changes and its trees.
use Rattle.dump_history.proofs.Prelude.{◌≡◌, true, ◌++◌, length, Option, None, refl, sym, ap, ◌∙◌, inl, lit<, Header, is_block, Ending, HasRecords, IsCutInto, property_length, text_length, DumpRecord, record_text, is_lawful, BeginsWithRecord, Include, DropEmptied, Settings, HasPropertyList, path_of, Node, Tree, root_alone, put, grafted, Made, Change, Patching, MakesChange, MakeRevisions, LoadsAs}
use Rattle.std.proofs.Common.{ℕ, false, List, [], ◌∷◌, Some, codes}
use Rattle.dump_rules.specs.PlainSettings.{plain_settings}

-- a header line
abbrev pub line : List ℕ → List ℕ → Header
line name value = record { name = name; value = value }

-- a record of these lines, without content
abbrev pub record_at : ℕ → List Header → DumpRecord
record_at place headers = record { place = place; version = 2; headers = headers; props = []; text = [] }

-- the records, each at its place in the dump

-- the version
abbrev pub version : DumpRecord
version = record_at 0 (line (codes "SVN-fs-dump-format-version") (codes "2") ∷ [])

-- revision 0
abbrev pub zero : DumpRecord
zero = record_at 31 (line (codes "Revision-number") (codes "0") ∷ [])

-- revision 1
abbrev pub one : DumpRecord
one = record_at 51 (line (codes "Revision-number") (codes "1") ∷ [])

-- a directory that is kept
abbrev pub trunk : DumpRecord
trunk = record_at 71 (line (codes "Node-path") (codes "trunk")
    ∷ line (codes "Node-kind") (codes "dir")
    ∷ line (codes "Node-action") (codes "add") ∷ [])

-- revision 2
abbrev pub two : DumpRecord
two = record_at 121 (line (codes "Revision-number") (codes "2") ∷ [])

-- a directory that is dropped
abbrev pub other : DumpRecord
other = record_at 141 (line (codes "Node-path") (codes "other")
    ∷ line (codes "Node-kind") (codes "dir")
    ∷ line (codes "Node-action") (codes "add") ∷ [])

-- revision 3
abbrev pub three : DumpRecord
three = record_at 191 (line (codes "Revision-number") (codes "3") ∷ [])

-- a copy of the kept directory from the dropped revision
abbrev pub copy : DumpRecord
copy = record_at 211 (line (codes "Node-path") (codes "trunk/b")
    ∷ line (codes "Node-kind") (codes "dir")
    ∷ line (codes "Node-action") (codes "add")
    ∷ line (codes "Node-copyfrom-rev") (codes "2")
    ∷ line (codes "Node-copyfrom-path") (codes "trunk") ∷ [])

-- its records
abbrev pub records : List DumpRecord
records = version ∷ zero ∷ one ∷ trunk ∷ two ∷ other ∷ three ∷ copy ∷ []

-- the records' bytes, one after another
abbrev pub joined : List DumpRecord → List ℕ
joined [] = []
joined (r ∷ rest) = record_text r ++ joined rest

-- the dump
abbrev pub dump : List ℕ
dump = joined records

its_text : dump ≡ codes "SVN-fs-dump-format-version: 2\n\nRevision-number: 0\n\nRevision-number: 1\n\n"
    ++ codes "Node-path: trunk\nNode-kind: dir\nNode-action: add\n\nRevision-number: 2\n\n"
    ++ codes "Node-path: other\nNode-kind: dir\nNode-action: add\n\nRevision-number: 3\n\n"
    ++ codes "Node-path: trunk/b\nNode-kind: dir\nNode-action: add\nNode-copyfrom-rev: 2\n"
    ++ codes "Node-copyfrom-path: trunk\n\n"
its_text = refl

-- include trunk, drop emptied revisions and renumber
abbrev pub settings : Settings
settings = record (plain_settings Include (codes "trunk" ∷ [])) { empty = DropEmptied; renumber = true }

-- the changes, and the trees once they are loaded

-- what is made at a path, without properties and text
abbrev pub directory : List ℕ → Option Made → Change
directory path made = record { path = path_of path; deletes = false; made = made; props = None; text = None }

-- the changes of its revisions
abbrev pub revisions : List (List Change)
revisions = (directory (codes "trunk") (Some Made.NewDirectory) ∷ [])
    ∷ (directory (codes "other") (Some Made.NewDirectory) ∷ [])
    ∷ (directory (codes "trunk/b") (Some (Made.Copied 2 (path_of (codes "trunk")))) ∷ [])
    ∷ []

-- a record without property bytes has no properties
pub none_of : (r : DumpRecord) → r.props ≡ [] → HasPropertyList r []
none_of r empty = (inl (empty, refl), λ deletes. cc)

pub makes_trunk : (patched : Patching) → MakesChange patched trunk (directory (codes "trunk") (Some Made.NewDirectory))
makes_trunk patched = ([], none_of trunk refl, refl, refl)

pub makes_other : (patched : Patching) → MakesChange patched other (directory (codes "other") (Some Made.NewDirectory))
makes_other patched = ([], none_of other refl, refl, refl)

makes_copy : (patched : Patching) → MakesChange patched copy
    (directory (codes "trunk/b") (Some (Made.Copied 2 (path_of (codes "trunk")))))
makes_copy patched = ([], none_of copy refl, refl, refl)

makes : (patched : Patching) → MakeRevisions patched records revisions
makes patched = record {
  numbered = refl;
  ordered = refl;
  changes = (tt, ((makes_trunk patched, tt), ((makes_other patched, tt), ((makes_copy patched, tt), tt))));
}

-- the tree of revision 1
abbrev pub first_tree : Tree
first_tree = put (path_of (codes "trunk")) (Node.Directory []) root_alone

-- that of revision 2
abbrev pub second_tree : Tree
second_tree = put (path_of (codes "other")) (Node.Directory []) first_tree

-- that of revision 3
abbrev pub third_tree : Tree
third_tree = grafted (path_of (codes "trunk/b")) (λ rest. second_tree (path_of (codes "trunk") ++ rest)) second_tree

-- the trees, once it is loaded
abbrev pub trees : List Tree
trees = root_alone ∷ first_tree ∷ second_tree ∷ third_tree ∷ []

-- the dump makes these revisions, and has these trees
pub loads : (patched : Patching) → LoadsAs patched root_alone records revisions trees
loads patched = record { makes = makes patched; loads = refl }

-- the dump is these records to its end

pub stands_here : (number : ℕ) (r : DumpRecord) (rest : List DumpRecord) → is_block r.headers ≡ true
    → is_lawful number r.headers ≡ true → r.props ≡ [] → r.text ≡ [] → property_length r.headers ≡ 0
    → text_length r.headers ≡ 0 → BeginsWithRecord number (joined (r ∷ rest)) r (joined rest)
stands_here number r rest block lawful props text no_props no_text = record {
  block = block;
  lawful = lawful;
  props_fit = ap length props ∙ sym no_props;
  text_fits = ap length text ∙ sym no_text;
  spelled = refl;
}

cut_copy : IsCutInto 7 copy.place (joined (copy ∷ []))
    (copy ∷ []) []
cut_copy = (
  0,
  joined (copy ∷ []),
  joined ([]),
  refl,
  refl,
  stands_here 7 copy ([]) refl refl refl refl refl refl,
  (0, refl, refl),
)

cut_three : IsCutInto 6 three.place (joined (three ∷ copy ∷ []))
    (three ∷ copy ∷ []) []
cut_three = (
  0,
  joined (three ∷ copy ∷ []),
  joined (copy ∷ []),
  refl,
  refl,
  stands_here 6 three (copy ∷ []) refl refl refl refl refl refl,
  cut_copy,
)

cut_other : IsCutInto 5 other.place (joined (other ∷ three ∷ copy ∷ []))
    (other ∷ three ∷ copy ∷ []) []
cut_other = (
  0,
  joined (other ∷ three ∷ copy ∷ []),
  joined (three ∷ copy ∷ []),
  refl,
  refl,
  stands_here 5 other (three ∷ copy ∷ []) refl refl refl refl refl refl,
  cut_three,
)

cut_two : IsCutInto 4 two.place (joined (two ∷ other ∷ three ∷ copy ∷ []))
    (two ∷ other ∷ three ∷ copy ∷ []) []
cut_two = (
  0,
  joined (two ∷ other ∷ three ∷ copy ∷ []),
  joined (other ∷ three ∷ copy ∷ []),
  refl,
  refl,
  stands_here 4 two (other ∷ three ∷ copy ∷ []) refl refl refl refl refl refl,
  cut_other,
)

cut_trunk : IsCutInto 3 trunk.place (joined (trunk ∷ two ∷ other ∷ three ∷ copy ∷ []))
    (trunk ∷ two ∷ other ∷ three ∷ copy ∷ []) []
cut_trunk = (
  0,
  joined (trunk ∷ two ∷ other ∷ three ∷ copy ∷ []),
  joined (two ∷ other ∷ three ∷ copy ∷ []),
  refl,
  refl,
  stands_here 3 trunk (two ∷ other ∷ three ∷ copy ∷ []) refl refl refl refl refl refl,
  cut_two,
)

cut_one : IsCutInto 2 one.place (joined (one ∷ trunk ∷ two ∷ other ∷ three ∷ copy ∷ []))
    (one ∷ trunk ∷ two ∷ other ∷ three ∷ copy ∷ []) []
cut_one = (
  0,
  joined (one ∷ trunk ∷ two ∷ other ∷ three ∷ copy ∷ []),
  joined (trunk ∷ two ∷ other ∷ three ∷ copy ∷ []),
  refl,
  refl,
  stands_here 2 one (trunk ∷ two ∷ other ∷ three ∷ copy ∷ []) refl refl refl refl refl refl,
  cut_trunk,
)

cut_zero : IsCutInto 1 zero.place (joined (zero ∷ one ∷ trunk ∷ two ∷ other ∷ three ∷ copy ∷ []))
    (zero ∷ one ∷ trunk ∷ two ∷ other ∷ three ∷ copy ∷ []) []
cut_zero = (
  0,
  joined (zero ∷ one ∷ trunk ∷ two ∷ other ∷ three ∷ copy ∷ []),
  joined (one ∷ trunk ∷ two ∷ other ∷ three ∷ copy ∷ []),
  refl,
  refl,
  stands_here 1 zero (one ∷ trunk ∷ two ∷ other ∷ three ∷ copy ∷ []) refl refl refl refl refl refl,
  cut_one,
)

cut_version : IsCutInto 0 version.place (joined (version ∷ zero ∷ one ∷ trunk ∷ two ∷ other ∷ three ∷ copy ∷ []))
    (version ∷ zero ∷ one ∷ trunk ∷ two ∷ other ∷ three ∷ copy ∷ []) []
cut_version = (
  0,
  joined (version ∷ zero ∷ one ∷ trunk ∷ two ∷ other ∷ three ∷ copy ∷ []),
  joined (zero ∷ one ∷ trunk ∷ two ∷ other ∷ three ∷ copy ∷ []),
  refl,
  refl,
  stands_here 0 version (zero ∷ one ∷ trunk ∷ two ∷ other ∷ three ∷ copy ∷ []) refl refl refl refl refl refl,
  cut_zero,
)

-- the dump is these records to its end
pub whole : HasRecords dump records Ending.Whole
whole = ([], cut_version, (refl, (refl, (refl, (refl, (refl, (refl, (refl, (refl, tt)))))))), (refl, lit< tt))
