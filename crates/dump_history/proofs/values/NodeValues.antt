-- Examples of the changes that nodes make; the checker computes and proves them.
use Rattle.dump_history.proofs.Prelude.{◌≡◌, true, ◌++◌, Option, None, refl, inl, inr, Header, Property, DumpRecord, HasPropertyList, path_of, Made, PropertyChange, TextChange, Change, Patching, change_of, loads_as_written, MakesChange}
use Rattle.std.proofs.Common.{ℕ, false, List, [], ◌∷◌, Some, codes}
use Rattle.dump_history.proofs.values.WorkedDump.{line}

-- every delta is rejected
abbrev refused : Patching
refused delta old = None

-- a node of these lines, properties and text under a version
abbrev node_under : ℕ → List Header → List ℕ → List ℕ → DumpRecord
node_under version headers props text =
    record { place = 0; version = version; headers = headers; props = props; text = text }

-- a node without content, of this path and action, with more lines
abbrev node : List ℕ → List ℕ → List Header → DumpRecord
node path action more =
    node_under 2 (line (codes "Node-path") path ∷ line (codes "Node-action") action ∷ more) [] []

-- a change of the path a/b that makes nothing, deletes nothing and sets nothing
abbrev nothing : Change
nothing = record { path = path_of (codes "a/b"); deletes = false; made = None; props = None; text = None }

abbrev kind : List ℕ → Header
kind value = line (codes "Node-kind") value

abbrev copied_from : List Header
copied_from = line (codes "Node-copyfrom-rev") (codes "7") ∷ line (codes "Node-copyfrom-path") (codes "trunk/c") ∷ []

-- what is copied from trunk/c in revision 7
abbrev copy : Option Made
copy = Some (Made.Copied 7 (codes "trunk" ∷ codes "c" ∷ []))

-- the actions

add_file : change_of refused (node (codes "a/b") (codes "add") (kind (codes "file") ∷ [])) []
    ≡ Some (record nothing { made = Some Made.NewFile })
add_file = refl

add_directory : change_of refused (node (codes "a/b") (codes "add") (kind (codes "dir") ∷ [])) []
    ≡ Some (record nothing { made = Some Made.NewDirectory })
add_directory = refl

-- without a kind, or of an unknown one, nothing is made
add_no_kind : change_of refused (node (codes "a/b") (codes "add") []) [] ≡ Some nothing
add_no_kind = refl

add_unknown_kind : change_of refused (node (codes "a/b") (codes "add") (kind (codes "symlink") ∷ [])) [] ≡ Some nothing
add_unknown_kind = refl

add_copy : change_of refused (node (codes "a/b") (codes "add") copied_from) [] ≡ Some (record nothing { made = copy })
add_copy = refl

-- a copy's kind doesn't count
add_copy_of_kind : change_of refused (node (codes "a/b") (codes "add") (kind (codes "dir") ∷ copied_from)) []
    ≡ Some (record nothing { made = copy })
add_copy_of_kind = refl

-- leading zeros of the copy's revision, and a leading slash of its source
add_copy_spelled : change_of refused (node (codes "a/b") (codes "add") (line (codes "Node-copyfrom-rev") (codes "007")
    ∷ line (codes "Node-copyfrom-path") (codes "/trunk/c") ∷ [])) [] ≡ Some (record nothing { made = copy })
add_copy_spelled = refl

add_copy_of_root : change_of refused (node (codes "a/b") (codes "add") (line (codes "Node-copyfrom-rev") (codes "1")
    ∷ line (codes "Node-copyfrom-path") [] ∷ [])) [] ≡ Some (record nothing { made = Some (Made.Copied 1 []) })
add_copy_of_root = refl

change_alone : change_of refused (node (codes "a/b") (codes "change") []) [] ≡ Some nothing
change_alone = refl

-- what a change says of a kind and of a copy source isn't looked at
change_with_source : change_of refused (node (codes "a/b") (codes "change") (kind (codes "file") ∷ copied_from)) []
    ≡ Some nothing
change_with_source = refl

delete : change_of refused (node (codes "a/b") (codes "delete") []) [] ≡ Some (record nothing { deletes = true })
delete = refl

delete_with_source : change_of refused (node (codes "a/b") (codes "delete") (kind (codes "file") ∷ copied_from)) []
    ≡ Some (record nothing { deletes = true })
delete_with_source = refl

replace_file : change_of refused (node (codes "a/b") (codes "replace") (kind (codes "file") ∷ [])) []
    ≡ Some (record nothing { deletes = true; made = Some Made.NewFile })
replace_file = refl

replace_no_kind : change_of refused (node (codes "a/b") (codes "replace") []) []
    ≡ Some (record nothing { deletes = true })
replace_no_kind = refl

replace_copy : change_of refused (node (codes "a/b") (codes "replace") copied_from) []
    ≡ Some (record nothing { deletes = true; made = copy })
replace_copy = refl

-- an unknown action, one of another case, and none

unknown_action : change_of refused (node (codes "a/b") (codes "move") []) [] ≡ None
unknown_action = refl

other_case : change_of refused (node (codes "a/b") (codes "Add") (kind (codes "file") ∷ [])) [] ≡ None
other_case = refl

no_action : change_of refused (node_under 2 (line (codes "Node-path") (codes "a/b")
    ∷ kind (codes "file") ∷ []) [] []) []
    ≡ None
no_action = refl

-- the paths

leading_slash : change_of refused (node (codes "/a/b") (codes "change") []) [] ≡ Some nothing
leading_slash = refl

of_root : change_of refused (node [] (codes "change") []) [] ≡ Some (record nothing { path = [] })
of_root = refl

-- properties and text

abbrev property : Property
property = record { name = codes "p"; value = Some (codes "v") }

abbrev block : List ℕ
block = codes "K 1\np\nV 1\nv\nPROPS-END\n"

abbrev with_block : List ℕ → List ℕ → DumpRecord
with_block size props = record (node (codes "a/b") (codes "change")
    (line (codes "Prop-content-length") size ∷ [])) { props = props }

abbrev with_text : List ℕ → List ℕ → DumpRecord
with_text size text = record (node (codes "a/b") (codes "change")
    (line (codes "Text-content-length") size ∷ [])) { text = text }

sets_properties : change_of refused (with_block (codes "24") block) (property ∷ [])
    ≡ Some (record nothing { props = Some (PropertyChange.Replaced (property ∷ [])) })
sets_properties = refl

-- an empty block, or one of no bytes, sets the empty list
empty_block : change_of refused (with_block (codes "10") (codes "PROPS-END\n")) []
    ≡ Some (record nothing { props = Some (PropertyChange.Replaced []) })
empty_block = refl

no_bytes : change_of refused (with_block (codes "0") []) []
    ≡ Some (record nothing { props = Some (PropertyChange.Replaced []) })
no_bytes = refl

sets_text : change_of refused (with_text (codes "2") (codes "hi")) []
    ≡ Some (record nothing { text = Some (TextChange.Replaced (codes "hi")) })
sets_text = refl

empty_text : change_of refused (with_text (codes "0") []) []
    ≡ Some (record nothing { text = Some (TextChange.Replaced []) })
empty_text = refl

-- a copy with its own properties and text
all_at_once : change_of refused (record (node (codes "a/b") (codes "replace") (kind (codes "file")
    ∷ line (codes "Prop-content-length") (codes "24") ∷ line (codes "Text-content-length") (codes "2")
    ∷ copied_from)) { props = block; text = codes "hi" }) (property ∷ [])
    ≡ Some (record {
      path = path_of (codes "a/b");
      deletes = true;
      made = copy;
      props = Some (PropertyChange.Replaced (property ∷ []));
      text = Some (TextChange.Replaced (codes "hi"));
    })
all_at_once = refl

-- deltas, under each version

abbrev with_delta : ℕ → List ℕ → List ℕ → DumpRecord
with_delta version name value = node_under version (line (codes "Node-path") (codes "a/b")
    ∷ line (codes "Node-action") (codes "change") ∷ line name value ∷ []) [] []

property_delta_under_2 : change_of refused (with_delta 2 (codes "Prop-delta") (codes "true")) [] ≡ None
property_delta_under_2 = refl

-- under version 3 a delta counts if there is a length
property_delta_alone : change_of refused (with_delta 3 (codes "Prop-delta") (codes "true")) [] ≡ Some nothing
property_delta_alone = refl

text_delta_under_2 : change_of refused (with_delta 2 (codes "Text-delta") (codes "true")) [] ≡ None
text_delta_under_2 = refl

text_delta_alone : change_of refused (with_delta 3 (codes "Text-delta") (codes "true")) [] ≡ Some nothing
text_delta_alone = refl

no_delta : change_of refused (with_delta 3 (codes "Text-delta") (codes "false")) [] ≡ Some nothing
no_delta = refl

-- a property that is deleted: under version 2 no node has one
deleted_property : HasPropertyList (with_block (codes "14") (codes "D 1\np\nPROPS-END\n"))
    (record { name = codes "p"; value = None } ∷ []) → ⊥
deleted_property list = absurd (let bad : false ≡ true = list.1 refl in cc)

-- texts that the load reads as they are, and others

plain : loads_as_written (node (codes "a/b") (codes "add") copied_from) (property ∷ []) ≡ true
plain = refl

plain_slash : loads_as_written (node (codes "/a/b") (codes "change") []) [] ≡ true
plain_slash = refl

plain_root : loads_as_written (node [] (codes "change") []) [] ≡ true
plain_root = refl

-- names that begin with a dot are names
plain_dots : loads_as_written (node (codes "a/.b") (codes "change") []) [] ≡ true
plain_dots = refl

double_slash : loads_as_written (node (codes "a//b") (codes "change") []) [] ≡ false
double_slash = refl

two_slashes : loads_as_written (node (codes "//a/b") (codes "change") []) [] ≡ false
two_slashes = refl

last_slash : loads_as_written (node (codes "a/b/") (codes "change") []) [] ≡ false
last_slash = refl

dot : loads_as_written (node (codes "./a/b") (codes "change") []) [] ≡ false
dot = refl

long_source : loads_as_written (node (codes "a/b") (codes "add") (line (codes "Node-copyfrom-rev") (codes "7")
    ∷ line (codes "Node-copyfrom-path") (codes "trunk//c") ∷ [])) [] ≡ false
long_source = refl

zero_in_path : loads_as_written (node (codes "a/b" ++ 0 ∷ codes "x") (codes "change") []) [] ≡ false
zero_in_path = refl

zero_in_kind : loads_as_written (node (codes "a/b") (codes "add") (kind (codes "file" ++ 0 ∷ []) ∷ [])) [] ≡ false
zero_in_kind = refl

zero_in_line : loads_as_written (node (codes "a/b") (codes "change") (line (codes "X" ++ 0 ∷ []) [] ∷ [])) [] ≡ false
zero_in_line = refl

zero_in_name : loads_as_written (with_block (codes "24") []) (record { name = 0 ∷ []; value = Some [] } ∷ []) ≡ false
zero_in_name = refl

-- a zero byte in a property's value is read as it is
zero_in_value : loads_as_written (with_block (codes "24") [])
    (record { name = codes "p"; value = Some (0 ∷ []) } ∷ []) ≡ true
zero_in_value = refl

-- nodes that make changes

reads_block : HasPropertyList (with_block (codes "24") block) (property ∷ [])
reads_block = (
  inr (
    codes "K 1\np\nV 1\nv\n",
    codes "PROPS-END\n",
    refl,
    inl (codes "v", refl, (codes "1", codes "1", refl, refl, refl)),
    refl,
  ),
  λ deletes. cc,
)

makes_with_block : MakesChange refused (with_block (codes "24") block)
    (record nothing { props = Some (PropertyChange.Replaced (property ∷ [])) })
makes_with_block = (property ∷ [], reads_block, refl, refl)

makes_copy : MakesChange refused (node (codes "a/b") (codes "add") copied_from) (record nothing { made = copy })
makes_copy = ([], (inl (refl, refl), λ deletes. cc), refl, refl)

-- and one that makes none, whatever the list
makes_none : (c : Change) → ¬ MakesChange refused (node (codes "a/b") (codes "move") []) c
makes_none c (ps, list, good, is) = let bad : None ≡ Some c = is in cc
