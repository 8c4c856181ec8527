-- Examples of written nodes.
use Rattle.dump_history.proofs.Prelude.{◌≡◌, ◌++◌, None, refl, Property, is_lawful, path_of}
use Rattle.std.proofs.Common.{true, false, [], ◌∷◌, Some, codes}
use Rattle.std.specs.Fmt.{digits}
use Rattle.dump_trees.specs.steps.WritingOut.{copy_of, directory_of, file_of}
use Rattle.dump_trees.specs.steps.ExpansionCases.{deletion_of}
use Rattle.dump_history.specs.WrittenNodes.{NodeKind, WrittenNode, node_lines, can_be_written}
use Rattle.dump_history.specs.steps.WrittenNodes.{node_bytes, written_change}

-- a property with a value, and one that is taken away
abbrev set_one : Property
set_one = record { name = codes "p"; value = Some (codes "1") }

abbrev taken : Property
taken = record { name = codes "p"; value = None }

abbrev deletion : WrittenNode
deletion = WrittenNode.Deletion (codes "a/b")

abbrev copy : WrittenNode
copy = WrittenNode.Copy NodeKind.Dir 12 (codes "c") (codes "a/b")

abbrev directory : WrittenNode
directory = WrittenNode.Directory false (codes "a") (set_one ∷ [])

abbrev file : WrittenNode
file = WrittenNode.File true (codes "a/b") [] (codes "text") (Some (codes "1cb2")) None

-- their bytes

deletion_bytes : node_bytes deletion ≡ codes "Node-path: a/b\nNode-action: delete\n\n"
deletion_bytes = refl

copy_bytes : node_bytes copy
    ≡ codes "Node-path: a/b\nNode-kind: dir\nNode-action: add\nNode-copyfrom-rev: 12\nNode-copyfrom-path: c\n\n"
unfolding digits
copy_bytes = refl

directory_bytes : node_bytes directory
    ≡ codes "Node-path: a\nNode-kind: dir\nNode-action: add\nProp-content-length: 22\nContent-length: 22\n\n"
    ++ codes "K 1\np\nV 1\n1\nPROPS-END\n"
unfolding digits
directory_bytes = refl

file_bytes : node_bytes file
    ≡ codes "Node-path: a/b\nNode-kind: file\nNode-action: replace\nProp-content-length: 10\n"
    ++ codes "Text-content-length: 4\nText-content-md5: 1cb2\nContent-length: 14\n\nPROPS-END\ntext"
unfolding digits
file_bytes = refl

-- their changes

deletion_change : written_change deletion ≡ deletion_of (path_of (codes "a/b"))
deletion_change = refl

copy_change : written_change copy ≡ copy_of 12 (path_of (codes "c")) (path_of (codes "a/b"))
copy_change = refl

directory_change : written_change directory ≡ directory_of (path_of (codes "a")) (set_one ∷ [])
directory_change = refl

-- what replaces something deletes it first
file_change : written_change file ≡ record (file_of (path_of (codes "a/b")) [] (codes "text")) { deletes = true }
file_change = refl

-- which can be written

all_can : (can_be_written deletion ≡ true) × (can_be_written copy ≡ true)
    × (can_be_written directory ≡ true) × (can_be_written file ≡ true)
unfolding digits
all_can = (refl, refl, refl, refl)

-- a path with an empty name, which the load reads otherwise
no_empty_name : can_be_written (WrittenNode.Deletion (codes "a//b")) ≡ false
no_empty_name = refl

-- one with a line feed
no_line_feed : can_be_written (WrittenNode.Deletion (codes "a\nb")) ≡ false
no_line_feed = refl

-- a source with a zero byte
no_zero_byte : can_be_written (WrittenNode.Copy NodeKind.File 1 (0 ∷ []) (codes "a")) ≡ false
no_zero_byte = refl

-- a number of 19 digits
no_long_number : can_be_written (WrittenNode.Copy NodeKind.File 1000000000000000000 (codes "c") (codes "a")) ≡ false
no_long_number = refl

-- an entry that takes a property away, which version 2 doesn't know
no_removal : can_be_written (WrittenNode.Directory false (codes "a") (taken ∷ [])) ≡ false
no_removal = refl

-- a digest with a line feed
no_broken_digest : can_be_written (WrittenNode.File false (codes "a") [] [] None (Some (codes "1\n"))) ≡ false
unfolding digits
no_broken_digest = refl

-- their lines break no rule after the first record, but none can be the first record

fine_later : is_lawful 1 (node_lines file) ≡ true
unfolding digits
fine_later = refl

never_first : is_lawful 0 (node_lines file) ≡ false
unfolding digits
never_first = refl
