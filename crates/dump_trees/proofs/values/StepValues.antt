-- Examples of loading. Each shows that a definition of a change differs from one that svnadmin load doesn't have.
use Rattle.dump_trees.proofs.Prelude.{◌≡◌, option_map, codes, refl, Property, Node, root_alone, Made, Change, loaded_over}
use Rattle.std.proofs.Common.{true, List, [], ◌∷◌, ◌++◌, length, Some, None}
use Rattle.dump_trees.proofs.values.ValueParts.{change, directory, file, copy, deletion, replacing, setting, writing, property, node_at, stands, is_rejected}

-- two directories with a file in each
abbrev begun : List (List Change)
begun =
    (directory (codes "a") ∷ file (codes "a/f") (codes "1") ∷ directory (codes "c") ∷ file (codes "c/x")
    (codes "x") ∷ []) ∷ []

-- the same, and after them one more change
abbrev then : Change → List (List Change)
then c = begun ++ (c ∷ []) ∷ []

-- the same, and after them two more changes
abbrev then_both : Change → Change → List (List Change)
then_both c d = begun ++ (c ∷ []) ∷ (d ∷ []) ∷ []

abbrev one : Property
one = property (codes "p") (codes "1")

abbrev other : Property
other = property (codes "q") (codes "2")

-- the start

revision_zero : node_at (loaded_over root_alone begun) 0 [] ≡ Some (Node.Directory [])
revision_zero = refl

nothing_yet : node_at (loaded_over root_alone begun) 0 (codes "a") ≡ None
nothing_yet = refl

one_tree_each : option_map (λ trees. length trees)
    (loaded_over root_alone (then_both (deletion (codes "a")) (directory (codes "a"))))
    ≡ Some 4
one_tree_each = refl

-- properties

properties_set : stands (then (setting (one ∷ []) (change (codes "a/f")))) (codes "a/f") ≡ Some
    (Node.File (one ∷ []) (codes "1"))
properties_set = refl

directory_properties : stands (then (setting (one ∷ []) (change (codes "a")))) (codes "a") ≡ Some (Node.Directory (one ∷ []))
directory_properties = refl

root_properties : stands (then (setting (one ∷ []) (change []))) [] ≡ Some (Node.Directory (one ∷ []))
root_properties = refl

below_stays : stands (then (setting (one ∷ []) (change (codes "a")))) (codes "a/f") ≡ Some (Node.File [] (codes "1"))
below_stays = refl

properties_replaced : stands
    (then_both (setting (one ∷ []) (change (codes "a/f"))) (setting (other ∷ []) (change (codes "a/f"))))
    (codes "a/f") ≡ Some (Node.File (other ∷ []) (codes "1"))
properties_replaced = refl

properties_taken : stands (then_both (setting (one ∷ []) (change (codes "a"))) (setting [] (change (codes "a"))))
    (codes "a")
    ≡ Some (Node.Directory [])
properties_taken = refl

properties_of_nothing : is_rejected begun (setting (one ∷ []) (change (codes "n"))) ≡ true
properties_of_nothing = refl

-- texts

text_changed : stands (then (writing (codes "2") (change (codes "a/f")))) (codes "a/f") ≡ Some
    (Node.File [] (codes "2"))
text_changed = refl

properties_kept : stands
    (then_both (setting (one ∷ []) (change (codes "a/f"))) (writing (codes "2") (change (codes "a/f"))))
    (codes "a/f") ≡ Some (Node.File (one ∷ []) (codes "2"))
properties_kept = refl

text_of_nothing : is_rejected begun (writing (codes "2") (change (codes "n"))) ≡ true
text_of_nothing = refl

text_of_directory : is_rejected begun (writing (codes "2") (change (codes "a"))) ≡ true
text_of_directory = refl

empty_text_of_directory : is_rejected begun (writing [] (change (codes "a"))) ≡ true
empty_text_of_directory = refl

both_set : stands (then (setting (one ∷ []) (writing (codes "2") (change (codes "a/f"))))) (codes "a/f")
    ≡ Some (Node.File (one ∷ []) (codes "2"))
both_set = refl

-- deletions

deleted : stands (then (deletion (codes "a/f"))) (codes "a/f") ≡ None
deleted = refl

deleted_alone : stands (then (deletion (codes "a/f"))) (codes "a") ≡ Some (Node.Directory [])
deleted_alone = refl

deleted_below : stands (then (deletion (codes "a"))) (codes "a/f") ≡ None
deleted_below = refl

deleted_there : stands (then (deletion (codes "a"))) (codes "c/x") ≡ Some (Node.File [] (codes "x"))
deleted_there = refl

deletion_of_nothing : is_rejected begun (deletion (codes "n")) ≡ true
deletion_of_nothing = refl

deletion_of_root : is_rejected begun (deletion []) ≡ true
deletion_of_root = refl

properties_of_deleted : is_rejected begun (setting (one ∷ []) (deletion (codes "a/f"))) ≡ true
properties_of_deleted = refl

replaced : stands (then (replacing (file (codes "a") (codes "2")))) (codes "a") ≡ Some (Node.File [] (codes "2"))
replaced = refl

replaced_below : stands (then (replacing (directory (codes "a")))) (codes "a/f") ≡ None
replaced_below = refl

replaced_nothing : is_rejected begun (replacing (directory (codes "n"))) ≡ true
replaced_nothing = refl

-- new nodes

no_text : stands (then (record (change (codes "n")) { made = Some Made.NewFile })) (codes "n") ≡ Some (Node.File [] [])
no_text = refl

new_properties : stands (then (setting (one ∷ []) (directory (codes "n")))) (codes "n") ≡ Some (Node.Directory (one ∷ []))
new_properties = refl

directory_over_directory : is_rejected begun (directory (codes "a")) ≡ true
directory_over_directory = refl

file_over_file : is_rejected begun (file (codes "a/f") (codes "2")) ≡ true
file_over_file = refl

no_parent : is_rejected begun (directory (codes "n/m")) ≡ true
no_parent = refl

file_as_parent : is_rejected begun (file (codes "a/f/m") (codes "2")) ≡ true
file_as_parent = refl

text_of_new_directory : is_rejected begun (writing (codes "2") (directory (codes "n"))) ≡ true
text_of_new_directory = refl

-- copies

-- the file has another text in each of three revisions
abbrev changing : List (List Change)
changing =
    then_both (writing (codes "2") (change (codes "a/f")))
    (writing (codes "3") (setting (one ∷ []) (change (codes "a/f"))))

copy_of_first : stands (changing ++ (copy 1 (codes "a") (codes "b") ∷ []) ∷ []) (codes "b/f") ≡ Some
    (Node.File [] (codes "1"))
copy_of_first = refl

copy_of_second : stands (changing ++ (copy 2 (codes "a/f") (codes "b") ∷ []) ∷ []) (codes "b") ≡ Some
    (Node.File [] (codes "2"))
copy_of_second = refl

copy_of_third : stands (changing ++ (copy 3 (codes "a/f") (codes "b") ∷ []) ∷ []) (codes "b")
    ≡ Some (Node.File (one ∷ []) (codes "3"))
copy_of_third = refl

source_stays : stands (changing ++ (copy 1 (codes "a") (codes "b") ∷ []) ∷ []) (codes "a/f")
    ≡ Some (Node.File (one ∷ []) (codes "3"))
source_stays = refl

copy_of_deleted : stands (then_both (deletion (codes "a")) (copy 1 (codes "a") (codes "b"))) (codes "b/f")
    ≡ Some (Node.File [] (codes "1"))
copy_of_deleted = refl

copy_of_present : is_rejected begun (copy 2 (codes "a") (codes "b")) ≡ true
copy_of_present = refl

copy_of_nothing : is_rejected begun (copy 1 (codes "n") (codes "b")) ≡ true
copy_of_nothing = refl

copy_of_what_came_later : is_rejected (then (directory (codes "n"))) (copy 1 (codes "n") (codes "b")) ≡ true
copy_of_what_came_later = refl

copy_over : stands (then (copy 1 (codes "a") (codes "c"))) (codes "c/f") ≡ Some (Node.File [] (codes "1"))
copy_over = refl

copy_over_takes : stands (then (copy 1 (codes "a") (codes "c"))) (codes "c/x") ≡ None
copy_over_takes = refl

copy_into_itself : stands (then (copy 1 (codes "a") (codes "a/b"))) (codes "a/b/f") ≡ Some (Node.File [] (codes "1"))
copy_into_itself = refl

copy_once : stands (then (copy 1 (codes "a") (codes "a/b"))) (codes "a/b/b") ≡ None
copy_once = refl

copy_without_parent : is_rejected begun (copy 1 (codes "a") (codes "n/m")) ≡ true
copy_without_parent = refl

copy_below_file : is_rejected begun (copy 1 (codes "a") (codes "c/x/m")) ≡ true
copy_below_file = refl

copy_onto_root : is_rejected begun (copy 1 (codes "a") []) ≡ true
copy_onto_root = refl

copy_edited : stands (then (setting (one ∷ []) (writing (codes "2") (copy 1 (codes "a/f") (codes "b"))))) (codes "b")
    ≡ Some (Node.File (one ∷ []) (codes "2"))
copy_edited = refl

copy_with_properties : stands (then_both (setting (one ∷ []) (change (codes "a"))) (copy 2 (codes "a") (codes "b")))
    (codes "b")
    ≡ Some (Node.Directory (one ∷ []))
copy_with_properties = refl

-- in one revision: the copy is of the tree before it, and what comes later is taken of what came first
in_one_revision : stands (begun ++ (writing (codes "2") (change (codes "a/f")) ∷ copy 1 (codes "a") (codes "b")
    ∷ writing (codes "3") (change (codes "b/f")) ∷ []) ∷ []) (codes "b/f") ≡ Some (Node.File [] (codes "3"))
in_one_revision = refl

of_the_tree_before : stands
    (begun ++ (writing (codes "2") (change (codes "a/f")) ∷ copy 1 (codes "a") (codes "b") ∷ []) ∷ [])
    (codes "b/f") ≡ Some (Node.File [] (codes "1"))
of_the_tree_before = refl
