-- Examples of looking back: what is found is what exists after the dump is loaded, and the latest change that touches
-- a path differs from the changes that don't.
use Rattle.dump_trees.proofs.Prelude.{◌≡◌, codes, refl, path_of, Node, root_alone, Change}
use Rattle.std.proofs.Common.{ℕ, true, false, List, [], ◌∷◌, ◌++◌, length, Option, Some, None}
use Rattle.dump_trees.specs.steps.Listing.{names_look}
use Rattle.dump_trees.specs.steps.LookingBack.{copies_back}
use Rattle.dump_trees.specs.steps.Looking.{placed_from, end_of, touches_path, latest, look}
use Rattle.dump_trees.proofs.values.ValueParts.{change, directory, file, copy, deletion, replacing, setting, writing, property, stands}

-- A directory has a file. In a copy of it another file replaces the file. Then the file itself gets a text, and the
-- copy is copied as it was. At the end the first directory is deleted.
abbrev whole : List (List Change)
whole =
    (directory (codes "a") ∷ file (codes "a/f") (codes "1") ∷ directory (codes "c") ∷ [])
    ∷ (copy 1 (codes "a") (codes "b")
    ∷ replacing (setting (property (codes "p") (codes "v") ∷ []) (file (codes "b/f") (codes "2"))) ∷ [])
    ∷ (writing (codes "3") (change (codes "a/f")) ∷ copy 2 (codes "b") (codes "c/d") ∷ [])
    ∷ (deletion (codes "a") ∷ [])
    ∷ []

-- what is found at a path after this number of changes
abbrev found_in : List (List Change) → ℕ → List ℕ → Option Node
found_in revisions count path = look root_alone (placed_from 1 revisions) count (path_of path)

-- what is found after all of them
abbrev found_last : List (List Change) → List ℕ → Option Node
found_last revisions path = found_in revisions (length (placed_from 1 revisions)) path

the_root : found_last whole (codes "") ≡ Some (Node.Directory [])
the_root = refl

nothing_there : found_last whole (codes "x") ≡ None
nothing_there = refl

is_new : found_in whole 2 (codes "a/f") ≡ Some (Node.File [] (codes "1"))
is_new = refl

not_yet : found_in whole 1 (codes "a/f") ≡ None
not_yet = refl

is_copied_below : found_in whole 4 (codes "b/f") ≡ Some (Node.File [] (codes "1"))
is_copied_below = refl

is_replaced : found_last whole (codes "b/f")
    ≡ Some (Node.File (property (codes "p") (codes "v") ∷ []) (codes "2"))
is_replaced = refl

is_written : found_in whole 6 (codes "a/f") ≡ Some (Node.File [] (codes "3"))
is_written = refl

is_deleted_above : found_last whole (codes "a/f") ≡ None
is_deleted_above = refl

-- a copy of a copy, as its source was at the end of the revision that it names
is_copied_twice : found_last whole (codes "c/d/f")
    ≡ Some (Node.File (property (codes "p") (codes "v") ∷ []) (codes "2"))
is_copied_twice = refl

-- the number of a copy is that of a revision, and not of a change
at_its_end : end_of (placed_from 1 whole) 2 ≡ 5
at_its_end = refl

of_the_past : found_in (whole ++ (copy 1 (codes "a") (codes "e") ∷ []) ∷ []) 9 (codes "e/f")
    ≡ Some (Node.File [] (codes "1"))
of_the_past = refl

-- what is found is what exists
as_it_stands : found_last whole (codes "c/d/f") ≡ stands whole (codes "c/d/f")
as_it_stands = refl

-- which changes touch a path

its_own : touches_path (path_of (codes "a/f")) (writing (codes "3") (change (codes "a/f"))) ≡ true
its_own = refl

nothing_done : touches_path (path_of (codes "a/f")) (change (codes "a/f")) ≡ false
nothing_done = refl

directory_above : touches_path (path_of (codes "a/f")) (setting [] (change (codes "a"))) ≡ false
directory_above = refl

its_properties : touches_path (path_of (codes "a/f")) (setting [] (change (codes "a/f"))) ≡ true
its_properties = refl

made_above : touches_path (path_of (codes "a/f")) (directory (codes "a")) ≡ false
made_above = refl

deleted_above : touches_path (path_of (codes "a/f")) (deletion (codes "a")) ≡ true
deleted_above = refl

copied_above : touches_path (path_of (codes "a/f")) (copy 1 (codes "b") (codes "a")) ≡ true
copied_above = refl

beside_it : touches_path (path_of (codes "a/f")) (deletion (codes "a/g")) ≡ false
beside_it = refl

below_it : touches_path (path_of (codes "a")) (deletion (codes "a/f")) ≡ false
below_it = refl

the_latest : latest (touches_path (path_of (codes "a/f"))) (placed_from 1 whole) 8 ≡ Some 7
the_latest = refl

one_before : latest (touches_path (path_of (codes "a/f"))) (placed_from 1 whole) 7 ≡ Some 5
one_before = refl

no_latest : latest (touches_path (path_of (codes "x"))) (placed_from 1 whole) 8 ≡ None
no_latest = refl

-- names that can exist in a directory

-- names of what was made there, even if it no longer exists
once_made : names_look (placed_from 1 whole) 8 (path_of (codes "a")) ≡ codes "f" ∷ []
once_made = refl

-- names of what was made there, and of what existed at the source of the copy
at_a_source : names_look (placed_from 1 whole) 4 (path_of (codes "b")) ≡ codes "f" ∷ []
at_a_source = refl

below_a_copy : names_look (placed_from 1 whole) 7 (path_of (codes "c/d")) ≡ codes "f" ∷ codes "f" ∷ []
below_a_copy = refl

in_the_root : names_look (placed_from 1 whole) 8 [] ≡ codes "b" ∷ codes "c" ∷ codes "a" ∷ []
in_the_root = refl

none_in_a_file : names_look (placed_from 1 whole) 8 (path_of (codes "b/f")) ≡ []
none_in_a_file = refl

-- a directory that was copied keeps its names if its properties are set
abbrev set_later : List (List Change)
set_later = (directory (codes "a") ∷ file (codes "a/f") (codes "1") ∷ []) ∷ (copy 1 (codes "a") (codes "b") ∷ [])
    ∷ (setting [] (change (codes "b")) ∷ []) ∷ []

still_named : names_look (placed_from 1 set_later) 4 (path_of (codes "b")) ≡ codes "f" ∷ []
still_named = refl

-- it has those of its source at the revision that it names, and no later ones
abbrev grown_later : List (List Change)
grown_later = (directory (codes "a") ∷ file (codes "a/f") (codes "1") ∷ []) ∷ (file (codes "a/g") (codes "2") ∷ [])
    ∷ (copy 1 (codes "a") (codes "b") ∷ []) ∷ []

not_the_later : names_look (placed_from 1 grown_later) 4 (path_of (codes "b")) ≡ codes "f" ∷ []
not_the_later = refl

-- a text that is set makes no name
only_made : names_look (placed_from 1 ((setting [] (change (codes "x")) ∷ []) ∷ [])) 1 [] ≡ []
only_made = refl

-- copies that name a revision before their own

goes_back : copies_back (placed_from 1 whole) ≡ true
goes_back = refl

names_itself : copies_back (placed_from 1 ((copy 1 (codes "a") (codes "b") ∷ []) ∷ [])) ≡ false
names_itself = refl

names_a_later_one : copies_back (placed_from 1 ((copy 2 (codes "a") (codes "b") ∷ []) ∷ [] ∷ [])) ≡ false
names_a_later_one = refl
