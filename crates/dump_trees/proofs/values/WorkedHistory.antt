-- Examples for the definitions; the checker computes and proves them.
use Rattle.dump_trees.proofs.Prelude.{◌≡◌, codes, refl, image, path_text, path_of, keeps, below, parent_of, Node, Tree, root_alone, Change, given, loaded_over, kept_of, AreFiltered, ImagesRestrict, is_quiet, are_quiet}
use Rattle.std.proofs.Common.{true, false, List, [], ◌∷◌, Some, None, length}
use Rattle.dump_trees.proofs.histories.HistoryLemmas.{history}
use Rattle.dump_trees.proofs.quiet.QuietLemmas.{all_quiet}
use Rattle.dump_trees.proofs.values.ValueParts.{including, excluding, none_more, as_it_was, entries_stay, directory, file, copy, deletion, same_directory, same_file, same_copy, node_at}

-- paths

names : path_of (codes "/trunk/a") ≡ codes "trunk" ∷ codes "a" ∷ []
names = refl

no_slash : path_of (codes "trunk/a") ≡ codes "trunk" ∷ codes "a" ∷ []
no_slash = refl

root : path_of [] ≡ []
root = refl

its_text : path_text (codes "trunk" ∷ codes "a" ∷ []) ≡ codes "/trunk/a"
its_text = refl

rest : below (path_of (codes "trunk")) (path_of (codes "trunk/a/b")) ≡ Some (path_of (codes "a/b"))
rest = refl

no_rest : below (path_of (codes "trunk")) (path_of (codes "trunk2")) ≡ None
no_rest = refl

parent : parent_of (path_of (codes "trunk/a/b")) ≡ Some (path_of (codes "trunk/a"))
parent = refl

-- a history that is kept in part, with a dropped revision and a copy from after it

abbrev pub whole : List (List Change)
whole = (directory (codes "a") ∷ directory (codes "a/b") ∷ directory (codes "c") ∷ [])
    ∷ (file (codes "c/x") (codes "1") ∷ [])
    ∷ (file (codes "a/b/f") (codes "2") ∷ [])
    ∷ (copy 3 (codes "a/b/f") (codes "a/b/g") ∷ [])
    ∷ []

abbrev pub part : List (List Change)
part = (directory (codes "a/b") ∷ [])
    ∷ (file (codes "a/b/f") (codes "2") ∷ [])
    ∷ (copy 2 (codes "a/b/f") (codes "a/b/g") ∷ [])
    ∷ []

whole_loads : node_at (loaded_over root_alone whole) 4 (codes "a/b/g") ≡ Some (Node.File [] (codes "2"))
whole_loads = refl

part_loads : node_at (loaded_over (given (including (codes "a/b"))) part) 3 (codes "a/b/g") ≡ Some
    (Node.File [] (codes "2"))
part_loads = refl

given_directory : given (including (codes "a/b")) (path_of (codes "a")) ≡ Some (Node.Directory [])
given_directory = refl

its_image : image (kept_of (including (codes "a/b")) none_more whole) 4 ≡ Some 3
its_image = refl

dropped_image : image (kept_of (including (codes "a/b")) none_more whole) 2 ≡ Some 1
dropped_image = refl

none_alarms : are_quiet (including (codes "a/b")) whole ≡ true
none_alarms = refl

-- the part is what the filter writes of the whole history
is_part : AreFiltered (including (codes "a/b")) as_it_was none_more whole part
is_part = (
  directory (codes "a/b") ∷ [],
  _,
  refl,
  (directory (codes "a/b"), [], refl, same_directory _ _ (codes "a/b"), refl),
  (
    file (codes "a/b/f") (codes "2") ∷ [],
    _,
    refl,
    (file (codes "a/b/f") (codes "2"), [], refl, same_file _ _ (codes "a/b/f") (codes "2"), refl),
    (
      copy 2 (codes "a/b/f") (codes "a/b/g") ∷ [],
      [],
      refl,
      (
        copy 2 (codes "a/b/f") (codes "a/b/g"),
        [],
        refl,
        same_copy (including (codes "a/b")) _ 3 2 (codes "a/b/f") (codes "a/b/g") refl refl,
        refl,
      ),
      refl,
    ),
  ),
)

-- so the law says this of the two loads, whatever their trees
the_law : (trees : List Tree) → loaded_over root_alone whole ≡ Some trees
    → (others : List Tree) × (loaded_over (given (including (codes "a/b"))) part ≡ Some others) × (length others ≡ 4)
    × ImagesRestrict (including (codes "a/b")) as_it_was
    (image (kept_of (including (codes "a/b")) none_more whole)) trees others
the_law trees at =
    history (including (codes "a/b")) as_it_was entries_stay none_more whole part trees refl at
    (all_quiet (including (codes "a/b")) (root_alone ∷ []) root_alone whole refl refl) is_part

-- changes that give an alarm, and what the alarm warns of

-- a copy that loses what is excluded below its source: it is there in the whole load, at a kept path
loses : is_quiet (excluding (codes "trunk/big")) (copy 1 (codes "trunk") (codes "branch")) ≡ false
loses = refl

lost : node_at (loaded_over root_alone
    ((directory (codes "trunk") ∷ file (codes "trunk/big") (codes "1") ∷ []) ∷
    (copy 1 (codes "trunk") (codes "branch") ∷ []) ∷ []))
    2 (codes "branch/big") ≡ Some (Node.File [] (codes "1"))
lost = refl

lost_is_kept : keeps (excluding (codes "trunk/big")) (path_of (codes "branch/big")) ≡ true
lost_is_kept = refl

not_there : node_at (loaded_over (given (excluding (codes "trunk/big")))
    ((directory (codes "trunk") ∷ []) ∷ (copy 1 (codes "trunk") (codes "branch") ∷ []) ∷ [])) 2 (codes "branch/big") ≡ None
not_there = refl

-- a copy that lets in what is excluded
lets_in : is_quiet (excluding (codes "branch/secret")) (copy 1 (codes "trunk") (codes "branch")) ≡ false
lets_in = refl

-- a directory above an included prefix is deleted or copied as a whole
deletes_above : is_quiet (including (codes "a/b")) (deletion (codes "a")) ≡ false
deletes_above = refl

copies_above : is_quiet (including (codes "a/b")) (copy 1 (codes "c") (codes "a")) ≡ false
copies_above = refl

-- a copy of what isn't kept, with no properties of its own
without_props : is_quiet (including (codes "a")) (copy 1 (codes "c/f") (codes "a/f")) ≡ false
without_props = refl
