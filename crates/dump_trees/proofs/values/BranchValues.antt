-- Examples of branches and of the changes that write one out.
use Rattle.dump_trees.proofs.Prelude.{◌≡◌, codes, refl, inr, both_ways, cond, bytes_eq, Property, Settings, NodePath, path_of, below, Node, Tree, at_top, put, root_alone, Change, History, steps}
use Rattle.std.proofs.Common.{ℕ, Bool, true, false, List, [], ◌∷◌, Option, Some, None, option_and_then, is_none}
use Rattle.dump_trees.specs.steps.Branches.{Branch, Branches, tree_of, is_distinct, HasBranch}
use Rattle.dump_trees.specs.steps.WritingOut.{directory_of, file_of, IsCutAlike, IsLeftOut, WritesOut}
use Rattle.dump_trees.specs.steps.ExpansionCases.{branch_made, cleared, deletions, none_is_below}
use Rattle.dump_trees.proofs.values.ValueParts.{including, excluding, copy, deletion, setting, editing, writing, property, removal}

abbrev one : Property
one = property (codes "p") (codes "1")

-- branches

-- a directory with a file, and in it a directory with another file
abbrev worked : Branch
worked = Branch.Directory (one ∷ [])
    (Branches.Named (codes "f") (Branch.File [] (codes "1"))
    (Branches.Named (codes "g")
    (Branch.Directory [] (Branches.Named (codes "h") (Branch.File (one ∷ []) (codes "2")) Branches.NoMore))
    Branches.NoMore))

its_root : tree_of worked [] ≡ Some (Node.Directory (one ∷ []))
its_root = refl

its_file : tree_of worked (path_of (codes "f")) ≡ Some (Node.File [] (codes "1"))
its_file = refl

deeper : tree_of worked (path_of (codes "g/h")) ≡ Some (Node.File (one ∷ []) (codes "2"))
deeper = refl

not_beside : tree_of worked (path_of (codes "h")) ≡ None
not_beside = refl

not_below_a_file : tree_of worked (path_of (codes "f/h")) ≡ None
not_below_a_file = refl

-- a branch in a tree

abbrev with_file : Branch
with_file = Branch.Directory [] (Branches.Named (codes "s") (Branch.File [] (codes "1")) Branches.NoMore)

abbrev with_it : Tree
with_it = put (path_of (codes "a/s")) (Node.File [] (codes "1")) (put (path_of (codes "a")) (Node.Directory []) root_alone)

it_stands : HasBranch with_it (path_of (codes "a")) with_file
it_stands [] = refl
it_stands (name ∷ rest) = cases rest (bytes_eq (codes "s") name)
  where
    cases : (rest : NodePath) (b : Bool) → at_top (cond b (below [] rest) None) (Node.File [] (codes "1")) None
        ≡ cond b (tree_of (Branch.File [] (codes "1")) rest) None
    cases rest false = refl
    cases [] true = refl
    cases (next ∷ rest) true = refl

-- the tree has more than this branch
more_stands : HasBranch with_it (path_of (codes "a")) (Branch.Directory [] Branches.NoMore) → ⊥
more_stands has = absurd (let bad : Some (Node.File [] (codes "1")) ≡ None = has (path_of (codes "s")) in cc)

-- distinct names

names_differ : is_distinct worked ≡ true
names_differ = refl

-- two files with one name in one directory
abbrev doubled : Branch
doubled = Branch.Directory []
    (Branches.Named (codes "f") (Branch.File [] (codes "1"))
    (Branches.Named (codes "f") (Branch.File [] (codes "2")) Branches.NoMore))

not_distinct : is_distinct doubled ≡ false
not_distinct = refl

-- one name in two directories doesn't occur twice
again_deeper : is_distinct
    (Branch.Directory []
    (Branches.Named (codes "f") (Branch.Directory [] (Branches.Named (codes "f") (Branch.File [] []) Branches.NoMore))
    Branches.NoMore)) ≡ true
again_deeper = refl

doubled_deeper : is_distinct (Branch.Directory [] (Branches.Named (codes "d") doubled Branches.NoMore)) ≡ false
doubled_deeper = refl

-- changes that write a branch out

abbrev nowhere : History
nowhere number = None

-- each part is made by itself
abbrev made_alone : List Change
made_alone = directory_of (path_of (codes "a")) (one ∷ [])
    ∷ file_of (path_of (codes "a/f")) [] (codes "1")
    ∷ directory_of (path_of (codes "a/g")) []
    ∷ file_of (path_of (codes "a/g/h")) (one ∷ []) (codes "2") ∷ []

all_alone : (settings : Settings) → WritesOut settings nowhere (path_of (codes "a")) worked made_alone
all_alone settings =
    inr (
      one ∷ [],
      file_of (path_of (codes "a/f")) [] (codes "1")
          ∷ directory_of (path_of (codes "a/g")) []
          ∷ file_of (path_of (codes "a/g/h")) (one ∷ []) (codes "2") ∷ [],
      refl,
      refl,
      (
        file_of (path_of (codes "a/f")) [] (codes "1") ∷ [],
        directory_of (path_of (codes "a/g")) []
            ∷ file_of (path_of (codes "a/g/h")) (one ∷ []) (codes "2") ∷ [],
        refl,
        inr ([], refl, refl),
        (
          directory_of (path_of (codes "a/g")) []
              ∷ file_of (path_of (codes "a/g/h")) (one ∷ []) (codes "2") ∷ [],
          [],
          refl,
          inr (
            [],
            file_of (path_of (codes "a/g/h")) (one ∷ []) (codes "2") ∷ [],
            refl,
            refl,
            (
              file_of (path_of (codes "a/g/h")) (one ∷ []) (codes "2") ∷ [],
              [],
              refl,
              inr (one ∷ [], refl, refl),
              refl,
            ),
          ),
          refl,
        ),
      ),
    )

-- what exists at a path after these changes are made in a new repository
abbrev made_there : List Change → List ℕ → Option Node
made_there changes path = option_and_then (λ tree. tree (path_of path)) (steps nowhere root_alone changes)

made_deeper : made_there made_alone (codes "a/g/h") ≡ Some (Node.File (one ∷ []) (codes "2"))
made_deeper = refl

made_root : made_there made_alone (codes "a") ≡ Some (Node.Directory (one ∷ []))
made_root = refl

-- a branch with two files of one name isn't made: the second file is rejected
rejected_twice : is_none (steps nowhere root_alone
    (directory_of (path_of (codes "a")) [] ∷ file_of (path_of (codes "a/f")) [] (codes "1")
    ∷ file_of (path_of (codes "a/f")) [] (codes "2") ∷ [])) ≡ true
rejected_twice = refl

-- a branch isn't made over something either
rejected_over : is_none (steps nowhere root_alone (directory_of (path_of (codes "a")) [] ∷ made_alone)) ≡ true
rejected_over = refl

-- copies of branches

-- a kept file in a branch that isn't kept
not_left_out : IsLeftOut (including (codes "a/f")) (path_of (codes "a")) worked → ⊥
not_left_out left = both_ways true (left (path_of (codes "f")) (Node.File [] (codes "1")) refl) refl

-- a file that is excluded only at the source
cut_otherwise : IsCutAlike (excluding (codes "c/f")) (path_of (codes "a")) (path_of (codes "c")) worked → ⊥
cut_otherwise (kept, source, alike) =
    absurd (let bad : true ≡ false = alike (path_of (codes "f")) (Node.File [] (codes "1")) refl in cc)

-- what a change makes of its branch

sets_root : branch_made (setting [] (copy 1 (codes "c") (codes "a"))) (Branch.Directory (one ∷ []) Branches.NoMore)
    ≡ Some (Branch.Directory [] Branches.NoMore)
sets_root = refl

edits_root : branch_made (editing (removal (codes "p") ∷ []) (copy 1 (codes "c") (codes "a")))
    (Branch.File (one ∷ []) (codes "1"))
    ≡ Some (Branch.File [] (codes "1"))
edits_root = refl

writes_root : branch_made (writing (codes "2") (copy 1 (codes "c") (codes "a"))) (Branch.File (one ∷ []) (codes "1"))
    ≡ Some (Branch.File (one ∷ []) (codes "2"))
writes_root = refl

no_text_of_a_directory : branch_made (writing (codes "2") (copy 1 (codes "c") (codes "a")))
    (Branch.Directory [] Branches.NoMore) ≡ None
no_text_of_a_directory = refl

-- deletions

clears_nothing : cleared root_alone (path_of (codes "a")) ≡ []
clears_nothing = refl

clears_root : cleared (tree_of worked) (path_of (codes "g")) ≡ deletion (codes "g") ∷ []
clears_root = refl

deleted_below : deletions (path_of (codes "a")) (path_of (codes "f") ∷ path_of (codes "g/h") ∷ [])
    ≡ deletion (codes "a/f") ∷ deletion (codes "a/g/h") ∷ []
deleted_below = refl

beside : none_is_below (path_of (codes "f") ∷ path_of (codes "g/h") ∷ []) ≡ true
beside = refl

below_first : none_is_below (path_of (codes "g") ∷ path_of (codes "g/h") ∷ []) ≡ false
below_first = refl

from_below : none_is_below (path_of (codes "g/h") ∷ path_of (codes "g") ∷ []) ≡ true
from_below = refl

twice : none_is_below (path_of (codes "g") ∷ path_of (codes "g") ∷ []) ≡ false
twice = refl
