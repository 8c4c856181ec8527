-- Examples of copies over what their own revision changed. svnadmin load decides about them as here (tried with
-- Subversion 1.14.2). Before the revision there are the directories `a` and `b`, the files `a/c` and `b/c`, and the
-- file `x`.
use Rattle.dump_history.proofs.Prelude.{◌≡◌, Bool, None, refl, path_of, Change, TextChange}
use Rattle.std.proofs.Common.{ℕ, true, false, List, [], ◌∷◌, Some, codes}
use Rattle.dump_trees.specs.steps.ExpansionCases.{deletion_of}
use Rattle.dump_trees.specs.steps.WritingOut.{copy_of, file_of, directory_of}
use Rattle.dump_history.specs.CopiesOver.{copies_over_changed, some_copies_over}
use Rattle.dump_history.specs.steps.WrittenNodes.{replacing}

-- changes

abbrev change : List ℕ → Change
change path = record {
  path = path_of path;
  deletes = false;
  made = None;
  props = None;
  text = Some (TextChange.Replaced (codes "new"));
}

abbrev directory : List ℕ → Change
directory path = directory_of (path_of path) []

abbrev file : List ℕ → Change
file path = file_of (path_of path) [] (codes "text")

abbrev copy : List ℕ → List ℕ → Change
copy source path = copy_of 1 (path_of source) (path_of path)

abbrev delete : List ℕ → Change
delete path = deletion_of (path_of path)

-- whether a revision of these changes copies over what it changed at the path
abbrev is_over : List ℕ → List Change → Bool
is_over path changes = copies_over_changed (path_of path) false changes

-- rejected

over_changed : is_over (codes "a/c") (change (codes "a/c") ∷ copy (codes "x") (codes "a/c") ∷ []) ≡ true
over_changed = refl

over_added : is_over (codes "t/c")
    (directory (codes "t") ∷ file (codes "t/c") ∷ copy (codes "x") (codes "t/c") ∷ []) ≡ true
over_added = refl

over_copied : is_over (codes "a/c") (copy (codes "x") (codes "a/c") ∷ copy (codes "b/c") (codes "a/c") ∷ []) ≡ true
over_copied = refl

over_made_again : is_over (codes "a/c")
    (delete (codes "a/c") ∷ file (codes "a/c") ∷ copy (codes "x") (codes "a/c") ∷ []) ≡ true
over_made_again = refl

-- a deletion below what was copied doesn't undo the copy
over_copied_directory : is_over (codes "t")
    (copy (codes "b") (codes "t") ∷ delete (codes "t/c") ∷ copy (codes "b") (codes "t") ∷ []) ≡ true
over_copied_directory = refl

-- accepted

over_unchanged : is_over (codes "a/c") (copy (codes "x") (codes "a/c") ∷ []) ≡ false
over_unchanged = refl

-- what came with a copy above is not changed
over_brought : is_over (codes "t/c") (copy (codes "a") (codes "t") ∷ copy (codes "x") (codes "t/c") ∷ []) ≡ false
over_brought = refl

over_deleted : is_over (codes "t/c")
    (directory (codes "t") ∷ file (codes "t/c") ∷ delete (codes "t/c") ∷ copy (codes "x") (codes "t/c") ∷ []) ≡ false
over_deleted = refl

over_brought_deleted : is_over (codes "t/c")
    (copy (codes "a") (codes "t") ∷ delete (codes "t/c") ∷ copy (codes "x") (codes "t/c") ∷ []) ≡ false
over_brought_deleted = refl

-- a copy that replaces deletes first
replacing_added : is_over (codes "t/c")
    (directory (codes "t") ∷ file (codes "t/c") ∷ replacing true (copy (codes "x") (codes "t/c")) ∷ []) ≡ false
replacing_added = refl

over_copied_above : is_over (codes "a/c")
    (change (codes "a/c") ∷ copy (codes "b") (codes "a") ∷ copy (codes "x") (codes "a/c") ∷ []) ≡ false
over_copied_above = refl

over_made_above : is_over (codes "a/c")
    (change (codes "a/c") ∷ delete (codes "a") ∷ copy (codes "b") (codes "a") ∷ copy (codes "x") (codes "a/c") ∷ []) ≡ false
over_made_above = refl

-- nothing is below a node that is newly made, whatever was there before
over_named_before : is_over (codes "t/c")
    (record (change (codes "t/c")) { text = None } ∷ directory (codes "t") ∷ copy (codes "x") (codes "t/c") ∷ []) ≡ false
over_named_before = refl

-- revisions

-- what an earlier revision changed doesn't count
changed_before : some_copies_over (path_of (codes "a/c"))
    ((change (codes "a/c") ∷ []) ∷ (copy (codes "x") (codes "a/c") ∷ []) ∷ []) ≡ false
changed_before = refl

later_changed : some_copies_over (path_of (codes "a/c"))
    ((change (codes "x") ∷ []) ∷ (change (codes "a/c") ∷ copy (codes "x") (codes "a/c") ∷ []) ∷ []) ≡ true
later_changed = refl
