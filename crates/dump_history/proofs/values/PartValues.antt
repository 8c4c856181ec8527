-- The example dump as a partial dump: the revisions after revision 0 have the numbers 7, 8 and 9 here.
use Rattle.dump_history.proofs.Prelude.{◌≡◌, ◌+◌, true, map, Option, None, refl, ap, arith, Property, DumpRecord, image, kept_revisions, path_of, root_alone, Made, Change, made_behind, change_behind, Patching, MakesChange, keeps_numbering, MakePartRevisions, PartLoadsAs, IsLoadedProperty, kept_as_loaded}
use Rattle.std.proofs.Common.{ℕ, false, List, [], ◌∷◌, Some, codes}
use Rattle.dump_history.proofs.again.GroupChanges.{AllMake}
use Rattle.dump_history.proofs.again.NodeChanges.{change_once}
use Rattle.dump_history.proofs.values.WorkedDump.{line, record_at, trunk, other, settings, directory, none_of, makes_trunk, makes_other, revisions, trees}

-- a revision of this number
abbrev revision : List ℕ → DumpRecord
revision number = record_at 0 (line (codes "Revision-number") number ∷ [])

-- a copy of the kept directory from the dropped revision
abbrev copy : DumpRecord
copy = record_at 0 (line (codes "Node-path") (codes "trunk/b")
    ∷ line (codes "Node-kind") (codes "dir")
    ∷ line (codes "Node-action") (codes "add")
    ∷ line (codes "Node-copyfrom-rev") (codes "8")
    ∷ line (codes "Node-copyfrom-path") (codes "trunk") ∷ [])

abbrev records : List DumpRecord
records = record_at 0 (line (codes "SVN-fs-dump-format-version") (codes "2") ∷ [])
    ∷ revision (codes "7") ∷ trunk ∷ revision (codes "8") ∷ other ∷ revision (codes "9") ∷ copy ∷ []

makes_copy : (patched : Patching) → MakesChange patched copy
    (directory (codes "trunk/b") (Some (Made.Copied 8 (path_of (codes "trunk")))))
makes_copy patched = ([], none_of copy refl, refl, refl)

-- its changes are those of the whole dump, whose copy names revision 2
makes : (patched : Patching) → MakePartRevisions patched 6 records revisions
makes patched = record {
  numbered = refl;
  ordered = refl;
  changes = ((makes_trunk patched, tt), ((makes_other patched, tt), ((makes_copy patched, tt), tt)));
}

-- it loads into a new repository as the whole dump does
loads : (patched : Patching) → PartLoadsAs patched 6 root_alone records revisions trees
loads patched = record { makes = makes patched; loads = refl }

-- it begins at no other number
numbered_otherwise : (patched : Patching) (changes : List (List Change)) → ¬ MakePartRevisions patched 5 records changes
numbered_otherwise patched changes other = let bad : false ≡ true = other.numbered in cc

-- if a node is before its first revision, it is no partial dump
node_outside : (patched : Patching) (changes : List (List Change))
    → ¬ MakePartRevisions patched 6 (trunk ∷ revision (codes "7") ∷ []) changes
node_outside patched changes other = let bad : false ≡ true = other.ordered in cc

-- a copy of a revision that the load would give a number below 0 makes no part
copies_before : (patched : Patching) (changes : List (List Change))
    → ¬ MakePartRevisions patched 9 (revision (codes "10") ∷ copy ∷ []) changes
copies_before patched [] other = other.changes
copies_before patched (first ∷ changes) other = early first other.changes.0
  where
    by_made : (made : Option Made) → made_behind 9 made ≡ Some (Made.Copied 8 (path_of (codes "trunk"))) → ⊥
    by_made None is = let bad : None ≡ Some (Made.Copied 8 (path_of (codes "trunk"))) = is in cc
    by_made (Some Made.NewDirectory) is =
        let bad : Some Made.NewDirectory ≡ Some (Made.Copied 8 (path_of (codes "trunk"))) = is in cc
    by_made (Some Made.NewFile) is =
        let bad : Some Made.NewFile ≡ Some (Made.Copied 8 (path_of (codes "trunk"))) = is in cc
    by_made (Some (Made.Copied n source)) is =
        let bad : Some (Made.Copied (9 + n) source) ≡ Some (Made.Copied 8 (path_of (codes "trunk"))) = is in
        let same : 9 + n ≡ 8 = cc in omega (arith, same)

    early : (changes : List Change) → ¬ (AllMake patched (copy ∷ []) (map (change_behind 9) changes))
    early [] make = make
    early (c ∷ changes) (make, more) =
        let same = change_once patched copy (change_behind 9 c) (directory (codes "trunk/b")
        (Some (Made.Copied 8 (path_of (codes "trunk"))))) make (makes_copy patched) in
        by_made c.made (ap (λ (c : Change). c.made) same)

-- its numbers are kept if they are renumbered, from its first one on, and none is dropped
numbers_stay : keeps_numbering settings records ≡ true
numbers_stay = refl

-- as loaded, revision 9 is revision 3 before the filter and revision 2 after it, and dropped revision 8 is at 1
image_of_copy : image (kept_as_loaded 6 (kept_revisions settings records)) 3 ≡ Some 2
image_of_copy = refl

image_of_dropped : image (kept_as_loaded 6 (kept_revisions settings records)) 2 ≡ Some 1
image_of_dropped = refl

-- revision 0 is the repository's own
image_of_first : image (kept_as_loaded 6 (kept_revisions settings records)) 0 ≡ Some 0
image_of_first = refl

-- a load that lowers numbers may give mergeinfo another value, and nothing else; one that lowers none changes nothing
abbrev merges : List ℕ → Property
merges value = record { name = codes "svn:mergeinfo"; value = Some value }

-- a value of one byte
abbrev codes_of : ℕ → List ℕ
codes_of byte = byte ∷ []

abbrev ignores : List ℕ → Property
ignores value = record { name = codes "svn:ignore"; value = Some value }

another_merge : IsLoadedProperty 6 (merges (codes_of 8)) (merges (codes_of 2))
another_merge = (refl, refl)

same_merge : ¬ IsLoadedProperty 0 (merges (codes_of 8)) (merges (codes_of 2))
same_merge (name, value) = let bad : Some (codes_of 2) ≡ Some (codes_of 8) = value in cc

same_ignore : ¬ IsLoadedProperty 6 (ignores (codes_of 8)) (ignores (codes_of 2))
same_ignore (name, value) = let bad : Some (codes_of 2) ≡ Some (codes_of 8) = value in cc

another_name : ¬ IsLoadedProperty 6 (ignores (codes_of 8)) (merges (codes_of 8))
another_name (name, value) = let bad : codes "svn:mergeinfo" ≡ codes "svn:ignore" = name in cc
