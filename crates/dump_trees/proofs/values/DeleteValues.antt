-- Examples of deletes after a copy.
use Rattle.dump_trees.proofs.Prelude.{◌≡◌, codes, refl, map, slice_get, Exclude, Settings, NodePath, path_text, path_of, Node, Tree, root_alone, Change, step, steps, unwrap_or, loaded_over}
use Rattle.std.proofs.Common.{ℕ, true, false, List, [], ◌∷◌, Option, Some, None, option_and_then, is_some}
use Rattle.dump_trees.specs.steps.ExpansionCases.{deletion_of, deletions}
use Rattle.dump_trees.specs.steps.Returns.{IsCopyOver}
use Rattle.dump_trees.specs.Following.{Way}
use Rattle.dump_trees.specs.steps.Following.{followed}
use Rattle.dump_trees.specs.steps.Trimming.{CoverTaken}
use Rattle.dump_trees.proofs.histories.StandingNames.{loaded_directories, loaded_names}
use Rattle.dump_trees.proofs.cuts.DeleteLemmas.{deletes_are_found}
use Rattle.dump_trees.proofs.values.ValueParts.{including_all, directory, file, copy}

-- a directory with a file, and one in it with another file
abbrev whole : List (List Change)
whole = (directory (codes "a") ∷ file (codes "a/s") (codes "1") ∷ directory (codes "a/d") ∷ file (codes "a/d/s") (codes "2") ∷ [])
    ∷ []

abbrev trees : List Tree
trees = unwrap_or (loaded_over root_alone whole) []

abbrev old : Tree
old = unwrap_or (slice_get trees 1) root_alone

abbrev b : NodePath
b = path_of (codes "b")

abbrev a : NodePath
a = path_of (codes "a")

-- these are excluded only at the path of a copy
abbrev excluded : List NodePath
excluded = path_of (codes "b/d") ∷ path_of (codes "b/s") ∷ path_of (codes "b/x") ∷ path_of (codes "c") ∷ []

abbrev settings : Settings
settings = record (including_all (map path_text excluded)) { side = Exclude }

over : IsCopyOver settings excluded (slice_get trees) old (copy 1 (codes "a") (codes "b")) a
over = record {
  number = 1;
  excludes = record { side = refl; prefixes = refl };
  names = refl;
  copies = refl;
  there = refl;
  directories = loaded_directories whole trees 1 old refl refl;
  named = loaded_names whole trees 1 old refl refl refl;
  path = refl;
}

-- what is deleted: not the file below the directory, nor what doesn't exist at the source
listed : followed Way.ToSources excluded old b a ≡ path_of (codes "d") ∷ path_of (codes "s") ∷ []
listed = refl

covers : CoverTaken settings old b a (path_of (codes "d") ∷ path_of (codes "s") ∷ [])
covers = deletes_are_found settings excluded (slice_get trees) old (copy 1 (codes "a") (codes "b")) a over refl refl

-- nothing may be missing
not_without_one : CoverTaken settings old b a (path_of (codes "d") ∷ []) → ⊥
not_without_one c = absurd (let bad : false ≡ true = c.all (path_of (codes "s")) refl refl refl in cc)

not_what_is_below : CoverTaken settings old b a (path_of (codes "d/s") ∷ path_of (codes "s") ∷ []) → ⊥
not_what_is_below c = absurd (let bad : false ≡ true = c.all (path_of (codes "d")) refl refl refl in cc)

-- nothing may be deleted twice, nor may what is kept, or what doesn't exist
not_twice : CoverTaken settings old b a (path_of (codes "d") ∷ path_of (codes "d/s") ∷ path_of (codes "s") ∷ []) → ⊥
not_twice c = absurd (let bad : false ≡ true = c.apart in cc)

not_the_copy : CoverTaken settings old b a ([] ∷ []) → ⊥
not_the_copy c = absurd (let bad : false ≡ true = c.left in cc)

not_what_isnt_there : CoverTaken settings old b a (path_of (codes "d") ∷ path_of (codes "s") ∷ path_of (codes "x") ∷ []) → ⊥
not_what_isnt_there c = absurd (let bad : false ≡ true = c.stand in cc)

-- what exists after they are deleted after the copy
abbrev behind : List ℕ → Option Node
behind path = option_and_then (λ t. t (path_of path))
    (steps (slice_get trees) old
    (copy 1 (codes "a") (codes "b") ∷ deletions b (path_of (codes "d") ∷ path_of (codes "s") ∷ [])))

the_copy_stays : behind (codes "b") ≡ Some (Node.Directory [])
the_copy_stays = refl

the_file_is_gone : behind (codes "b/s") ≡ None
the_file_is_gone = refl

the_directory_too : behind (codes "b/d/s") ≡ None
the_directory_too = refl

the_source_stays : behind (codes "a/d/s") ≡ Some (Node.File [] (codes "2"))
the_source_stays = refl

-- a load rejects them before the copy
rejected_before : is_some (step (slice_get trees) old (deletion_of (path_of (codes "b/s")))) ≡ false
rejected_before = refl
