-- The first changes of a dump.
use Rattle.std.proofs.Common.{◌≡◌, ◌==◌, ℕ, zero, suc, true, false, List, [], ◌∷◌, length, map, take, Some, refl}
use Rattle.std.specs.List.{list_all}
use Rattle.std.proofs.lemmas.Bool.{and_from, and_parts}
use Rattle.dump_trees.specs.Paths.{NodePath}
use Rattle.dump_index.specs.steps.Listed.{Listed}
use Rattle.dump_cut.specs.steps.NamedPaths.{has_named_paths}
use Rattle.cut_cli.specs.steps.Cuts.{CutsOtherwise, DiffersBefore}
use Rattle.cut_cli.specs.Words.{CutMeaning}

-- the first changes have named paths
pub first_named : (listed : List Listed) (count : ℕ) → list_all has_named_paths listed ≡ true
    → list_all has_named_paths (take count listed) ≡ true
first_named [] zero all = refl
first_named [] (suc count) all = refl
first_named (l ∷ listed) zero all = refl
first_named (l ∷ listed) (suc count) all =
    let parts = and_parts (has_named_paths l) (list_all has_named_paths listed) all in
    and_from (has_named_paths l) (list_all has_named_paths (take count listed)) parts.0 (first_named listed count parts.1)

-- where some paths are found, the cut differs at the first of them
pub some_differ : {X : Type 0} (m : CutMeaning) (dump : List ℕ) (listed : List Listed) (number : ℕ) (excluded : List NodePath)
    (path_of : X → NodePath) (found : List X) → (length found == 0) ≡ false → m.after ≡ Some number → m.follow ≡ true
    → DiffersBefore m dump listed number excluded (map path_of found) → CutsOtherwise m dump listed excluded
some_differ m dump listed number excluded path_of [] some after follow differs =
    absurd (let bad : true ≡ false = some in cc)
some_differ m dump listed number excluded path_of (x ∷ found) some after follow differs =
    (number, path_of x, map path_of found, after, follow, differs)
