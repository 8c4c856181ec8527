-- The deletes that are found for a dump.
use Rattle.std.specs.Global.{Vec}
use Rattle.std.specs.Prelude.{ℕ, List, Result, Ok, Err, map}
use Rattle.dump_trees.specs.steps.LoadCheck.{ToldKinds}
use Rattle.dump_trees.specs.steps.Looking.{Placed}
use Rattle.dump_trees.specs.Paths.{NodePath}
use Rattle.dump_cut.specs.steps.TrimmedCopies.{AreDeletes, HasOddDelete}

-- paths as texts
abbrev pub delete_texts_of : List (Vec (Vec ℕ)) → List (List (List ℕ))
delete_texts_of deletes = map (λ paths. map (λ path. path.items) paths.items) deletes

-- for each kept change the paths to delete after it; or the place of a change with a path that no load reads unchanged
abbrev pub AreFoundDeletes : List NodePath → ToldKinds → List Placed → Result (List (List (List ℕ))) ℕ → Type 0
AreFoundDeletes excluded told placed (Ok deletes) = AreDeletes excluded told placed deletes
AreFoundDeletes excluded told placed (Err place) = HasOddDelete excluded told placed place
