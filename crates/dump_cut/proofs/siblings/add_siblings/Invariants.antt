use Rattle.std.proofs.Common.{◌≡◌, ◌++◌, ◌∷◌, [], ℕ, List, true, take}
use Rattle.std.specs.List.{list_all}
use Rattle.dump_trees.specs.Paths.{NodePath, names_of}
use Rattle.dump_trees.specs.Returns.{is_covered}
use Rattle.dump_trees.specs.steps.Siblings.{is_sibling}
use Rattle.dump_index.specs.steps.Children.{is_child_named}
use Rattle.dump_index.specs.steps.Names.{texts_of}
use Rattle.dump_cut.specs.steps.ExcludedPaths.{paths_of}
use Rattle.dump_cut.proofs.siblings.add_siblings.Given as goal

abbrev pub invariant-loop-name : goal.invariant-loop-name
invariant-loop-name l = record {
  each : (list_all (is_sibling (paths_of l.included)) (paths_of l.fn.siblings) ≡ true
      → list_all (is_sibling (paths_of l.included)) (paths_of l.siblings) ≡ true);
  kept : ((path : NodePath) → is_covered (paths_of l.fn.siblings) path ≡ true → is_covered (paths_of l.siblings) path ≡ true);
  covered : ((name : List ℕ) → is_child_named (texts_of (take l.name-index l.name-items)) name ≡ true
      → is_sibling (paths_of l.included) (names_of l.directory ++ name ∷ []) ≡ true
      → is_covered (paths_of l.siblings) (names_of l.directory ++ name ∷ []) ≡ true);
}
