use Rattle.std.proofs.Common.{◌≡◌, ℕ, List, true, take}
use Rattle.std.specs.List.{list_all}
use Rattle.dump_trees.specs.Paths.{names_of}
use Rattle.dump_trees.specs.steps.Siblings.{is_sibling}
use Rattle.dump_index.specs.steps.Children.{is_child_named}
use Rattle.dump_index.specs.steps.Names.{texts_of}
use Rattle.dump_cut.specs.steps.ExcludedPaths.{paths_of}
use Rattle.dump_cut.specs.steps.MoreSiblings.{CoversSiblingsIn}
use Rattle.dump_cut.proofs.siblings.find_siblings.Given as goal

abbrev pub invariant-loop-directory : goal.invariant-loop-directory
invariant-loop-directory l = record {
  each : (list_all (is_sibling (paths_of l.included)) (paths_of l.siblings) ≡ true);
  covered : ((directory : List ℕ) → is_child_named (texts_of (take l.directory-index l.directory-items)) directory ≡ true
      → CoversSiblingsIn l.index (paths_of l.included) (names_of directory) (paths_of l.siblings));
}
