use Rattle.std.proofs.Common.{◌≡◌, ◌++◌, List, map}
use Rattle.dump_text.specs.PropertyList.{IsPropertyBlock, Property}
use Rattle.dump_text.specs.steps.PropertyViews.{HasEntriesLeft, props_bytes}
use Rattle.dump_trees.specs.Paths.{names_of}
use Rattle.dump_cut.specs.steps.MergePaths.{AddsPaths, IsInProperties}
use Rattle.dump_cut.proofs.mergeinfo_paths.add_properties.Given as goal

abbrev pub invariant-loop-entry : goal.invariant-loop-entry
invariant-loop-entry l =
    (goal.iterator-loop-entry).can_next l.entries × (goal.iterator-loop-entry).is_finite l.entries
    × ((ps : List Property) → IsPropertyBlock (props_bytes l.props) ps → (done others : List Property)
    × (ps ≡ done ++ others) × HasEntriesLeft l.entries others
    × AddsPaths (map (λ path. names_of path.items) l.fn.paths.keys) (map (λ path. names_of path.items) l.paths.keys) (IsInProperties done))
