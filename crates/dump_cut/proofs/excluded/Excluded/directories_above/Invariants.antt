use Rattle.std.proofs.Common.{◌≡◌, ◌||◌, ℕ, List, [], bytes_eq, map}
use Rattle.std.specs.List.{list_any}
use Rattle.dump_index.specs.steps.Children.{is_child_named}
use Rattle.dump_index.specs.steps.Effects.{goes_on}
use Rattle.dump_index.specs.steps.Names.{texts_of}
use Rattle.dump_cut.proofs.excluded.Excluded.directories_above.Given as goal

abbrev pub invariant-loop-path : goal.invariant-loop-path
invariant-loop-path l = (directory : List ℕ) → is_child_named (texts_of l.directories.items) directory
    ≡ (bytes_eq [] directory || list_any (goes_on directory) (map (λ path. path.now.items) l.yielded))
