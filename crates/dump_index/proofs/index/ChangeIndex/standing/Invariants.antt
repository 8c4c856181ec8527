use Rattle.std.proofs.Common.{◌≡◌, take}
use Rattle.std.specs.List.{filter}
use Rattle.dump_trees.specs.Paths.{names_of}
use Rattle.dump_index.specs.steps.Children.{stands_in}
use Rattle.dump_index.specs.steps.Names.{texts_of}
use Rattle.dump_index.proofs.index.ChangeIndex.standing.Given as goal

abbrev pub invariant-loop-name : goal.invariant-loop-name
invariant-loop-name l = texts_of l.kept.items
    ≡ filter (stands_in l.self l.count (names_of l.path)) (texts_of (take l.name-index l.names))
