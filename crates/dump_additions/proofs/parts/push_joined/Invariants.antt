use Rattle.std.proofs.Common.{◌≡◌, ◌++◌, map, reverse}
use Rattle.dump_trees.specs.Paths.{names_of}
use Rattle.dump_additions.specs.steps.Parts.{children_of, pending}
use Rattle.dump_additions.proofs.parts.push_joined.Given as goal

abbrev pub invariant-loop-name : goal.invariant-loop-name
invariant-loop-name l = pending l.left.items
    ≡ children_of (names_of l.rest) (map (λ name. names_of name.now) (reverse (map (λ name. name.now) l.yielded)))
    ++ pending l.fn.left.items
