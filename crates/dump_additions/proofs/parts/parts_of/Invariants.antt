use Rattle.std.proofs.Common.{map}
use Rattle.dump_trees.specs.Paths.{names_of}
use Rattle.dump_cut.specs.steps.ExcludedPaths.{paths_of}
use Rattle.dump_additions.specs.steps.Parts.{part_meant, pending}
use Rattle.dump_additions.proofs.PartLemmas.{IsGoing}
use Rattle.dump_additions.proofs.parts.parts_of.Given as goal

abbrev pub invariant-loop : goal.invariant-loop
invariant-loop l =
    IsGoing l.index (paths_of l.excluded) l.source.revision (names_of l.path) (names_of l.source.path.now)
    (pending l.left.items) (map part_meant l.parts.items)
