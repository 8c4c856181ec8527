use Rattle.std.proofs.Common.{List, None, map, take}
use Rattle.dump_trees.specs.Paths.{NodePath, names_of}
use Rattle.dump_expansion.specs.steps.NewNodes.{written_of}
use Rattle.dump_additions.specs.steps.Nodes.{AddsNodes}
use Rattle.dump_additions.specs.steps.Parts.{part_meant}
use Rattle.dump_additions.proofs.addition.push_nodes.Given as goal

abbrev pub invariant-loop-part : goal.invariant-loop-part
invariant-loop-part l = (excluded : List NodePath)
    → AddsNodes l.table l.texts l.index excluded l.source.revision (names_of l.path) (names_of l.source.path.now)
    (map part_meant (take l.part-index l.parts)) (map written_of l.fn.nodes.items) (map written_of l.nodes.items) None
