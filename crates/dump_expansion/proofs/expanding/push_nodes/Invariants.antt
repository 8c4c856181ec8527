use Rattle.std.proofs.Common.{◌≡◌, ◌++◌, drop, map}
use Rattle.dump_expansion.specs.steps.NewNodes.{written_of}
use Rattle.dump_expansion.specs.steps.NodeTexts.{nodes_text}
use Rattle.dump_expansion.proofs.expanding.push_nodes.Given as goal

abbrev pub invariant-loop-node : goal.invariant-loop-node
invariant-loop-node l =
    l.out.items ++ nodes_text (map written_of (drop l.node-index l.nodes))
    ≡ l.initial.out.items ++ nodes_text (map written_of l.nodes)
