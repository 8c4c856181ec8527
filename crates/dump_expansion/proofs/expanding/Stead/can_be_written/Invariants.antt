use Rattle.std.proofs.Common.{◌≡◌, take, map, true}
use Rattle.std.specs.List.{list_all}
use Rattle.dump_history.specs.WrittenNodes.{can_be_written}
use Rattle.dump_expansion.specs.steps.NewNodes.{written_of}
use Rattle.dump_expansion.proofs.expanding.Stead.can_be_written.Given as goal

abbrev pub invariant-loop-node : goal.invariant-loop-node
invariant-loop-node l = list_all can_be_written (map written_of (take l.node-index l.self.nodes.items)) ≡ true
