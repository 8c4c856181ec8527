use Rattle.std.proofs.Common.{◌≡◌, false, sym, ◌∙◌, arith}
use Rattle.std.proofs.lemmas.Grind.{common_steps}
use Rattle.std.proofs.lemmas.List.Folds.{list_all-map}
use Rattle.std.specs.List.{list_all}
use Rattle.dump_history.specs.WrittenNodes.{can_be_written}
use Rattle.dump_expansion.specs.steps.NewNodes.{written_of}
use Rattle.dump_expansion.specs.declared.written_node.NewNode.{NewNode}
use Rattle.dump_expansion.proofs.expanding.Stead.can_be_written.Goals as goal

pub returns-then-not-can_be_written : goal.returns-then-not-can_be_written
returns-then-not-can_be_written c =
    let nodes = c.args.self.now.nodes.items in
    let fails : false ≡ list_all (λ (node : NewNode). can_be_written (written_of node)) nodes =
    grind (arith, common_steps) in
    fails ∙ sym (list_all-map can_be_written written_of nodes)
