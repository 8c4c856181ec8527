use Rattle.dump_nodes.proofs.Prelude.{◌∙◌, record_item}
use Rattle.dump_nodes.proofs.NodeLemmas.{copy_there}
use Rattle.dump_nodes.proofs.node.is_copy.Goals as goal

pub returns : goal.returns
returns c = c.is_some.ensures
    ∙ copy_there (record_item c.args.item.now) c.copy_path.result c.requires c.copy_path.ensures.value
