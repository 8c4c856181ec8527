use Rattle.dump_nodes.proofs.Prelude.{List, ℕ, [], header_value, action_name, record_item}
use Rattle.std.proofs.Common.{unwrap_or}
use Rattle.dump_nodes.proofs.ActionLemmas.{deletes_by_name, known_by_name, makes_by_name}
use Rattle.dump_nodes.proofs.action.action_of.Goals as goal

pub returns : goal.returns
returns c =
    let name : List ℕ = unwrap_or (header_value action_name (record_item c.args.item.now).headers) [] in
    rw (c.named.ensures, c.value_of.ensures) record {
      known = known_by_name name;
      deletes = deletes_by_name name;
      makes = makes_by_name name;
    }
