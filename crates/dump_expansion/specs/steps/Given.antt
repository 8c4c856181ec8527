-- The nodes that the code writes in place of others.
use Rattle.std.specs.Prelude.{Bool, List, map}
use Rattle.std.specs.List.{list_all}
use Rattle.dump_history.specs.WrittenNodes.{can_be_written}
use Rattle.dump_expansion.specs.steps.GivenSteads.{GivenStead}
use Rattle.dump_expansion.specs.steps.NewNodes.{written_of}
use Rattle.dump_expansion.specs.declared.expanding.Stead as code

-- a stead of the code, as a value of the definitions
abbrev pub given_of : code.Stead → GivenStead
given_of s = record {
  number = s.record_number;
  nodes = map written_of s.nodes.items;
  keeps = s.keeps;
}

-- whether all nodes of these can be written
abbrev pub can_all_be_written : List GivenStead → Bool
can_all_be_written given = list_all (λ (g : GivenStead). list_all can_be_written g.nodes) given
