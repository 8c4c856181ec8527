use Rattle.dump_trees.proofs.expansions.LookLemmas.{look_finds, look_finds_each}
use Rattle.dump_trees.proofs.laws.nodes_are_found_without_trees.Goals as goal

pub returns-clause-front : goal.returns-clause-front
returns-clause-front c = look_finds

pub returns-clause-each : goal.returns-clause-each
returns-clause-each c = look_finds_each
