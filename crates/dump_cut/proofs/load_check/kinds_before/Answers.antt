use Rattle.std.proofs.Common.{option_map}
use Rattle.std.proofs.lemmas.Bool.{and_parts}
use Rattle.dump_trees.specs.Paths.{names_of}
use Rattle.dump_trees.specs.Siblings.{has_node_names}
use Rattle.dump_index.specs.steps.Listed.{listed_made}
use Rattle.dump_cut.specs.steps.NamedPaths.{has_named_source}
use Rattle.dump_cut.proofs.ParentLemmas.{ends_named}
use Rattle.dump_cut.proofs.load_check.kinds_before.Goals as goal

pub kind_known-requires-clause-bare : goal.kind_known-requires-clause-bare
kind_known-requires-clause-bare c =
    ends_named c.args.change.now.path.now
    (and_parts (has_node_names (names_of c.args.change.now.path.now)) (has_named_source (option_map listed_made c.args.change.now.made)) c.requires.named).0
