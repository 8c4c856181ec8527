use Rattle.std.proofs.lemmas.Bool.{and_parts}
use Rattle.dump_trees.specs.Paths.{names_of}
use Rattle.dump_trees.specs.Siblings.{has_node_names}
use Rattle.dump_cut.proofs.ParentLemmas.{ends_named}
use Rattle.dump_additions.proofs.addition.root_text.Goals as goal

pub text_at-requires : goal.text_at-requires
text_at-requires c = ends_named c.args.change.now.path.now (and_parts (has_node_names (names_of c.args.change.now.path.now)) _ c.requires.named).0
