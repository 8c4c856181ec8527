use Rattle.std.proofs.Common.{option_map, sym, ap, ◌∙◌}
use Rattle.std.proofs.lemmas.Bool.{and_parts}
use Rattle.dump_trees.specs.Paths.{names_of}
use Rattle.dump_trees.specs.Siblings.{has_node_names}
use Rattle.dump_index.specs.steps.Listed.{listed_made}
use Rattle.dump_cut.specs.steps.NamedPaths.{has_named_source}
use Rattle.dump_cut.proofs.ParentLemmas.{ends_named}
use Rattle.dump_cut.proofs.load_check.source_kind.Goals as goal

pub kind_known-requires-clause-bare : goal.kind_known-requires-clause-bare
kind_known-requires-clause-bare c =
    let made = c.args.change.now.made in
    let named = and_parts (has_node_names (names_of c.args.change.now.path.now)) (has_named_source (option_map listed_made made)) c.requires.named in
    ends_named c.in-Some.source.path.now
    (sym (ap (λ m. has_named_source (option_map listed_made m)) c.in-Some.ensures.copy) ∙ named.1)
