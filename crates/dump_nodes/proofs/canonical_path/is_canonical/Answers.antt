use Rattle.std.proofs.Common.{sym, ◌∙◌}
use Rattle.dump_nodes.proofs.NameLemmas.{short_else}
use Rattle.dump_nodes.proofs.canonical_path.is_canonical.Goals as goal

pub returns-else-is_empty : goal.returns-else-is_empty
returns-else-is_empty c = c.are_canonical.ensures
    ∙ short_else c.args.path.now c.bare_path-bare.result.now c.bare_path-bare.ensures
    (sym c.is_empty.ensures ∙ c.if-is_empty.false)
