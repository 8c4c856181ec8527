use Rattle.std.proofs.Common.{sym, ◌∙◌}
use Rattle.dump_survey.proofs.PrefixLemmas.{below_else}
use Rattle.dump_survey.proofs.findings.prefixes.rest_below.Goals as goal

pub returns : goal.returns
returns c = below_else c.args.path.now c.args.bare.now c.bare_path-top.result.now c.behind.result
    c.bare_path-top.ensures (sym c.is_empty.ensures ∙ c.if-is_empty.false) c.behind.ensures
