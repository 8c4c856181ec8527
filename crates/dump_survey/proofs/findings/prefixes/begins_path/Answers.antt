use Rattle.std.proofs.Common.{sym, ◌∙◌}
use Rattle.dump_survey.proofs.PrefixLemmas.{begins_behind}
use Rattle.dump_survey.proofs.findings.prefixes.begins_path.Goals as goal

pub returns : goal.returns
returns c =
    c.is_some.ensures
    ∙ begins_behind c.args.bare.now c.args.path.now c.behind.result
    (sym c.is_empty.ensures ∙ c.if-is_empty.false) (sym c.eq.ensures ∙ c.if-eq.false) c.behind.ensures
