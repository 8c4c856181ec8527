use Rattle.std.proofs.Common.{sym, ◌∙◌}
use Rattle.dump_survey.proofs.CutLemmas.{reported_cut}
use Rattle.dump_survey.proofs.findings.prefixes.Prefixes.cut.Goals as goal

pub returns-in-Exclude-clause-some : goal.returns-in-Exclude-clause-some
returns-in-Exclude-clause-some c = reported_cut c.args.options.now c.args.path.now c.args.other.now
    (sym c.side.ensures ∙ c.in-Exclude.is) c.first_cut.result c.first_cut.ensures
