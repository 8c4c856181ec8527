use Rattle.dump_survey.proofs.Prelude.{sym, subst, AreAddedPrefixLines}
use Rattle.dump_survey.proofs.SilentLemmas.{no_lines_of_added_prefixes}
use Rattle.dump_survey.proofs.report.survey_text.lines_of_added_prefixes.Goals as goal

pub returns-then-not-found : goal.returns-then-not-found
returns-then-not-found c =
    subst (AreAddedPrefixLines c.args.options.now c.args.dump.now) (sym c.new.ensures.items)
    (no_lines_of_added_prefixes c.args.options.now c.args.dump.now (c.requires c.if-not-found.true))
