use Rattle.dump_survey.proofs.Prelude.{sym, ◌∙◌, record_item}
use Rattle.dump_survey.proofs.LeftLemmas.{left_named}
use Rattle.dump_survey.proofs.findings.named_revisions.leaves_number.Goals as goal

pub returns : goal.returns
returns c =
    left_named c.args.options.now c.args.tally.now (record_item c.args.item.now) c.names_revision.result
    (sym c.renumber.ensures ∙ c.if-renumber.false)
    (sym c.is_behind_dropped.ensures ∙ c.if-not-is_behind_dropped.false)
    (sym c.requires ∙ c.if-not-kept.false) c.names_revision.ensures
