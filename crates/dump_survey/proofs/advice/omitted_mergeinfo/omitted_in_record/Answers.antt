use Rattle.dump_survey.proofs.Prelude.{◌∙◌, sym, record_item}
use Rattle.dump_survey.proofs.OmittedLemmas.{omitted_of_other, omitted_of_read, omitted_of_unread}
use Rattle.dump_survey.proofs.advice.omitted_mergeinfo.omitted_in_record.Goals as goal

pub returns-then-not-is_kept : goal.returns-then-not-is_kept
returns-then-not-is_kept c =
    omitted_of_other c.args.options.now (record_item c.args.item.now)
    (sym c.is_kept.ensures ∙ c.if-not-is_kept.true)

pub returns-in-Some : goal.returns-in-Some
returns-in-Some c =
    omitted_of_read c.args.options.now (record_item c.args.item.now) c.properties_of.result
    (sym c.is_kept.ensures ∙ c.if-not-is_kept.false) c.properties_of.ensures.found c.in-Some.props c.in-Some.is
    c.in-Some.ensures.bytes c.omitted_in_properties.result c.omitted_in_properties.ensures

pub returns-in-None : goal.returns-in-None
returns-in-None c =
    omitted_of_unread c.args.options.now (record_item c.args.item.now) c.properties_of.result
    (sym c.is_kept.ensures ∙ c.if-not-is_kept.false) c.properties_of.ensures.found c.in-None.is
