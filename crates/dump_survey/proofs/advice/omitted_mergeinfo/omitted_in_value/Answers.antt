use Rattle.dump_survey.proofs.Prelude.{◌∙◌, ap, sym, read_is, text_lines_count}
use Rattle.dump_survey.proofs.OmittedLemmas.{unread_count, read_count}
use Rattle.dump_survey.proofs.advice.omitted_mergeinfo.omitted_in_value.Goals as goal

pub returns-then-merge_reads : goal.returns-then-merge_reads
returns-then-merge_reads c =
    c.omitted_in_text.ensures ∙ (ap (text_lines_count c.args.options.now) c.without_lf.ensures
    ∙ sym (read_count c.args.options.now c.args.value.now
    (sym (read_is c.args.value.now c.merge_reads.result c.merge_reads.ensures) ∙ c.if-merge_reads.true)))

pub returns-else-merge_reads : goal.returns-else-merge_reads
returns-else-merge_reads c =
    sym (unread_count c.args.options.now c.args.value.now
    (sym (read_is c.args.value.now c.merge_reads.result c.merge_reads.ensures) ∙ c.if-merge_reads.false))
