use Rattle.dump_survey.proofs.Prelude.{◌∙◌, ◌==◌, ap, sym, count_by, rules, tests, slice_split, count_from_yields_List, YieldsList-from_filter, YieldsList-at, YieldsList-from_slice_split, length-filter, line_misses}
use Rattle.dump_survey.proofs.OmittedLemmas.{lines_of_some}
use Rattle.dump_survey.proofs.advice.omitted_mergeinfo.omitted_in_text.Goals as goal

pub returns : goal.returns
returns c =
    count_from_yields_List c.filter.result _ c.count.ensures.ran
    (YieldsList-from_filter _ (line_misses c.args.options.now)
    (YieldsList-at c.filter.ensures.source (YieldsList-from_slice_split _ _ c.args.text.now c.split.ensures.rest
    c.split.ensures.done c.split.ensures.closure (λ x r q k. search (rules, tests))))
    c.filter.ensures.closure (λ x b q k. search (rules, tests)))
    ∙ (length-filter (line_misses c.args.options.now) (slice_split (λ b. b == 10) c.args.text.now)
    ∙ sym (ap (count_by (line_misses c.args.options.now)) (lines_of_some c.args.text.now
    (sym c.is_empty.ensures ∙ c.if-is_empty.false))))
