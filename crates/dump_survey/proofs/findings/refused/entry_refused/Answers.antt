use Rattle.dump_survey.proofs.Prelude.{arith, ◌∙◌, ◌||◌, sym, ap, Merged, is_outside, value_foreign, value_misses, none_outside, unread_value, reads_value}
use Rattle.dump_survey.proofs.RefusedLemmas.{refused_of_unread, refused_of_value}
use Rattle.dump_survey.proofs.findings.refused.entry_refused.Goals as goal

pub returns-in-None : goal.returns-in-None
returns-in-None c =
    refused_of_unread c.args.options.now c.args.numbers.now.first c.args.numbers.now.present c.args.entry.now
    (sym c.is_mergeinfo.ensures ∙ c.if-not-is_mergeinfo.false)
    (unread_value c.args.entry.now.value.now c.with.result c.with.ensures.read c.in-None.is)

pub returns-in-Some : goal.returns-in-Some
returns-in-Some c =
    refused_of_value c.args.options.now c.args.numbers.now.first c.args.numbers.now.present c.args.entry.now
    (sym c.is_mergeinfo.ensures ∙ c.if-not-is_mergeinfo.false)
    (reads_value c.args.entry.now.value.now c.with.result c.in-Some.said c.with.ensures.read c.in-Some.is)
    c.misses_source.result c.has_foreign_number.result
    (c.misses_source.ensures ∙ c.in-Some.ensures.sources
    ∙ ap (λ (said : Merged). said.misses || value_misses c.args.options.now c.args.entry.now.value.now) c.new.ensures)
    (c.has_foreign_number.ensures
    ∙ c.in-Some.ensures.numbers c.args.numbers.now.first c.args.numbers.now.present
    ∙ ap (λ (said : Merged). is_outside c.args.options.now c.args.numbers.now.first c.args.numbers.now.present said.numbers
    || value_foreign c.args.options.now c.args.numbers.now.first c.args.numbers.now.present c.args.entry.now.value.now)
    c.new.ensures
    ∙ ap (λ b. b || value_foreign c.args.options.now c.args.numbers.now.first c.args.numbers.now.present c.args.entry.now.value.now)
    (none_outside c.args.options.now c.args.numbers.now.first c.args.numbers.now.present (omega arith)))
