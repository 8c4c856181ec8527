use Rattle.dump_rules.proofs.Prelude.{sym, ap, ◌∙◌, lines_merged}
use Rattle.dump_rules.proofs.reading.RangeLemmas.{position_whole}
use Rattle.dump_rules.proofs.faults.MergedLemmas.{lines_first, lines_bad, lines_last}
use Rattle.dump_rules.proofs.new_values.NewLineLemmas.{parts_first}
use Rattle.dump_rules.proofs.merged.Merged.with_lines.Goals as goal

pub returns-in_err-merged : goal.returns-in_err-merged
returns-in_err-merged c =
    let line = c.cut_at.result.0.now in
    let cut = parts_first 10 c.loop-lf.rest.now line c.cut_at.result.1.now c.in-Some.lf
    (sym c.find.ensures ∙ c.in-Some.is) c.cut_at.ensures.before c.cut_at.ensures.behind in
    c.from_residual.ensures
    ∙ sym (c.loop-lf.invariant ∙ lines_bad c.args.options.now c.loop-lf.merged line _ _ cut
    (sym c.with_line.ensures ∙ c.in_err-merged.was))

pub loop-lf-preserved : goal.loop-lf-preserved
loop-lf-preserved c =
    let line = c.cut_at.result.0.now in
    let cut = parts_first 10 c.loop-lf.rest.now line c.cut_at.result.1.now c.in-Some.lf
    (sym c.find.ensures ∙ c.in-Some.is) c.cut_at.ensures.before c.cut_at.ensures.behind in
    c.loop-lf.invariant
    ∙ lines_first c.args.options.now c.loop-lf.merged c.in_ok-merged.merged line _ _ cut
    (sym c.with_line.ensures ∙ c.in_ok-merged.was)

pub returns : goal.returns
returns c =
    c.with_line-2.ensures
    ∙ sym (c.loop-lf.invariant ∙ ap (lines_merged c.args.options.now c.loop-lf.merged)
    (position_whole 10 c.loop-lf.rest.now (sym c.find.ensures ∙ c.in_default.is))
    ∙ lines_last c.args.options.now c.loop-lf.merged c.loop-lf.rest.now)
