use Rattle.dump_text.proofs.Prelude.{◌||◌, sym, ap, ◌∙◌, has_empty_line}
use Rattle.dump_text.proofs.ScanLemmas.{empty_line-step, empty_line-none}
use Rattle.dump_text.proofs.scan.finds_empty_line.Goals as goal

pub returns-then-begins_with_lf : goal.returns-then-begins_with_lf
returns-then-begins_with_lf c =
    let first = c.in-Some.ensures in
    let starts = sym c.begins_with_lf.ensures ∙ c.if-begins_with_lf.true in
    sym (c.loop-others.invariant ∙ ap has_empty_line first.cut
    ∙ empty_line-step c.in-Some.field-0-0.now c.in-Some.others.now first.one_line
    ∙ ap (λ b. b || has_empty_line c.in-Some.others.now) starts)

pub loop-others-preserved : goal.loop-others-preserved
loop-others-preserved c =
    let first = c.in-Some.ensures in
    let starts = sym c.begins_with_lf.ensures ∙ c.if-begins_with_lf.false in
    c.loop-others.invariant ∙ ap has_empty_line first.cut
    ∙ empty_line-step c.in-Some.field-0-0.now c.in-Some.others.now first.one_line
    ∙ ap (λ b. b || has_empty_line c.in-Some.others.now) starts

pub returns : goal.returns
returns c = sym (c.loop-others.invariant ∙ empty_line-none c.loop-others.rest.now c.in_default.ensures)
