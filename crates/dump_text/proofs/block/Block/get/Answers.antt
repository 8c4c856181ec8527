use Rattle.dump_text.proofs.Prelude.{sym, ap, ◌∙◌, header_value, line_header, lines_left}
use Rattle.dump_text.proofs.BlockLemmas.{value_between, rest_between, value_behind}
use Rattle.dump_text.proofs.block.Block.get.Goals as goal

pub returns-then-eq-clause-lent : goal.returns-then-eq-clause-lent
returns-then-eq-clause-lent c =
    let part = c.loop-line.invariant.3 in
    value_between _ _ _ _ _ _ _ _ part c.in-Some.ensures.steps.0 c.in-Some.line.spelled

pub loop-line-preserved : goal.loop-line-preserved
loop-line-preserved c =
    let part = c.loop-line.invariant.3 in
    let value =
    sym (value_behind c.args.name.now (line_header c.in-Some.line) (lines_left c.next.new.self)
    (sym c.eq.ensures ∙ c.if-eq.false)) ∙ ap (header_value c.args.name.now) (sym c.in-Some.ensures.steps.1)
    ∙ c.loop-line.invariant.2 in
    (tt, tt, value, rest_between _ _ _ _ _ _ part c.in-Some.ensures.steps.0)
