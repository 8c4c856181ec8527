use Rattle.std.proofs.Common.{nat_eq, bytes_eq, take, length, get_or, sym, ap, ◌∙◌, ◌&&◌}
use Rattle.std.proofs.lemmas.Bool.{eq-eqb, false_from_ne_true, eqb-true}
use Rattle.dump_cut.proofs.RangeLemmas.{below_short, below_long}
use Rattle.dump_cut.proofs.excluded.is_below.Goals as goal

pub returns-then-path-end : goal.returns-then-path-end
returns-then-path-end c =
    sym (below_short c.args.top.now c.args.path.now (sym c.is_empty.ensures ∙ c.if-is_empty.false) c.if-path-end.true)

pub returns-then-path-end-eq47 : goal.returns-then-path-end-eq47
returns-then-path-end-eq47 c =
    c.eq.ensures
    ∙ sym (below_long c.args.top.now c.args.path.now (sym c.is_empty.ensures ∙ c.if-is_empty.false) c.if-path-end.false
    ∙ ap (λ b. b && bytes_eq (take (length c.args.top.now) c.args.path.now) c.args.top.now)
    (eq-eqb _ 47 c.if-path-end-eq47.true))

pub returns-else-path-end-eq47 : goal.returns-else-path-end-eq47
returns-else-path-end-eq47 c =
    let other = false_from_ne_true (nat_eq (get_or c.args.path.now (length c.args.top.now) 0) 47)
    (λ is. c.if-path-end-eq47.false (eqb-true _ 47 is)) in
    other
    ∙ sym (below_long c.args.top.now c.args.path.now (sym c.is_empty.ensures ∙ c.if-is_empty.false) c.if-path-end.false
    ∙ ap (λ b. b && bytes_eq (take (length c.args.top.now) c.args.path.now) c.args.top.now) other)
