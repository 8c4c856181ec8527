use Rattle.dump_rules.proofs.Prelude.{ℕ, List, sym, ap, subst, ◌∙◌, map, span_range, list_new}
use Rattle.dump_rules.proofs.new_values.NewLineLemmas.{AreFit, line_fits}
use Rattle.dump_rules.proofs.rewriting.push_line.Goals as goal

fit : (c : goal.After-push_spans-arg-1) → AreFit (map span_range c.in_ok-spans.spans.items)
fit c =
    let is = c.in_ok-spans.ensures in
    subst AreFit (sym (is ∙ ap (λ (t : List ℕ). list_new c.renumber.result c.args.reach.now t) c.list_of.ensures))
    (line_fits c.renumber.result c.args.reach.now c.requires.rising c.args.line.now c.requires.reads)

pub push_spans-requires-clause-numbers : goal.push_spans-requires-clause-numbers
push_spans-requires-clause-numbers c = (fit c).numbers

pub push_spans-requires-clause-consistent : goal.push_spans-requires-clause-consistent
push_spans-requires-clause-consistent c = (fit c).consistent
