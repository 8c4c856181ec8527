use Rattle.dump_rules.proofs.Prelude.{subst, ap, sym, arith, KeptRevisions, RiseFrom}
use Rattle.dump_rules.proofs.new_values.NewRangeLemmas.{new_range_none, new_range_some, new_range_fits}
use Rattle.dump_rules.proofs.reach.Reach.span.Goals as goal

pub returns-then-below-up_to : goal.returns-then-below-up_to
returns-then-below-up_to c =
    sym (new_range_none c.args.self.now _ (omega arith))

pub overflow_add-result : goal.overflow_add-result
overflow_add-result c =
    let first = ap (λ (kept : KeptRevisions). kept.first) c.self.view_is in
    let up = subst (λ (kept : KeptRevisions). RiseFrom kept.first kept.numbers) c.self.view_is c.self.invariant in
    let fits = new_range_fits c.args.self.now up _ c.up_to-up_to.result c.up_to-up_to.ensures (omega arith) in
    omega arith

pub overflow_add-result-2 : goal.overflow_add-result-2
overflow_add-result-2 c =
    let first = ap (λ (kept : KeptRevisions). kept.first) c.self.view_is in
    let up = subst (λ (kept : KeptRevisions). RiseFrom kept.first kept.numbers) c.self.view_is c.self.invariant in
    let fits = new_range_fits c.args.self.now up _ c.up_to-up_to.result c.up_to-up_to.ensures (omega arith) in
    omega arith

pub returns : goal.returns
returns c =
    let first = ap (λ (kept : KeptRevisions). kept.first) c.self.view_is in
    new_range_some c.args.self.now _ c.self.inside.first c.below-below.result c.up_to-up_to.result first c.below-below.ensures c.up_to-up_to.ensures (omega arith)
