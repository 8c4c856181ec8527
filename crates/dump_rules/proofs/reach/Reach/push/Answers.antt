use Rattle.dump_rules.proofs.Prelude.{ap, sym, arith, KeptRevisions}
use Rattle.dump_rules.proofs.ReachLemmas.{rise_pushed}
use Rattle.dump_rules.proofs.reach.Reach.push.Goals as goal

pub invariant_of-self : goal.invariant_of-self
invariant_of-self c = rw c.in_err-push.ensures.items c.self.invariant

pub invariant_of-self-2 : goal.invariant_of-self-2
invariant_of-self-2 c =
    let first = ap (λ (kept : KeptRevisions). kept.first) c.self.view_is in
    let numbers = ap (λ (kept : KeptRevisions). kept.numbers) c.self.view_is in
    let low = c.requires.from_first in
    let last = rw (sym numbers) at c.requires.above_last in
    rw c.in_ok-push.ensures.items
    (rise_pushed c.self.inside.first c.args.revision c.self.inside.numbers.items c.self.invariant last (omega arith))
