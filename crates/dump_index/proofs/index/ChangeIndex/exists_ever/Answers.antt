use Rattle.std.proofs.Common.{List, arith, is_some, ap, sym, subst, ◌∙◌}
use Rattle.dump_trees.specs.Paths.{names_of}
use Rattle.dump_trees.proofs.expansions.BackLemmas.{LooksBack}
use Rattle.dump_index.specs.steps.Listed.{Listed, all_placed}
use Rattle.dump_index.proofs.OrderLemmas.{all_look_back}
use Rattle.dump_index.proofs.ExistsLemmas.{within_some, none_since, none_ever, touching_low}
use Rattle.dump_index.proofs.index.ChangeIndex.exists_ever.Goals as goal
use Rattle.dump_index.proofs.index.ChangeIndex.exists_ever.Goals.{After-len-count}

back : (c : After-len-count) → LooksBack (all_placed c.args.self.now)
back c =
    subst (λ (all : List Listed). LooksBack (all_placed all)) c.self.view_is
    (all_look_back c.self.inside.changes.items c.self.invariant.ordered)

pub loop-kind-smaller : goal.loop-kind-smaller
loop-kind-smaller c =
    touching_low (names_of c.args.path.now) (all_placed c.args.self.now) c.loop-kind.count c.in-Some.place
    (sym c.latest_touching.ensures ∙ c.in-Some.is)

pub loop-kind-preserved : goal.loop-kind-preserved
loop-kind-preserved c =
    let p = (goal.at.loop-kind-preserved c).After-len-count in
    c.loop-kind.invariant
    ∙ none_since c.args.self.now (names_of c.args.path.now) (back p) c.loop-kind.count c.in-Some.place
    (sym c.latest_touching.ensures ∙ c.in-Some.is)
    (ap (λ kind. is_some kind) (sym c.in_ok-kind.ensures) ∙ sym c.is_some.ensures ∙ c.if-is_some.false)

pub returns-then-is_some : goal.returns-then-is_some
returns-then-is_some c =
    sym (c.loop-kind.invariant
    ∙ within_some c.args.self.now (names_of c.args.path.now) c.loop-kind.count c.loop-kind.count (omega arith)
    (ap (λ kind. is_some kind) (sym c.in_ok-kind.ensures) ∙ sym c.is_some.ensures ∙ c.if-is_some.true))

pub returns-in-None : goal.returns-in-None
returns-in-None c =
    let p = (goal.at.returns-in-None c).After-len-count in
    sym (c.loop-kind.invariant
    ∙ none_ever c.args.self.now (names_of c.args.path.now) (back p) c.loop-kind.count
    (sym c.latest_touching.ensures ∙ c.in-None.is)
    (ap (λ kind. is_some kind) (sym c.in_ok-kind.ensures) ∙ sym c.is_some.ensures ∙ c.if-is_some.false))
