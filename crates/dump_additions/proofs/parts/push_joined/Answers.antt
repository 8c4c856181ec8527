use Rattle.std.proofs.Common.{◌++◌, map, reverse, ap, ◌∙◌}
use Rattle.std.proofs.lemmas.Iterator.Adapters.{YieldsList-from_rev_slice}
use Rattle.std.proofs.lemmas.Iterator.Consumers.{YieldsList-end}
use Rattle.std.proofs.lemmas.List.{reverse-reverse}
use Rattle.std.specs.Slice.Iter.{iter_rest}
use Rattle.std.specs.Iterator.Adapters.{rev_source}
use Rattle.dump_trees.specs.Paths.{names_of}
use Rattle.dump_index.proofs.SlashLemmas.{names_joined}
use Rattle.dump_additions.specs.steps.Parts.{children_of, pending}
use Rattle.dump_additions.proofs.PartLemmas.{child_pushed}
use Rattle.dump_additions.proofs.parts.push_joined.Goals as goal

pub loop-name-preserved : goal.loop-name-preserved
loop-name-preserved c =
    child_pushed (names_of c.args.rest.now) c.loop-name.left.items c.push.new.self.items c.in_ok-joined.field-0
    c.loop-name.yielded c.in-Some.name (pending c.args.left.now.items) c.in_ok-push.ensures.items
    (ap names_of c.in_ok-joined.ensures ∙ names_joined c.args.rest.now _) c.loop-name.invariant

pub returns : goal.returns
returns c =
    let all = YieldsList-end (YieldsList-from_rev_slice c.args.names.now
    (ap (λ r. iter_rest (rev_source r)) c.into_iter-name-iterator.ensures.into_iter_gives
    ∙ (ap iter_rest c.rev-name-items.ensures.source ∙ c.iter.ensures.rest)))
    c.loop-name.yielded _ c.loop-name.yielded_by _ _ c.in-None.is c.next.ensures.steps in
    c.loop-name.invariant
    ∙ ap (λ names. children_of (names_of c.args.rest.now) (map (λ name. names_of name.now) names) ++ pending c.args.left.now.items)
    (ap reverse all.0 ∙ reverse-reverse c.args.names.now)
