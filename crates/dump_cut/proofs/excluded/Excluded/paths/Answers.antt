use Rattle.std.proofs.Common.{map, ap, ◌∙◌}
use Rattle.std.proofs.lemmas.Iterator.Consumers.{YieldsList-end, YieldsList-from_rest}
use Rattle.dump_cut.proofs.RangeLemmas.{shown_twice}
use Rattle.dump_cut.proofs.excluded.Excluded.paths.Goals as goal

pub returns-clause-texts : goal.returns-clause-texts
returns-clause-texts c =
    let all = YieldsList-end (YieldsList-from_rest c.self.inside.paths.keys c.into_iter-path-iterator.ensures.into_iter_gives.0)
    c.loop-path.yielded _ c.loop-path.yielded_by _ _ c.in-None.is c.next.ensures.steps in
    c.loop-path.invariant
    ∙ (shown_twice (λ path. path.items) (λ path. path.now) c.loop-path.yielded
    ∙ (ap (map (λ path. path.items)) all.0 ∙ c.self.view_is))
