use Rattle.std.proofs.Common.{map, ap, ◌∙◌}
use Rattle.std.proofs.lemmas.Iterator.Consumers.{YieldsList-end, YieldsList-from_rest}
use Rattle.dump_trees.specs.Paths.{names_of, path_text}
use Rattle.dump_cut.proofs.RangeLemmas.{shown_twice}
use Rattle.dump_cut.proofs.excluded.Excluded.prefixes.Goals as goal

pub returns-clause-texts : goal.returns-clause-texts
returns-clause-texts c =
    let all = YieldsList-end (YieldsList-from_rest c.self.inside.paths.keys c.into_iter-path-iterator.ensures.into_iter_gives.0)
    c.loop-path.yielded _ c.loop-path.yielded_by _ _ c.in-None.is c.next.ensures.steps in
    c.loop-path.invariant
    ∙ (shown_twice (λ path. path_text (names_of path.items)) (λ path. path.now) c.loop-path.yielded
    ∙ (ap (map (λ path. path_text (names_of path.items))) all.0
    ∙ (shown_twice path_text (λ path. names_of path.items) c.self.inside.paths.keys
    ∙ (ap (map path_text) (shown_twice names_of (λ path. path.items) c.self.inside.paths.keys)
    ∙ ap (λ texts. map path_text (map names_of texts)) c.self.view_is))))
