use Rattle.std.proofs.Common.{ℕ, List, [], ◌∷◌, map, not, cond, sym, ap, ◌∙◌}
use Rattle.std.specs.List.{list_all}
use Rattle.dump_trees.specs.Paths.{names_of}
use Rattle.dump_trees.specs.steps.Returns.{rests_below}
use Rattle.dump_index.specs.steps.InOrder.{ends_in_slash}
use Rattle.dump_cut.specs.steps.ExcludedPaths.{paths_of}
use Rattle.dump_trees.specs.Siblings.{has_node_names}
use Rattle.dump_cut.proofs.FollowedLemmas.{named_below, named_shown}
use Rattle.dump_cut.proofs.RangeLemmas.{below_bare, below_named, shown_twice}
use Rattle.dump_cut.proofs.ReturnedLemmas.{bare_shown, in_both}
use Rattle.dump_cut.proofs.excluded.Excluded.rests_covered.Goals as goal

pub returns-then-not-covers-clause-rests : goal.returns-then-not-covers-clause-rests
returns-then-not-covers-clause-rests c =
    in_both c.below.result _ _ _ c.below.ensures.rests c.below.ensures.named
    (λ rests are named. shown_twice names_of (λ rest. rest.now) rests.items
    ∙ (ap (map names_of) are
    ∙ (below_named c.args.top.now c.args.self.now named
    ∙ sym (ap (λ b. cond b ([] ∷ []) (rests_below (names_of c.args.top.now) (paths_of c.args.self.now)))
    (sym c.covers.ensures ∙ c.if-not-covers.true)))))

pub returns-then-not-covers-clause-bare : goal.returns-then-not-covers-clause-bare
returns-then-not-covers-clause-bare c =
    in_both c.below.result _ _ _ c.below.ensures.rests c.below.ensures.named
    (λ rests are named. bare_shown rests.items
    ∙ (ap (list_all (λ (rest : List ℕ). not (ends_in_slash rest))) are
    ∙ below_bare c.args.top.now c.args.self.now named))

pub returns-then-not-covers-clause-named : goal.returns-then-not-covers-clause-named
returns-then-not-covers-clause-named c =
    in_both c.below.result _ _ _ c.below.ensures.rests c.below.ensures.named
    (λ rests are named. named_shown (λ rest. names_of rest.now) rests.items
    ∙ (ap (list_all has_node_names) (shown_twice names_of (λ rest. rest.now) rests.items
    ∙ (ap (map names_of) are ∙ below_named c.args.top.now c.args.self.now named))
    ∙ named_below (names_of c.args.top.now) (paths_of c.args.self.now) named))
