use Rattle.std.proofs.Common.{◌≡◌, ◌++◌, ◌&&◌, not, true, false, is_some, sym, ap, ◌∙◌}
use Rattle.std.proofs.lemmas.Bool.{and_right}
use Rattle.dump_index.specs.steps.Kinds.{kind_look}
use Rattle.dump_cut.proofs.ReturnedLemmas.{kind_some}
use Rattle.dump_trees.specs.Paths.{names_of}
use Rattle.dump_trees.specs.Returns.{is_covered}
use Rattle.dump_index.specs.steps.InOrder.{ends_in_slash}
use Rattle.dump_index.specs.steps.ToldKinds.{kinds_told_by}
use Rattle.dump_index.proofs.SlashLemmas.{ends_joined, names_joined}
use Rattle.dump_cut.specs.steps.ExcludedPaths.{paths_of}
use Rattle.dump_cut.proofs.returns.is_new_there.Goals as goal
use Rattle.std.proofs.Math.Bool.{and-true}

pub returns-then-covers : goal.returns-then-covers
returns-then-covers c =
    let covered : is_covered (paths_of c.args.excluded.now) (names_of c.args.to.now ++ names_of c.args.rest.now) ≡ true =
    sym (ap (is_covered (paths_of c.args.excluded.now)) (ap names_of (c.deref.ensures.value ∙ c.in_ok-at.ensures)
    ∙ names_joined c.args.to.now c.args.rest.now)) ∙ sym c.covers.ensures ∙ c.if-covers.true in
    sym (ap (λ b. is_some (kinds_told_by c.args.index.now c.args.count (names_of c.args.source.now ++ names_of c.args.rest.now))
    && not b) covered ∙ and_right _ false (λ i. false))

pub kind_at-requires : goal.kind_at-requires
kind_at-requires c =
    ap ends_in_slash (c.deref-2.ensures.value ∙ c.in_ok-there.ensures)
    ∙ ends_joined c.args.source.now c.args.rest.now c.requires.source c.requires.rest

pub returns : goal.returns
returns c =
    let there = ap names_of (c.deref-2.ensures.value ∙ c.in_ok-there.ensures) ∙ names_joined c.args.source.now c.args.rest.now in
    let outside : is_covered (paths_of c.args.excluded.now) (names_of c.args.to.now ++ names_of c.args.rest.now) ≡ false =
    sym (ap (is_covered (paths_of c.args.excluded.now)) (ap names_of (c.deref.ensures.value ∙ c.in_ok-at.ensures)
    ∙ names_joined c.args.to.now c.args.rest.now)) ∙ sym c.covers.ensures ∙ c.if-covers.false in
    c.is_some.ensures
    ∙ (ap is_some (c.in_ok-kind.ensures ∙ ap (kind_look c.args.index.now c.args.count) there)
    ∙ (sym (kind_some _)
    ∙ (sym (and-true _)
    ∙ sym (ap (λ b. is_some (kinds_told_by c.args.index.now c.args.count (names_of c.args.source.now ++ names_of c.args.rest.now))
    && not b) outside))))
