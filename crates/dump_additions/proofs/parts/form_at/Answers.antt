use Rattle.std.proofs.Common.{◌∙◌, ◌==◌, map, ap, sym, subst}
use Rattle.dump_trees.specs.steps.Looking.{end_of}
use Rattle.dump_trees.specs.Paths.{names_of}
use Rattle.dump_trees.specs.Siblings.{has_node_names}
use Rattle.dump_trees.proofs.paths.SiblingLemmas.{both_names}
use Rattle.dump_index.specs.steps.Kinds.{kind_look}
use Rattle.dump_index.specs.steps.Listed.{all_placed}
use Rattle.dump_index.proofs.SlashLemmas.{names_joined}
use Rattle.dump_cut.specs.steps.ExcludedPaths.{paths_of}
use Rattle.dump_cut.proofs.ParentLemmas.{ends_named}
use Rattle.dump_additions.specs.steps.Parts.{IsFormAt}
use Rattle.dump_additions.proofs.PartLemmas.{none_back, shown_none, shown_some, some_back}
use Rattle.dump_additions.proofs.parts.form_at.Goals as goal

pub followed_rests-requires : goal.followed_rests-requires
followed_rests-requires c =
    ap has_node_names (ap names_of (c.deref.ensures.value ∙ c.in_ok-there.ensures) ∙ names_joined c.args.source.path.now c.args.rest.now)
    ∙ both_names (names_of c.args.source.path.now) (names_of c.args.rest.now) c.requires.source c.requires.rest

pub returns-then-is_empty : goal.returns-then-is_empty
returns-then-is_empty c =
    none_back c.args.index.now (paths_of c.args.excluded.now) c.args.source.revision (names_of c.args.path.now)
    (names_of c.args.source.path.now) (names_of c.args.rest.now) (map (λ rest. names_of rest.now) c.in_ok-brought.brought.items)
    c.deref-2.result.now c.deref.result.now
    (ap names_of (c.deref-2.ensures.value ∙ c.in_ok-at.ensures) ∙ names_joined c.args.path.now c.args.rest.now)
    (ap names_of (c.deref.ensures.value ∙ c.in_ok-there.ensures) ∙ names_joined c.args.source.path.now c.args.rest.now)
    c.in_ok-brought.ensures.followed
    (shown_none (λ rest. names_of rest.now) c.in_ok-brought.brought.items
    (sym (c.is_empty.ensures ∙ ap (λ n. n == 0) c.in_ok-brought.brought.ok.0) ∙ c.if-is_empty.true))

pub kind_at-requires : goal.kind_at-requires
kind_at-requires c =
    ends_named c.deref-3.result.now
    (ap has_node_names (ap names_of (c.deref-3.ensures.value ∙ c.in_ok-there.ensures) ∙ names_joined c.args.source.path.now c.args.rest.now)
    ∙ both_names (names_of c.args.source.path.now) (names_of c.args.rest.now) c.requires.source c.requires.rest)

pub returns : goal.returns
returns c =
    let there_is = ap names_of (c.deref.ensures.value ∙ c.in_ok-there.ensures) ∙ names_joined c.args.source.path.now c.args.rest.now in
    subst (IsFormAt c.args.index.now (paths_of c.args.excluded.now) c.args.source.revision (names_of c.args.path.now)
    (names_of c.args.source.path.now) (names_of c.args.rest.now)) (sym c.form_of.ensures)
    (some_back c.args.index.now (paths_of c.args.excluded.now) c.args.source.revision (names_of c.args.path.now)
    (names_of c.args.source.path.now) (names_of c.args.rest.now) (map (λ rest. names_of rest.now) c.in_ok-brought.brought.items)
    c.deref-2.result.now c.deref.result.now
    (ap names_of (c.deref-2.ensures.value ∙ c.in_ok-at.ensures) ∙ names_joined c.args.path.now c.args.rest.now)
    there_is c.in_ok-brought.ensures.followed
    (shown_some (λ rest. names_of rest.now) c.in_ok-brought.brought.items
    (sym (c.is_empty.ensures ∙ ap (λ n. n == 0) c.in_ok-brought.brought.ok.0) ∙ c.if-is_empty.false))
    c.in_ok-kind.kind
    (c.in_ok-kind.ensures
    ∙ ap (λ n. kind_look c.args.index.now n (names_of c.deref-3.result.now)) c.end_of.ensures
    ∙ ap (λ t. kind_look c.args.index.now (end_of (all_placed c.args.index.now) c.args.source.revision) (names_of t)) (c.deref-3.ensures.value ∙ sym c.deref.ensures.value)))
