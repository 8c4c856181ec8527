use Rattle.std.proofs.Common.{◌≡◌, ◌++◌, ◌∙◌, List, ℕ, Bor, map, ap, subst}
use Rattle.dump_trees.specs.Paths.{names_of}
use Rattle.dump_trees.specs.steps.Looking.{end_of}
use Rattle.dump_trees.specs.Siblings.{has_node_names}
use Rattle.dump_trees.proofs.paths.SiblingLemmas.{both_names}
use Rattle.dump_index.specs.steps.Children.{AreChildren}
use Rattle.dump_index.specs.steps.Listed.{all_placed}
use Rattle.dump_index.specs.steps.Names.{texts_of}
use Rattle.dump_index.proofs.SlashLemmas.{names_joined}
use Rattle.dump_cut.proofs.ParentLemmas.{ends_named}
use Rattle.dump_additions.specs.steps.Parts.{children_of, pending}
use Rattle.dump_additions.proofs.PartLemmas.{inside_added}
use Rattle.dump_additions.proofs.parts.push_inside.Goals as goal

pub children-requires : goal.children-requires
children-requires c =
    ends_named c.deref.result.now
    (ap has_node_names (ap names_of (c.deref.ensures.value ∙ c.in_ok-there.ensures) ∙ names_joined c.args.source.path.now c.args.rest.now)
    ∙ both_names (names_of c.args.source.path.now) (names_of c.args.rest.now) c.requires.source c.requires.rest)

pub returns : goal.returns
returns c =
    inside_added c.args.index.now c.requires.index c.args.source.revision (names_of c.args.source.path.now)
    (names_of c.args.rest.now) c.in_ok-names.names.items (pending c.args.left.now.items) (pending c.push_joined.new.left.items)
    c.push_joined.result
    (subst (λ p. AreChildren c.args.index.now (end_of (all_placed c.args.index.now) c.args.source.revision) p (texts_of c.in_ok-names.names.items))
    (ap names_of (c.deref.ensures.value ∙ c.in_ok-there.ensures) ∙ names_joined c.args.source.path.now c.args.rest.now)
    (subst (λ n. AreChildren c.args.index.now n (names_of c.deref.result.now) (texts_of c.in_ok-names.names.items)) c.end_of.ensures
    c.in_ok-names.ensures))
    (subst (λ (names : List (Bor (List ℕ))). Rattle.std.specs.Prelude.OnOk c.push_joined.result (pending c.push_joined.new.left.items
    ≡ children_of (names_of c.args.rest.now) (map (λ name. names_of name.now) names) ++ pending c.args.left.now.items))
    c.deref-2.ensures.value c.push_joined.ensures)
