use Rattle.std.proofs.Common.{◌≡◌, ◌-◌, suc, is_some, map, arith, refl, ap, ap₂, ◌∙◌, sym, subst}
use Rattle.std.specs.Prelude.{Ok}
use Rattle.std.proofs.lemmas.Bool.{and_parts}
use Rattle.dump_trees.specs.Paths.{names_of}
use Rattle.dump_trees.specs.Siblings.{has_node_names}
use Rattle.dump_trees.specs.steps.WritingOut.{file_of, directory_of}
use Rattle.dump_history.specs.WrittenNodes.{WrittenNode}
use Rattle.dump_history.specs.steps.WrittenNodes.{replacing}
use Rattle.dump_changes.specs.steps.NodeProperties.{ArePropertiesAt}
use Rattle.dump_changes.specs.steps.ChangedProperties.{as_property}
use Rattle.dump_changes.specs.steps.MadeTexts.{told_of_file}
use Rattle.dump_cut.proofs.ParentLemmas.{ends_named}
use Rattle.dump_index.specs.steps.Listed.{listed_of}
use Rattle.dump_additions.specs.steps.Additions.{MakesRoot}
use Rattle.dump_additions.specs.steps.Nodes.{IsRootText}
use Rattle.dump_additions.proofs.addition.root_node.Goals as goal
use Rattle.dump_cut.proofs.FoundDeletes.{named_bare}

pub kind_at-requires : goal.kind_at-requires
kind_at-requires c = ends_named c.args.change.now.path.now (and_parts (has_node_names (names_of c.args.change.now.path.now)) _ c.requires.named).0

pub properties_at-requires : goal.properties_at-requires
properties_at-requires c = ends_named c.args.change.now.path.now (and_parts (has_node_names (names_of c.args.change.now.path.now)) _ c.requires.named).0

pub returns-in-Some : goal.returns-in-Some
returns-in-Some c = λ excluded.
    let its = subst (λ o. IsRootText c.args.texts.now c.args.index.now (c.args.count - 1) (listed_of c.args.change.now) c.args.form (Ok o))
    c.in-Some.is
    (subst (IsRootText c.args.texts.now c.args.index.now (c.args.count - 1) (listed_of c.args.change.now) c.args.form)
    c.in-Ok.is c.in_ok-text.ensures) in
    let text = told_of_file c.in-Some.text in
    record {
      own = map as_property c.in_ok-entries.entries.items;
      own_are =
          subst (λ n. ArePropertiesAt c.args.table.now c.args.index.now c.args.change.now.path.now n (map as_property c.in_ok-entries.entries.items))
          (let some = c.requires.count in let same : c.args.count ≡ suc (c.args.count - 1) = omega (arith, some) in same)
          c.in_ok-entries.ensures.node;
      makes =
          subst (λ f. MakesRoot c.args.table.now c.args.texts.now c.args.index.now excluded (c.args.count - 1)
          (listed_of c.args.change.now) (map as_property c.in_ok-entries.entries.items) f
          (WrittenNode.File c.is_some-replaces.result c.in_ok-path.path.items (map as_property c.in_ok-entries.entries.items)
          text.text text.md5 text.sha1)) (sym its.0) (
            text,
            its.1,
            refl,
            ap₂ (λ b p. replacing b (file_of p (map as_property c.in_ok-entries.entries.items) text.text))
                (c.is_some-replaces.ensures ∙ ap is_some c.in_ok-kind_at.ensures)
                (named_bare c.in_ok-path.path.items
                (ap (λ t. has_node_names (names_of t)) c.in_ok-path.ensures.items
                ∙ (and_parts (has_node_names (names_of c.args.change.now.path.now)) _ c.requires.named).0)
                ∙ ap names_of c.in_ok-path.ensures.items),
          );
    }

pub returns-in-None : goal.returns-in-None
returns-in-None c = λ excluded.
    let its = subst (λ o. IsRootText c.args.texts.now c.args.index.now (c.args.count - 1) (listed_of c.args.change.now) c.args.form (Ok o))
    c.in-None.is
    (subst (IsRootText c.args.texts.now c.args.index.now (c.args.count - 1) (listed_of c.args.change.now) c.args.form)
    c.in-Ok.is c.in_ok-text.ensures) in
    record {
      own = map as_property c.in_ok-entries.entries.items;
      own_are =
          subst (λ n. ArePropertiesAt c.args.table.now c.args.index.now c.args.change.now.path.now n (map as_property c.in_ok-entries.entries.items))
          (let some = c.requires.count in let same : c.args.count ≡ suc (c.args.count - 1) = omega (arith, some) in same)
          c.in_ok-entries.ensures.node;
      makes =
          subst (λ f. MakesRoot c.args.table.now c.args.texts.now c.args.index.now excluded (c.args.count - 1)
          (listed_of c.args.change.now) (map as_property c.in_ok-entries.entries.items) f
          (WrittenNode.Directory c.is_some-replaces.result c.in_ok-path.path.items (map as_property c.in_ok-entries.entries.items)))
          (sym its.0) (
            its.1,
            ap₂ (λ b p. replacing b (directory_of p (map as_property c.in_ok-entries.entries.items)))
                (c.is_some-replaces.ensures ∙ ap is_some c.in_ok-kind_at.ensures)
                (named_bare c.in_ok-path.path.items
                (ap (λ t. has_node_names (names_of t)) c.in_ok-path.ensures.items
                ∙ (and_parts (has_node_names (names_of c.args.change.now.path.now)) _ c.requires.named).0)
                ∙ ap names_of c.in_ok-path.ensures.items),
          );
    }
