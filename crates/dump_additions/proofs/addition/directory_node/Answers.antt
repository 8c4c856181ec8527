use Rattle.std.proofs.Common.{map, ap, ◌∙◌, subst}
use Rattle.dump_trees.specs.steps.WritingOut.{directory_of}
use Rattle.dump_changes.specs.steps.NodeProperties.{ArePropertiesAt}
use Rattle.dump_changes.specs.steps.ChangedProperties.{as_property}
use Rattle.dump_additions.proofs.NodeLemmas.{joined_bare, joined_is, joined_path}
use Rattle.dump_additions.proofs.addition.directory_node.Goals as goal

pub properties_at-requires : goal.properties_at-requires
properties_at-requires c =
    joined_bare c.deref.result.now c.args.source.path.now c.args.rest.now (c.deref.ensures.value ∙ c.in_ok-there.ensures)
    c.requires.source c.requires.rest

pub returns : goal.returns
returns c = (
  c.deref.result.now,
  map as_property c.in_ok-entries.entries.items,
  joined_is c.deref.result.now c.args.source.path.now c.args.rest.now (c.deref.ensures.value ∙ c.in_ok-there.ensures)
      c.requires.source c.requires.rest,
  ap (λ p. directory_of p (map as_property c.in_ok-entries.entries.items))
      (joined_path c.in_ok-joined.field-0.items c.args.path.now c.args.rest.now c.in_ok-joined.ensures c.requires.path c.requires.rest),
  subst (λ n. ArePropertiesAt c.args.table.now c.args.index.now c.deref.result.now n (map as_property c.in_ok-entries.entries.items))
      c.end_of.ensures c.in_ok-entries.ensures.node,
)
