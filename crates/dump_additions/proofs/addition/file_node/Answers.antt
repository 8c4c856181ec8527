use Rattle.std.proofs.Common.{map, refl, ap, ◌∙◌, sym, subst}
use Rattle.dump_trees.specs.steps.Looking.{end_of}
use Rattle.dump_trees.specs.steps.WritingOut.{file_of}
use Rattle.dump_index.specs.steps.Listed.{all_placed}
use Rattle.dump_changes.specs.steps.NodeProperties.{ArePropertiesAt}
use Rattle.dump_changes.specs.steps.ChangedProperties.{as_property}
use Rattle.dump_changes.specs.steps.MadeTexts.{IsFoundText, IsNoTextAt, told_of_file}
use Rattle.dump_changes.specs.steps.PatchedTexts.{IsTextAt}
use Rattle.dump_additions.proofs.NodeLemmas.{joined_bare, joined_is, joined_path}
use Rattle.dump_additions.proofs.addition.file_node.Goals as goal

pub text_at-requires : goal.text_at-requires
text_at-requires c =
    joined_bare c.deref.result.now c.args.source.path.now c.args.rest.now (c.deref.ensures.value ∙ c.in_ok-there.ensures)
    c.requires.source c.requires.rest

pub properties_at-requires : goal.properties_at-requires
properties_at-requires c =
    joined_bare c.deref-2.result.now c.args.source.path.now c.args.rest.now (c.deref-2.ensures.value ∙ c.in_ok-there.ensures)
    c.requires.source c.requires.rest

pub returns-in-Err : goal.returns-in-Err
returns-in-Err c = λ excluded. (
  refl,
  (
    c.deref.result.now,
    joined_is c.deref.result.now c.args.source.path.now c.args.rest.now (c.deref.ensures.value ∙ c.in_ok-there.ensures)
        c.requires.source c.requires.rest,
    subst (λ n. IsNoTextAt c.args.texts.now c.args.index.now c.deref.result.now n c.in-Err.no_text) c.end_of-end.ensures
        (subst (λ found. IsFoundText c.args.texts.now c.args.index.now c.deref.result.now c.end_of-end.result found) c.in-Err.is
        c.in_ok-text.ensures),
  ),
)

pub returns : goal.returns
returns c = λ excluded. (
  c.deref.result.now,
  map as_property c.in_ok-entries.entries.items,
  told_of_file c.in-Ok.text,
  joined_is c.deref.result.now c.args.source.path.now c.args.rest.now (c.deref.ensures.value ∙ c.in_ok-there.ensures)
      c.requires.source c.requires.rest,
  ap (λ p. file_of p (map as_property c.in_ok-entries.entries.items) (told_of_file c.in-Ok.text).text)
      (joined_path c.in_ok-joined.field-0.items c.args.path.now c.args.rest.now c.in_ok-joined.ensures c.requires.path c.requires.rest),
  refl,
  subst (λ t. ArePropertiesAt c.args.table.now c.args.index.now t (end_of (all_placed c.args.index.now) c.args.source.revision) (map as_property c.in_ok-entries.entries.items))
      (c.deref-2.ensures.value ∙ sym c.deref.ensures.value)
      (subst (λ n. ArePropertiesAt c.args.table.now c.args.index.now c.deref-2.result.now n (map as_property c.in_ok-entries.entries.items))
      c.end_of-end.ensures c.in_ok-entries.ensures.node),
  subst (λ n. IsTextAt c.args.texts.now c.args.index.now c.deref.result.now n (told_of_file c.in-Ok.text)) c.end_of-end.ensures
      (subst (λ found. IsFoundText c.args.texts.now c.args.index.now c.deref.result.now c.end_of-end.result found) c.in-Ok.is
      c.in_ok-text.ensures),
)
