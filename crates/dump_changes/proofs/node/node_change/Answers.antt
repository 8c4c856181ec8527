use Rattle.dump_changes.proofs.Prelude.{◌≡◌, true, false, Some, sym, ap, ◌∙◌, bare_path, names_of, record_item}
use Rattle.dump_changes.proofs.ChangeLemmas.{told_change, makes_told, told_if_makes, told_block}
use Rattle.dump_changes.proofs.node.node_change.Goals as goal

pub returns-then-not-is_told-clause-change : goal.returns-then-not-is_told-clause-change
returns-then-not-is_told-clause-change c patched change makes =
    let its = told_if_makes patched (record_item c.args.item.now) change makes in
    let bad : false ≡ true = sym c.if-not-is_told.true ∙ c.is_told.ensures (Some its.0) its.1 ∙ its.2 in
    absurd (cc)

pub returns-clause-change : goal.returns-clause-change
returns-clause-change c patched =
    let r = record_item c.args.item.now in
    let block = told_block r c.properties_of-props.result c.is_told.result c.properties_of-props.ensures.found
    c.is_told.ensures c.if-not-is_told.false in (
      told_change patched r block.0,
      makes_told patched r block.0 block.1 (sym (c.is_told.ensures (Some block.0) block.1) ∙ c.if-not-is_told.false),
      record {
        revision = Rattle.std.proofs.Common.refl;
        path = sym (ap names_of (c.bare_path.ensures ∙ ap bare_path c.path_of.ensures));
        deletes = sym (c.deletes.ensures ∙ c.action_of-action.ensures.deletes);
        made = sym c.made_of.ensures;
        props = c.props_of.ensures block.0 block.1;
        text = c.text_of.ensures patched;
      },
    )
