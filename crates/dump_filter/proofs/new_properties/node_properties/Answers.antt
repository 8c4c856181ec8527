use Rattle.dump_filter.proofs.Prelude.{◌≡◌, List, false, ap, sym, subst, ◌∙◌, Property, record_item, Record, HasGoodMergeinfo, made_or, AreNewProperties, new_block, HasPropertyList}
use Rattle.std.proofs.Common.{IfOk}
use Rattle.std.proofs.lemmas.Result.{IfOk-weaker}
use Rattle.dump_filter.proofs.answer.MergeLemmas.{read_lines, asked_node}
use Rattle.dump_filter.proofs.written.PropertyOutput.{no_mergeinfo}
use Rattle.dump_filter.proofs.new_properties.node_properties.Goals as goal

pub read_props-props-requires-clause-asked : goal.read_props-props-requires-clause-asked
read_props-props-requires-clause-asked c = asked_node c.args.done.now c.requires.node

pub read_props-props-requires-clause-read : goal.read_props-props-requires-clause-read
read_props-props-requires-clause-read c = c.requires.node.1

pub rewritten_block-requires-clause-read : goal.rewritten_block-requires-clause-read
rewritten_block-requires-clause-read c =
    c.read_props-props.ensures ∙ ap (λ (r : Record). (record_item r).props) (sym c.item-item.ensures)

pub rewritten_block-requires-clause-lines : goal.rewritten_block-requires-clause-lines
rewritten_block-requires-clause-lines c =
    subst HasGoodMergeinfo (sym c.read_props-props.ensures) (read_lines c.args.done.now c.requires.node)

pub respelled_block-requires : goal.respelled_block-requires
respelled_block-requires c =
    c.read_props-props.ensures ∙ ap (λ (r : Record). (record_item r).props) (sym c.item-item.ensures)

pub returns-then-has_mergeinfo : goal.returns-then-has_mergeinfo
returns-then-has_mergeinfo c =
    subst (λ (r : Record). IfOk c.rewritten_block.result
    (λ made. (ps : List Property) → HasPropertyList (record_item r) ps
    → (new : List Property) × AreNewProperties c.args.options.now c.args.kept.now ps new
    × (made_or made (record_item r).props ≡ new_block false (record_item r) new)))
    c.item-item.ensures c.rewritten_block.ensures

pub returns-else-has_mergeinfo : goal.returns-else-has_mergeinfo
returns-else-has_mergeinfo c =
    let (kept, read, ok) = c.requires.node in
    IfOk-weaker c.respelled_block.result _ _ (λ made written ps is. (
      ps,
      no_mergeinfo c.args.options.now c.args.kept.now ps
          (sym (c.has_mergeinfo.ensures kept ok ps is) ∙ c.if-has_mergeinfo.false),
      written ps is,
    ))
    (subst (λ (r : Record). IfOk c.respelled_block.result
    (λ made. (ps : List Property) → HasPropertyList (record_item r) ps
    → made_or made (record_item r).props ≡ new_block false (record_item r) ps))
    c.item-item.ensures c.respelled_block.ensures)
