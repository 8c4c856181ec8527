use Rattle.dump_filter.proofs.Prelude.{◌≡◌, List, ℕ, false, ap, sym, subst, ◌∙◌, ◌++◌, codes, Property, made_or, record_item, Record, IsOwnNode, AreNewProperties, new_block, AreLengths, new_record, HasPropertyList}
use Rattle.std.proofs.Common.{OnOk}
use Rattle.std.proofs.lemmas.Result.{on_ok_weaker}
use Rattle.dump_filter.proofs.written.OutputLemmas.{node_is}
use Rattle.dump_filter.proofs.output.push_node.Goals as goal

pub returns : goal.returns
returns c =
    let item = c.item-item.result in
    let r = record_item item in
    let changes = c.changes_of-changes in
    let lengths = subst (λ bytes. AreLengths bytes c.text_bytes.result.now changes.result)
    (c.made_or-bytes.ensures ∙ ap (λ own. made_or c.in_ok-props.props own) c.property_bytes.ensures) changes.ensures.lengths in
    let own = new_record changes.result r.headers (made_or c.in_ok-props.props r.props) r.text ++ codes "\n\n" in
    let written = subst (λ (x : Record). (ps : List Property) → HasPropertyList (record_item x) ps
    → (new : List Property) × AreNewProperties c.args.options.now c.args.kept.now ps new
    × (made_or c.in_ok-props.props (record_item x).props ≡ new_block false (record_item x) new))
    (sym c.item-item.ensures) c.in_ok-props.ensures in
    subst (λ (x : Record). OnOk c.push_record.result
    ((text : List ℕ) × (c.push_record.new.piece ≡ c.args.piece.now ++ text)
    × IsOwnNode c.args.options.now c.args.kept.now (record_item x) c.args.copy text)) c.item-item.ensures
    (on_ok_weaker c.push_record.result (λ pushed. (
      own,
      pushed,
      λ ps is.
          let (new, properties, bytes) = written ps is in (
            new,
            properties,
            node_is changes.result r c.args.copy _ _ new changes.ensures.revision changes.ensures.copy lengths c.text_bytes.ensures
                bytes,
          ),
    ))
    c.push_record.ensures)
