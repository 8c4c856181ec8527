use Rattle.dump_filter.proofs.Prelude.{◌≡◌, List, ap, sym, subst, ◌∙◌, ◌++◌, Property, record_item, Record, made_or, AreLengths, revision_own, HasPropertyList}
use Rattle.std.proofs.Common.{OnOk}
use Rattle.dump_filter.proofs.answer.MergeLemmas.{asked_revision}
use Rattle.std.proofs.lemmas.Result.{on_ok_weaker}
use Rattle.dump_filter.proofs.written.OutputLemmas.{revision_is}
use Rattle.dump_filter.proofs.output.push_revision.Goals as goal

pub read_props-requires-clause-asked : goal.read_props-requires-clause-asked
read_props-requires-clause-asked c = asked_revision c.args.done.now c.requires.revision

pub revision_properties-requires : goal.revision_properties-requires
revision_properties-requires c =
    c.read_props.ensures ∙ ap (λ (r : Record). (record_item r).props) (sym c.item-item.ensures)

pub returns : goal.returns
returns c =
    let changes = c.changes_of-changes in
    let item = c.item-item.result in
    let lengths = subst (λ bytes. AreLengths bytes c.text_bytes.result.now changes.result)
    (c.made_or-bytes.ensures ∙ ap (λ own. made_or c.in_ok-props.props own) c.property_bytes.ensures) changes.ensures.lengths in
    subst (λ (r : Record). OnOk c.push_record.result ((ps : List Property) → HasPropertyList (record_item r) ps
    → c.push_record.new.piece ≡ c.args.piece.now ++ revision_own
    (record_item r) c.args.number c.args.padded ps)) c.item-item.ensures
    (on_ok_weaker c.push_record.result (λ pushed ps is.
    pushed ∙ ap (λ t. c.args.piece.now ++ t)
    (revision_is changes.result
    (record_item item) c.args.number c.args.padded _ _ ps changes.ensures.revision changes.ensures.copy
    lengths c.text_bytes.ensures
    (c.in_ok-props.ensures ps is)))
    c.push_record.ensures)
