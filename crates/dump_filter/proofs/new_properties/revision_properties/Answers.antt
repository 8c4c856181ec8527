use Rattle.dump_filter.proofs.Prelude.{sym, ap, ◌∙◌, property_block_text, record_item, dated_padding}
use Rattle.dump_filter.proofs.written.PropertyOutput.{read_block, padding_is}
use Rattle.dump_filter.proofs.new_properties.revision_properties.Goals as goal

pub returns-then-padded : goal.returns-then-padded
returns-then-padded c ps is =
    rw c.if-padded.true
    (c.in_ok-bytes.ensures ∙ ap (λ date. property_block_text (dated_padding date))
    (c.get-date.ensures.value ps (read_block (record_item c.args.item.now) c.args.props.now c.requires ps is))
    ∙ sym (ap property_block_text (padding_is ps)))
