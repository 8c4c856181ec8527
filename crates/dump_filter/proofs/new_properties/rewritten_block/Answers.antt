use Rattle.dump_filter.proofs.Prelude.{[], sym, ◌∙◌, record_item}
use Rattle.dump_filter.proofs.written.PropertyOutput.{read_block, no_block, block_with, block_without}
use Rattle.dump_filter.proofs.new_properties.rewritten_block.Goals as goal

pub returns-in_ok-bytes : goal.returns-in_ok-bytes
returns-in_ok-bytes c ps is =
    let r = record_item c.args.item.now in
    let (new, properties, bytes) = c.in_ok-bytes.ensures ps (read_block r c.args.props.now c.requires.read ps is) in
    (new, properties, bytes ∙ block_with r new (sym c.has_props.ensures ∙ c.if-has_props.true))

pub returns-else-has_props : goal.returns-else-has_props
returns-else-has_props c ps is =
    let r = record_item c.args.item.now in
    let none = sym c.has_props.ensures ∙ c.if-has_props.false in (
      [],
      no_block c.args.options.now c.args.kept.now r none c.args.item.now.stands.props_fit ps is,
      block_without r [] none c.args.item.now.stands.props_fit,
    )
