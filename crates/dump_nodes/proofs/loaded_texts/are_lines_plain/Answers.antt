use Rattle.dump_nodes.proofs.Prelude.{not, ap, ◌∙◌, has_byte, block_text, record_item}
use Rattle.dump_nodes.proofs.PlainLemmas.{plain_block}
use Rattle.dump_nodes.proofs.loaded_texts.are_lines_plain.Goals as goal

pub returns : goal.returns
returns c = ap not (c.has_zero.ensures ∙ ap (has_byte 0) (c.bytes.ensures ∙ ap block_text c.block.ensures.lines))
    ∙ plain_block (record_item c.args.item.now).headers
