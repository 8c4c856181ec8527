use Rattle.dump_text.proofs.Prelude.{sym, drop_of_length-le, take_rest}
use Rattle.dump_text.proofs.value_place.bytes_from.Goals as goal

pub returns-then-byte-text : goal.returns-then-byte-text
returns-then-byte-text c = take_rest c.args.text.now c.args.byte

pub returns-else-byte-text : goal.returns-else-byte-text
returns-else-byte-text c = sym (drop_of_length-le c.args.text.now c.if-byte-text.false)
