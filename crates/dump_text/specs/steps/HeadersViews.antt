-- What contracts say of a block with its values.
use Rattle.dump_text.specs.declared.block.Block.{Block}
use Rattle.dump_text.specs.declared.headers.Headers.{Headers}

-- the block itself
abbrev pub headers_block : Headers → Block
headers_block h = h.block
