-- What contracts say of blocks and lines.
use Rattle.std.specs.Prelude.{◌≡◌, ℕ, List, [], ◌∷◌, ◌++◌, Option, Some, None}
use Rattle.dump_text.specs.declared.block.Block.{Block}
use Rattle.dump_text.specs.declared.lines.Line.{Line}
use Rattle.dump_text.specs.declared.lines.Lines.{Lines}
use Rattle.dump_text.specs.HeaderLine.{Header}
use Rattle.dump_text.specs.steps.ReadHeaders.{headers_of, headers_between}

-- the dump that contains a block
abbrev pub block_dump : Block → List ℕ
block_dump b = b.dump.now

-- the byte at which it begins
abbrev pub block_place : Block → ℕ
block_place b = b.place

-- the byte after its empty line
abbrev pub block_after : Block → ℕ
block_after b = b.after

-- its header lines
abbrev pub block_headers : Block → List Header
block_headers b = headers_between b.dump.now b.place b.after

-- a line as its name and value
abbrev pub line_header : Line → Header
line_header line = record { name = line.name.now; value = line.value.now }

-- the bytes that an iterator over lines has not yet read
abbrev pub lines_text : Lines → List ℕ
lines_text lines = lines.rest.now

-- the lines that an iterator has not yet returned
abbrev pub lines_left : Lines → List Header
lines_left lines = headers_of (lines_text lines)

-- one call of an iterator over lines: it returns the next one, with whose bytes and LF its text begins, or none if
-- none is left
abbrev pub LineStep : Lines → Option Line → Lines → Type 0
LineStep old None new = (lines_left old ≡ []) × (new ≡ old)
LineStep old (Some line) new = (lines_text old ≡ line.whole.now ++ 10 ∷ lines_text new)
    × (lines_left old ≡ line_header line ∷ lines_left new)
