-- The header lines that the bytes of a block hold.
use Rattle.std.specs.Prelude.{◌≡◌, ◌≤◌, ℕ, ◌==◌, nat_lt, List, drop, length, map, filter, slice_range, IsTrue}
use Rattle.std.specs.List.{slice_split, before_first, after_first, list_all}
use Rattle.dump_text.specs.HeaderLine.{Header, is_header}
use Rattle.dump_text.specs.HeaderBlock.{lines_bytes, BeginsWithBlock}

-- the header of a line: the name is before its first colon, and the value is after the space that follows the colon
abbrev pub header_of : List ℕ → Header
header_of line = record {
  name = before_first (λ b. b == 58) line;
  value = drop 1 (after_first (λ b. b == 58) line);
}

-- the headers of the lines that aren't empty
abbrev pub headers_of : List ℕ → List Header
headers_of text = map header_of (filter (λ line. nat_lt 0 (length line)) (slice_split (λ b. b == 10) text))

-- the header lines between two places of a dump
abbrev pub headers_between : List ℕ → ℕ → ℕ → List Header
headers_between dump place after = headers_of (slice_range dump place after)

-- the text is well-formed header lines, each with its LF
pub record AreHeaderLines (text : List ℕ) : Type 0 where
  pub lawful : IsTrue (list_all is_header (headers_of text))
  pub spelled : text ≡ lines_bytes (headers_of text)

-- a block is in the dump from one place up to another
pub record IsBlockBetween (dump : List ℕ) (place after : ℕ) : Type 0 where
  pub block : BeginsWithBlock (drop place dump) (headers_between dump place after) (drop after dump)
  pub inside : after ≤ length dump

-- the bytes are a part of the dump between these two places
abbrev pub IsPartBetween : List ℕ → ℕ → ℕ → List ℕ → Type 0
IsPartBetween dump place after bytes =
    (from to : ℕ) × (place ≤ from) × (from ≤ to) × (to ≤ after) × (bytes ≡ slice_range dump from to)
