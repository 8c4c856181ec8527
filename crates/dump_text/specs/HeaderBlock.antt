-- Blocks of header lines, each ended by an empty line (Subversion, notes/dump-load-format.txt).
use Rattle.std.specs.Prelude.{◌≡◌, ℕ, Bool, false, ◌&&◌, ◌||◌, ◌==◌, nat_lt, nat_le, List, [], ◌∷◌, ◌++◌, length, flat_map, IsTrue, if◌then◌else◌}
use Rattle.std.specs.List.{list_all}
use Rattle.dump_text.specs.declared.fault.FaultKind.{FaultKind}
use Rattle.dump_text.specs.declared.fault.FaultKind.TheVariants as faults
use Rattle.dump_text.specs.Names.{known_names}
use Rattle.dump_text.specs.HeaderLine as line

-- whether these lines make a block: one or more, with each known name at most once
abbrev pub is_block : List line.Header → Bool
is_block headers =
    nat_lt 0 (length headers) && list_all line.is_header headers
    && list_all (λ name. nat_le (line.count_named name headers) 1) known_names

-- the lines' bytes: each line and its LF
abbrev pub lines_bytes : List line.Header → List ℕ
lines_bytes headers = flat_map (λ h. line.header_text h ++ 10 ∷ []) headers

-- the block's bytes: its lines, and then an LF
abbrev pub block_text : List line.Header → List ℕ
block_text headers = lines_bytes headers ++ 10 ∷ []

-- the text is a block of these lines, and then the rest
pub record BeginsWithBlock (text : List ℕ) (headers : List line.Header) (rest : List ℕ) : Type 0 where
  pub block : IsTrue (is_block headers)
  pub spelled : text ≡ block_text headers ++ rest

-- the text begins with a block
abbrev pub HasBlock : List ℕ → Type 0
HasBlock text = (headers : List line.Header) × (rest : List ℕ) × BeginsWithBlock text headers rest

-- whether the text begins with an LF
abbrev pub starts_with_lf : List ℕ → Bool
starts_with_lf [] = false
starts_with_lf (b ∷ text) = b == 10

-- whether one LF directly follows another
abbrev pub has_empty_line : List ℕ → Bool
has_empty_line [] = false
has_empty_line (b ∷ text) = (b == 10 && starts_with_lf text) || has_empty_line text

-- what is wrong with a text that begins with no block: it is malformed if it begins with an LF or has an empty line, and
-- otherwise it is cut
abbrev pub block_fault : List ℕ → FaultKind
block_fault text =
    if starts_with_lf text then faults.Header
    else if has_empty_line text then faults.Header
    else faults.HeaderCut
