-- What the functions find that scan a block.
use Rattle.std.specs.Prelude.{◌≡◌, ℕ, ◌+◌, ◌<◌, ◌≤◌, Bool, List, ◌∷◌, ◌++◌, take, drop, length, nat_lt, IsTrue, IsFalse, bytes_eq}
use Rattle.std.specs.List.{list_any, list_all}
use Rattle.dump_text.specs.Names.{known_names}
use Rattle.dump_text.specs.HeaderLine as line
use Rattle.dump_text.specs.HeaderBlock.{lines_bytes, BeginsWithBlock}
use Rattle.dump_text.specs.steps.ReadHeaders.{headers_of, AreHeaderLines}

-- k is the first place of the byte
pub record IsFirstAt (b : ℕ) (text : List ℕ) (k : ℕ) : Type 0 where
  pub below : k < length text
  pub cut : text ≡ take k text ++ b ∷ drop (k + 1) text
  pub before : IsFalse (line.has_byte b (take k text))

-- the text is a line without LF, its LF, and the rest
pub record IsFirstLine (text whole rest : List ℕ) : Type 0 where
  pub cut : text ≡ whole ++ 10 ∷ rest
  pub one_line : IsFalse (line.has_byte 10 whole)

-- the name and the value are the parts of the line before and after its first colon and the space that follows it
pub record IsCutAtColon (whole name value : List ℕ) : Type 0 where
  pub spelled : whole ≡ name ++ 58 ∷ 32 ∷ value
  pub named : IsTrue (nat_lt 0 (length name))
  pub no_colon : IsFalse (line.has_byte 58 name)

-- the text is not the text of a header line
abbrev pub IsNoHeader : List ℕ → Type 0
IsNoHeader whole = (h : line.Header) → IsTrue (line.is_header h) → whole ≡ line.header_text h → ⊥

-- the text is these lines, an empty line and a rest
abbrev pub HasLines : List ℕ → Type 0
HasLines text = (headers : List line.Header) × (rest : List ℕ)
    × IsTrue (list_all line.is_header headers) × (text ≡ lines_bytes headers ++ 10 ∷ rest)

-- the first bytes of the text are header lines, and an empty line follows
pub record IsLinesEnd (text : List ℕ) (size : ℕ) : Type 0 where
  pub below : size < length text
  pub lines : AreHeaderLines (take size text)
  pub ended : text ≡ take size text ++ 10 ∷ drop (size + 1) text

-- the first bytes of the text are a block
pub record IsBlockEnd (text : List ℕ) (size : ℕ) : Type 0 where
  pub inside : size ≤ length text
  pub block : BeginsWithBlock text (headers_of (take size text)) (drop size text)

-- whether the name is known
abbrev pub is_known : List ℕ → Bool
is_known name = list_any (λ known. bytes_eq name known) known_names
