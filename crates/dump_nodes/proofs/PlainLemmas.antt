-- The names of properties, one after another, and the lines of a block.
use Rattle.dump_nodes.proofs.Prelude.{◌≡◌, Bool, true, false, not, ◌&&◌, ◌||◌, ◌==◌, List, [], ◌∷◌, ◌++◌, codes, refl, sym, ap, ◌∙◌, list_all, or-false, list_any-append, Header, has_byte, header_text, lines_bytes, block_text, Property, is_plain_line}

-- whether no name has a zero byte
abbrev pub are_plain : List Property → Bool
are_plain ps = list_all (λ (p : Property). not (has_byte 0 p.name)) ps

-- where the first one has one, not all are plain
pub plain_stops : (ps qs : List Property) (p : Property) → ps ≡ p ∷ qs → has_byte 0 p.name ≡ true → are_plain ps ≡ false
plain_stops ps qs p is zero = ap are_plain is ∙ ap (λ b. not b && are_plain qs) zero

-- where it has none, the others decide
pub plain_goes : (ps qs : List Property) (p : Property) → ps ≡ p ∷ qs → has_byte 0 p.name ≡ false
    → are_plain ps ≡ are_plain qs
plain_goes ps qs p is none = ap are_plain is ∙ ap (λ b. not b && are_plain qs) none

-- the lines of a block

-- a line has a zero byte where its name or its value has one
line_zero : (h : Header) → has_byte 0 (header_text h ++ 10 ∷ []) ≡ (has_byte 0 h.name || has_byte 0 h.value)
line_zero h = list_any-append (λ c. c == 0) (header_text h) (10 ∷ []) ∙ or-false (has_byte 0 (header_text h))
    ∙ list_any-append (λ c. c == 0) (h.name ++ codes ": ") h.value
    ∙ ap (λ b. b || has_byte 0 h.value) (list_any-append (λ c. c == 0) h.name (codes ": ") ∙ or-false (has_byte 0 h.name))

-- no zero byte is in a block where none is in its lines
pub plain_block : (headers : List Header) → not (has_byte 0 (block_text headers)) ≡ list_all is_plain_line headers
plain_block [] = refl
plain_block (h ∷ headers) =
    let line = header_text h ++ 10 ∷ [] in
    let others = lines_bytes headers in
    let last = 10 ∷ [] in
    ap not (list_any-append (λ c. c == 0) (line ++ others) last
    ∙ ap (λ b. b || false) (list_any-append (λ c. c == 0) line others ∙ ap (λ b. b || has_byte 0 others) (line_zero h)))
    ∙ apart (has_byte 0 h.name) (has_byte 0 h.value) (has_byte 0 others)
    ∙ ap (λ b. is_plain_line h && not b) (sym (list_any-append (λ c. c == 0) others last))
    ∙ ap (λ b. is_plain_line h && b) (plain_block headers)
  where
    apart : (n v b : Bool) → not (((n || v) || b) || false) ≡ ((not n && not v) && not (b || false))
    apart true v b = refl
    apart false true b = refl
    apart false false b = refl
