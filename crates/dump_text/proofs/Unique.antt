-- A text begins with at most one block.
use Rattle.dump_text.proofs.Prelude.{◌≡◌, ℕ, zero, suc, nat_lt, refl, sym, ◌∙◌, ap, subst, true, false, ◌&&◌, not, ◌==◌, List, [], ◌∷◌, ◌++◌, length, codes, arith, length-append, flat_map, nat_le, replicate, and_parts, not-true, list_all, known_names, has_byte, header_text, is_header, is_block, block_text, starts_with_lf, BeginsWithBlock}
use Rattle.std.proofs.Common.{append_assoc}
use Rattle.dump_text.proofs.BoolLemmas.{first_true, second_true, first_false, second_false}
use Rattle.dump_text.specs.HeaderLine as line

same_number : (n : ℕ) → (n == n) ≡ false → ⊥
same_number n h = grind arith

head-eq : {A : Type 0} (x y : A) (xs ys : List A) → x ∷ xs ≡ y ∷ ys → x ≡ y
head-eq x y xs ys e = cc

-- where two lists are the same, so are their rests
pub tail-eq : {A : Type 0} (x y : A) (xs ys : List A) → x ∷ xs ≡ y ∷ ys → xs ≡ ys
tail-eq x y xs ys e = cc

-- a byte that neither front has ends both of them at one place
pub split_once : (c : ℕ) (a b x y : List ℕ) → has_byte c a ≡ false → has_byte c b ≡ false → a ++ c ∷ x ≡ b ++ c ∷ y
    → (a ≡ b) × (x ≡ y)
split_once c [] [] x y na nb e = (refl, tail-eq c c x y e)
split_once c [] (d ∷ b) x y na nb e =
    absurd (same_number c (subst (λ (z : ℕ). (z == c) ≡ false) (sym (head-eq c d x (b ++ c ∷ y) e))
    (first_false (d == c) (has_byte c b) nb)))
split_once c (d ∷ a) [] x y na nb e =
    absurd (same_number c (subst (λ (z : ℕ). (z == c) ≡ false) (head-eq d c (a ++ c ∷ x) y e)
    (first_false (d == c) (has_byte c a) na)))
split_once c (d ∷ a) (f ∷ b) x y na nb e =
    let rest = split_once c a b x y (second_false (d == c) (has_byte c a) na) (second_false (f == c) (has_byte c b) nb)
    (tail-eq d f (a ++ c ∷ x) (b ++ c ∷ y) e) in
    ((λ i. head-eq d f (a ++ c ∷ x) (b ++ c ∷ y) e i ∷ rest.0 i), rest.1)

-- what a lawful header line lacks
pub record Lawful (h : line.Header) : Type 0 where
  pub some : nat_lt 0 (length h.name) ≡ true
  pub no_colon : has_byte 58 h.name ≡ false
  pub no_lf : has_byte 10 h.name ≡ false
  pub value_no_lf : has_byte 10 h.value ≡ false

-- a header that may be in a block lacks what would break its line
pub lawful : (h : line.Header) → is_header h ≡ true → Lawful h
lawful h e =
    let four = and_parts _ (not (has_byte 10 h.value)) e in
    let three = and_parts _ (not (has_byte 10 h.name)) four.0 in
    let two = and_parts (nat_lt 0 (length h.name)) (not (has_byte 58 h.name)) three.0 in
    record {
      some = two.0;
      no_colon = not-true (has_byte 58 h.name) two.1;
      no_lf = not-true (has_byte 10 h.name) three.1;
      value_no_lf = not-true (has_byte 10 h.value) four.1;
    }

-- a byte that two texts lack is not in both together
pub has_byte-append : (c : ℕ) (xs ys : List ℕ) → has_byte c xs ≡ false → has_byte c ys ≡ false
    → has_byte c (xs ++ ys) ≡ false
has_byte-append c [] ys nx ny = ny
has_byte-append c (x ∷ xs) ys nx ny =
    rw (first_false (x == c) _ nx) (has_byte-append c xs ys (second_false (x == c) _ nx) ny)

-- a lawful header line has no LF
pub text_no_lf : (h : line.Header) → Lawful h → has_byte 10 (header_text h) ≡ false
text_no_lf h l = has_byte-append 10 (h.name ++ codes ": ") h.value
    (has_byte-append 10 h.name (codes ": ") l.no_lf refl) l.value_no_lf

-- headers of the same name and value are the same
pub header-eq : (h k : line.Header) → h.name ≡ k.name → h.value ≡ k.value → h ≡ k
header-eq h k n v = λ i. record { name = n i; value = v i }

-- a line is cut in one way
pub line_once : (h k : line.Header) → Lawful h → Lawful k → header_text h ≡ header_text k → h ≡ k
line_once h k l m e =
    let cut = split_once 58 h.name k.name (32 ∷ h.value) (32 ∷ k.value) l.no_colon m.no_colon
    (sym (append_assoc h.name (codes ": ") h.value) ∙ e ∙ append_assoc k.name (codes ": ") k.value) in
    header-eq h k cut.0 (tail-eq 32 32 h.value k.value cut.1)

-- a lawful header line isn't empty
pub not_empty : (h : line.Header) → Lawful h → [] ≡ header_text h → ⊥
not_empty h l e = let n : 0 ≡ length (header_text h) = ap length e in let s = l.some in grind
    (arith, length-append, n, s)

-- the bytes of a header line with its LF
abbrev pub ended : line.Header → List ℕ
ended h = header_text h ++ 10 ∷ []

-- the bytes of some lines begin with those of the first and its LF
pub regroup : (h : line.Header) (hs : List line.Header) (x : List ℕ)
    → flat_map ended (h ∷ hs) ++ x ≡ header_text h ++ 10 ∷ (flat_map ended hs ++ x)
regroup h hs x = append_assoc (ended h) (flat_map ended hs) x ∙ append_assoc (header_text h) (10 ∷ [])
    (flat_map ended hs ++ x)

-- the first of some lawful lines is lawful
pub all_first : (h : line.Header) (hs : List line.Header) → list_all is_header (h ∷ hs) ≡ true → Lawful h
all_first h hs e = lawful h (first_true (is_header h) (list_all is_header hs) e)

-- the lines after the first of some lawful lines are lawful
pub all_rest : (h : line.Header) (hs : List line.Header) → list_all is_header (h ∷ hs) ≡ true
    → list_all is_header hs ≡ true
all_rest h hs e = second_true (is_header h) (list_all is_header hs) e

-- lines up to an empty one are cut in one way
pub lines_once : (hs ks : List line.Header) (x y : List ℕ) → list_all is_header hs ≡ true → list_all is_header ks ≡ true
    → flat_map ended hs ++ 10 ∷ x ≡ flat_map ended ks ++ 10 ∷ y → (hs ≡ ks) × (x ≡ y)
lines_once [] [] x y l m e = (refl, tail-eq 10 10 x y e)
lines_once [] (k ∷ ks) x y l m e =
    let lk = all_first k ks m in
    absurd (not_empty k lk (split_once 10 [] (header_text k) x (flat_map ended ks ++ 10 ∷ y) refl (text_no_lf k lk)
    (e ∙ regroup k ks (10 ∷ y))).0)
lines_once (h ∷ hs) [] x y l m e =
    let lh = all_first h hs l in
    absurd (not_empty h lh (split_once 10 [] (header_text h) y (flat_map ended hs ++ 10 ∷ x) refl (text_no_lf h lh)
    (sym e ∙ regroup h hs (10 ∷ x))).0)
lines_once (h ∷ hs) (k ∷ ks) x y l m e =
    let lh = all_first h hs l in
    let lk = all_first k ks m in
    let cut = split_once 10 (header_text h) (header_text k) (flat_map ended hs ++ 10 ∷ x) (flat_map ended ks ++ 10 ∷ y)
    (text_no_lf h lh) (text_no_lf k lk) (sym (regroup h hs (10 ∷ x)) ∙ e ∙ regroup k ks (10 ∷ y)) in
    let rest = lines_once hs ks x y (all_rest h hs l) (all_rest k ks m) cut.1 in
    ((λ i. line_once h k lh lk cut.0 i ∷ rest.0 i), rest.1)

-- the lines of a block are lawful
pub lawful_lines : (headers : List line.Header) → is_block headers ≡ true → list_all is_header headers ≡ true
lawful_lines headers e =
    second_true (nat_lt 0 (length headers)) (list_all is_header headers)
    (first_true _ (list_all (λ name. nat_le (line.count_named name headers) 1) known_names) e)

-- a text begins with at most one block
pub block_once : (text : List ℕ) (hs ks : List line.Header) (x y : List ℕ) → BeginsWithBlock text hs x
    → BeginsWithBlock text ks y → (hs ≡ ks) × (x ≡ y)
block_once text hs ks x y b c =
    lines_once hs ks x y (lawful_lines hs b.block) (lawful_lines ks c.block)
    (sym (append_assoc (flat_map ended hs) (10 ∷ []) x) ∙ sym b.spelled ∙ c.spelled ∙ append_assoc (flat_map ended ks)
    (10 ∷ []) y)

-- a block begins with a byte that isn't LF
pub block_front : (text : List ℕ) (hs : List line.Header) (x : List ℕ) → BeginsWithBlock text hs x
    → starts_with_lf text ≡ false
block_front text [] x b = let impossible : false ≡ true = b.block in cc
block_front text (h ∷ hs) x b =
    let l = all_first h hs (lawful_lines (h ∷ hs) b.block) in
    let e = b.spelled ∙ append_assoc (flat_map ended (h ∷ hs)) (10 ∷ []) x ∙ regroup h hs (10 ∷ x) in
    front_of h.name h.value (flat_map ended hs ++ 10 ∷ x) text l.some l.no_lf e
  where
    front_of : (name value more text : List ℕ) → nat_lt 0 (length name) ≡ true → has_byte 10 name ≡ false
        → text ≡ (name ++ codes ": " ++ value) ++ 10 ∷ more → starts_with_lf text ≡ false
    front_of [] value more text some no_lf e = cc
    front_of (c ∷ name) value more text some no_lf e =
        subst (λ (t : List ℕ). starts_with_lf t ≡ false) (sym e) (first_false (c == 10) (has_byte 10 name) no_lf)

-- a text that begins with a block isn't empty
pub block_some : (hs : List line.Header) (x : List ℕ) → ¬ BeginsWithBlock [] hs x
block_some hs x b = let n : 0 ≡ length (block_text hs ++ x) = ap length b.spelled in grind (arith, length-append, n)

-- fronts of one length are one
pub split_by_length : (a b x y : List ℕ) → length a ≡ length b → a ++ x ≡ b ++ y → (a ≡ b) × (x ≡ y)
split_by_length [] [] x y n e = (refl, e)
split_by_length [] (d ∷ b) x y n e = absurd (omega arith)
split_by_length (c ∷ a) [] x y n e = absurd (omega arith)
split_by_length (c ∷ a) (d ∷ b) x y n e =
    let rest = split_by_length a b x y (omega arith) (tail-eq c d (a ++ x) (b ++ y) e) in
    ((λ i. head-eq c d (a ++ x) (b ++ y) e i ∷ rest.0 i), rest.1)

-- LFs up to another byte are counted in one way
pub blank_once : (m n : ℕ) (x y : List ℕ) → starts_with_lf x ≡ false → starts_with_lf y ≡ false
    → replicate m 10 ++ x ≡ replicate n 10 ++ y → (m ≡ n) × (x ≡ y)
blank_once zero zero x y fx fy e = (refl, e)
blank_once zero (suc n) x y fx fy e = let impossible : true ≡ false = subst
    (λ (t : List ℕ). starts_with_lf t ≡ false) e fx in cc
blank_once (suc m) zero x y fx fy e = let impossible : true ≡ false = subst (λ (t : List ℕ). starts_with_lf t ≡ false)
    (sym e) fy in cc
blank_once (suc m) (suc n) x y fx fy e =
    let rest = blank_once m n x y fx fy (tail-eq 10 10 (replicate m 10 ++ x) (replicate n 10 ++ y) e) in
    (ap suc rest.0, rest.1)
