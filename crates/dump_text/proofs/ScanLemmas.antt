-- A text is cut at a byte in one way, and so into header lines.
use Rattle.std.proofs.lemmas.Bool.{false_from_ne_true}
use Rattle.dump_text.proofs.Prelude.{◌≡◌, ℕ, suc, ◌+◌, ◌-◌, ◌<◌, ◌≤◌, nat_lt, true, false, ◌||◌, ◌==◌, List, [], ◌∷◌, ◌++◌, take, drop, map, filter, length, get_or, slice_index, refl, sym, ap, ◌∙◌, arith, length-append, codes, Option, Some, None, position, list_all, position_or_len, All, take-append-drop, drop_more, get_or-take, get_or-drop, length-drop, length-take-le, take_at, drop_at, append-nil, flat_map_more, nil_from_length, All-cons, position-Some, position_or_len_is, fails_before_first, slice_split_at, eqb-true, or_from, or_right, nat_tests, list_all-append, has_byte, header_text, is_header, lines_bytes, starts_with_lf, has_empty_line, header_of, headers_of, AreHeaderLines, IsFirstAt, IsFirstLine, IsCutAtColon, IsNoHeader, IsLinesEnd}
use Rattle.std.proofs.Common.{append_assoc}
use Rattle.memchr.specs.Find.{IsFirstByte, is_byte}
use Rattle.dump_text.proofs.BoolLemmas.{equals_itself as same, absurd_bool, first_true, first_false, second_false}
use Rattle.dump_text.specs.HeaderLine as line
use Rattle.dump_text.proofs.Unique.{split_once, Lawful, lawful, text_no_lf, regroup, all_first, all_rest, not_empty, ended}

-- a byte that is at no place of a text isn't in it
pub lacks : (b : ℕ) (text : List ℕ) → ((k : ℕ) → k < length text → (slice_index text k == b) ≡ true → ⊥)
    → has_byte b text ≡ false
lacks b [] none = refl
lacks b (c ∷ text) none = or_from _ _ (false_from_ne_true (c == b) (none 0 (omega arith)))
    (lacks b text (λ k small is. none (suc k) (omega arith) is))

-- a byte that follows a front is in the text
pub has_at : (b : ℕ) (front rest : List ℕ) → has_byte b (front ++ b ∷ rest) ≡ true
has_at b [] rest = rw (same b) refl
has_at b (c ∷ front) rest = or_right (c == b) (has_byte b (front ++ b ∷ rest)) (has_at b front rest)

-- a text with a byte in it doesn't lack it
pub clash : (b : ℕ) (front rest text : List ℕ) → has_byte b text ≡ false → text ≡ front ++ b ∷ rest → ⊥
clash b front rest text none is = let bad : false ≡ true = sym none ∙ ap (has_byte b) is ∙ has_at b front rest in cc

-- the place where a byte is found is the first one
pub found_place : (b : ℕ) (text : List ℕ) (r : Option ℕ) → IsFirstByte (is_byte b) text r
    → r ≡ position (λ c. c == b) text
found_place b text None nowhere =
    let place = position_or_len_is (λ c. c == b) text (length text) 0 (omega arith)
    (λ k small. false_from_ne_true (get_or text k 0 == b) (λ is. nowhere k (omega arith) small is))
    (λ over. absurd (omega arith)) in
    let end : nat_lt (length text) (length text) ≡ false = grind arith in
    rw place (rw end refl)
found_place b text (Some k) (none, here) =
    let below = none.high in
    let place = position_or_len_is (λ c. c == b) text k 0 (omega arith)
    (λ j small. false_from_ne_true (get_or text j 0 == b) (λ is. none.before j (omega arith) small is)) (λ under. here) in
    let inside : nat_lt k (length text) ≡ true = grind (arith, below) in
    rw place (rw inside refl)

-- if a byte has no place, it isn't in the text
pub no_place : (b : ℕ) (text : List ℕ) → None ≡ position (λ c. c == b) text → has_byte b text ≡ false
no_place b text is = lacks b text (λ k small here. absurd_bool (get_or text k 0 == b) here (other k small))
  where
    other : (k : ℕ) → k < length text → (get_or text k 0 == b) ≡ false
    other k small =
        let over : length text ≤ position_or_len (λ c. c == b) text = grind (arith, nat_tests) in
        fails_before_first (λ c. c == b) text k 0 (omega arith)

-- and its place is the first one
pub at_place : (b : ℕ) (text : List ℕ) (k : ℕ) → Some k ≡ position (λ c. c == b) text → IsFirstAt b text k
at_place b text k is =
    let (below, here, before) = position-Some (λ c. c == b) text k 0 (sym is) in
    let size = length-take-le k text (omega arith) in
    record {
      below = below;
      cut = sym (take-append-drop k text) ∙ ap (λ t. take k text ++ t)
          (drop_more text k 0 below ∙ ap (λ c. c ∷ drop (k + 1) text) (eqb-true (get_or text k 0) b here));
      before = lacks b (take k text) (λ j small is. absurd_bool (get_or text j 0 == b)
          (sym (ap (λ c. c == b) (get_or-take k text j 0 (omega arith))) ∙ is) (before j (omega arith)));
    }

-- a line is cut at its first colon, where a name is before it and a space after it
pub cut_at_colon : (whole : List ℕ) (k : ℕ) → IsFirstAt 58 whole k → 0 < k → k + 1 < length whole
    → get_or whole (k + 1) 0 ≡ 32
    → IsCutAtColon whole (take k whole) (drop (k + 2) whole)
cut_at_colon whole k at some room space =
    let size = length-take-le k whole (omega arith) in
    record {
      spelled = at.cut ∙ ap (λ t. take k whole ++ 58 ∷ t)
          (drop_more whole (k + 1) 0 room ∙ ap (λ c. c ∷ drop (k + 1 + 1) whole) space
          ∙ ap (λ n. 32 ∷ drop n whole) (omega arith));
      named = grind (arith, size, some);
      no_colon = at.before;
    }

-- a line, read at its first colon
pub position_at : (b : ℕ) (name rest : List ℕ) → has_byte b name ≡ false → position_or_len (λ (c : ℕ). c == b)
    (name ++ b ∷ rest) ≡ length name
position_at b [] rest none = rw (same b) refl
position_at b (c ∷ name) rest none =
    let no = first_false (c == b) (has_byte b name) none in
    let more = position_at b name rest (second_false (c == b) (has_byte b name) none) in
    rw no (ap (λ n. 1 + n) more ∙ omega arith)

header-is : (n v name value : List ℕ) → n ≡ name → v ≡ value
    → Path line.Header (record { name = n; value = v }) (record { name = name; value = value })
header-is n v name value e f = λ i. record { name = e i; value = f i }

pub header_of-text : (name value : List ℕ) → has_byte 58 name ≡ false
    → header_of (name ++ 58 ∷ 32 ∷ value) ≡ record { name = name; value = value }
header_of-text name value none =
    let at = position_at 58 name (32 ∷ value) none in
    let whole = name ++ 58 ∷ 32 ∷ value in
    let front : take (position_or_len (λ (c : ℕ). c == 58) whole) whole ≡ name =
    ap (λ n. take n whole) at ∙ take_at name (58 ∷ 32 ∷ value) (length name) refl in
    let back : drop (position_or_len (λ (c : ℕ). c == 58) whole + 1) whole ≡ 32 ∷ value =
    ap (λ n. drop (n + 1) whole) at ∙ ap (λ t. drop (length name + 1) t)
    (sym (append_assoc name (58 ∷ []) (32 ∷ value)))
    ∙ drop_at (name ++ 58 ∷ []) (32 ∷ value) (length name + 1) (length-append name (58 ∷ [])) in
    header-is _ _ _ _ front (ap (drop 1) back)

-- each byte of a text that lacks the byte is another
pub none_all : (b : ℕ) (text : List ℕ) → has_byte b text ≡ false → All (λ (c : ℕ). (c == b) ≡ false) text
none_all b [] none = λ k d small. absurd (omega arith)
none_all b (c ∷ text) none =
    All-cons (λ (x : ℕ). (x == b) ≡ false) c text (first_false (c == b) (has_byte b text) none)
    (none_all b text (second_false (c == b) (has_byte b text) none))

-- a search for a byte that a text lacks goes up to its end
pub nowhere : (b : ℕ) (text : List ℕ) → has_byte b text ≡ false → position_or_len (λ c. c == b) text ≡ length text
nowhere b text none = position_or_len_is (λ c. c == b) text (length text) 0 (omega arith)
    (λ k small. none_all b text none k 0 small) (λ under. absurd (omega arith))

-- the lines of a text, after its first one
pub headers_of-cons : (whole rest : List ℕ) → nat_lt 0 (length whole) ≡ true → has_byte 10 whole ≡ false
    → headers_of (whole ++ 10 ∷ rest) ≡ header_of whole ∷ headers_of rest
headers_of-cons whole rest some none =
    ap (λ parts. map header_of (filter (λ (l : List ℕ). nat_lt 0 (length l)) parts))
    (slice_split_at (λ (c : ℕ). c == 10) whole 10 rest (none_all 10 whole none) refl) ∙ rw some refl

some_text : (h : line.Header) → Lawful h → nat_lt 0 (length (header_text h)) ≡ true
some_text h l = let s = l.some in grind (arith, length-append, s)

-- a header line is its name, a colon, a space and its value
pub header_text-is : (h : line.Header) → header_text h ≡ h.name ++ 58 ∷ 32 ∷ h.value
header_text-is h = append_assoc h.name (codes ": ") h.value

pub headers_of-line : (h : line.Header) (rest : List ℕ) → Lawful h
    → headers_of (header_text h ++ 10 ∷ rest) ≡ h ∷ headers_of rest
headers_of-line h rest l =
    headers_of-cons (header_text h) rest (some_text h l) (text_no_lf h l)
    ∙ ap (λ (g : line.Header). g ∷ headers_of rest)
    (ap header_of (header_text-is h) ∙ header_of-text h.name h.value l.no_colon)

-- header lines are read from their own bytes
pub headers_of-lines : (hs : List line.Header) (rest : List ℕ) → list_all is_header hs ≡ true → headers_of rest ≡ []
    → headers_of (lines_bytes hs ++ rest) ≡ hs
headers_of-lines [] rest all none = none
headers_of-lines (h ∷ hs) rest all none =
    ap headers_of (regroup h hs rest) ∙ headers_of-line h (lines_bytes hs ++ rest) (all_first h hs all)
    ∙ ap (λ (t : List line.Header). h ∷ t) (headers_of-lines hs rest (all_rest h hs all) none)

-- lines in front of other lines are the first of these
pub lines_behind : (hs ks : List line.Header) (rest more : List ℕ) → list_all is_header hs ≡ true
    → list_all is_header ks ≡ true
    → lines_bytes hs ++ rest ≡ lines_bytes ks ++ 10 ∷ more
    → (others : List line.Header) × (list_all is_header others ≡ true) × (rest ≡ lines_bytes others ++ 10 ∷ more)
lines_behind [] ks rest more all all' is = (ks, all', is)
lines_behind (h ∷ hs) [] rest more all all' is =
    let l = all_first h hs all in
    absurd (not_empty h l (split_once 10 [] (header_text h) more (lines_bytes hs ++ rest) refl (text_no_lf h l)
    (sym is ∙ regroup h hs rest)).0)
lines_behind (h ∷ hs) (k ∷ ks) rest more all all' is =
    let l = all_first h hs all in
    let m = all_first k ks all' in
    let cut = split_once 10 (header_text h) (header_text k) (lines_bytes hs ++ rest) (lines_bytes ks ++ 10 ∷ more)
    (text_no_lf h l) (text_no_lf k m)
    (sym (regroup h hs rest) ∙ is ∙ regroup k ks (10 ∷ more)) in
    lines_behind hs ks rest more (all_rest h hs all) (all_rest k ks all') cut.1

-- the first of some lines is before the first LF
pub record FirstHeader (hs : List line.Header) (whole rest : List ℕ) : Type 0 where
  pub first : line.Header
  pub others : List line.Header
  pub list : hs ≡ first ∷ others
  pub good : is_header first ≡ true
  pub text : whole ≡ header_text first
  pub all : list_all is_header others ≡ true
  pub left : rest ≡ lines_bytes others

-- the first line of the text of some headers is that of the first header
pub first_header : (hs : List line.Header) (text whole rest : List ℕ) → list_all is_header hs ≡ true
    → text ≡ lines_bytes hs
    → IsFirstLine text whole rest → FirstHeader hs whole rest
first_header [] text whole rest all is first = absurd (no_cons whole rest (sym is ∙ first.cut))
  where
    no_cons : (whole rest : List ℕ) → [] ≡ whole ++ 10 ∷ rest → ⊥
    no_cons [] rest is = cc
    no_cons (c ∷ whole) rest is = cc
first_header (h ∷ hs) text whole rest all is first =
    let l = all_first h hs all in
    let cut = split_once 10 whole (header_text h) rest (lines_bytes hs) first.one_line (text_no_lf h l)
    (sym first.cut ∙ is ∙ append_assoc (header_text h) (10 ∷ []) (lines_bytes hs)) in
    record {
      first = h;
      others = hs;
      list = refl;
      good = first_true (is_header h) (list_all is_header hs) all;
      text = cut.0;
      all = all_rest h hs all;
      left = cut.1;
    }

-- if there is no LF, no lines are left
pub no_lines : (hs : List line.Header) (text : List ℕ) → text ≡ lines_bytes hs → has_byte 10 text ≡ false → hs ≡ []
no_lines [] text is none = refl
no_lines (h ∷ hs) text is none =
    absurd (clash 10 (header_text h) (lines_bytes hs) text none
    (is ∙ append_assoc (header_text h) (10 ∷ []) (lines_bytes hs)))

-- what is left of header lines after the first
pub lines_left : (hs : List line.Header) (whole rest : List ℕ) → FirstHeader hs whole rest → AreHeaderLines rest
lines_left hs whole rest f =
    let read = ap headers_of f.left ∙ ap headers_of (sym (append-nil (lines_bytes f.others)))
    ∙ headers_of-lines f.others [] f.all refl in
    record {
      lawful = ap (list_all is_header) read ∙ f.all;
      spelled = f.left ∙ ap lines_bytes (sym read);
    }

-- a byte that a text lacks is not in its front
pub front_lacks : (b : ℕ) (x y : List ℕ) → has_byte b (x ++ y) ≡ false → has_byte b x ≡ false
front_lacks b [] y none = refl
front_lacks b (c ∷ x) y none =
    rw (first_false (c == b) _ none) (front_lacks b x y (second_false (c == b) _ none))

-- a byte that a text lacks is not in its back
pub back_lacks : (b : ℕ) (x y : List ℕ) → has_byte b (x ++ y) ≡ false → has_byte b y ≡ false
back_lacks b [] y none = none
back_lacks b (c ∷ x) y none = back_lacks b x y (second_false (c == b) (has_byte b (x ++ y)) none)

-- a line with no LF that is cut at its colon is a header line
pub is_line : (whole name value : List ℕ) → has_byte 10 whole ≡ false → IsCutAtColon whole name value
    → is_header (record { name = name; value = value }) ≡ true
is_line whole name value none cut =
    let all = sym (ap (has_byte 10) cut.spelled) ∙ none in
    let front = front_lacks 10 name (58 ∷ 32 ∷ value) all in
    let back = back_lacks 10 (name ++ 58 ∷ 32 ∷ []) value
    (ap (has_byte 10) (append_assoc name (58 ∷ 32 ∷ []) value) ∙ all) in
    let some = cut.named in
    let no_colon = cut.no_colon in
    rw (some, no_colon, front, back) refl

-- a line that may be cut at a colon after its name
pub record ColonAt (h : line.Header) (whole : List ℕ) (k : ℕ) : Type 0 where
  pub some : 0 < k
  pub size : k + 2 ≤ length whole
  pub space : slice_index whole (k + 1) ≡ 32

-- a header line is cut at its first colon
pub colon_at : (h : line.Header) (whole : List ℕ) (k : ℕ) → is_header h ≡ true → whole ≡ header_text h
    → IsFirstAt 58 whole k → ColonAt h whole k
colon_at h whole k good is at =
    let l = lawful h good in
    let below = at.below in
    let cut = split_once 58 (take k whole) h.name (drop (k + 1) whole) (32 ∷ h.value) at.before l.no_colon
    (sym at.cut ∙ is ∙ header_text-is h) in
    let front : length (take k whole) ≡ length h.name = ap length cut.0 in
    let back : length (drop (k + 1) whole) ≡ 1 + length h.value = ap length cut.1 ∙ omega arith in
    let some = l.some in
    let front_size = length-take-le k whole (omega arith) in
    let back_size = length-drop (k + 1) whole in
    record {
      some = grind (arith, some, front, front_size);
      size = omega arith;
      space = ap (λ n. get_or whole n 0) (omega arith) ∙ sym (get_or-drop (k + 1) whole 0 0)
          ∙ ap (λ t. get_or t 0 0) cut.1;
    }

-- a text without LF has no empty line
pub empty_line-none : (text : List ℕ) → has_byte 10 text ≡ false → has_empty_line text ≡ false
empty_line-none [] none = refl
empty_line-none (c ∷ text) none =
    rw (first_false (c == 10) _ none) (empty_line-none text (second_false (c == 10) _ none))

-- after a line the empty line begins the rest, or is in it
pub empty_line-step : (whole rest : List ℕ) → has_byte 10 whole ≡ false → has_empty_line (whole ++ 10 ∷ rest) ≡
    (starts_with_lf rest || has_empty_line rest)
empty_line-step [] rest none = refl
empty_line-step (c ∷ whole) rest none =
    rw (first_false (c == 10) _ none) (empty_line-step whole rest (second_false (c == 10) _ none))

-- the lines of a text, by its first one
pub headers_step : (text whole rest name value : List ℕ) → IsFirstLine text whole rest → IsCutAtColon whole name value
    → headers_of text ≡ record { name = name; value = value } ∷ headers_of rest
headers_step text whole rest name value first cut =
    let some : nat_lt 0 (length whole) ≡ true = let size = ap length cut.spelled in grind
    (arith, length-append, size) in
    ap headers_of first.cut ∙ headers_of-cons whole rest some first.one_line
    ∙ ap (λ (h : line.Header). h ∷ headers_of rest) (ap header_of cut.spelled ∙ header_of-text name value cut.no_colon)

-- one more line, cut at its colon, is one more header
pub lines_more : (text whole rest others : List ℕ) (hs : List line.Header) (h : line.Header)
    → text ≡ lines_bytes hs ++ rest → IsFirstLine rest whole others → IsCutAtColon whole h.name h.value
    → text ≡ lines_bytes (hs ++ h ∷ []) ++ others
lines_more text whole rest others hs h is first cut =
    is ∙ ap (λ r. lines_bytes hs ++ r) (first.cut ∙ ap (λ w. w ++ 10 ∷ others) (cut.spelled ∙ sym (header_text-is h))
    ∙ sym (append_assoc (header_text h) (10 ∷ []) others))
    ∙ sym (append_assoc (lines_bytes hs) (header_text h ++ 10 ∷ []) others)
    ∙ ap (λ t. t ++ others) (flat_map_more ended [] hs h)

-- lawful headers and one more lawful header are lawful
pub all_more : (hs : List line.Header) (h : line.Header) → list_all is_header hs ≡ true → is_header h ≡ true
    → list_all is_header (hs ++ h ∷ []) ≡ true
all_more hs h all good = list_all-append is_header hs (h ∷ []) ∙ rw (all, good) refl

-- if an empty line follows some header lines, they end there, and are read unchanged
pub lines_end : (text whole rest others : List ℕ) (hs : List line.Header) → text ≡ lines_bytes hs ++ rest
    → list_all is_header hs ≡ true
    → IsFirstLine rest whole others → length whole ≡ 0
    → IsLinesEnd text (length text - length rest) × (headers_of (take (length text - length rest) text) ≡ hs)
lines_end text whole rest others hs is all first none =
    let empty : rest ≡ 10 ∷ others = first.cut ∙ ap (λ w. w ++ 10 ∷ others) (nil_from_length whole none) in
    let sizes = ap length is ∙ length-append (lines_bytes hs) rest in
    let some : length rest ≡ 1 + length others = ap length empty ∙ omega arith in
    let at : length (lines_bytes hs) ≡ length text - length rest = omega arith in
    let whole_is : text ≡ lines_bytes hs ++ 10 ∷ others = is ∙ ap (λ t. lines_bytes hs ++ t) empty in
    let back : drop (length text - length rest + 1) text ≡ others =
    ap (drop (length text - length rest + 1)) (whole_is ∙ sym (append_assoc (lines_bytes hs) (10 ∷ []) others))
    ∙ drop_at (lines_bytes hs ++ 10 ∷ []) others _ (length-append (lines_bytes hs) (10 ∷ []) ∙ omega arith) in
    let front : take (length text - length rest) text ≡ lines_bytes hs = ap (take (length text - length rest)) is
    ∙ take_at (lines_bytes hs) rest _ at in
    let read = ap headers_of (front ∙ sym (append-nil (lines_bytes hs))) ∙ headers_of-lines hs [] all refl in (
      record {
        below = omega arith;
        lines = record { lawful = ap (list_all is_header) read ∙ all; spelled = front ∙ ap lines_bytes (sym read) };
        ended = whole_is ∙ ap (λ t. t ++ 10 ∷ others) (sym front)
            ∙ ap (λ t. take (length text - length rest) text ++ 10 ∷ t) (sym back);
      },
      read,
    )

-- if a header line would begin here, it is the line before the first LF
pub no_line_here : (others : List line.Header) (rest whole tail more : List ℕ) → list_all is_header others ≡ true
    → IsFirstLine rest whole tail → rest ≡ lines_bytes others ++ 10 ∷ more → (length whole == 0) ≡ false
    → IsNoHeader whole → ⊥
no_line_here [] rest whole tail more all first is some other =
    let cut = split_once 10 [] whole more tail refl first.one_line (sym is ∙ first.cut) in
    let bad : true ≡ false = ap (λ (t : List ℕ). length t == 0) cut.0 ∙ some in
    cc
no_line_here (k ∷ ks) rest whole tail more all first is some other =
    let m = all_first k ks all in
    let cut = split_once 10 whole (header_text k) tail (lines_bytes ks ++ 10 ∷ more) first.one_line (text_no_lf k m)
    (sym first.cut ∙ is ∙ regroup k ks (10 ∷ more)) in
    other k (first_true (is_header k) (list_all is_header ks) all) cut.0
