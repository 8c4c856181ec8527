-- A block, from the lines that a scan finds.
use Rattle.dump_text.proofs.Prelude.{◌≡◌, ℕ, zero, suc, ◌+◌, ◌-◌, ◌<◌, ◌≤◌, nat_lt, nat_le, Bool, true, false, not, ◌&&◌, ◌||◌, List, [], ◌∷◌, ◌++◌, take, drop, length, slice_range, refl, sym, ap, ◌∙◌, inl, inr, subst, arith, length-append, bytes_eq, is_some, if◌then◌else◌, codes, list_all, list_any, take_at, drop_at, append-nil, length-drop, length-take, length-take-le, drop-drop, drop-take, take-take, sum_by-cons, sum_by-append, list_all-append, flat_map-append, and_parts, cases_Bool, bytes_eq-Decides, known_names, is_header, is_named, has_header, header_value, count_named, is_block, lines_bytes, block_text, BeginsWithBlock, HasBlock, headers_of, AreHeaderLines, IsBlockBetween, IsPartBetween, may_follow, IsLinesEnd, IsBlockEnd, HasLines}
use Rattle.std.proofs.Common.{append_assoc}
use Rattle.dump_text.specs.HeaderLine as line
use Rattle.dump_text.proofs.Unique.{lines_once, lawful_lines, ended}
use Rattle.dump_text.proofs.BoolLemmas.{first_true, absurd_bool}
use Rattle.dump_text.proofs.ScanLemmas.{headers_of-lines, lines_behind}

-- whether each of these names occurs at most once
abbrev pub counts_once : List (List ℕ) → List line.Header → Bool
counts_once names headers = list_all (λ name. nat_le (count_named name headers) 1) names

-- one more line adds one to the count of its own name, and nothing to that of another
pub count_cons : (name : List ℕ) (h : line.Header) (hs : List line.Header)
    → count_named name (h ∷ hs) ≡ (if is_named name h then 1 else 0) + count_named name hs
count_cons name h hs = sum_by-cons (λ (x : line.Header). if is_named name x then 1 else 0) h hs

has_count : (name : List ℕ) (hs : List line.Header) → has_header name hs ≡ nat_lt 0 (count_named name hs)
has_count name [] = refl
has_count name (h ∷ hs) =
    let more = has_count name hs in
    ap (λ b. is_named name h || b) more ∙ sum (is_named name h) (count_named name hs)
    ∙ ap (nat_lt 0) (sym (count_cons name h hs))
  where
    sum : (b : Bool) (n : ℕ) → (b || nat_lt 0 n) ≡ nat_lt 0 ((if b then 1 else 0) + n)
    sum true n = grind arith
    sum b n = grind arith

-- with one more line, a name still occurs at most once, if the line has another name or no other line has this one
one_name : (name : List ℕ) (h : line.Header) (hs : List line.Header)
    → nat_le (count_named name (h ∷ hs)) 1 ≡ (not (is_named name h && has_header h.name hs) && nat_le
    (count_named name hs) 1)
one_name name h hs = ap (λ n. nat_le n 1) (count_cons name h hs) ∙ cases (is_named name h) refl
  where
    add : (n : ℕ) → nat_le (1 + n) 1 ≡ (not (nat_lt 0 n) && nat_le n 1)
    add zero = refl
    add (suc n) = grind arith

    cases : (b : Bool) → is_named name h ≡ b
        → nat_le ((if b then 1 else 0) + count_named name hs) 1 ≡
        (not (b && has_header h.name hs) && nat_le (count_named name hs) 1)
    cases true is =
        let name_is : h.name ≡ name = (bytes_eq-Decides h.name name).0 is in
        let seen : has_header h.name hs ≡ nat_lt 0 (count_named name hs) = ap (λ n. has_header n hs) name_is
        ∙ has_count name hs in
        add (count_named name hs) ∙ ap (λ b. not b && nat_le (count_named name hs) 1) (sym seen)
    cases false is = ap (λ n. nat_le n 1) (omega arith)

spread : (names : List (List ℕ)) (h : line.Header) (hs : List line.Header)
    → counts_once names (h ∷ hs) ≡
    (not (list_any (λ known. bytes_eq h.name known) names && has_header h.name hs) && counts_once names hs)
spread [] h hs = refl
spread (name ∷ names) h hs =
    rw (one_name name h hs, spread names h hs)
    (mix (bytes_eq h.name name) (has_header h.name hs) (nat_le (count_named name hs) 1)
    (list_any (λ known. bytes_eq h.name known) names) (counts_once names hs))
  where
    mix : (e x q f r : Bool) → ((not (e && x) && q) && (not (f && x) && r)) ≡ (not ((e || f) && x) && (q && r))
    mix true true q f r = refl
    mix true false q true r = refl
    mix true false q false r = refl
    mix false true true true r = refl
    mix false true false true r = refl
    mix false true q false r = refl
    mix false false q true r = refl
    mix false false q false r = refl

count_append : (name : List ℕ) (xs ys : List line.Header)
    → count_named name (xs ++ ys) ≡ count_named name xs + count_named name ys
count_append name xs ys = sum_by-append (λ (x : line.Header). if is_named name x then 1 else 0) xs ys

-- one more line after some lines: it may follow them, and they occur at most once
pub once_more : (hs : List line.Header) (h : line.Header)
    → counts_once known_names (hs ++ h ∷ []) ≡ (may_follow hs h.name && counts_once known_names hs)
once_more hs h = moved known_names ∙ spread known_names h hs
  where
    count_same : (name : List ℕ) → count_named name (hs ++ h ∷ []) ≡ count_named name (h ∷ hs)
    count_same name =
        let behind = count_append name hs (h ∷ []) in
        let front = count_append name (h ∷ []) hs in
        omega arith

    moved : (names : List (List ℕ)) → counts_once names (hs ++ h ∷ []) ≡ counts_once names (h ∷ hs)
    moved [] = refl
    moved (name ∷ names) = let more = moved names in rw (count_same name, more) refl

-- if all of some lines occur at most once, the first of them do
once_front : (names : List (List ℕ)) (xs ys : List line.Header) → counts_once names (xs ++ ys) ≡ true
    → counts_once names xs ≡ true
once_front [] xs ys once = refl
once_front (name ∷ names) xs ys once =
    let parts = and_parts (nat_le (count_named name (xs ++ ys)) 1) (counts_once names (xs ++ ys)) once in
    let few : nat_le (count_named name xs) 1 ≡ true = grind (arith, parts.0, count_append name xs ys) in
    rw (few, once_front names xs ys parts.1) refl

-- the lines that a scan found are those of each block that is there
same_lines : (text rest : List ℕ) (hs : List line.Header) (size : ℕ) → IsLinesEnd text size
    → BeginsWithBlock text hs rest
    → hs ≡ headers_of (take size text)
same_lines text rest hs size found b =
    (lines_once hs (headers_of (take size text)) rest (drop (size + 1) text)
    (lawful_lines hs b.block) found.lines.lawful
    (sym (append_assoc (lines_bytes hs) (10 ∷ []) rest) ∙ sym b.spelled ∙ found.ended
    ∙ ap (λ t. t ++ 10 ∷ drop (size + 1) text) found.lines.spelled)).0

-- header lines and the empty line after them are a block, if each known name occurs once
pub block_end : (text : List ℕ) (size : ℕ) → IsLinesEnd text size → 0 < size
    → counts_once known_names (headers_of (take size text)) ≡ true
    → IsBlockEnd text (size + 1) × (headers_of (take (size + 1) text) ≡ headers_of (take size text))
block_end text size found some once =
    let hs = headers_of (take size text) in
    let below = found.below in
    let cut : text ≡ (take size text ++ 10 ∷ []) ++ drop (size + 1) text = found.ended
    ∙ sym (append_assoc (take size text) (10 ∷ []) (drop (size + 1) text)) in
    let size_is : length (take size text ++ 10 ∷ []) ≡ size + 1 = length-append (take size text) (10 ∷ [])
    ∙ ap (λ n. n + 1) (length-take-le size text (omega arith)) in
    let front : take (size + 1) text ≡ lines_bytes hs ++ 10 ∷ [] =
    ap (take (size + 1)) cut ∙ take_at (take size text ++ 10 ∷ []) (drop (size + 1) text) (size + 1) size_is
    ∙ ap (λ t. t ++ 10 ∷ []) found.lines.spelled in
    let read : headers_of (take (size + 1) text) ≡ hs = ap headers_of front
    ∙ headers_of-lines hs (10 ∷ []) found.lines.lawful refl in
    let full : nat_lt 0 (length hs) ≡ true = some_lines hs
    (ap length (sym found.lines.spelled) ∙ length-take-le size text (omega arith)) some in
    let lawful = found.lines.lawful in (
      record {
        inside = omega arith;
        block = record {
          block = ap is_block read ∙ rw (full, lawful, once) refl;
          spelled = cut ∙ ap (λ t. (t ++ 10 ∷ []) ++ drop (size + 1) text) found.lines.spelled
              ∙ ap (λ (g : List line.Header). block_text g ++ drop (size + 1) text) (sym read);
        };
      },
      read,
    )
  where
    some_lines : (hs : List line.Header) → length (lines_bytes hs) ≡ size → 0 < size → nat_lt 0 (length hs) ≡ true
    some_lines [] is some = absurd (omega arith)
    some_lines (h ∷ hs) is some = grind arith

-- lines in which a known name occurs twice begin no block
pub no_block-once : (text others : List ℕ) (hs : List line.Header) → list_all is_header hs ≡ true
    → text ≡ lines_bytes hs ++ others
    → counts_once known_names hs ≡ false → ¬ HasBlock text
no_block-once text others hs all is twice (ks, rest, b) =
    let all' = lawful_lines ks b.block in
    let spelled : text ≡ lines_bytes ks ++ 10 ∷ rest = b.spelled ∙ append_assoc (lines_bytes ks) (10 ∷ []) rest in
    let (more, good, left) = lines_behind hs ks others rest all all' (sym is ∙ spelled) in
    let both : list_all is_header (hs ++ more) ≡ true = list_all-append is_header hs more ∙ rw (all, good) refl in
    let whole : lines_bytes (hs ++ more) ++ 10 ∷ rest ≡ lines_bytes ks ++ 10 ∷ rest =
    ap (λ t. t ++ 10 ∷ rest) (flat_map-append ended hs more)
    ∙ append_assoc (lines_bytes hs) (lines_bytes more) (10 ∷ rest)
    ∙ ap (λ t. lines_bytes hs ++ t) (sym left) ∙ sym is ∙ spelled in
    let same = (lines_once (hs ++ more) ks rest rest both all' whole).0 in
    let once = (and_parts _ (counts_once known_names ks) b.block).1 in
    absurd_bool _ (once_front known_names hs more (ap (counts_once known_names) same ∙ once)) twice

-- if the empty line comes first, no block begins
pub no_block-empty : (text : List ℕ) (size : ℕ) → IsLinesEnd text size → size ≤ 0 → ¬ HasBlock text
no_block-empty text size found none (hs, rest, b) =
    let same = same_lines text rest hs size found b in
    let some = first_true (nat_lt 0 (length hs)) _ (first_true _ (counts_once known_names hs) b.block) in
    let zero_is : size ≡ 0 = omega arith in
    let empty : hs ≡ [] = same ∙ ap (λ n. headers_of (take n text)) zero_is in
    let bad : true ≡ false = sym some ∙ ap (λ (g : List line.Header). nat_lt 0 (length g)) empty in
    cc

-- if no header lines with an empty line begin the text, no block does
pub no_block-lines : (text : List ℕ) → ¬ HasLines text → ¬ HasBlock text
no_block-lines text none (hs, rest, b) =
    none (hs, rest, lawful_lines hs b.block, b.spelled ∙ append_assoc (lines_bytes hs) (10 ∷ []) rest)

-- a block takes the bytes from its place up to its end
pub block_size : (dump : List ℕ) (place after : ℕ) → IsBlockBetween dump place after
    → place + length (block_text (headers_of (slice_range dump place after))) ≡ after
block_size dump place after stands =
    let hs = headers_of (slice_range dump place after) in
    let b = stands.block in
    let inside = stands.inside in
    let sizes = ap length b.spelled ∙ length-append (block_text hs) (drop after dump) in
    let size = length-append (lines_bytes hs) (10 ∷ []) in
    let whole = length-drop place dump in
    let behind = length-drop after dump in
    omega arith

-- the bytes of a block's lines in its dump
pub record LinesOf (dump : List ℕ) (place after : ℕ) (text : List ℕ) : Type 0 where
  pub lines : AreHeaderLines text
  pub headers : headers_of text ≡ headers_of (slice_range dump place after)

-- a block's lines are its bytes without the empty line
pub lines_of : (dump : List ℕ) (place after : ℕ) → IsBlockBetween dump place after
    → LinesOf dump place after (take (after - 1 - place) (drop place dump))
lines_of dump place after stands =
    let hs = headers_of (slice_range dump place after) in
    let b = stands.block in
    let all = lawful_lines hs b.block in
    let size = block_size dump place after stands in
    let line = length-append (lines_bytes hs) (10 ∷ []) in
    let count : length (lines_bytes hs) ≡ after - 1 - place = omega arith in
    let is : take (after - 1 - place) (drop place dump) ≡ lines_bytes hs =
    ap (take (after - 1 - place)) (b.spelled ∙ append_assoc (lines_bytes hs) (10 ∷ []) (drop after dump))
    ∙ take_at (lines_bytes hs) (10 ∷ drop after dump) _ count in
    let read : headers_of (take (after - 1 - place) (drop place dump)) ≡ hs =
    ap headers_of (is ∙ sym (append-nil (lines_bytes hs))) ∙ headers_of-lines hs [] all refl in
    record {
      lines = record { lawful = ap (list_all is_header) read ∙ all; spelled = is ∙ ap lines_bytes (sym read) };
      headers = read;
    }

-- a part of a part
pub part_of_part : (dump : List ℕ) (place after : ℕ) (x y z : List ℕ) → IsPartBetween dump place after (x ++ (y ++ z))
    → IsPartBetween dump place after y
part_of_part dump place after x y z (from, to, low, middle, high, is) =
    let whole = take (to - from) (drop from dump) in
    let sizes = ap length is ∙ length-take (to - from) (drop from dump) in
    let parts = length-append x (y ++ z) in
    let tail = length-append y z in
    let rest : y ++ z ≡ drop (length x) whole = sym (drop_at x (y ++ z) (length x) refl) ∙ ap (drop (length x)) is in
    let room : length x + (to - from - length x) ≡ to - from = omega arith in
    let moved : drop (length x) whole ≡ take (to - from - length x) (drop (from + length x) dump) =
    ap (λ n. drop (length x) (take n (drop from dump))) (sym room) ∙ drop-take (length x) (to - from - length x)
    (drop from dump)
    ∙ ap (take (to - from - length x)) (drop-drop (length x) from dump) in
    let front : y ≡ take (length y) (drop (from + length x) dump) =
    sym (take_at y z (length y) refl) ∙ ap (take (length y)) (rest ∙ moved)
    ∙ take-take (length y) (to - from - length x) (drop (from + length x) dump) (omega arith) in (
      from + length x,
      from + length x + length y,
      omega arith,
      omega arith,
      omega arith,
      front ∙ ap (λ n. take n (drop (from + length x) dump)) (omega arith),
    )

-- a line's value, and the lines after it
pub value_between : (dump : List ℕ) (place after : ℕ) (text whole name value rest : List ℕ)
    → IsPartBetween dump place after text
    → text ≡ whole ++ 10 ∷ rest → whole ≡ name ++ codes ": " ++ value → IsPartBetween dump place after value
value_between dump place after text whole name value rest part is spelled =
    part_of_part dump place after (name ++ codes ": ") value (10 ∷ rest)
    (subst (IsPartBetween dump place after) (is ∙ ap (λ w. w ++ 10 ∷ rest) spelled
    ∙ append_assoc (name ++ codes ": ") value (10 ∷ rest)) part)

-- what follows a line of a part lies between the same places of the dump
pub rest_between : (dump : List ℕ) (place after : ℕ) (text whole rest : List ℕ) → IsPartBetween dump place after text
    → text ≡ whole ++ 10 ∷ rest → IsPartBetween dump place after rest
rest_between dump place after text whole rest part is =
    part_of_part dump place after (whole ++ 10 ∷ []) rest []
    (subst (IsPartBetween dump place after) (is ∙ sym (append_assoc whole (10 ∷ []) rest)
    ∙ ap (λ t. (whole ++ 10 ∷ []) ++ t) (sym (append-nil rest))) part)

-- a name that the first line doesn't have has the value of the lines after it
pub value_behind : (name : List ℕ) (h : line.Header) (hs : List line.Header) → is_named name h ≡ false
    → header_value name (h ∷ hs) ≡ header_value name hs
value_behind name h hs other = rw other refl

-- the bytes of a block between its places
pub block_bytes : (dump : List ℕ) (place after : ℕ) → IsBlockBetween dump place after
    → slice_range dump place after ≡ block_text (headers_of (slice_range dump place after))
block_bytes dump place after stands =
    let text = block_text (headers_of (slice_range dump place after)) in
    let size = block_size dump place after stands in
    let count : length text ≡ after - place = omega arith in
    ap (take (after - place)) stands.block.spelled ∙ take_at text (drop after dump) (after - place) count

-- a name has a line if it has a value
pub has_value : (name : List ℕ) (headers : List line.Header)
    → is_some (header_value name headers) ≡ has_header name headers
has_value name [] = refl
has_value name (h ∷ headers) = elim (cases_Bool (is_named name h)) [
  | inl is ↦ rw is refl
  | inr is ↦ rw is (has_value name headers)
]

-- a block at a place, from one at the front of the text there
pub block_there : (dump text : List ℕ) (place size : ℕ) → text ≡ drop place dump → place ≤ length dump
    → IsBlockEnd text size → IsBlockBetween dump place (place + size)
block_there dump text place size is low found =
    let inside = found.inside in
    let room : length text ≡ length dump - place = ap length is ∙ length-drop place dump in
    let count : place + size - place ≡ size = omega arith in
    let cut : take (place + size - place) (drop place dump) ≡ take size text = ap (λ n. take n (drop place dump)) count
    ∙ ap (take size) (sym is) in
    let rest : drop (place + size) dump ≡ drop size text = sym (drop-drop size place dump) ∙ ap (drop size) (sym is) in
    record {
      block = subst (λ t. BeginsWithBlock t (headers_of (take (place + size - place) (drop place dump)))
          (drop (place + size) dump)) is
          (subst (λ t. BeginsWithBlock text (headers_of t) (drop (place + size) dump)) (sym cut)
          (subst (λ t. BeginsWithBlock text (headers_of (take size text)) t) (sym rest) found.block));
      inside = omega arith;
    }

-- and its bytes
pub lines_there : (dump text : List ℕ) (place size : ℕ) → text ≡ drop place dump
    → take size text ≡ slice_range dump place (place + size)
lines_there dump text place size is =
    let count : place + size - place ≡ size = omega arith in
    ap (take size) is ∙ ap (λ n. take n (drop place dump)) (sym count)

-- all that is left from a place on
pub all_left : (dump : List ℕ) (place : ℕ) → take (length dump - place) (drop place dump) ≡ drop place dump
all_left dump place = ap (λ n. take n (drop place dump)) (sym (length-drop place dump)) ∙ take_all (drop place dump)
  where
    take_all : (text : List ℕ) → take (length text) text ≡ text
    take_all text = ap (take (length text)) (sym (append-nil text)) ∙ take_at text [] (length text) refl
