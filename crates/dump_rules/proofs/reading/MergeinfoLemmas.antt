-- A value is read as mergeinfo if it is lines of mergeinfo.
use Rattle.dump_rules.proofs.Prelude.{◌≡◌, ◌⊎◌, ◌↔◌, ℕ, ◌+◌, ◌-◌, ◌<◌, ◌≤◌, Bool, true, false, not, ◌==◌, List, [], ◌∷◌, ◌++◌, take, drop, length, reverse, get_or, nat_lt, refl, sym, ap, ◌∙◌, inl, inr, arith, append_assoc, length-append, codes, bytes_eq, IsTrue, list_all, slice_split, join_with_byte, AllZip, suffix_len, nat_tests, and_from, and_parts, cases_Bool, ltb-true, none_all, eqb-true, not-false, take-append-drop, drop_more, get_or-append-add, get_or-reverse, drop_at, length-reverse, length-take-le, drop-append-add, get_or-append_seam, join_with_byte-slice_split, suffix_len_is, suffix_len-le-length, prefix_len_stops, has_byte, has_byte-append, front_lacks, MergeLine, IsMergeLine, HasMergeLines, list_reads, colon_end, line_reads, without_lf, lines_read, value_reads}
use Rattle.dump_rules.proofs.reading.RangeLemmas.{no_end, ends_so, front_is, ends_parts}
use Rattle.dump_rules.proofs.reading.RangeListLemmas.{AllLack, split_joined, parts_lack, list_lacks, list_is_read, read_is_list}

-- colons

-- the last colon of a line is the one after its path, where the list after it has none
pub colon_end_is : (path list : List ℕ) → has_byte 58 list ≡ false
    → colon_end ((path ++ 58 ∷ []) ++ list) ≡ length path + 1
colon_end_is path list none =
    let front = length-append path (58 ∷ []) in
    let whole = length-append (path ++ 58 ∷ []) list in
    let is = suffix_len_is (λ b. not (b == 58)) ((path ++ 58 ∷ []) ++ list) (length (path ++ 58 ∷ [])) 0 (omega arith)
    (λ k low high. behind k low high) (λ some. here) in
    omega arith
  where
    behind : (k : ℕ) → length (path ++ 58 ∷ []) ≤ k → k < length ((path ++ 58 ∷ []) ++ list)
        → not (get_or ((path ++ 58 ∷ []) ++ list) k 0 == 58) ≡ true
    behind k low high =
        let whole = length-append (path ++ 58 ∷ []) list in
        let place : length (path ++ 58 ∷ []) + (k - length (path ++ 58 ∷ [])) ≡ k = omega arith in
        let read : get_or ((path ++ 58 ∷ []) ++ list) k 0 ≡ get_or list (k - length (path ++ 58 ∷ [])) 0 =
        ap (λ n. get_or ((path ++ 58 ∷ []) ++ list) n 0) (sym place) ∙ get_or-append-add (path ++ 58 ∷ []) list
        (k - length (path ++ 58 ∷ [])) 0 in
        let other = none_all 58 list none (k - length (path ++ 58 ∷ [])) 0 (omega arith) in
        ap (λ b. not (b == 58)) read ∙ rw other refl

    here : not (get_or ((path ++ 58 ∷ []) ++ list) (length (path ++ 58 ∷ []) - 1) 0 == 58) ≡ false
    here =
        let front = length-append path (58 ∷ []) in
        let place : length (path ++ 58 ∷ []) - 1 ≡ length path = omega arith in
        let read : get_or ((path ++ 58 ∷ []) ++ list) (length (path ++ 58 ∷ []) - 1) 0 ≡ 58 =
        ap (λ n. get_or ((path ++ 58 ∷ []) ++ list) n 0) place
        ∙ ap (λ t. get_or t (length path) 0) (append_assoc path (58 ∷ []) list)
        ∙ get_or-append_seam path 58 list 0 in
        ap (λ b. not (b == 58)) read

colon_parts : (line : List ℕ) → 0 < colon_end line → line ≡ (take (colon_end line - 1) line ++ 58 ∷ []) ++ drop
    (colon_end line) line
colon_parts line some =
    let size = suffix_len-le-length (λ b. not (b == 58)) line in
    let turned = length-reverse line in
    let stops = prefix_len_stops (λ b. not (b == 58)) (reverse line) 0 (omega arith) in
    let place : length line - 1 - suffix_len (λ b. not (b == 58)) line ≡ colon_end line - 1 = omega arith in
    let read = get_or-reverse line (suffix_len (λ b. not (b == 58)) line) 0 (omega arith)
    ∙ ap (λ n. get_or line n 0) place in
    let here : not (get_or line (colon_end line - 1) 0 == 58) ≡ false = ap (λ b. not (b == 58)) (sym read) ∙ stops in
    let is : (get_or line (colon_end line - 1) 0 == 58) ≡ true = not-false
    (get_or line (colon_end line - 1) 0 == 58) here in
    let next : colon_end line - 1 + 1 ≡ colon_end line = omega arith in
    sym (take-append-drop (colon_end line - 1) line)
    ∙ ap (λ t. take (colon_end line - 1) line ++ t)
    (drop_more line (colon_end line - 1) 0 (omega arith)
    ∙ ap (λ c. c ∷ drop (colon_end line - 1 + 1) line) (eqb-true (get_or line (colon_end line - 1) 0) 58 is)
    ∙ ap (λ n. 58 ∷ drop n line) next)
    ∙ sym (append_assoc (take (colon_end line - 1) line) (58 ∷ []) (drop (colon_end line) line))

-- lines

record ReadLine (text : List ℕ) : Type 0 where
  reads : line_reads text ≡ true
  one_line : has_byte 10 text ≡ false
  some : 0 < length text

-- a line of mergeinfo is cut at the colon after its path
pub line_cut : (text : List ℕ) (line : MergeLine) (is : IsMergeLine text line)
    → (colon_end text ≡ length line.path + 1) × (drop (colon_end text) text ≡ is.spelled.0)
line_cut text line is =
    let whole : text ≡ (line.path ++ 58 ∷ []) ++ is.spelled.0 = is.spelled.2 in
    let place : colon_end text ≡ length line.path + 1 = ap colon_end whole
    ∙ colon_end_is line.path is.spelled.0 (list_lacks 58 is.spelled.0 line.ranges refl refl refl is.spelled.1) in (
      place,
      ap (λ n. drop n text) place ∙ ap (drop (length line.path + 1)) whole
          ∙ drop_at (line.path ++ 58 ∷ []) is.spelled.0 (length line.path + 1) (length-append line.path (58 ∷ [])),
    )

line_is_read : (text : List ℕ) (line : MergeLine) → IsMergeLine text line → ReadLine text
line_is_read text line is =
    let list = is.spelled.0 in
    let cut = line_cut text line is in
    let far : nat_lt 1 (colon_end text) ≡ true = grind (arith, nat_tests, cut.0, is.path) in
    record {
      reads = rw (far, cut.1) (list_is_read list line.ranges is.spelled.1 is.consistent);
      one_line = ap (has_byte 10) is.spelled.2
          ∙ has_byte-append 10 (line.path ++ 58 ∷ []) list (has_byte-append 10 line.path (58 ∷ []) is.one_line refl)
          (list_lacks 10 list line.ranges refl refl refl is.spelled.1);
      some = omega (arith, is.path, simp length-append at (ap length is.spelled.2));
    }

read_is_line : (text : List ℕ) → line_reads text ≡ true → has_byte 10 text ≡ false → (line : MergeLine)
    × IsMergeLine text line
read_is_line text reads one_line =
    let parts = and_parts (nat_lt 1 (colon_end text)) (list_reads (drop (colon_end text) text)) reads in
    let far = ltb-true 1 (colon_end text) parts.0 in
    let list = read_is_list (drop (colon_end text) text) parts.1 in
    let size = length-take-le (colon_end text - 1) text (omega arith) in (
      record { path = take (colon_end text - 1) text; ranges = list.0 },
      record {
        path = omega arith;
        one_line = front_lacks 10 (take (colon_end text - 1) text) (drop (colon_end text - 1) text)
            (ap (has_byte 10) (take-append-drop (colon_end text - 1) text) ∙ one_line);
        consistent = list.2;
        spelled = (drop (colon_end text) text, list.1, colon_parts text (omega arith));
      },
    )

-- values

abbrev ends_in_lf : List ℕ → Bool
ends_in_lf text = bytes_eq (drop (length text - 1) text) (10 ∷ [])

ends_behind : (front text : List ℕ) → 0 < length text → ends_in_lf (front ++ text) ≡ ends_in_lf text
ends_behind front text some =
    let size = length-append front text in
    let place : length (front ++ text) - 1 ≡ length front + (length text - 1) = omega arith in
    ap (λ n. bytes_eq (drop n (front ++ text)) (10 ∷ [])) place
    ∙ ap (λ t. bytes_eq t (10 ∷ [])) (drop-append-add front text (length text - 1))

record Joined (text : List ℕ) : Type 0 where
  some : 0 < length text
  ends : ends_in_lf text ≡ false

joined : (part : List ℕ) (parts : List (List ℕ)) (line : MergeLine) (lines : List MergeLine)
    → AllZip IsMergeLine (part ∷ parts) (line ∷ lines)
    → Joined (join_with_byte 10 (part ∷ parts))
joined part [] line lines all =
    let read = line_is_read part line all.0 in
    record { some = read.some; ends = no_end 10 part read.one_line }
joined part (next ∷ parts) line [] all = absurd all.1
joined part (next ∷ parts) line (second ∷ lines) all =
    let rest = joined next parts second lines all.1 in
    let more = rest.some in
    let size = length-append part (10 ∷ join_with_byte 10 (next ∷ parts)) in
    record {
      some = omega arith;
      ends = ap ends_in_lf (sym (append_assoc part (10 ∷ []) (join_with_byte 10 (next ∷ parts))))
          ∙ ends_behind (part ++ 10 ∷ []) (join_with_byte 10 (next ∷ parts)) rest.some
          ∙ rest.ends;
    }

-- texts that are lines of mergeinfo are read as such, and none of them has an LF
pub all_read : (texts : List (List ℕ)) (lines : List MergeLine) → AllZip IsMergeLine texts lines
    → (list_all line_reads texts ≡ true) × AllLack 10 texts
all_read [] [] all = (refl, tt)
all_read (text ∷ texts) (line ∷ lines) all =
    let first = line_is_read text line all.0 in
    let rest = all_read texts lines all.1 in
    (and_from _ _ first.reads rest.0, (first.one_line, rest.1))
all_read texts lines all = absurd all

lines_from_reads : (texts : List (List ℕ)) → list_all line_reads texts ≡ true → AllLack 10 texts
    → (lines : List MergeLine) × AllZip IsMergeLine texts lines
lines_from_reads [] reads lack = ([], tt)
lines_from_reads (text ∷ texts) reads lack =
    let parts = and_parts (line_reads text) (list_all line_reads texts) reads in
    let first = read_is_line text parts.0 lack.0 in
    let rest = lines_from_reads texts parts.1 lack.1 in
    (first.0 ∷ rest.0, (first.1, rest.1))

lines_are_read : (texts : List (List ℕ)) (lines : List MergeLine) → AllZip IsMergeLine texts lines → (text : List ℕ)
    → text ≡ join_with_byte 10 texts
    → lines_read text ≡ true
lines_are_read texts lines all [] is = refl
lines_are_read [] lines all (b ∷ text) is = let bad : b ∷ text ≡ [] = is in cc
lines_are_read (part ∷ parts) lines all (b ∷ text) is =
    let read = all_read (part ∷ parts) lines all in
    ap (list_all line_reads) (ap (slice_split (λ c. c == 10)) is ∙ split_joined 10 part parts read.1) ∙ read.0

pub read_are_lines : (text : List ℕ) → lines_read text ≡ true
    → (texts : List (List ℕ)) × (lines : List MergeLine) × AllZip IsMergeLine texts lines
    × (text ≡ join_with_byte 10 texts)
read_are_lines [] reads = ([], [], tt, refl)
read_are_lines (b ∷ text) reads =
    let found = lines_from_reads (slice_split (λ c. c == 10) (b ∷ text)) reads (parts_lack 10 (b ∷ text)) in
    (slice_split (λ c. c == 10) (b ∷ text), found.0, found.1, sym (join_with_byte-slice_split 10 (b ∷ text)))

-- the value without its LF is the joined lines
pub bare : (texts : List (List ℕ)) (lines : List MergeLine) → AllZip IsMergeLine texts lines → (value : List ℕ)
    → (value ≡ join_with_byte 10 texts) ⊎ (value ≡ join_with_byte 10 texts ++ 10 ∷ [])
    → without_lf value ≡ join_with_byte 10 texts
bare [] lines all value (inl is) = ap without_lf is
bare (text ∷ texts) [] all value (inl is) = absurd all
bare (text ∷ texts) (line ∷ lines) all value (inl is) =
    let ends = (joined text texts line lines all).ends in
    ap without_lf is ∙ rw ends refl
bare texts lines all value (inr is) =
    ap without_lf is ∙ rw (ends_so 10 (join_with_byte 10 texts)) (front_is 10 (join_with_byte 10 texts))

value_parts : (value : List ℕ) → (value ≡ without_lf value) ⊎ (value ≡ without_lf value ++ 10 ∷ [])
value_parts value = elim (cases_Bool (ends_in_lf value)) [
  | inl e ↦ inr (rw e (ends_parts 10 value e))
  | inr e ↦ inl (rw e refl)
]

-- exactly the values that are lines of mergeinfo are read
pub reads_exactly : (value : List ℕ) → IsTrue (value_reads value) ↔ HasMergeLines value
reads_exactly value = (there, λ has. back has.0 has.1.0 has.1.1 has.1.2)
  where
    there : IsTrue (value_reads value) → HasMergeLines value
    there reads =
        let found = read_are_lines (without_lf value) reads in
        (found.1, (found.0, found.2, spelled (value_parts value) found.0 found.3))
      where
        spelled : (value ≡ without_lf value) ⊎ (value ≡ without_lf value ++ 10 ∷ []) → (texts : List (List ℕ))
            → without_lf value ≡ join_with_byte 10 texts
            → (value ≡ join_with_byte 10 texts) ⊎ (value ≡ join_with_byte 10 texts ++ codes "\n")
        spelled (inl e) texts is = inl (e ∙ is)
        spelled (inr e) texts is = inr (e ∙ ap (λ t. t ++ 10 ∷ []) is)

    back : (lines : List MergeLine) (texts : List (List ℕ)) → AllZip IsMergeLine texts lines
        → (value ≡ join_with_byte 10 texts) ⊎ (value ≡ join_with_byte 10 texts ++ codes "\n")
        → IsTrue (value_reads value)
    back lines texts all is = lines_are_read texts lines all (without_lf value) (bare texts lines all value is)
