-- Header lines that are changed, added or removed, seen name by name.
use Rattle.dump_filter.proofs.Prelude.{◌≡◌, ℕ, ◌+◌, ◌<◌, ◌≤◌, ◌^◌, ◌==◌, nat_lt, nat_le, Bool, true, false, not, ◌&&◌, ◌||◌, filter, find, count_by, Option, None, option_map, List, [], ◌∷◌, ◌++◌, length, refl, sym, ap, ◌∙◌, subst, arith, bytes_eq, Some, is_some, is_none, option_and_then, unwrap_or, if◌then◌else◌, MatchBool, or-false, list_all, option_or, eqb-true, nat_tests, All-filter, sum_by-filter_both, fold-map, find-append, list_all-map, list_any-append, sum_by_push, AllPass-from_list_all, list_all-from_AllPass, any-filter_same, bytes_eq-Decides, number_of, spelled_number, known_names, Header, is_header, has_byte, is_named, has_header, count_named, header_value, with_header_value, is_block, count_cons, has_value, all_more, lawful, lawful_lines, number_of-spelled, spelled_spells, header_number, header_length, with_length, without_copy_headers, is_copy_line, no_number, second_true, first_false, second_false, and_from, absurd_bool, false_from_ne_true}

-- the lines changed only at names that are touched; no line or name was added that a block can't have
pub record IsChange (touches : List ℕ → Bool) (old new : List Header) : Type 0 where
  pub lines : list_all is_header old ≡ true → list_all is_header new ≡ true
  pub once : (name : List ℕ) → nat_le (count_named name old) 1 ≡ true → nat_le (count_named name new) 1 ≡ true
  pub same : (name : List ℕ) → touches name ≡ false → header_value name new ≡ header_value name old

-- a name that isn't touched has a line exactly if it had one
pub same_has : (touches : List ℕ → Bool) (old new : List Header) → IsChange touches old new → (name : List ℕ)
    → touches name ≡ false
    → has_header name new ≡ has_header name old
same_has touches old new change name free = sym (has_value name new) ∙ ap is_some (change.same name free)
    ∙ has_value name old

some_lines : (name : List ℕ) (headers : List Header) → has_header name headers ≡ true → nat_lt 0 (length headers) ≡ true
some_lines name [] has = cc
some_lines name (h ∷ headers) has = grind arith

-- if each element that passes one test passes another, a list that passes the one passes the other
pub all_implied : {X : Type 0} (p q : X → Bool) → ((x : X) → p x ≡ true → q x ≡ true) → (xs : List X)
    → list_all p xs ≡ true → list_all q xs ≡ true
all_implied p q implied xs all =
    list_all-from_AllPass q xs (λ k d within. implied _ (AllPass-from_list_all p xs all k d within))

-- each known name occurs at most once in a block
pub block_names : (headers : List Header) → is_block headers ≡ true
    → list_all (λ name. nat_le (count_named name headers) 1) known_names ≡ true
block_names headers block =
    second_true (nat_lt 0 (length headers) && list_all is_header headers)
    (list_all (λ name. nat_le (count_named name headers) 1) known_names) block

-- a block is still one, if a line remains
pub block_stays : (touches : List ℕ → Bool) (old new : List Header) → IsChange touches old new → (name : List ℕ)
    → has_header name new ≡ true
    → is_block old ≡ true → is_block new ≡ true
block_stays touches old new change name has block =
    and_from (nat_lt 0 (length new) && list_all is_header new)
    (list_all (λ n. nat_le (count_named n new) 1) known_names)
    (and_from (nat_lt 0 (length new)) (list_all is_header new) (some_lines name new has)
    (change.lines (lawful_lines old block)))
    (all_implied (λ n. nat_le (count_named n old) 1) (λ n. nat_le (count_named n new) 1) change.once known_names
    (block_names old block))

-- a change, and then another
pub both_changes : (touches : List ℕ → Bool) (old mid new : List Header) (others : List ℕ → Bool)
    → IsChange touches old mid → IsChange others mid new
    → IsChange (λ name. touches name || others name) old new
both_changes touches old mid new others first second = record {
  lines = λ all. second.lines (first.lines all);
  once = λ name few. second.once name (first.once name few);
  same = λ name free. second.same name (second_false (touches name) (others name) free)
      ∙ first.same name (first_false (touches name) (others name) free);
}

-- lines that are unchanged have changed at no name
pub no_change : (touches : List ℕ → Bool) (headers : List Header) → IsChange touches headers headers
no_change touches headers = record { lines = λ all. all; once = λ name few. few; same = λ name free. refl }

-- what is true of a line with this name, and of a line with another one, is true of each line
pub of_name : (name : List ℕ) (h : Header) (P : Header → Type 0)
    → (is_named name h ≡ true → P (record { name = name; value = h.value })) → (is_named name h ≡ false → P h) → P h
of_name name h P here other = cases (is_named name h) refl
  where
    cases : (b : Bool) → is_named name h ≡ b → P h
    cases true is = subst (λ (n : List ℕ). P (record { name = n; value = h.value }))
        (sym ((bytes_eq-Decides h.name name).0 is)) (here is)
    cases false is = other is

-- what is true of lines that get a length in their line, get none, or get a line for it, is true of the lines with it
pub of_length : (name : List ℕ) (n : ℕ) (headers : List Header) (P : List Header → Type 0)
    → (has_header name headers ≡ true → P (with_header_value name (spelled_number n) headers))
    → (has_header name headers ≡ false → (n == 0) ≡ true → P headers)
    → (has_header name headers ≡ false → (n == 0) ≡ false
    → P (headers ++ record { name = name; value = spelled_number n } ∷ []))
    → P (with_length name n headers)
of_length name n headers P there zero joins = cases (has_header name headers) (n == 0) refl refl
  where
    cases : (has none : Bool) → has_header name headers ≡ has → (n == 0) ≡ none → P (with_length name n headers)
    cases true none is z = rw is (there is)
    cases false true is z = rw (is, z) (zero is z)
    cases false false is z = rw (is, z) (joins is z)

-- new values

same_bytes : (bytes : List ℕ) → bytes_eq bytes bytes ≡ true
same_bytes bytes = (bytes_eq-Decides bytes bytes).1 refl

abbrev changed : List ℕ → List ℕ → Header → Header
changed name value h = if is_named name h then record { name = name; value = value } else h

changed_name : (name value : List ℕ) (h : Header) → (changed name value h).name ≡ h.name
changed_name name value h = of_name name h (λ h. (changed name value h).name ≡ h.name)
    (λ is. rw (same_bytes name) refl) (λ is. rw is refl)

-- a new value in a line adds no name and removes none
pub put_has : (other name value : List ℕ) (headers : List Header)
    → has_header other (with_header_value name value headers) ≡ has_header other headers
put_has other name value [] = refl
put_has other name value (h ∷ headers) =
    ap (λ b. b || has_header other (with_header_value name value headers))
    (ap (λ m. bytes_eq m other) (changed_name name value h))
    ∙ ap (λ b. is_named other h || b) (put_has other name value headers)

put_count : (other name value : List ℕ) (headers : List Header)
    → count_named other (with_header_value name value headers) ≡ count_named other headers
put_count other name value headers =
    fold-map (λ n h. n + (if is_named other h then 1 else 0)) (changed name value) 0 headers
    ∙ (λ i. count_by (λ h. bytes_eq (changed_name name value h i) other) headers)

put_lines : (name value : List ℕ) → has_byte 10 value ≡ false → (headers : List Header)
    → list_all is_header headers ≡ true
    → list_all is_header (with_header_value name value headers) ≡ true
put_lines name value no_lf headers all =
    list_all-map is_header (changed name value) headers
    ∙ all_implied is_header (λ h. is_header (changed name value h))
    (λ h good. one h good (is_named name h) refl) headers all
  where
    one : (h : Header) → is_header h ≡ true → (b : Bool) → is_named name h ≡ b → is_header (changed name value h) ≡ true
    one h good true is =
        let l = lawful h good in
        let renamed : is_header (record { name = h.name; value = value }) ≡ true =
        rw (l.some, l.no_colon, l.no_lf, no_lf) refl in
        rw is (subst (λ (n : List ℕ). is_header (record { name = n; value = value }) ≡ true)
        ((bytes_eq-Decides h.name name).0 is) renamed)
    one h good false is = rw is good

put_other : (name value other : List ℕ) → bytes_eq name other ≡ false → (headers : List Header)
    → find (is_named other) (with_header_value name value headers) ≡ find (is_named other) headers
put_other name value other apart [] = refl
put_other name value other apart (h ∷ headers) = by_name (put_other name value other apart headers)
    (is_named name h) refl
  where
    by_name : find (is_named other) (with_header_value name value headers) ≡ find (is_named other) headers → (b : Bool)
        → is_named name h ≡ b
        → find (is_named other) (with_header_value name value (h ∷ headers)) ≡ find (is_named other) (h ∷ headers)
    by_name more true is =
        let unlike : is_named other h ≡ false =
        ap (λ m. bytes_eq m other) ((bytes_eq-Decides h.name name).0 is) ∙ apart in
        rw (is, apart, unlike) more
    by_name more false is = rw is (ap (λ (o : Option Header). if is_named other h then Some h else o) more)

-- a new value without LF changes only the line of its name
pub put_change : (name value : List ℕ) (headers : List Header) → has_byte 10 value ≡ false
    → IsChange (λ other. bytes_eq name other) headers (with_header_value name value headers)
put_change name value headers no_lf = record {
  lines = put_lines name value no_lf headers;
  once = λ other few. ap (λ n. nat_le n 1) (put_count other name value headers) ∙ few;
  same = λ other apart. ap (option_map (λ (h : Header). h.value)) (put_other name value other apart headers);
}

pub put_own : (name value : List ℕ) (headers : List Header) → has_header name headers ≡ true
    → header_value name (with_header_value name value headers) ≡ Some value
put_own name value [] has = cc
put_own name value (h ∷ headers) has = by_name (put_own name value headers) (is_named name h) refl
  where
    by_name : (has_header name headers ≡ true → header_value name (with_header_value name value headers) ≡ Some value)
        → (b : Bool) → is_named name h ≡ b
        → header_value name (with_header_value name value (h ∷ headers)) ≡ Some value
    by_name more true is = rw (is, same_bytes name) refl
    by_name more false is = rw (is, is) (more (sym (ap (λ b. b || has_header name headers) is) ∙ has))

-- a value that is there already, under a name that occurs at most once, changes nothing

pub put_absent : (name value : List ℕ) (headers : List Header) → has_header name headers ≡ false
    → with_header_value name value headers ≡ headers
put_absent name value [] none = refl
put_absent name value (h ∷ headers) none =
    rw (first_false (is_named name h) (has_header name headers) none)
    (ap (λ (l : List Header). h ∷ l) (put_absent name value headers
    (second_false (is_named name h) (has_header name headers) none)))

has_count : (name : List ℕ) (headers : List Header) → has_header name headers ≡ nat_lt 0 (count_named name headers)
has_count name [] = refl
has_count name (h ∷ headers) =
    ap (λ b. is_named name h || b) (has_count name headers) ∙ sum (is_named name h) (count_named name headers)
    ∙ ap (nat_lt 0) (sym (count_cons name h headers))
  where
    sum : (b : Bool) (n : ℕ) → (b || nat_lt 0 n) ≡ nat_lt 0 ((if b then 1 else 0) + n)
    sum true n = grind arith
    sum false n = grind arith

-- the value that a name has, put into its line again, changes nothing
pub put_same : (name value : List ℕ) (headers : List Header) → nat_le (count_named name headers) 1 ≡ true
    → header_value name headers ≡ Some value
    → with_header_value name value headers ≡ headers
put_same name value [] few is = refl
put_same name value (h ∷ headers) few is = by_name (put_same name value headers) (is_named name h) refl
  where
    by_name : (nat_le (count_named name headers) 1 ≡ true → header_value name headers ≡ Some value
        → with_header_value name value headers ≡ headers) → (b : Bool)
        → is_named name h ≡ b → with_header_value name value (h ∷ headers) ≡ h ∷ headers
    by_name more true named =
        let size : count_named name (h ∷ headers) ≡ 1 + count_named name headers =
        count_cons name h headers ∙ ap (λ b. (if b then 1 else 0) + count_named name headers) named in
        let same : h.name ≡ name = (bytes_eq-Decides h.name name).0 named in
        let one : Some h.value ≡ Some value = sym (rw named refl) ∙ is in
        let value_is : h.value ≡ value = cc in
        let alone : has_header name headers ≡ false =
        false_from_ne_true (has_header name headers)
        (λ has. let some = sym (has_count name headers) ∙ has in let f = few in grind (arith, nat_tests)) in
        rw named (λ i. record { name = sym same i; value = sym value_is i } ∷ put_absent name value headers alone i)
    by_name more false named =
        let size : count_named name (h ∷ headers) ≡ 0 + count_named name headers =
        count_cons name h headers ∙ ap (λ b. (if b then 1 else 0) + count_named name headers) named in
        let same : count_named name headers ≡ count_named name (h ∷ headers) = omega (arith, size) in
        let few_later : nat_le (count_named name headers) 1 ≡ true = ap (λ n. nat_le n 1) same ∙ few in
        let later : header_value name headers ≡ Some value = sym (rw named refl) ∙ is in
        rw named (ap (λ (l : List Header). h ∷ l) (more few_later later))

-- lines that are added at the end

join_has : (name : List ℕ) (h : Header) (headers : List Header) → has_header name (headers ++ h ∷ []) ≡
    (has_header name headers || is_named name h)
join_has name h headers = list_any-append (is_named name) headers (h ∷ []) ∙ ap (λ b. has_header name headers || b)
    (or-false (is_named name h))

join_value : (name : List ℕ) (h : Header) (headers : List Header) → is_named name h ≡ false
    → header_value name (headers ++ h ∷ []) ≡ header_value name headers
join_value name h headers apart =
    ap (option_map (λ (x : Header). x.value))
    (find-append (is_named name) headers (h ∷ []) ∙ rw apart (none_behind (find (is_named name) headers)))
  where
    none_behind : (o : Option Header) → option_or o None ≡ o
    none_behind None = refl
    none_behind (Some x) = refl

join_own : (name : List ℕ) (h : Header) (headers : List Header) → has_header name headers ≡ false
    → is_named name h ≡ true → header_value name (headers ++ h ∷ []) ≡ Some h.value
join_own name h [] none is = rw is refl
join_own name h (g ∷ headers) none is =
    rw (first_false (is_named name g) (has_header name headers) none)
    (join_own name h headers (second_false (is_named name g) (has_header name headers) none) is)

pub join_change : (name value : List ℕ) (headers : List Header) → has_header name headers ≡ false
    → is_header (record { name = name; value = value }) ≡ true
    → IsChange (λ other. bytes_eq name other) headers (headers ++ record { name = name; value = value } ∷ [])
join_change name value headers none good = record {
  lines = λ all. all_more headers line all good;
  once = λ other few. by_name other few (bytes_eq name other) refl;
  same = λ other apart. join_value other line headers apart;
}
  where
    line : Header
    line = record { name = name; value = value }

    size : (other : List ℕ) → count_named other (headers ++ line ∷ []) ≡ count_named other headers
        + (if bytes_eq name other then 1 else 0)
    size other = sum_by_push (λ h. if is_named other h then 1 else 0) headers line

    by_name : (other : List ℕ) → nat_le (count_named other headers) 1 ≡ true → (b : Bool) → bytes_eq name other ≡ b
        → nat_le (count_named other (headers ++ line ∷ [])) 1 ≡ true
    by_name other few true is =
        let some = size other ∙ ap (λ b. count_named other headers + (if b then 1 else 0)) is in
        let none_yet = subst (λ n. has_header n headers ≡ false) ((bytes_eq-Decides name other).0 is) none in
        let zero_is = sym (has_count other headers) ∙ none_yet in
        grind (arith, nat_tests)
    by_name other few false is =
        let same = size other ∙ ap (λ b. count_named other headers + (if b then 1 else 0)) is in
        grind (arith, nat_tests)

-- lines that are removed

-- whether the line is no part of a copy source
abbrev is_other_line : Header → Bool
is_other_line h = not (is_copy_line h.name)

-- a line with this name
copy_like : (name : List ℕ) (b : Bool) → is_copy_line name ≡ b → (h : Header) → is_named name h ≡ true
    → is_other_line h ≡ not b
copy_like name b is h named = ap not (ap is_copy_line ((bytes_eq-Decides h.name name).0 named) ∙ is)

go_lines : (headers : List Header) → list_all is_header headers ≡ true
    → list_all is_header (without_copy_headers headers) ≡ true
go_lines headers all =
    list_all-from_AllPass is_header (filter is_other_line headers)
    (All-filter is_other_line (λ h. is_header h ≡ true) headers (AllPass-from_list_all is_header headers all))

go_count : (name : List ℕ) (headers : List Header)
    → count_named name (without_copy_headers headers) ≤ count_named name headers
go_count name headers =
    let both = sum_by-filter_both is_other_line (λ h. not (is_other_line h)) (λ h. refl)
    (λ h. if is_named name h then 1 else 0) headers in
    omega (arith, both)

go_value : (name : List ℕ) → is_copy_line name ≡ false → (headers : List Header)
    → find (is_named name) (without_copy_headers headers) ≡ find (is_named name) headers
go_value name other [] = refl
go_value name other (h ∷ headers) = by_test (go_value name other headers) (is_copy_line h.name) refl
  where
    unlike : is_copy_line h.name ≡ true → is_named name h ≡ false
    unlike is = false_from_ne_true (is_named name h) (λ named. absurd_bool (is_other_line h) (copy_like name false other h named)
        (ap not is))

    by_test : find (is_named name) (without_copy_headers headers) ≡ find (is_named name) headers → (b : Bool)
        → is_copy_line h.name ≡ b
        → find (is_named name) (without_copy_headers (h ∷ headers)) ≡ find (is_named name) (h ∷ headers)
    by_test more true is = rw (is, unlike is) more
    by_test more false is = rw is (ap (λ (o : Option Header). if is_named name h then Some h else o) more)

-- removing a node's copy lines touches only these
pub go_change : (headers : List Header) → IsChange is_copy_line headers (without_copy_headers headers)
go_change headers = record {
  lines = go_lines headers;
  once = λ name few. (let less = go_count name headers in grind (arith, nat_tests));
  same = λ name other. ap (option_map (λ (h : Header). h.value)) (go_value name other headers);
}

-- after the copy source is removed, no copy line is left
pub gone : (name : List ℕ) → is_copy_line name ≡ true → (headers : List Header)
    → has_header name (without_copy_headers headers) ≡ false
gone name copy headers = any-filter_same (is_named name) is_other_line false (copy_like name true copy) headers

-- lengths

-- the line of this name has this number, or there is no line and the number is 0
abbrev pub IsTold : List ℕ → ℕ → List Header → Type 0
IsTold name n headers = MatchBool (has_header name headers) (header_value name headers ≡ Some (spelled_number n))
    (n ≡ 0)

-- a line still has its number if only other names were touched
pub told_later : (name : List ℕ) (n : ℕ) (touches : List ℕ → Bool) (old new : List Header) → IsChange touches old new
    → touches name ≡ false → IsTold name n old → IsTold name n new
told_later name n touches old new change free told =
    rw (same_has touches old new change name free, change.same name free) told

-- a number put into its line is the line's number; without a line the number is 0
pub told_put : (name : List ℕ) (n : ℕ) (headers : List Header) → (has_header name headers ≡ false → n ≡ 0)
    → IsTold name n (with_header_value name (spelled_number n) headers)
told_put name n headers missing = by_case (has_header name headers) refl
  where
    by_case : (b : Bool) → has_header name headers ≡ b
        → IsTold name n (with_header_value name (spelled_number n) headers)
    by_case true is = rw (put_has name name (spelled_number n) headers ∙ is)
        (put_own name (spelled_number n) headers is)
    by_case false is = rw (put_has name name (spelled_number n) headers ∙ is) (missing is)

-- a length put into its line, or added if there is no line, is the line's number
pub told_length : (name : List ℕ) (n : ℕ) (headers : List Header) → IsTold name n (with_length name n headers)
told_length name n headers = of_length name n headers (IsTold name n)
    (λ is. told_put name n headers (λ none. absurd (absurd_bool (has_header name headers) is none)))
    (λ none zero. rw none (eqb-true n 0 zero))
    (λ none some. rw (join_has name (record { name = name; value = spelled_number n }) headers, none, same_bytes name)
    (join_own name (record { name = name; value = spelled_number n }) headers none (same_bytes name)))

-- a number has no LF in its digits
pub spelled_line : (n : ℕ) → n < 10 ^ 18 → has_byte 10 (spelled_number n) ≡ false
spelled_line n small = (spelled_spells n (omega arith)).one_line

-- a new length changes only the line of its name
pub length_change : (name : List ℕ) (n : ℕ) (headers : List Header) → n < 10 ^ 18
    → (has_byte 10 (spelled_number n) ≡ false → is_header (record { name = name; value = spelled_number n }) ≡ true)
    → IsChange (λ other. bytes_eq name other) headers (with_length name n headers)
length_change name n headers small good = of_length name n headers (IsChange (λ other. bytes_eq name other) headers)
    (λ has. put_change name (spelled_number n) headers (spelled_line n small))
    (λ none zero. no_change (λ other. bytes_eq name other) headers)
    (λ none some. join_change name (spelled_number n) headers none (good (spelled_line n small)))

-- a number in a line is read, and writing it again changes nothing

-- what is true if a line has the number, and if there is no line and the number is 0, is true if the lines have it
of_told : (name : List ℕ) (n : ℕ) (headers : List Header) (P : Type 0) → IsTold name n headers
    → (has_header name headers ≡ true → header_value name headers ≡ Some (spelled_number n) → P)
    → (has_header name headers ≡ false → n ≡ 0 → P) → P
of_told name n headers P told there zero = cases (has_header name headers) refl told
  where
    cases : (b : Bool) → has_header name headers ≡ b
        → MatchBool b (header_value name headers ≡ Some (spelled_number n)) (n ≡ 0) → P
    cases true is t = there is t
    cases false is t = zero is t

-- a number in a line is read as this length, and no line of this name is unreadable
pub told_reads : (name : List ℕ) (n : ℕ) (headers : List Header) → n < 10 ^ 18 → IsTold name n headers
    → (header_length name headers ≡ n) × ((has_header name headers && is_none (header_number name headers)) ≡ false)
told_reads name n headers small told = of_told name n headers _ told
    (λ is t.
    let number : header_number name headers ≡ Some n =
    ap (option_and_then number_of) t ∙ number_of-spelled n small in
    (ap (λ o. unwrap_or o 0) number, rw (is, number) refl))
    (λ is t. (ap (λ o. unwrap_or o 0) (sym (no_number name headers is)) ∙ sym t, rw is refl))

-- putting the number of a line into it again changes nothing
pub told_put_again : (name : List ℕ) (n : ℕ) (headers : List Header) → nat_le (count_named name headers) 1 ≡ true
    → IsTold name n headers
    → with_header_value name (spelled_number n) headers ≡ headers
told_put_again name n headers few told = of_told name n headers _ told
    (λ is t. put_same name (spelled_number n) headers few t) (λ is t. put_absent name (spelled_number n) headers is)

-- putting the length of a line into it again changes nothing
pub told_length_again : (name : List ℕ) (n : ℕ) (headers : List Header) → nat_le (count_named name headers) 1 ≡ true
    → IsTold name n headers
    → with_length name n headers ≡ headers
told_length_again name n headers few told = of_told name n headers _ told
    (λ is t. rw is (put_same name (spelled_number n) headers few t)) (λ is t. rw (is, t) refl)
