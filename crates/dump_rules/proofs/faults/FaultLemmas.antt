-- A value has a fault if a line's path isn't kept, or a line whose path is kept has a number that the dump can't have.
use Rattle.std.proofs.lemmas.Bool.{and_from as both}
use Rattle.dump_rules.proofs.Prelude.{◌≡◌, ◌⊎◌, ℕ, ◌<◌, zero, suc, Bool, true, false, not, ◌&&◌, ◌||◌, List, [], ◌∷◌, nat_lt, refl, sym, ap, subst, ◌∙◌, inl, inr, arith, Some, None, Option, Contains, list_any, Any-from_list_any, list_any-from_Any, All-contains, All-contains_itself, All-filter, filter_passes, both_ways, cases_Bool, AllZip, and_parts, or_right, or_cases, or_left, lt-ltb, ltb-true, not-true, not_from_false, Settings, keeps_path, KeptRevisions, Range, HasNumber, range_of, range_parts, MergeLine, IsMergeLine, IsMergeinfo, HasMergeLines, without_lf, value_reads, staying_lines, HasMissingSource, HasForeignNumber, HaveNumbers, ranges_of, with_range, list_ranges, line_list, line_misses, text_misses, range_foreign, part_foreign, list_foreign, line_foreign, text_foreign}
use Rattle.dump_rules.proofs.reading.MergeinfoLemmas.{reads_exactly}
use Rattle.dump_rules.proofs.new_values.RunsLaw.{have_numbers}
use Rattle.dump_rules.proofs.new_values.ValueLemmas.{line_parts, texts_are}

-- some line passes the test

any_line : (test : List ℕ → Bool) (passes : MergeLine → Bool) (texts : List (List ℕ)) (lines : List MergeLine)
    → AllZip IsMergeLine texts lines
    → ((text : List ℕ) (line : MergeLine) → IsMergeLine text line → test text ≡ passes line)
    → list_any test texts ≡ list_any passes lines
any_line test passes [] [] all same = refl
any_line test passes (text ∷ texts) (line ∷ lines) all same =
    rw (same text line all.0, any_line test passes texts lines all.1 same) refl
any_line test passes texts lines all same = absurd all

-- a list of which some element passes the test contains one that passes
pub found : {X : Type 0} (passes : X → Bool) (xs : List X) → list_any passes xs ≡ true → (x : X) × Contains xs x
    × (passes x ≡ true)
found passes xs some = let at = Any-from_list_any passes xs some in (at.1, (at.0, at.2, at.3), at.4)

-- if a list contains an element that passes the test, some element of it passes
pub finds : {X : Type 0} (passes : X → Bool) (xs : List X) (x : X) → Contains xs x → passes x ≡ true
    → list_any passes xs ≡ true
finds passes xs x (i, within, is) so = list_any-from_Any passes xs (i, x, within, is, so)

-- sources that are missing

misses_is : (settings : Settings) (value : List ℕ) (lines : List MergeLine) → IsMergeinfo value lines
    → text_misses settings (without_lf value) ≡ (not settings.skip_missing && list_any
    (λ (line : MergeLine). not (keeps_path settings line.path)) lines)
misses_is settings value lines is =
    ap (λ (texts : List (List ℕ)). not settings.skip_missing && list_any (line_misses settings) texts)
    (texts_are is.0 lines is.1 value is.2)
    ∙ ap (λ (b : Bool). not settings.skip_missing && b)
    (any_line (line_misses settings) (λ (line : MergeLine). not (keeps_path settings line.path)) is.0 lines is.1
    (λ text line of. ap (λ (p : List ℕ). not (keeps_path settings p)) (line_parts text line of).path))

-- mergeinfo in which the test finds a missing source has one
pub missing_there : (settings : Settings) (value : List ℕ) → HasMergeLines value
    → text_misses settings (without_lf value) ≡ true → HasMissingSource settings value
missing_there settings value has e =
    let parts = and_parts (not settings.skip_missing) _ (sym (misses_is settings value has.0 has.1) ∙ e) in
    let some = found (λ (line : MergeLine). not (keeps_path settings line.path)) has.0 parts.1 in
    (not-true settings.skip_missing parts.0, has.0, has.1, some.0, some.1, not-true _ some.2)

-- the test finds a missing source in each value that has one
pub missing_back : (settings : Settings) (value : List ℕ) → HasMissingSource settings value
    → text_misses settings (without_lf value) ≡ true
missing_back settings value (skip, lines, is, line, within, misses) =
    misses_is settings value lines is
    ∙ both _ _ (not_from_false settings.skip_missing skip)
    (finds (λ (l : MergeLine). not (keeps_path settings l.path)) lines line within
    (not_from_false (keeps_path settings line.path) misses))

-- foreign numbers

foreign_parts : (settings : Settings) (first now : ℕ) (parts : List (List ℕ))
    → list_any (λ part. part_foreign settings first now (range_of part)) parts ≡ list_any
    (range_foreign settings first now) (ranges_of parts)
foreign_parts settings first now [] = refl
foreign_parts settings first now (part ∷ parts) =
    let later = foreign_parts settings first now parts in
    elim (range_of part) as (λ (o : Option Range). (part_foreign settings first now o || list_any
    (λ p. part_foreign settings first now (range_of p)) parts)
    ≡ list_any (range_foreign settings first now) (with_range o (ranges_of parts))) [
      | None ↦ later
      | Some r ↦ ap (λ (b : Bool). range_foreign settings first now r || b) later
    ]

list_foreign_is : (settings : Settings) (first now : ℕ) (list : List ℕ)
    → list_foreign settings first now list ≡ list_any (range_foreign settings first now) (list_ranges list)
list_foreign_is settings first now [] = refl
list_foreign_is settings first now (b ∷ list) = foreign_parts settings first now (range_parts (b ∷ list))

abbrev Foreign : Settings → ℕ → ℕ → MergeLine → Bool
Foreign settings first now line = keeps_path settings line.path && list_any
    (range_foreign settings first now) line.ranges

foreign_is : (settings : Settings) (first now : ℕ) (value : List ℕ) (lines : List MergeLine) → IsMergeinfo value lines
    → text_foreign settings first now (without_lf value) ≡
    (settings.renumber && list_any (Foreign settings first now) lines)
foreign_is settings first now value lines is =
    ap (λ (texts : List (List ℕ)). settings.renumber && list_any (line_foreign settings first now) texts)
    (texts_are is.0 lines is.1 value is.2)
    ∙ ap (λ (b : Bool). settings.renumber && b)
    (any_line (line_foreign settings first now) (Foreign settings first now) is.0 lines is.1
    (λ text line of.
    ap (λ (p : List ℕ). keeps_path settings p && list_foreign settings first now (line_list text))
    (line_parts text line of).path
    ∙ ap (λ (b : Bool). keeps_path settings line.path && b)
    (list_foreign_is settings first now (line_list text) ∙ ap (list_any (range_foreign settings first now))
    (line_parts text line of).ranges)))

abbrev IsForeign : Settings → ℕ → ℕ → ℕ → Type 0
IsForeign settings first now number = (now < number) ⊎ ((settings.skip_missing ≡ false) × (number < first))

number_there : (settings : Settings) (first now : ℕ) (ranges : List Range) → HaveNumbers ranges
    → list_any (range_foreign settings first now) ranges ≡ true
    → (kind : Bool) × (number : ℕ) × HasNumber ranges kind number × IsForeign settings first now number
number_there settings first now [] have some = let bad : false ≡ true = some in cc
number_there settings first now (r ∷ rest) have some =
    let order = have.0 in
    elim (or_cases (range_foreign settings first now r) (list_any (range_foreign settings first now) rest) some) [
      | inl here ↦ elim (or_cases (nat_lt now r.to) (not settings.skip_missing && nat_lt r.from first) here) [
        | inl over ↦ (r.inheritable, r.to, inl (refl, order, omega arith), inl (ltb-true now r.to over))
        | inr under ↦
            let parts = and_parts (not settings.skip_missing) (nat_lt r.from first) under in
            let low = ltb-true r.from first parts.1 in
            (r.inheritable, r.from, inl (refl, omega arith, order), inr (not-true settings.skip_missing parts.0, low))
      ]
      | inr more ↦
          let later = number_there settings first now rest have.1 more in (later.0, later.1, inr later.2, later.3)
    ]

number_back : (settings : Settings) (first now : ℕ) (ranges : List Range) (kind : Bool) (number : ℕ)
    → HasNumber ranges kind number → IsForeign settings first now number
    → list_any (range_foreign settings first now) ranges ≡ true
number_back settings first now [] kind number has foreign = absurd has
number_back settings first now (r ∷ rest) kind number (inr has) foreign =
    or_right _ _ (number_back settings first now rest kind number has foreign)
number_back settings first now (r ∷ rest) kind number (inl has) (inl over) =
    let high = has.2 in or_left _ _ (or_left _ _ (lt-ltb now r.to (omega arith)))
number_back settings first now (r ∷ rest) kind number (inl has) (inr under) =
    let low = has.1 in
    let lower = under.1 in
    or_left _ _ (or_right _ _ (both _ _ (not_from_false settings.skip_missing under.0) (lt-ltb r.from first (omega arith))))

-- lines whose paths are kept

stays_there : (settings : Settings) (lines : List MergeLine) (line : MergeLine) → Contains lines line
    → keeps_path settings line.path ≡ true → Contains (staying_lines settings lines) line
stays_there settings [] line (i, within, is) e = absurd (omega arith)
stays_there settings (first ∷ lines) line (zero, within, is) e =
    let kept : keeps_path settings first.path ≡ true = ap (λ (l : MergeLine). keeps_path settings l.path) is ∙ e in
    rw kept (0, omega arith, is)
stays_there settings (first ∷ lines) line (suc i, within, is) e =
    let later = stays_there settings lines line (i, omega arith, is) e in
    elim (cases_Bool (keeps_path settings first.path)) [
      | inl f ↦ let inside = later.1 in rw f (suc later.0, omega arith, later.2)
      | inr f ↦ rw f later
    ]

stays_back : (settings : Settings) (lines : List MergeLine) (line : MergeLine)
    → Contains (staying_lines settings lines) line → Contains lines line × (keeps_path settings line.path ≡ true)
stays_back settings lines line has =
    let keeps = λ (l : MergeLine). keeps_path settings l.path in (
      All-contains (Contains lines) (staying_lines settings lines) line
          (All-filter keeps (Contains lines) lines (All-contains_itself lines)) has,
      All-contains (λ l. keeps l ≡ true) (staying_lines settings lines) line (filter_passes keeps lines) has,
    )

ranges_have : (texts : List (List ℕ)) (lines : List MergeLine) → AllZip IsMergeLine texts lines → (line : MergeLine)
    → Contains lines line → HaveNumbers line.ranges
ranges_have [] [] all line (i, within, is) = absurd (omega arith)
ranges_have (text ∷ texts) (first ∷ lines) all line (zero, within, is) =
    subst (λ (l : MergeLine). HaveNumbers l.ranges) is (have_numbers all.0.spelled.1.0 first.ranges all.0.spelled.1.1)
ranges_have (text ∷ texts) (first ∷ lines) all line (suc i, within, is) = ranges_have texts lines all.1 line
    (i, omega arith, is)
ranges_have texts lines all line has = absurd all

-- mergeinfo in which the test finds a foreign number has one
pub foreign_there : (settings : Settings) (kept : KeptRevisions) (now : ℕ) (value : List ℕ) → HasMergeLines value
    → text_foreign settings kept.first now (without_lf value) ≡ true
    → HasForeignNumber settings kept now value
foreign_there settings kept now value has e =
    let parts = and_parts settings.renumber _ (sym (foreign_is settings kept.first now value has.0 has.1) ∙ e) in
    let some = found (Foreign settings kept.first now) has.0 parts.1 in
    let both = and_parts (keeps_path settings some.0.path) _ some.2 in
    let number = number_there settings kept.first now some.0.ranges
    (ranges_have has.1.0 has.0 has.1.1 some.0 some.1) both.1 in (
      parts.0,
      has.0,
      has.1,
      some.0,
      stays_there settings has.0 some.0 some.1 both.0,
      number.0,
      number.1,
      number.2,
      number.3,
    )

-- the test finds a foreign number in each value that has one
pub foreign_back : (settings : Settings) (kept : KeptRevisions) (now : ℕ) (value : List ℕ)
    → HasForeignNumber settings kept now value
    → text_foreign settings kept.first now (without_lf value) ≡ true
foreign_back settings kept now value (renumber, lines, is, line, within, k, number, has, foreign) =
    let stays = stays_back settings lines line within in
    foreign_is settings kept.first now value lines is
    ∙ both _ _ renumber (finds (Foreign settings kept.first now) lines line stays.0
    (both _ _ stays.1 (number_back settings kept.first now line.ranges k number has foreign)))

-- values without a fault

-- a value that can't be anything but mergeinfo is mergeinfo
pub has_lines : (value : List ℕ) → ¬ ¬ HasMergeLines value → HasMergeLines value
has_lines value some = elim (cases_Bool (value_reads value)) [
  | inl e ↦ (reads_exactly value).0 e
  | inr e ↦ absurd (some (λ has. both_ways _ e ((reads_exactly value).1 has)))
]
