-- Reading the parts of a list, sorting their ranges, and writing the runs, step by step.
use Rattle.dump_rules.proofs.Prelude.{◌≡◌, ℕ, zero, suc, ◌+◌, ◌<◌, ◌≤◌, Bool, true, false, ◌==◌, List, [], ◌∷◌, ◌++◌, length, take, drop, get_or, position, map, refl, sym, ap, ◌∙◌, inl, inr, arith, Some, None, Option, Contains, append_assoc, cases_Bool, codes, IsPermutation, IsNonDecreasingBy, drop_more, All-head, All-tail, All-cons, IsPermutation-sym, IsPermutation-map, All-permutation, Contains-permutation, Span, Range, HasNumber, IsConsistent, run_text, runs_text, range_of, range_parts, span_range, KeptRevisions, IsSameMap, touches, reaching, joined_from, joined, runs_of, HaveNumbers, with_range, part_range, parts_ranges}
use Rattle.std.proofs.Common.{All}
use Rattle.dump_rules.proofs.reading.RangeLemmas.{position_split, position_whole}
use Rattle.dump_rules.proofs.new_values.JoinLemmas.{Rises, runs_any_order}

-- parts

with_behind : (o : Option Range) (ranges : List Range) → with_range o ranges ≡ with_range o [] ++ ranges
with_behind None ranges = refl
with_behind (Some r) ranges = refl

parts_first : (renumber : Bool) (kept : KeptRevisions) (rest : List ℕ) (k : ℕ) → position (λ b. b == 44) rest ≡ Some k
    → parts_ranges renumber kept (range_parts rest)
    ≡ with_range (part_range renumber kept (range_of (take k rest))) [] ++ parts_ranges renumber kept
    (range_parts (drop (k + 1) rest))
parts_first renumber kept rest k is =
    ap (parts_ranges renumber kept) (position_split 44 k rest is)
    ∙ with_behind (part_range renumber kept (range_of (take k rest)))
    (parts_ranges renumber kept (range_parts (drop (k + 1) rest)))

-- the new ranges of the parts are those of the first one, and then those of the parts after its comma
pub parts_step : (renumber : Bool) (kept : KeptRevisions) (rest part behind : List ℕ) (k : ℕ) (old new : List Range)
    → position (λ b. b == 44) rest ≡ Some k
    → part ≡ take k rest → behind ≡ drop (k + 1) rest
    → new ≡ old ++ with_range (part_range renumber kept (range_of part)) []
    → old ++ parts_ranges renumber kept (range_parts rest) ≡ new ++ parts_ranges renumber kept (range_parts behind)
parts_step renumber kept rest part behind k old new is first later more =
    rw (more, first, later) (ap (λ l. old ++ l) (parts_first renumber kept rest k is)
    ∙ sym (append_assoc old (with_range (part_range renumber kept (range_of (take k rest))) []) _))

-- the new ranges of a list without a comma are those of its only part
pub parts_last : (renumber : Bool) (kept : KeptRevisions) (rest : List ℕ) → position (λ b. b == 44) rest ≡ None
    → parts_ranges renumber kept (range_parts rest) ≡ with_range (part_range renumber kept (range_of rest)) []
parts_last renumber kept rest is = ap (parts_ranges renumber kept) (position_whole 44 rest is)

-- other orders

has_contains : (ranges : List Range) (kind : Bool) (n : ℕ) → HasNumber ranges kind n
    → (r : Range) × Contains ranges r × (r.inheritable ≡ kind) × (r.from ≤ n) × (n ≤ r.to)
has_contains [] kind n has = absurd has
has_contains (r ∷ rest) kind n (inl here) = (r, (0, omega arith, refl), here.0, here.1, here.2)
has_contains (r ∷ rest) kind n (inr later) =
    let found = has_contains rest kind n later in
    let within = found.1.1 in
    (found.0, (suc found.1.0, omega arith, found.1.2), found.2, found.3, found.4)

contains_has : (ranges : List Range) (kind : Bool) (n : ℕ) (r : Range) → Contains ranges r → r.inheritable ≡ kind
    → r.from ≤ n → n ≤ r.to → HasNumber ranges kind n
contains_has [] kind n r (i, within, is) same low high = absurd (omega arith)
contains_has (s ∷ rest) kind n r (zero, within, is) same low high =
    let from = ap (λ (x : Range). x.from) is in
    let to = ap (λ (x : Range). x.to) is in
    inl (ap (λ (x : Range). x.inheritable) is ∙ same, omega arith, omega arith)
contains_has (s ∷ rest) kind n r (suc i, within, is) same low high =
    inr (contains_has rest kind n r (i, omega arith, is) same low high)

permuted_has : (a b : List Range) → IsPermutation a b → (kind : Bool) (n : ℕ) → HasNumber a kind n → HasNumber b kind n
permuted_has a b moved kind n has =
    let found = has_contains a kind n has in
    contains_has b kind n found.0 (Contains-permutation a b found.0 moved found.1) found.2 found.3 found.4

permuted_same : (a b : List Range) → IsPermutation a b → IsSameMap a b
permuted_same a b moved kind n = (permuted_has b a (IsPermutation-sym a b moved) kind n, permuted_has a b moved kind n)

all_numbers : (ranges : List Range) → HaveNumbers ranges → All (λ r. r.from ≤ r.to) ranges
all_numbers [] have = λ k d within. absurd (omega arith)
all_numbers (r ∷ rest) have = All-cons (λ (r : Range). r.from ≤ r.to) r rest have.0 (all_numbers rest have.1)

have_from_all : (ranges : List Range) → All (λ r. r.from ≤ r.to) ranges → HaveNumbers ranges
have_from_all [] all = tt
have_from_all (r ∷ rest) all =
    let P = λ (r : Range). r.from ≤ r.to in (All-head P r rest all, have_from_all rest (All-tail P r rest all))

rises_spans : (spans : List Span) → IsNonDecreasingBy (λ s. s.from) spans → HaveNumbers (map span_range spans)
    → Rises (map span_range spans)
rises_spans [] up have = tt
rises_spans (s ∷ []) up have = have.0
rises_spans (s ∷ t ∷ rest) up have = (
  have.0,
  up 0 1 s (omega arith) (omega arith),
  rises_spans (t ∷ rest)
      (λ i j d low high. up (suc i) (suc j) d (omega arith) (omega arith)) have.1,
)

-- ranges that are sorted by their lower ends, joined, are the runs
pub sorted_runs : (old new : List Span) → HaveNumbers (map span_range old) → IsConsistent (map span_range old)
    → IsPermutation old new
    → IsNonDecreasingBy (λ s. s.from) new → joined (map span_range new) ≡ runs_of (map span_range old)
sorted_runs old new have consistent moved up =
    let ranges = IsPermutation-map span_range old new moved in
    let more = have_from_all (map span_range new)
    (All-permutation (λ (r : Range). r.from ≤ r.to) (map span_range old) (map span_range new) ranges
    (all_numbers (map span_range old) have)) in
    runs_any_order (map span_range old) (map span_range new) have consistent (rises_spans new up more)
    (permuted_same (map span_range old) (map span_range new) ranges)

-- runs as they are written

touched : (r s : Range) (rest : List Range) → touches r s ≡ true → joined_from r (s ∷ rest) ≡ joined_from
    (reaching r s.to) rest
touched r s rest e = rw e refl

-- a range joined with those after it gives at least one run
pub some_joined : (r : Range) (rest : List Range) → (first : Range) × (later : List Range)
    × (joined_from r rest ≡ first ∷ later)
some_joined r [] = (r, [], refl)
some_joined r (s ∷ rest) = elim (cases_Bool (touches r s)) [
  | inl e ↦ let found = some_joined (reaching r s.to) rest in (found.0, found.1, rw e found.2)
  | inr e ↦ (r, joined_from s rest, rw e refl)
]

text_before : (r first : Range) (later runs : List Range) → runs ≡ first ∷ later
    → runs_text (r ∷ runs) ≡ run_text r ++ codes "," ++ runs_text runs
text_before r first later runs is =
    rw is (sym (append_assoc (run_text r) (codes ",") (runs_text (first ∷ later))))

left : (r s : Range) (rest : List Range) → touches r s ≡ false
    → runs_text (joined_from r (s ∷ rest)) ≡ run_text r ++ codes "," ++ runs_text (joined_from s rest)
left r s rest e =
    let some = some_joined s rest in
    rw e (text_before r some.0 some.1 (joined_from s rest) some.2)

-- the text from one run on, with the span at this place next
pub next_touches : (run : Range) (spans : List Span) (i : ℕ) (d : Span) → i < length spans
    → touches run (span_range (get_or spans i d)) ≡ true
    → joined_from run (map span_range (drop i spans)) ≡ joined_from (reaching run (get_or spans i d).to)
    (map span_range (drop (i + 1) spans))
next_touches run spans i d within e =
    ap (λ (l : List Span). joined_from run (map span_range l)) (drop_more spans i d within)
    ∙ touched run (span_range (get_or spans i d)) (map span_range (drop (i + 1) spans)) e

-- if the next range doesn't touch a run, that run is written, a comma, and the runs from that range on
pub next_left : (run : Range) (spans : List Span) (i : ℕ) (d : Span) → i < length spans
    → touches run (span_range (get_or spans i d)) ≡ false
    → runs_text (joined_from run (map span_range (drop i spans)))
    ≡ run_text run ++ codes "," ++ runs_text (joined_from (span_range (get_or spans i d))
    (map span_range (drop (i + 1) spans)))
next_left run spans i d within e =
    ap (λ (l : List Span). runs_text (joined_from run (map span_range l))) (drop_more spans i d within)
    ∙ left run (span_range (get_or spans i d)) (map span_range (drop (i + 1) spans)) e

-- what was written so far, and the next run and the text after it
pub written_on : (run comma rest old mid new : List ℕ) → mid ≡ old ++ run → new ≡ mid ++ comma
    → old ++ (run ++ comma ++ rest) ≡ new ++ rest
written_on run comma rest old mid new first second =
    rw (second, first) (simp append_assoc)
