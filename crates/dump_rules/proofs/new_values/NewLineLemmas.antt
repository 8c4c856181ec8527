-- The new line of a line, as the program computes it.
use Rattle.dump_rules.proofs.Prelude.{◌≡◌, ℕ, ◌+◌, ◌<◌, Bool, true, false, ◌==◌, List, [], ◌∷◌, ◌++◌, length, take, drop, nat_lt, nat_le, position, refl, sym, ap, subst, ◌∙◌, arith, Some, None, codes, list_all, slice_split, inl, inr, cases_Bool, and_parts, Range, IsConsistent, runs_text, list_reads, colon_end, line_reads, KeptRevisions, RiseFrom, Settings, HaveNumbers, ordered_into, ordered, joined, runs_of, list_ranges, new_ranges, list_new, line_list, with_break, with_runs, with_new_line, with_new_lines}
use Rattle.dump_rules.proofs.reading.RangeLemmas.{position_split, position_whole}
use Rattle.dump_rules.proofs.reading.RangeListLemmas.{read_is_list}
use Rattle.dump_rules.proofs.new_values.RunsLaw.{have_numbers, list_is}
use Rattle.dump_rules.proofs.new_values.RunsLemmas.{some_joined}
use Rattle.dump_rules.proofs.new_values.NewRangeLemmas.{renumbered, unchanged, renumbered_consistent, new_have_numbers, list_new_is}

-- ranges have runs

some_ordered : (r : Range) (rest : List Range) → (first : Range) × (later : List Range)
    × (ordered_into r rest ≡ first ∷ later)
some_ordered r [] = (r, [], refl)
some_ordered r (s ∷ rest) = elim (cases_Bool (nat_le r.from s.from)) [
  | inl e ↦ (r, s ∷ rest, rw e refl)
  | inr e ↦ (s, ordered_into r rest, rw e refl)
]

some_runs : (r : Range) (rest : List Range) → (first : Range) × (later : List Range)
    × (runs_of (r ∷ rest) ≡ first ∷ later)
some_runs r rest =
    let order = some_ordered r (ordered rest) in
    let join = some_joined order.0 order.1 in
    (join.0, join.1, ap joined order.2 ∙ join.2)

pub with_runs_some : (out path : List ℕ) (ranges : List Range) → 0 < length ranges
    → with_break out ++ path ++ codes ":" ++ runs_text (runs_of ranges) ≡ with_runs out path (runs_of ranges)
with_runs_some out path [] some = absurd (omega arith)
with_runs_some out path (r ∷ rest) some = go (runs_of (r ∷ rest)) (some_runs r rest)
  where
    go : (runs : List Range) → ((first : Range) × (later : List Range) × (runs ≡ first ∷ later))
        → with_break out ++ path ++ codes ":" ++ runs_text runs ≡ with_runs out path runs
    go [] found = let bad : [] ≡ found.0 ∷ found.1 = found.2 in cc
    go (s ∷ runs) found = refl

-- what is written piece by piece
pub written_runs : (out path a b new : List ℕ) (sorted ranges : List Range) → 0 < length ranges
    → joined sorted ≡ runs_of ranges → a ≡ with_break out ++ path → b ≡ a ++ codes ":"
    → new ≡ b ++ runs_text (joined sorted) → new ≡ with_runs out path (runs_of ranges)
written_runs out path a b new sorted ranges some same first second third =
    rw (third, second, first, same) (with_runs_some out path ranges some)

-- the ranges of a list that is read

-- each range has numbers, and no number is in ranges of both kinds
pub record AreFit (ranges : List Range) : Type 0 where
  pub numbers : HaveNumbers ranges
  pub consistent : IsConsistent ranges

pub ranges_fit : (list : List ℕ) → list_reads list ≡ true → AreFit (list_ranges list)
ranges_fit list reads =
    let found = read_is_list list reads in
    let same = list_is list found.0 found.1 in
    record {
      numbers = subst HaveNumbers same (have_numbers found.1.0 found.0 found.1.1);
      consistent = subst IsConsistent same found.2;
    }

-- the new ranges of fit ranges are fit, with renumbering or without
pub new_ranges_fit : (renumber : Bool) (kept : KeptRevisions) → RiseFrom kept.first kept.numbers → (ranges : List Range)
    → AreFit ranges → AreFit (new_ranges renumber kept ranges)
new_ranges_fit true kept up ranges fit = record {
  numbers = new_have_numbers kept ranges;
  consistent = renumbered_consistent kept up ranges (new_ranges true kept ranges)
      (renumbered kept up ranges) fit.consistent;
}
new_ranges_fit false kept up ranges fit = subst AreFit (sym (unchanged kept ranges)) fit

-- the new ranges of a line that is read are fit
pub line_fits : (renumber : Bool) (kept : KeptRevisions) → RiseFrom kept.first kept.numbers → (line : List ℕ)
    → line_reads line ≡ true → AreFit (list_new renumber kept (line_list line))
line_fits renumber kept up line reads =
    let parts = and_parts (nat_lt 1 (colon_end line)) (list_reads (drop (colon_end line) line)) reads in
    subst AreFit (sym (list_new_is renumber kept (line_list line)))
    (new_ranges_fit renumber kept up (list_ranges (line_list line)) (ranges_fit (line_list line) parts.1))

-- line by line

-- the parts up to a byte, and what follows
pub parts_first : (b : ℕ) (rest part others : List ℕ) (k : ℕ) → position (λ c. c == b) rest ≡ Some k
    → part ≡ take k rest
    → others ≡ drop (k + 1) rest → slice_split (λ c. c == b) rest ≡ part ∷ slice_split (λ c. c == b) others
parts_first b rest part others k is first later =
    rw (first, later) (position_split b k rest is)

-- a text without an LF is one line
pub lines_last : (rest : List ℕ) → position (λ b. b == 10) rest ≡ None → slice_split (λ b. b == 10) rest ≡ rest ∷ []
lines_last rest is = position_whole 10 rest is

-- if all lines are read, the first one is, and all others are
pub first_reads : (line : List ℕ) (lines all : List (List ℕ)) → all ≡ line ∷ lines → list_all line_reads all ≡ true
    → (line_reads line ≡ true) × (list_all line_reads lines ≡ true)
first_reads line lines all is reads =
    and_parts (line_reads line) (list_all line_reads lines) (ap (list_all line_reads) (sym is) ∙ reads)

-- the new lines are the new lines of the others, after the new line of the first one
pub step_lines : (settings : Settings) (kept : KeptRevisions) (out new line : List ℕ) (lines all : List (List ℕ))
    → all ≡ line ∷ lines
    → new ≡ with_new_line settings kept out line
    → with_new_lines settings kept out all ≡ with_new_lines settings kept new lines
step_lines settings kept out new line lines all is written =
    ap (with_new_lines settings kept out) is ∙ ap (λ (t : List ℕ). with_new_lines settings kept t lines) (sym written)
