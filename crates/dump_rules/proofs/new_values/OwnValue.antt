-- A new value is mergeinfo, and its own new value if everything is kept.
use Rattle.dump_rules.proofs.Prelude.{◌≡◌, ℕ, ◌<◌, ◌≤◌, Bool, true, false, MatchBool, List, [], ◌∷◌, length, map, nat_lt, Contains, refl, sym, ap, subst, ◌∙◌, inl, inr, arith, cases_Bool, AllZip, has_byte, Settings, keeps_path, KeptRevisions, new_number, RiseFrom, Range, IsConsistent, AreRuns, run_text, runs_text, MergeLine, IsMergeLine, IsMergeinfo, HasMergeLines, merge_line_text, mergeinfo_text, IsSameMap, IsRenumberedMap, IsNewLine, IsNewMergeinfo, staying_lines, nonempty_lines}
use Rattle.dump_rules.proofs.ReachLemmas.{new_number_fits, from_first}
use Rattle.dump_rules.proofs.new_values.NewRangeLemmas.{renumbered_consistent}
use Rattle.dump_rules.proofs.new_values.RunsLaw.{AreSmall, are_small, runs_spelled}

-- new numbers above 0
abbrev pub KeepsPositive : KeptRevisions → Type 0
KeepsPositive kept = (k : ℕ) → Contains kept.numbers k → 1 ≤ k → 1 ≤ new_number kept k

-- a line that is read as it is written
record IsOwnLine (line : MergeLine) : Type 0 where
  path : 0 < length line.path
  one_line : has_byte 10 line.path ≡ false
  consistent : IsConsistent line.ranges
  runs : AreRuns line.ranges
  small : AreSmall line.ranges

own_spelled : (line : MergeLine) → IsOwnLine line → IsMergeLine (merge_line_text line) line
own_spelled line own = record {
  path = own.path;
  one_line = own.one_line;
  consistent = own.consistent;
  spelled = (
    runs_text line.ranges,
    (map run_text line.ranges, runs_spelled line.ranges own.runs own.small, refl),
    refl,
  );
}

-- the new ranges of a line

new_consistent : (renumber : Bool) (kept : KeptRevisions) (old new : List Range) → RiseFrom kept.first kept.numbers
    → MatchBool renumber (IsRenumberedMap kept old new) (IsSameMap old new) → IsConsistent old → IsConsistent new
new_consistent true kept old new up numbers consistent = renumbered_consistent kept up old new numbers consistent
new_consistent false kept old new up numbers consistent =
    λ n plain starred. consistent n ((numbers true n).0 plain) ((numbers false n).0 starred)

new_small : (renumber : Bool) (kept : KeptRevisions) (old new : List Range) → RiseFrom kept.first kept.numbers
    → KeepsPositive kept
    → MatchBool renumber (IsRenumberedMap kept old new) (IsSameMap old new) → AreSmall old → AreSmall new
new_small true kept old new up positive numbers small kind n has =
    let source = (numbers kind n).0 has in
    let k = source.0 in
    let is = source.2 in
    let stood = small kind source.0 source.3 in
    let first = from_first kept.first kept.numbers up source.1.0 source.0 source.1.1 in
    let place = source.1.2 in
    let fits = new_number_fits kept source.0 up (subst (λ (m : ℕ). kept.first ≤ m) place first) in
    let low = positive source.0 source.1 stood.0 in
    let high = stood.1 in
    (omega arith, omega arith)
new_small false kept old new up positive numbers small kind n has = small kind n ((numbers kind n).0 has)

new_own : (settings : Settings) (kept : KeptRevisions) (text : List ℕ) (old new : MergeLine)
    → RiseFrom kept.first kept.numbers → KeepsPositive kept
    → IsMergeLine text old → IsNewLine settings kept old new → IsOwnLine new
new_own settings kept text old new up positive is made =
    let same = sym made.path in
    record {
      path = subst (λ (path : List ℕ). 0 < length path) same is.path;
      one_line = subst (λ (path : List ℕ). has_byte 10 path ≡ false) same is.one_line;
      consistent = new_consistent settings.renumber kept old.ranges new.ranges up made.numbers is.consistent;
      runs = made.runs;
      small = new_small settings.renumber kept old.ranges new.ranges up positive made.numbers
          (are_small is.spelled.1.0 old.ranges is.spelled.1.1);
    }

-- all lines

abbrev AreOwn : List MergeLine → Type 0
AreOwn [] = Unit {0}
AreOwn (line ∷ lines) = IsOwnLine line × AreOwn lines

all_own : (settings : Settings) (kept : KeptRevisions) → RiseFrom kept.first kept.numbers → KeepsPositive kept
    → (texts : List (List ℕ)) (lines new_lines : List MergeLine)
    → AllZip IsMergeLine texts lines → AllZip (IsNewLine settings kept) (staying_lines settings lines) new_lines
    → AreOwn new_lines
all_own settings kept up positive [] [] [] all made = tt
all_own settings kept up positive [] [] new_lines all made = absurd made
all_own settings kept up positive (text ∷ texts) (line ∷ lines) new_lines all made =
    go (keeps_path settings line.path) refl new_lines
    (λ rest more. all_own settings kept up positive texts lines rest all.1 more) made
  where
    go : (t : Bool) → keeps_path settings line.path ≡ t → (new_lines : List MergeLine)
        → ((rest : List MergeLine) → AllZip (IsNewLine settings kept) (staying_lines settings lines) rest → AreOwn rest)
        → AllZip (IsNewLine settings kept) (staying_lines settings (line ∷ lines)) new_lines → AreOwn new_lines
    go true e [] later made = absurd (rw e at made)
    go true e (new ∷ rest) later made =
        let here = rw e at made in
        (new_own settings kept text line new up positive all.0 here.0, later rest here.1)
    go false e new_lines later made = later new_lines (rw e at made)
all_own settings kept up positive texts lines new_lines all made = absurd all

some_own : (lines : List MergeLine) → AreOwn lines → AreOwn (nonempty_lines lines)
some_own [] own = tt
some_own (line ∷ lines) own = elim (cases_Bool (nat_lt 0 (length line.ranges))) [
  | inl e ↦ rw e (own.0, some_own lines own.1)
  | inr e ↦ rw e (some_own lines own.1)
]

some_twice : (lines : List MergeLine) → nonempty_lines (nonempty_lines lines) ≡ nonempty_lines lines
some_twice [] = refl
some_twice (line ∷ lines) = elim (cases_Bool (nat_lt 0 (length line.ranges))) [
  | inl e ↦ rw e (rw e (ap (λ (l : List MergeLine). line ∷ l) (some_twice lines)))
  | inr e ↦ rw e (some_twice lines)
]

all_spelled : (lines : List MergeLine) → AreOwn lines → AllZip IsMergeLine (map merge_line_text lines) lines
all_spelled [] own = tt
all_spelled (line ∷ lines) own = (own_spelled line own.0, all_spelled lines own.1)

module _ (all : Settings) (again : KeptRevisions) (same : all.renumber ≡ false)
    (keeps : (path : List ℕ) → keeps_path all path ≡ true) where
  all_stay : (lines : List MergeLine) → staying_lines all lines ≡ lines
  all_stay [] = refl
  all_stay (line ∷ lines) = rw (keeps line.path) (ap (λ (l : List MergeLine). line ∷ l) (all_stay lines))

  own_new : (line : MergeLine) → IsOwnLine line → IsNewLine all again line line
  own_new line own = record { path = refl; runs = own.runs; numbers = rw same (λ kind n. ((λ h. h), (λ h. h))) }

  all_own_new : (lines : List MergeLine) → AreOwn lines → AllZip (IsNewLine all again) lines lines
  all_own_new [] own = tt
  all_own_new (line ∷ lines) own = (own_new line own.0, all_own_new lines own.1)

-- a new value is mergeinfo, and its own new value if every path is kept and nothing is renumbered
pub own_value : (settings : Settings) (kept : KeptRevisions) (old new : List ℕ)
    → RiseFrom kept.first kept.numbers
    → ((k : ℕ) → Contains kept.numbers k → 1 ≤ k → 1 ≤ new_number kept k)
    → IsNewMergeinfo settings kept old new
    → (all : Settings) (again : KeptRevisions) → all.renumber ≡ false → ((path : List ℕ) → keeps_path all path ≡ true)
    → HasMergeLines new × IsNewMergeinfo all again new new
own_value settings kept old new up positive (lines, new_lines, is, made, written) all again same keeps =
    let left = nonempty_lines new_lines in
    let own = some_own new_lines (all_own settings kept up positive is.0 lines new_lines is.1 made) in
    let reads : IsMergeinfo new (nonempty_lines new_lines) =
    (map merge_line_text (nonempty_lines new_lines), all_spelled (nonempty_lines new_lines) own, inl written) in (
      (nonempty_lines new_lines, reads),
      (
        nonempty_lines new_lines,
        nonempty_lines new_lines,
        reads,
        subst (λ (l : List MergeLine). AllZip (IsNewLine all again) l (nonempty_lines new_lines))
            (sym (all_stay all again same keeps (nonempty_lines new_lines)))
            (all_own_new all again same keeps (nonempty_lines new_lines) own),
        written ∙ ap mergeinfo_text (sym (some_twice new_lines)),
      ),
    )
