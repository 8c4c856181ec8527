-- A new value remains a new value if only higher revisions are kept later.
use Rattle.dump_rules.proofs.Prelude.{◌≡◌, ℕ, ◌+◌, ◌<◌, ◌≤◌, Bool, true, false, cond, MatchBool, List, [], ◌∷◌, ◌++◌, suc, refl, sym, ap, ◌∙◌, arith, inl, inr, Contains, nat_lt, AllZip, All-head, All-tail, All-contains, Contains-append_left, Contains-append_cases, sum_by-append, Settings, KeptRevisions, new_number, Range, HasNumber, MergeLine, IsRenumberedMap, IsSameMap, IsNewLine, IsNewMergeinfo, HasForeignNumber, staying_lines}
use Rattle.std.proofs.Common.{All}
use Rattle.dump_rules.proofs.ReachLemmas.{below, below-cons, is_not_below}
use Rattle.dump_rules.proofs.faults.MergeFaults.{foreign_below}

abbrev pub with_later : KeptRevisions → List ℕ → KeptRevisions
with_later kept more = record kept { numbers = kept.numbers ++ more }

-- higher revisions change no new number, and aren't among the lower ones

none_lower : (now k : ℕ) (more : List ℕ) → All (λ later. now < later) more → k ≤ now → below k more ≡ 0
none_lower now k [] all low = refl
none_lower now k (later ∷ more) all low =
    let high : now < later = All-head (λ n. now < n) later more all in
    let rest = none_lower now k more (All-tail (λ n. now < n) later more all) low in
    below-cons k later more ∙ rw (is_not_below later k (omega arith), rest) refl

pub same_number : (kept : KeptRevisions) (more : List ℕ) (now k : ℕ) → All (λ later. now < later) more → k ≤ now
    → new_number (with_later kept more) k ≡ new_number kept k
same_number kept more now k all low =
    let parts = sum_by-append (λ j. cond (nat_lt j k) 1 0) kept.numbers more in
    let none = none_lower now k more all low in
    let count : below k (kept.numbers ++ more) ≡ below k kept.numbers = omega arith in
    ap (λ n. kept.first + n) count

pub was_kept : (numbers more : List ℕ) (now k : ℕ) → All (λ later. now < later) more → k ≤ now
    → Contains (numbers ++ more) k → Contains numbers k
was_kept numbers more now k all low has = elim (Contains-append_cases numbers more k has) [
  | inl before ↦ before
  | inr later ↦ (let high : now < k = All-contains (λ n. now < n) more k all later in absurd (omega arith))
]

-- maps

abbrev IsUpTo : ℕ → List Range → Type 0
IsUpTo now ranges = (kind : Bool) (number : ℕ) → HasNumber ranges kind number → number ≤ now

same_map : (kept : KeptRevisions) (more : List ℕ) (now : ℕ) → All (λ later. now < later) more → (old new : List Range)
    → IsUpTo now old
    → IsRenumberedMap kept old new → IsRenumberedMap (with_later kept more) old new
same_map kept more now all old new low map kind number = (
  λ h.
      let from = (map kind number).0 h in (
        from.0,
        Contains-append_left kept.numbers more from.0 from.1,
        same_number kept more now from.0 all
            (low kind from.0 from.3) ∙ from.2,
        from.3,
      ),
  λ from.
      let within = low kind from.0 from.3 in
      (map kind number).1 (
        from.0,
        was_kept kept.numbers more now from.0 all within from.1,
        sym
            (same_number kept more now from.0 all within) ∙ from.2,
        from.3,
      ),
)

-- lines

abbrev LaterAfter : Settings → List ℕ → ℕ → Type 0
LaterAfter settings more now = settings.renumber ≡ true → All (λ later. now < later) more

same_line : (settings : Settings) (kept : KeptRevisions) (more : List ℕ) (now : ℕ) → LaterAfter settings more now
    → (old new : MergeLine)
    → (settings.renumber ≡ true → IsUpTo now old.ranges) → IsNewLine settings kept old new
    → IsNewLine settings (with_later kept more) old new
same_line settings kept more now after old new low is = record {
  path = is.path;
  runs = is.runs;
  numbers = go settings.renumber refl is.numbers;
}
  where
    go : (renumber : Bool) → settings.renumber ≡ renumber
        → MatchBool renumber (IsRenumberedMap kept old.ranges new.ranges) (IsSameMap old.ranges new.ranges)
        → MatchBool renumber (IsRenumberedMap (with_later kept more) old.ranges new.ranges)
        (IsSameMap old.ranges new.ranges)
    go true e map = same_map kept more now (after e) old.ranges new.ranges (low e) map
    go false e map = map

each_line : (settings : Settings) (before after : KeptRevisions) (lines new_lines : List MergeLine)
    → ((old new : MergeLine) → Contains lines old → IsNewLine settings before old new
    → IsNewLine settings after old new)
    → AllZip (IsNewLine settings before) lines new_lines → AllZip (IsNewLine settings after) lines new_lines
each_line settings before after [] [] one all = tt
each_line settings before after (old ∷ lines) (new ∷ new_lines) one all = (
  one old new (0, omega arith, refl) all.0,
  each_line settings before after lines new_lines (λ o n has. one o n
      (let within = has.1 in (suc has.0, omega arith, has.2))) all.1,
)
each_line settings before after lines new_lines one all = absurd all

-- a new value remains one after higher revisions are kept, if the old value has no foreign number
pub later_revisions : (settings : Settings) (kept : KeptRevisions) (more : List ℕ) (now : ℕ) (value new : List ℕ)
    → (settings.renumber ≡ true → All (λ later. now < later) more) → ¬ HasForeignNumber settings kept now value
    → IsNewMergeinfo settings kept value new → IsNewMergeinfo settings
    (record kept { numbers = kept.numbers ++ more }) value new
later_revisions settings kept more now value new after none (lines, new_lines, is, all, written) = (
  lines,
  new_lines,
  is,
  each_line settings kept (with_later kept more) (staying_lines settings lines) new_lines
      (λ old line has. same_line settings kept more now after old line
      (λ renumber. foreign_below settings kept now value none renumber lines is old has)) all,
  written,
)
