-- The revisions of a dump, record by record.
use Rattle.std.proofs.Common.{◌≡◌, ℕ, zero, suc, ◌+◌, ◌<◌, ◌==◌, Bool, true, false, ◌&&◌, List, [], ◌∷◌, ◌++◌, length, Some, None, if◌then◌else◌, is_some, unwrap_or, ◌||◌, refl, sym, ap, ◌∙◌, subst, arith, append-nil, append_assoc}
use Rattle.std.proofs.Math.Bool.{and-false}
use Rattle.std.proofs.lemmas.Bool.{and_from, eq-eqb}
use Rattle.std.specs.List.{list_any}
use Rattle.dump_records.specs.DumpText.{Ending, HasRecords}
use Rattle.dump_records.specs.RecordText.{DumpRecord}
use Rattle.dump_records.specs.declared.cutter.Cut.{Cut}
use Rattle.dump_records.specs.declared.cutter.Cut.TheVariants as cuts
use Rattle.dump_records.specs.declared.record.Record.{Record}
use Rattle.dump_records.specs.steps.CutRecords.{EndsAfter}
use Rattle.dump_records.specs.steps.CutterState.{CutterState}
use Rattle.dump_records.specs.steps.RecordViews.{CutStep, record_item}
use Rattle.dump_records.proofs.ListLaw.{each_dump_has_one_list}
use Rattle.dump_digest.specs.RecordParts.{is_revision_record}
use Rattle.dump_filter.specs.Groups.{revision_number, revision_numbers}
use Rattle.dump_history.specs.DumpChanges.{counts_from}
use Rattle.dump_changes.specs.steps.ListedDumps.{are_numbered}
use Rattle.dump_cut.specs.LaterParts.{place_of_first}
use Rattle.dump_cut.specs.steps.CountedRevisions.{counted_from}
use Rattle.dump_records.proofs.CutterLemmas.{ReadSoFar, goes_on, none_read, not_broken, read_ends, read_more}

-- the records that the cutter has returned contain no such record
pub record NoneSoFar (is_such : DumpRecord → Bool) (dump : List ℕ) (cutter : CutterState) : Type 0 where
  pub read : ReadSoFar dump cutter
  pub none : (end : ℕ) (rest : List DumpRecord) → place_of_first is_such end (read.before ++ rest) ≡ place_of_first is_such end rest

pub none_yet : (is_such : DumpRecord → Bool) (dump : List ℕ) (cutter : CutterState)
    → cutter ≡ record { dump = dump; number = 0 } → NoneSoFar is_such dump cutter
none_yet is_such dump cutter is = record { read = none_read dump cutter is; none = λ end rest. refl }

module _ (is_such : DumpRecord → Bool) (dump : List ℕ) (cutter after : CutterState) (known : NoneSoFar is_such dump cutter) where
  module _ (item : Record) (step : CutStep cutter (cuts.Item item) after) where
    pub none_more : is_such (record_item item) ≡ false → NoneSoFar is_such dump after
    none_more other = record {
      read = read_more dump cutter after known.read item step;
      none = λ end rest. ap (place_of_first is_such end) (append_assoc known.read.before (record_item item ∷ []) rest)
          ∙ known.none end (record_item item ∷ rest)
          ∙ ap (λ b. if b then (record_item item).place else place_of_first is_such end rest) other;
    }

    pub is_first : is_such (record_item item) ≡ true → (records : List DumpRecord) → HasRecords dump records Ending.Whole
        → (record_item item).place ≡ place_of_first is_such (length dump) records
    is_first such records has =
        let (rest, is) = goes_on dump cutter after known.read item step records has in
        sym (ap (place_of_first is_such (length dump)) is
        ∙ known.none (length dump) (record_item item ∷ rest)
        ∙ ap (λ b. if b then (record_item item).place else place_of_first is_such (length dump) rest) such)

  -- there is none if the records end
  pub is_none : (found : Cut) → CutStep cutter found after → ((item : Record) → found ≡ cuts.Item item → ⊥)
      → (records : List DumpRecord) → HasRecords dump records Ending.Whole
      → length dump ≡ place_of_first is_such (length dump) records
  is_none (cuts.Item item) step other records has = absurd (other item refl)
  is_none cuts.Finished step other records has =
      let (its, ending, whole, once) = each_dump_has_one_list dump in
      let same : records ≡ known.read.before ++ [] = (once records Ending.Whole has).0
      ∙ sym (once known.read.before Ending.Whole (read_ends dump cutter after known.read Ending.Whole step.0)).0
      ∙ sym (append-nil known.read.before) in
      sym (ap (place_of_first is_such (length dump)) same ∙ known.none (length dump) [])
  is_none (cuts.Fault kind place) step other records has =
      absurd (not_broken dump records cutter.number kind place has
      (subst (λ d. EndsAfter d cutter.number (Ending.Broken kind place)) known.read.dump_is step.0))

-- the revisions that the cutter has returned are numbered 0, 1, 2 and so on, and there are this many
pub record CountedSoFar (dump : List ℕ) (cutter : CutterState) (count : ℕ) : Type 0 where
  pub read : ReadSoFar dump cutter
  pub counted : (rest : List DumpRecord) → counted_from 0 (revision_numbers (read.before ++ rest))
      ≡ counted_from count (revision_numbers rest)

pub none_counted : (dump : List ℕ) (cutter : CutterState) (count : ℕ) → cutter ≡ record { dump = dump; number = 0 }
    → count ≡ 0 → CountedSoFar dump cutter count
none_counted dump cutter count is none = record {
  read = none_read dump cutter is;
  counted = λ rest. ap (λ n. counted_from n (revision_numbers rest)) (sym none);
}

-- the numbers of a record and those after it
numbers_with : (r : DumpRecord) (rest : List DumpRecord) (b : Bool) → is_revision_record r ≡ b
    → revision_numbers (r ∷ rest) ≡ (if b then revision_number r ∷ revision_numbers rest else revision_numbers rest)
numbers_with r rest true is = rw is refl
numbers_with r rest false is = rw is refl

module _ (dump : List ℕ) (cutter after : CutterState) (count : ℕ) (known : CountedSoFar dump cutter count) where
  module _ (item : Record) (step : CutStep cutter (cuts.Item item) after) where
    one_more_counted : (rest : List DumpRecord) → counted_from 0 (revision_numbers ((known.read.before ++ record_item item ∷ []) ++ rest))
        ≡ counted_from count (revision_numbers (record_item item ∷ rest))
    one_more_counted rest =
        ap (λ (rs : List DumpRecord). counted_from 0 (revision_numbers rs))
        (append_assoc known.read.before (record_item item ∷ []) rest)
        ∙ known.counted (record_item item ∷ rest)

    pub other_counted : is_revision_record (record_item item) ≡ false → CountedSoFar dump after count
    other_counted other = record {
      read = read_more dump cutter after known.read item step;
      counted = λ rest. one_more_counted rest
          ∙ ap (counted_from count) (numbers_with (record_item item) rest false other);
    }

    pub next_counted : (next : ℕ) → is_revision_record (record_item item) ≡ true → revision_number (record_item item) ≡ count
        → next ≡ count + 1 → CountedSoFar dump after next
    next_counted next revision same is = record {
      read = read_more dump cutter after known.read item step;
      counted = λ rest. one_more_counted rest
          ∙ ap (counted_from count) (numbers_with (record_item item) rest true revision)
          ∙ ap (λ b. if b then counted_from (suc count) (revision_numbers rest) else None) (eq-eqb (revision_number (record_item item)) count same)
          ∙ ap (λ n. counted_from n (revision_numbers rest)) (let one : suc count ≡ next = omega (arith, is) in one);
    }

    pub not_counted : is_revision_record (record_item item) ≡ true → (revision_number (record_item item) == count) ≡ false
        → (records : List DumpRecord) → HasRecords dump records Ending.Whole
        → None ≡ counted_from 0 (revision_numbers records)
    not_counted revision differs records has =
        let (rest, is) = goes_on dump cutter after known.read item step records has in
        sym (ap (λ (rs : List DumpRecord). counted_from 0 (revision_numbers rs)) is
        ∙ known.counted (record_item item ∷ rest)
        ∙ ap (counted_from count) (numbers_with (record_item item) rest true revision)
        ∙ ap (λ b. if b then counted_from (suc count) (revision_numbers rest) else None) differs)

  pub all_counted : (found : Cut) → CutStep cutter found after → ((item : Record) → found ≡ cuts.Item item → ⊥)
      → (records : List DumpRecord) → HasRecords dump records Ending.Whole
      → Some count ≡ counted_from 0 (revision_numbers records)
  all_counted (cuts.Item item) step other records has = absurd (other item refl)
  all_counted cuts.Finished step other records has =
      let (its, ending, whole, once) = each_dump_has_one_list dump in
      let same : records ≡ known.read.before ++ [] = (once records Ending.Whole has).0
      ∙ sym (once known.read.before Ending.Whole (read_ends dump cutter after known.read Ending.Whole step.0)).0
      ∙ sym (append-nil known.read.before) in
      sym (ap (λ (rs : List DumpRecord). counted_from 0 (revision_numbers rs)) same ∙ known.counted [])
  all_counted (cuts.Fault kind place) step other records has =
      absurd (not_broken dump records cutter.number kind place has
      (subst (λ d. EndsAfter d cutter.number (Ending.Broken kind place)) known.read.dump_is step.0))

-- the numbers, as the count says

count_is : (count : ℕ) (numbers : List ℕ) (all : ℕ) → Some all ≡ counted_from count numbers
    → (counts_from count numbers ≡ true) × (all ≡ count + length numbers)
count_is count [] all is = (refl, ap (λ o. unwrap_or o 0) is ∙ omega arith)
count_is count (n ∷ numbers) all is = by_first (count_is (suc count) numbers all) (n == count) refl is
  where
    by_first : (Some all ≡ counted_from (suc count) numbers
        → (counts_from (suc count) numbers ≡ true) × (all ≡ suc count + length numbers))
        → (b : Bool) → (n == count) ≡ b → Some all ≡ (if b then counted_from (suc count) numbers else None)
        → (counts_from count (n ∷ numbers) ≡ true) × (all ≡ count + length (n ∷ numbers))
    by_first rest true same more =
        let (counts, size) = rest more in
        (and_from (n == count) (counts_from (suc count) numbers) same counts, omega arith)
    by_first rest false other more = absurd (let bad : true ≡ false = ap is_some more in cc)

no_count : (count : ℕ) (numbers : List ℕ) → None ≡ counted_from count numbers → counts_from count numbers ≡ false
no_count count [] is = absurd (let bad : false ≡ true = ap is_some is in cc)
no_count count (n ∷ numbers) is = by_first (no_count (suc count) numbers) (n == count) refl is
  where
    by_first : (None ≡ counted_from (suc count) numbers → counts_from (suc count) numbers ≡ false)
        → (b : Bool) → (n == count) ≡ b → None ≡ (if b then counted_from (suc count) numbers else None)
        → counts_from count (n ∷ numbers) ≡ false
    by_first rest true same more = ap (λ b. b && counts_from (suc count) numbers) same ∙ rest more
    by_first rest false other more = ap (λ b. b && counts_from (suc count) numbers) other

-- a dump has a revision exactly if it has a revision number
some_revision : (records : List DumpRecord) → 0 < length (revision_numbers records) → list_any is_revision_record records ≡ true
some_revision [] some = absurd (omega arith)
some_revision (r ∷ records) some = by_first (some_revision records) (is_revision_record r) refl
  where
    by_first : (0 < length (revision_numbers records) → list_any is_revision_record records ≡ true)
        → (b : Bool) → is_revision_record r ≡ b → list_any is_revision_record (r ∷ records) ≡ true
    by_first rest true is = ap (λ b. b || list_any is_revision_record records) is
    by_first rest false is = ap (λ b. b || list_any is_revision_record records) is
        ∙ rest (subst (λ (ns : List ℕ). 0 < length ns) (numbers_with r records false is) some)

no_revision : (records : List DumpRecord) → length (revision_numbers records) ≡ 0 → list_any is_revision_record records ≡ false
no_revision [] none = refl
no_revision (r ∷ records) none = by_first (no_revision records) (is_revision_record r) refl
  where
    by_first : (length (revision_numbers records) ≡ 0 → list_any is_revision_record records ≡ false)
        → (b : Bool) → is_revision_record r ≡ b → list_any is_revision_record (r ∷ records) ≡ false
    by_first rest true is =
        let size = ap (λ (ns : List ℕ). length ns) (numbers_with r records true is) in
        absurd (omega (arith, size, none))
    by_first rest false is = ap (λ b. b || list_any is_revision_record records) is
        ∙ rest (ap (λ (ns : List ℕ). length ns) (sym (numbers_with r records false is)) ∙ none)

above_zero : (n : ℕ) → (n ≡ 0 → ⊥) → 0 < n
above_zero zero other = absurd (other refl)
above_zero (suc n) other = omega arith

module _ (records : List DumpRecord) where
  pub uncounted : None ≡ counted_from 0 (revision_numbers records) → are_numbered records ≡ false
  uncounted is = ap (λ b. list_any is_revision_record records && b) (no_count 0 (revision_numbers records) is)
      ∙ and-false (list_any is_revision_record records)

  pub count_zero : (count : ℕ) → count ≡ 0 → Some count ≡ counted_from 0 (revision_numbers records)
      → are_numbered records ≡ false
  count_zero count none is =
      let size = (count_is 0 (revision_numbers records) count is).1 in
      ap (λ b. b && counts_from 0 (revision_numbers records)) (no_revision records (omega (arith, size, none)))

  pub count_some : (count : ℕ) → (count ≡ 0 → ⊥) → Some count ≡ counted_from 0 (revision_numbers records)
      → (are_numbered records ≡ true) × (count ≡ length (revision_numbers records))
  count_some count some is =
      let (counts, total) = count_is 0 (revision_numbers records) count is in
      let size : count ≡ length (revision_numbers records) = omega (arith, total) in (
        and_from (list_any is_revision_record records) (counts_from 0 (revision_numbers records))
            (some_revision records (subst (λ n. 0 < n) size (above_zero count some))) counts,
        size,
      )
