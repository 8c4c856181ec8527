-- The records that a cutter has returned, in a loop over the records of a dump.
use Rattle.std.proofs.Common.{◌≡◌, ℕ, ◌+◌, ◌≤◌, List, [], ◌∷◌, ◌++◌, length, length-append, drop, sym, ap, ◌∙◌, subst, arith, append_assoc}
use Rattle.std.proofs.lemmas.List.{take-append-drop}
use Rattle.dump_text.specs.declared.fault.FaultKind.{FaultKind}
use Rattle.dump_records.specs.DumpText.{BeginsWithRecords, Ending, HasRecords}
use Rattle.dump_records.specs.RecordText.{DumpRecord}
use Rattle.dump_records.specs.declared.cutter.Cut.TheVariants as cuts
use Rattle.dump_records.specs.declared.record.Record.{Record}
use Rattle.dump_records.specs.steps.CutRecords.{EndsAfter, IsRecordOf}
use Rattle.dump_records.specs.steps.CutterState.{CutterState}
use Rattle.dump_records.specs.steps.RecordViews.{CutStep, record_item}
use Rattle.dump_records.proofs.CutLemmas.{count_fits}
use Rattle.dump_records.proofs.ListLaw.{each_dump_has_one_list}
use Rattle.dump_records.proofs.Prefixes.{begins_prefix, is_front, one_more, whole_list}

-- a dump begins with no records
pub begins_with_none : (dump : List ℕ) → BeginsWithRecords dump []
begins_with_none dump =
    let (records, ending, has, once) = each_dump_has_one_list dump in
    begins_prefix dump [] records (has.0, has.1, has.2)

-- the records that the cutter has returned
pub record ReadSoFar (dump : List ℕ) (cutter : CutterState) : Type 0 where
  pub dump_is : cutter.dump ≡ dump
  pub before : List DumpRecord
  pub begins : BeginsWithRecords dump before
  pub count : length before ≡ cutter.number

abbrev pub none_read : (dump : List ℕ) (cutter : CutterState) → cutter ≡ record { dump = dump; number = 0 } → ReadSoFar dump cutter
none_read dump cutter is = record {
  dump_is = ap (λ (c : CutterState). c.dump) is;
  before = [];
  begins = begins_with_none dump;
  count = sym (ap (λ (c : CutterState). c.number) is);
}

module _ (dump : List ℕ) (cutter after : CutterState) (read : ReadSoFar dump cutter) where
  module _ (item : Record) (step : CutStep cutter (cuts.Item item) after) where
    pub begins_more : BeginsWithRecords dump (read.before ++ record_item item ∷ [])
    begins_more =
        subst (λ d. BeginsWithRecords d (read.before ++ record_item item ∷ [])) read.dump_is
        (one_more cutter.dump read.before (record_item item)
        (subst (λ d. BeginsWithRecords d read.before) (sym read.dump_is) read.begins)
        ∣ subst (λ n. IsRecordOf cutter.dump n (record_item item)) (sym read.count) step.2 ∣₁)

    -- the cutter is nearer to the end
    pub read_nearer : (after.number ≡ cutter.number + 1) × (after.number ≤ length dump)
    read_nearer =
        let more = begins_more in
        let fits = count_fits 0 0 dump more.0 (read.before ++ record_item item ∷ []) more.1 in
        let size = length-append read.before (record_item item ∷ []) in
        let its = read.count in
        let number = ap (λ (c : CutterState). c.number) step.3 in
        (number, omega arith)

    abbrev pub read_more : ReadSoFar dump after
    read_more = record {
      dump_is = ap (λ (c : CutterState). c.dump) step.3 ∙ read.dump_is;
      before = read.before ++ record_item item ∷ [];
      begins = begins_more;
      count = length-append read.before (record_item item ∷ [])
          ∙ (ap (λ n. n + 1) read.count ∙ sym (ap (λ (c : CutterState). c.number) step.3));
    }

    -- the records of a whole dump continue after these
    pub goes_on : (records : List DumpRecord) → HasRecords dump records Ending.Whole
        → (rest : List DumpRecord) × (records ≡ read.before ++ record_item item ∷ rest)
    goes_on records has =
        let all = read.before ++ record_item item ∷ [] in
        let front = is_front dump records Ending.Whole has all begins_more in (
          drop (length all) records,
          sym (take-append-drop (length all) records)
              ∙ ap (λ (rs : List DumpRecord). rs ++ drop (length all) records) (sym front)
              ∙ append_assoc read.before (record_item item ∷ []) (drop (length all) records),
        )

  -- the state when the records end
  pub read_ends : (ending : Ending) → EndsAfter cutter.dump cutter.number ending → HasRecords dump read.before ending
  read_ends ending ends = whole_list dump read.before ending read.begins
      (subst (λ d. EndsAfter d (length read.before) ending) read.dump_is
      (subst (λ n. EndsAfter cutter.dump n ending) (sym read.count) ends))

-- a whole dump doesn't break off
pub not_broken : (dump : List ℕ) (records : List DumpRecord) (count : ℕ) (kind : FaultKind) (place : ℕ)
    → HasRecords dump records Ending.Whole → EndsAfter dump count (Ending.Broken kind place) → ⊥
not_broken dump records count kind place whole (others, broken, size) =
    let (its, ending, has, once) = each_dump_has_one_list dump in
    let bad : Ending.Whole ≡ Ending.Broken kind place =
    (once records Ending.Whole whole).1 ∙ sym (once others (Ending.Broken kind place) broken).1 in
    cc
