-- A dump has one answer under given options.
use Rattle.dump_pipeline.proofs.Prelude.{◌≡◌, ℕ, ◌+◌, ◌<◌, ◌≤◌, Bool, true, false, List, [], ◌∷◌, ◌++◌, take, drop, length, refl, sym, ap, ◌∙◌, subst, arith, append_assoc, inl, inr, take-append-drop, length-take-le, same_from_push, FaultKind, DumpRecord, Ending, BeginsWithRecords, HasRecords, least_once, records_once, within, begins_prefix, begins_once, Settings, report_of, kept_revisions, AreFaultFree, HoldsOfRecord, IsRecordFault, IsWrittenText, free_none, begins_none, outputs_once, Answer, Clean, Fault, Failed, HasFirstFault, IsFilterAnswer, EachDumpHasOneAnswer}
use Rattle.std.proofs.Common.{length-append}
use Rattle.dump_pipeline.proofs.RunLemmas.{goes_on}

-- what is written of the same records is the same text
written_once : (settings : Settings) (ended : Bool) (rs ss : List DumpRecord) (x y : List ℕ) → rs ≡ ss
    → IsWrittenText settings ended rs x → IsWrittenText settings ended ss y → x ≡ y
written_once settings ended rs ss x y same a b = outputs_once settings ended (kept_revisions settings rs) rs x y a
    (subst (λ (l : List DumpRecord). IsWrittenText settings ended l y) (sym same) b)

module _ (settings : Settings) (dump : List ℕ) where
  -- a record with a fault isn't among records that have none
  passes : (before : List DumpRecord) (r : DumpRecord) (kind : FaultKind) (all : List DumpRecord)
      → BeginsWithRecords dump (before ++ r ∷ []) → IsRecordFault settings before r kind
      → BeginsWithRecords dump all → AreFaultFree settings all → length (before ++ r ∷ []) ≤ length all → ⊥
  passes before r kind all begins fault have free short = free before (drop n all) r split kind fault.holds
    where
      n : ℕ
      n = length (before ++ r ∷ [])

      listed : take n all ++ drop n all ≡ all
      listed = take-append-drop n all

      front : before ++ r ∷ [] ≡ take n all
      front = begins_once dump (before ++ r ∷ []) (take n all) (sym (length-take-le n all short)) begins
          (begins_prefix dump (take n all) (drop n all) (subst (BeginsWithRecords dump) (sym listed) have))

      split : all ≡ before ++ r ∷ drop n all
      split = sym listed ∙ ap (λ (l : List DumpRecord). l ++ drop n all) (sym front)
          ∙ append_assoc before (r ∷ []) (drop n all)

  -- it isn't in a dump either of which no record has one
  refused : (before : List DumpRecord) (r : DumpRecord) (kind : FaultKind) (all : List DumpRecord) (ending : Ending)
      → BeginsWithRecords dump (before ++ r ∷ []) → IsRecordFault settings before r kind
      → HasRecords dump all ending → AreFaultFree settings all → ⊥
  refused before r kind all ending begins fault has free = passes before r kind all begins fault
      (has.0, has.1, has.2) free (within dump all ending has (before ++ r ∷ []) begins)

  -- the records before the first fault are as many
  as_many : (before others : List DumpRecord) (r s : DumpRecord) (kind other : FaultKind)
      → BeginsWithRecords dump (before ++ r ∷ []) → BeginsWithRecords dump (others ++ s ∷ [])
      → IsRecordFault settings before r kind → IsRecordFault settings others s other
      → AreFaultFree settings before → AreFaultFree settings others → length before ≡ length others
  as_many before others r s kind other a b fault fault' free free' = neither (length before) (length others)
      (λ low. passes before r kind others a fault (begins_prefix dump others (s ∷ []) b) free'
      (let size = length-append before (r ∷ []) in omega arith))
      (λ low. passes others s other before b fault' (begins_prefix dump before (r ∷ []) a) free
      (let size = length-append others (s ∷ []) in omega arith))
    where
      neither : (m n : ℕ) → (m < n → ⊥) → (n < m → ⊥) → m ≡ n
      neither m n p q = grind arith

  -- a dump has one first fault
  fault_once : (before others : List DumpRecord) (kind other : FaultKind) (place another : ℕ)
      → HasFirstFault settings dump before kind place → HasFirstFault settings dump others other another
      → (before ≡ others) × (kind ≡ other) × (place ≡ another)
  fault_once before others kind other place another (free, inl (r, a, fault, at)) (free', inl (s, b, fault', at')) = (
    same.0,
    least_once (HoldsOfRecord settings before r) kind other fault moved,
    at ∙ ap (λ (x : DumpRecord). x.place) same.1 ∙ sym at',
  )
    where
      count : length before ≡ length others
      count = as_many before others r s kind other a b fault fault' free free'

      same : (before ≡ others) × (r ≡ s)
      same = same_from_push before others r s (begins_once dump (before ++ r ∷ []) (others ++ s ∷ [])
          (length-append before (r ∷ []) ∙ ap (λ n. n + 1) count ∙ sym (length-append others (s ∷ []))) a b)

      moved : IsRecordFault settings before r other
      moved = subst (λ (l : List DumpRecord). IsRecordFault settings l r other) (sym same.0)
          (subst (λ (x : DumpRecord). IsRecordFault settings others x other) (sym same.1) fault')
  fault_once before others kind other place another (free, inl (r, a, fault, at)) (free', inr has) =
      absurd (refused before r kind others (Ending.Broken other another) a fault has free')
  fault_once before others kind other place another (free, inr has) (free', inl (s, b, fault', at')) =
      absurd (refused others s other before (Ending.Broken kind place) b fault' has free)
  fault_once before others kind other place another (free, inr has) (free', inr has') =
      let same = records_once dump before others (Ending.Broken kind place) (Ending.Broken other another) has has' in
      let ending = same.1 in
      (same.0, cc, cc)

  -- a dump with a fault isn't a dump without one
  not_both : (records before : List DumpRecord) (kind : FaultKind) (place : ℕ) → HasRecords dump records Ending.Whole
      → AreFaultFree settings records → HasFirstFault settings dump before kind place → ⊥
  not_both records before kind place has free (free', inl (r, a, fault, at)) =
      refused before r kind records Ending.Whole a fault has free
  not_both records before kind place has free (free', inr broken) =
      let ending = (records_once dump records before Ending.Whole (Ending.Broken kind place) has broken).1 in cc

  -- it doesn't have two answers, or two texts
  answer_once : (text other_text : List ℕ) (answer other : Answer) → IsFilterAnswer settings dump text answer
      → IsFilterAnswer settings dump other_text other → (text ≡ other_text) × (answer ≡ other)
  answer_once x y (Clean report) (Clean report') (records, clean, counts) (records', clean', counts') =
      let same = (records_once dump records records' Ending.Whole Ending.Whole clean.whole clean'.whole).0 in (
        written_once settings true records records' x y same clean.written clean'.written,
        ap Clean (counts ∙ ap (report_of settings) same ∙ sym counts'),
      )
  answer_once x y (Clean report) (Fault which number place) (records, clean, counts) (before, fault, written, count) =
      absurd (not_both records before which place clean.whole clean.fault_free fault)
  answer_once x y (Fault which number place) (Clean report) (before, fault, written, count) (records, clean, counts) =
      absurd (not_both records before which place clean.whole clean.fault_free fault)
  answer_once x y (Fault which number place) (Fault which' number' place') (before, fault, written, count)
      (before', fault', written', count') =
      let same = fault_once before before' which which' place place' fault fault' in
      let numbers : number ≡ number' = count ∙ ap (λ (l : List DumpRecord). length l) same.0 ∙ sym count' in (
        written_once settings false before before' x y same.0 written written',
        (λ i. Fault (same.1 i) (numbers i) (same.2 i)),
      )
  answer_once x y (Clean report) (Failed failure n) a b = absurd b
  answer_once x y (Fault which number place) (Failed failure n) a b = absurd b
  answer_once x y (Failed failure n) other a b = absurd a

-- each dump has an answer under given options, and no other
pub each_dump_has_one_answer : EachDumpHasOneAnswer
each_dump_has_one_answer settings dump =
    let (text, answer, is, begins) = goes_on settings dump [] [] (begins_none dump) (free_none settings) refl in
    (text, answer, is, λ other_text other holds. answer_once settings dump other_text text other answer holds is)
