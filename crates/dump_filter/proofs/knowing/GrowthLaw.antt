-- What is written for the first records of a dump is the beginning of what is written for more of them.
use Rattle.dump_filter.proofs.Prelude.{◌≡◌, ℕ, Bool, true, false, List, [], ◌∷◌, ◌++◌, sym, ap, ◌∙◌, append_assoc, IsPrefixOf, DumpRecord, Settings, kept_revisions, AreFaultFree, IsWrittenText, WrittenOnlyGrows}
use Rattle.dump_filter.proofs.knowing.OnceLemmas.{outputs_once}
use Rattle.dump_filter.proofs.knowing.FilterLemmas.{free_none}
use Rattle.dump_filter.proofs.knowing.Answered.{AllLawful, all_lawful, lawful_front, lawful_behind, Reached, reached_none, reached_written, Outcome, reach, follow}
use Rattle.dump_filter.proofs.knowing.Answered.Outcome.{Stops, Ends}

written_once : (settings : Settings) (ended : Bool) (records : List DumpRecord) (x y : List ℕ)
    → IsWrittenText settings ended records x → IsWrittenText settings ended records y → x ≡ y
written_once settings ended records x y = outputs_once settings ended (kept_revisions settings records) records x y

-- the first records of a list without a fault have none
pub front_free : (settings : Settings) (records more : List DumpRecord) → AreFaultFree settings (records ++ more)
    → AreFaultFree settings records
front_free settings records more free before after r is =
    free before (after ++ more) r (ap (λ (l : List DumpRecord). l ++ more) is ∙ append_assoc before (r ∷ after) more)

-- what is written for the first records is the beginning of what is written for them and more
pub written_only_grows : WrittenOnlyGrows
written_only_grows settings ended dump records more old new begins free was is = by_outcome
    (follow settings records more later first_free reached)
  where
    all : AllLawful (records ++ more)
    all = all_lawful 0 0 dump begins.0 (records ++ more) begins.1

    later : AllLawful more
    later = lawful_behind records more all

    first_free : AreFaultFree settings records
    first_free = front_free settings records more free

    reached : Reached settings records
    reached = reach settings [] records (lawful_front records more all) first_free (free_none settings)
        (reached_none settings)

    same : reached.text ≡ old
    same = written_once settings false records reached.text old (reached_written settings records reached) was

    begin : (rest : List ℕ) → new ≡ reached.text ++ rest → IsPrefixOf old new
    begin rest e = (rest, e ∙ ap (λ t. t ++ rest) same)

    by_ended : (e : Bool) → IsWrittenText settings e (records ++ more) new → (front : List ℕ)
        → IsWrittenText settings false (records ++ more) (reached.text ++ front) → (end : List ℕ)
        → IsWrittenText settings true (records ++ more) ((reached.text ++ front) ++ end) → IsPrefixOf old new
    by_ended true written front going end whole =
        begin (front ++ end) (written_once settings true (records ++ more) new
        ((reached.text ++ front) ++ end) written whole ∙ append_assoc reached.text front end)
    by_ended false written front going end whole = begin front
        (written_once settings false (records ++ more) new (reached.text ++ front) written going)

    by_outcome : Outcome settings records more reached.text → IsPrefixOf old new
    by_outcome (Stops mid after r fault at front has rest written) =
        absurd (free (records ++ mid) after r (ap (λ (l : List DumpRecord). records ++ l) at
        ∙ sym (append_assoc records mid (r ∷ after))) fault has.holds)
    by_outcome (Ends fine front going end whole) = by_ended ended is front going end whole
