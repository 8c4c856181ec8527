-- A run with its last line, and what is reported once its last bytes are written.
use Rattle.std.proofs.Common.{◌≡◌, ◌<◌, ◌^◌, ℕ, length, true, false, List, [], ◌++◌, take, drop, Option, Some, None, Result, Ok, Err, refl, ◌⊎◌, OnErr, OnOk, ◌||◌, is_some, sym, subst, inl, inr, append_assoc, ap, ◌∙◌}
use Rattle.std.proofs.KnownBytes.{Appends-kept, Appends-trans}
use Rattle.std.proofs.lemmas.List.{append-nil, take-append-drop}
use Rattle.std.specs.Io.KnownBytes.{Appends, GrowsBy, Keeps, append_known}
use Rattle.dump_text.specs.declared.fault.FaultKind.{FaultKind}
use Rattle.dump_rules.specs.Settings.{Settings}
use Rattle.dump_filter.specs.declared.state.Report.{Report}
use Rattle.dump_writer.specs.steps.SinkCalls.{TakesOnlyFirst}
use Rattle.dump_writer.specs.steps.SinkStates.{LentState, lent_taken}
use Rattle.dump_pipeline.specs.RunAnswer.{IsRunAnswer, RunLeaves}
use Rattle.dump_pipeline.specs.declared.answer.Answer.{Answer}
use Rattle.dump_pipeline.specs.declared.answer.Answer.TheVariants.{Clean, Fault}
use Rattle.dump_pipeline.specs.declared.answer.Failure.{Failure}
use Rattle.cli_support.proofs.OutputLemmas.{from_none, handed_on, part_taken}
use Rattle.cut_cli.specs.Sent.{IsTrimmedIf, IsKeptOf, IsPartIf, IsSent, stop_line_of}
use Rattle.cut_cli.specs.steps.Drive.{ArrivesOrBreaksOff, RanCut}
use Rattle.cut_cli.specs.steps.Ended.{FailsFirst, TellsAfter}
use Rattle.dump_writer.specs.SinkWords.{TakesPart}

-- the first bytes of a text, fewer than all
pub first_of : (old new : Option (List ℕ)) (text line : List ℕ) (n : ℕ) → TakesOnlyFirst old new text n → line ≡ text
    → TakesPart old new line
first_of old new text line n (count, low, more, is) same =
    (take count text, (drop count text, same ∙ sym (take-append-drop count text)), more)

-- what is true of a result without an error, or of one with an error
on_ok : {A E P Q : Type 0} (r : Result A E) → OnOk r P → (P → Q) → OnOk r Q
on_ok (Ok x) one then = then one
on_ok (Err e) one then = tt

on_err : {A E P Q : Type 0} (r : Result A E) → OnErr r P → (P → Q) → OnErr r Q
on_err (Ok x) one then = tt
on_err (Err e) one then = then one

-- a first part of the same bytes
pub same_part : {A E : Type 0} (r : Result A E) (old new : Option (List ℕ)) (text line : List ℕ) → text ≡ line
    → OnErr r (TakesPart old new text) → OnErr r (TakesPart old new line)
same_part r old new text line same part = subst (λ t. OnErr r (TakesPart old new t)) same part

-- bytes that come if the buffer is empty
module _ {A E : Type 0} (r : Result A E) (a d : Option (List ℕ)) (waiting piece all : List ℕ) (none : waiting ≡ [])
    (same : piece ≡ all) where
  pub moved_whole : OnOk r (Appends (append_known a waiting) d piece) → OnOk r (Appends (append_known a []) d all)
  moved_whole whole =
      subst (λ w. OnOk r (Appends (append_known a w) d all)) none
      (subst (λ p. OnOk r (Appends (append_known a waiting) d p)) same whole)

  pub moved_part : OnErr r (TakesPart (append_known a waiting) d piece) → OnErr r (TakesPart (append_known a []) d all)
  moved_part part =
      subst (λ w. OnErr r (TakesPart (append_known a w) d all)) none
      (subst (λ p. OnErr r (TakesPart (append_known a waiting) d p)) same part)

module _ (answer : Answer) (sent : List ℕ) (a d : Option (List ℕ)) (sink : LentState)
    (kept : Keeps d (lent_taken sink)) (start : sink.out.start ≡ a) where
  -- of a first part the last bytes may wait for a writer that failed
  first_taken : (n : ℕ) → GrowsBy a sink.out.taken n → TakesPart (append_known a []) d (sent ++ stop_line_of answer)
      → TakesPart a sink.out.taken (sent ++ stop_line_of answer)
  first_taken n grown (part, (rest, is), more) =
      let (taken, (behind, parts), appended) = part_taken a sink.out.taken sink.waiting part n grown
      (Appends-kept a d (lent_taken sink) part (from_none a d part more) kept) in (
        taken,
        (behind ++ rest, is ∙ ap (λ l. l ++ rest) parts ∙ append_assoc taken behind rest),
        appended,
      )

  -- bytes with what is reported once they are written
  pub told_after : {A : Type 0} (ending : Result A Failure) (told : Answer)
      → OnOk ending (Appends (append_known a []) d (sent ++ stop_line_of answer))
      → OnErr ending (TakesPart (append_known a []) d (sent ++ stop_line_of answer))
      → TellsAfter sink answer ending told → ArrivesOrBreaksOff sent answer a sink.out.taken told
  told_after (Ok x) told whole part (inl all) =
      inl (handed_on a d sink (sent ++ stop_line_of answer) whole kept all.2, all.0)
  told_after (Err e) told whole part (inl all) = absurd (let bad : false ≡ true = all.1 in cc)
  told_after (Ok x) told whole part (inr (failure, written, is, grown)) =
      let counted = subst (λ s. GrowsBy s sink.out.taken written) start grown in
      inr (record {
        failure = failure;
        written = written;
        part = first_taken written counted
            (sent ++ stop_line_of answer, ([], sym (append-nil (sent ++ stop_line_of answer))), whole);
        counted = counted;
        told_is = is;
      })
  told_after (Err e) told whole part (inr (failure, written, is, grown)) =
      let counted = subst (λ s. GrowsBy s sink.out.taken written) start grown in
      inr (record {
        failure = failure;
        written = written;
        part = first_taken written counted part;
        counted = counted;
        told_is = is;
      })

-- a run with what is reported after it
pub ran_and_told : (settings : Settings) (dump : List ℕ) (answer : Answer) (a b d : Option (List ℕ)) (sink : LentState)
    → RunLeaves settings dump (append_known a []) b answer → Keeps d (lent_taken sink) → sink.out.start ≡ a
    → {A : Type 0} (ending : Result A Failure) (told : Answer)
    → OnOk ending (Appends b d (stop_line_of answer)) → OnErr ending (TakesPart b d (stop_line_of answer))
    → TellsAfter sink answer ending told → RanCut settings None None dump a sink.out.taken told
ran_and_told settings dump answer a b d sink ran kept start ending told whole part tells = record {
  answer = answer;
  sent = ran.received;
  answered = ran.answered;
  arrived = told_after answer ran.received a d sink kept start ending told
      (on_ok ending whole
      (λ more. Appends-trans (append_known a []) b d ran.received (stop_line_of answer) ran.appended more))
      (on_err ending part with_front) tells;
}
  where
    with_front : TakesPart b d (stop_line_of answer)
        → TakesPart (append_known a []) d (ran.received ++ stop_line_of answer)
    with_front (first, (rest, is), more) = (
      ran.received ++ first,
      (rest, ap (λ l. ran.received ++ l) is ∙ sym (append_assoc ran.received first rest)),
      Appends-trans (append_known a []) b d ran.received first ran.appended more,
    )

-- what is written after a run that left this in a memory that was empty
pub in_memory : (settings : Settings) (deletes : Option (List (List (List ℕ)))) (after : Option ℕ)
    (dump filtered sent : List ℕ) (answer : Answer) → (is_some deletes || is_some after) ≡ true
    → RunLeaves settings dump (Some []) (Some filtered) answer → IsKeptOf deletes after filtered sent answer
    → IsSent settings deletes after dump sent answer
in_memory settings None None dump filtered sent answer asked ran kept = absurd (let bad : false ≡ true = asked in cc)
in_memory settings None (Some number) dump filtered sent answer asked ran kept =
    (filtered, subst (λ bytes. IsRunAnswer settings dump bytes answer) (sym ran.appended) ran.answered, kept)
in_memory settings (Some deletes) after dump filtered sent answer asked ran kept =
    (filtered, subst (λ bytes. IsRunAnswer settings dump bytes answer) (sym ran.appended) ran.answered, kept)

-- after a run with a fault nothing is written
pub nothing_kept : (deletes : Option (List (List (List ℕ)))) (after : Option ℕ) (filtered : List ℕ) (answer : Answer)
    (kind : FaultKind) (number place : ℕ) → answer ≡ Fault kind number place → IsKeptOf deletes after filtered [] answer
nothing_kept deletes after filtered answer kind number place is =
    subst (λ a. IsKeptOf deletes after filtered [] a) (sym is) refl

-- a cut, or its part, is written of what a run without a fault left in memory; or nothing is
module _ (deletes : Option (List (List (List ℕ)))) (after : Option ℕ) (filtered : List ℕ) (report : Report)
    (old new : Option (List ℕ)) (told : Answer) where
  abbrev pub IsSentOf : List ℕ → Type 0
  IsSentOf cut = ((sent : List ℕ) × IsPartIf after cut sent × ArrivesOrBreaksOff sent (Clean report) old new told)
      ⊎ (Keeps old new × FailsFirst told)

  abbrev pub IsCutSent : Type 0
  IsCutSent = ((cut sent : List ℕ) × (length filtered < 10 ^ 18) × IsTrimmedIf deletes filtered cut × IsPartIf after cut sent
      × ArrivesOrBreaksOff sent (Clean report) old new told) ⊎ (Keeps old new × FailsFirst told)

  pub cut_sent : (cut : List ℕ) → length filtered < 10 ^ 18 → IsTrimmedIf deletes filtered cut → IsSentOf cut → IsCutSent
  cut_sent cut short trims (inl (sent, part, arrives)) = inl (cut, sent, short, trims, part, arrives)
  cut_sent cut short trims (inr failed) = inr failed

  pub ran_and_sent : (settings : Settings) (dump : List ℕ) (answer : Answer) → (is_some deletes || is_some after) ≡ true
      → RunLeaves settings dump (Some []) (Some filtered) answer → answer ≡ Clean report → IsCutSent
      → RanCut settings deletes after dump old new told ⊎ (Keeps old new × FailsFirst told)
  ran_and_sent settings dump answer asked ran is (inl (cut, sent, short, trims, part, arrives)) = inl (record {
    answer = answer;
    sent = sent;
    answered = in_memory settings deletes after dump filtered sent answer asked ran
        (subst (λ a. IsKeptOf deletes after filtered sent a) (sym is) (cut, short, trims, part));
    arrived = subst (λ a. ArrivesOrBreaksOff sent a old new told) (sym is) arrives;
  })
  ran_and_sent settings dump answer asked ran is (inr failed) = inr failed

-- a run without deletes, whose whole text is written
pub ran_plain : (settings : Settings) (deletes : Option (List (List (List ℕ)))) (after : Option ℕ) (dump : List ℕ)
    (old new : Option (List ℕ)) (told : Answer) → (is_some deletes || is_some after) ≡ false
    → RanCut settings None None dump old new told → RanCut settings deletes after dump old new told
ran_plain settings None None dump old new told plain ran = ran
ran_plain settings None (Some number) dump old new told plain ran = absurd (let bad : true ≡ false = plain in cc)
ran_plain settings (Some deletes) after dump old new told plain ran = absurd (let bad : true ≡ false = plain in cc)
