-- Worked values of the definitions, computed and proved by the kernel.
use Rattle.dump_cli.proofs.Prelude.{◌≡◌, refl, true, false, [], ◌∷◌, length, Some, None, Ok, Err, codes, inl, inr, ap, arith, lent, report_of, padding, Clean, Fault, Failed, empty_answer, Words, BothDrops, AnswersTo, FilterCall, Order, meaning_of, shown, status_of, BreaksOff, Ran, CarriesOut, Obeys, Drives, IsSilent, TellsBehind, FailsOnlyBehind, is_sink_failure}
use base.Fml.{GName}
use Rattle.clap.proofs.OnLiterals.{clap_on_literals}
use Rattle.dump_text.specs.declared.fault.FaultKind.TheVariants as faults
use Rattle.dump_pipeline.specs.declared.answer.Failure.TheVariants as failures

-- Words

abbrev call : FilterCall
call = record { options = padding; workers = 4; window = 64; quiet = true }

quiet : meaning_of (codes "p" ∷ codes "include" ∷ codes "trunk" ∷ codes "--quiet" ∷ []) ≡ Ok call
unfolding clap_on_literals
quiet = refl

no_prefix : meaning_of (codes "p" ∷ codes "include" ∷ []) ≡ Err Words
unfolding clap_on_literals
no_prefix = refl

own_order : (order : Order) → AnswersTo (Ok (shown order)) (Ok order)
own_order order = refl

refused_for_its_words : AnswersTo (Err Words) (Err Words)
refused_for_its_words = refl

refused_for_others : ¬ AnswersTo (Err BothDrops) (Err Words)
refused_for_others e = cc

-- Drive

broken_off : status_of (Failed failures.Sink 7) ≡ 1
broken_off = refl

well : status_of (Clean (report_of padding [])) ≡ 0
well = refl

silent : IsSilent (Clean (report_of padding [])) true
silent = refl

told : ¬ IsSilent (Clean (report_of padding [])) false
told e = cc

fault_is_told : ¬ IsSilent (Fault faults.HeaderCut 0 0) true
fault_is_told is = is

sink_failed : is_sink_failure (Failed failures.Sink 7) ≡ true
sink_failed = refl

other_failure : is_sink_failure (Failed failures.Memory 7) ≡ false
other_failure = refl

-- the writer took one byte of three
one_of_three : BreaksOff (Some (codes "x")) (Some (codes "xa")) (codes "abc") (Failed failures.Sink 1)
one_of_three = record {
  part = codes "a";
  written = 1;
  begins = (codes "bc", refl);
  appended = refl;
  counted = (codes "a", refl, refl);
  told_is = refl;
}

-- a sink with bytes that wait for the writer says that it failed, and not the answer of the run
broke_behind : (through : GName) → TellsBehind (lent through) (Fault faults.HeaderCut 0 0) (Failed failures.Sink 2)
broke_behind through = inr (refl, (codes "ab", refl, refl))

not_behind : (through : GName) → ¬ TellsBehind (lent through) (Fault faults.HeaderCut 0 0) (Fault faults.HeaderCut 0 0)
not_behind through (inl (_, e)) = let same = ap length e in omega arith
not_behind through (inr (e, _)) = cc

failed_behind : FailsOnlyBehind 0 1 (Fault faults.HeaderCut 0 0) (Failed failures.Sink 2)
failed_behind first e = inl (omega arith)

did_not_fail : ¬ FailsOnlyBehind 0 0 (Fault faults.HeaderCut 0 0) (Failed failures.Sink 2)
did_not_fail is = elim (is 0 refl) [
  | inl less ↦ omega arith
  | inr e ↦ omega arith
]

-- an empty input is an empty dump
empty_input : Ran padding [] (Some []) (Some []) (Fault faults.HeaderCut 0 0)
empty_input = record {
  answer = Fault faults.HeaderCut 0 0;
  sent = [];
  answered = empty_answer;
  arrived = inl (refl, refl);
}

no_input : CarriesOut padding None (Some []) (Some []) 1
no_input = inr (refl, refl)

nothing_written : Obeys (Err Words) None (Some []) (Some []) 2
nothing_written = (refl, refl)

other_status : ¬ Obeys (Err Words) None (Some []) (Some []) 1
other_status (_, e) = omega arith

no_order : Drives (Err Words) None (Some []) (Some []) 2
no_order = (Err Words, refl, (refl, refl))
