-- An output that broke off.
use Rattle.dump_cli.proofs.Prelude.{◌≡◌, ℕ, List, [], Option, refl, sym, subst, inl, inr, Appends-kept, Keeps, GrowsBy, append_known, from_none, handed_on, part_taken, Settings, LentState, lent_taken, Answer, Failed, RunLeaves, Ran, TellsBehind}
use Rattle.dump_pipeline.specs.declared.answer.Failure.TheVariants as failures

-- a run whose last bytes wait for a writer that failed
pub broke_off : (settings : Settings) (input : List ℕ) (answer : Answer) (a b c : Option (List ℕ)) (waiting : List ℕ)
    (n : ℕ)
    → RunLeaves settings input (append_known a []) b answer → Keeps b (append_known c waiting) → GrowsBy a c n
    → Ran settings input a c (Failed failures.Sink n)
broke_off settings input answer a b c waiting n ran kept grown =
    let all = Appends-kept a b (append_known c waiting) ran.received (from_none a b ran.received ran.appended) kept in
    let part = part_taken a c waiting ran.received n grown all in
    record {
      answer = answer;
      sent = ran.received;
      answered = ran.answered;
      arrived = inr
          (record { part = part.0; written = n; begins = part.1; appended = part.2; counted = grown; told_is = refl });
    }

-- a run with what is reported after it
pub ran_and_told : (settings : Settings) (input : List ℕ) (answer told : Answer) (a b : Option (List ℕ))
    (sink : LentState)
    → RunLeaves settings input (append_known a []) b answer → Keeps b (lent_taken sink) → sink.out.start ≡ a
    → TellsBehind sink answer told
    → Ran settings input a sink.out.taken told
ran_and_told settings input answer told a b sink ran kept start (inl all) =
    record {
      answer = answer;
      sent = ran.received;
      answered = ran.answered;
      arrived = inl (handed_on a b sink ran.received ran.appended kept all.1, all.0);
    }
ran_and_told settings input answer told a b sink ran kept start (inr down) =
    subst (λ t. Ran settings input a sink.out.taken t) (sym down.0)
    (broke_off settings input answer a b sink.out.taken sink.waiting sink.out.written ran kept
    (subst (λ s. GrowsBy s sink.out.taken sink.out.written) start down.1))
