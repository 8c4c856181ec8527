-- What the threads returned, together.
use Rattle.dump_pipeline.proofs.Prelude.{◌≡◌, ◌≢◌, ◌⊎◌, inl, inr, ◌∙◌, ℕ, suc, ◌+◌, ◌≤◌, Bool, true, false, ◌||◌, List, [], ◌∷◌, ◌++◌, length, Option, Some, None, refl, sym, ap, subst, arith, map, sum_by, All, MatchBool, false≢true, or_left, or_cases, map-append, Appends-nil, first_numbers, Clash, IsWaiting, WeighsSame, CutterSide, WorkerSide, all_taken, all_given, Seat, joined_seat, SeesOnlyRaised, no_clash, none_waits, within, Settings, IsPrefixOf, first_state, Answer, Failure, Ghosts, Job, Checked, NumberedPiece, End, job_number, job_numbers, checked_number, checked_numbers, text_of, end_answer, HasCut, HasWorked, HasEndedWith, HasSequenced, HasReceived, IsEndOf, IsFilterPrefix, RunLeaves, ThreadsFailFirst, ⊎_elim, cases_Bool}
use Rattle.dump_pipeline.specs.declared.answer.Answer.TheVariants as answers
use Rattle.dump_pipeline.specs.declared.answer.Failure.TheVariants as failures
use Rattle.dump_pipeline.specs.declared.stage.End.TheVariants as ends
use Rattle.dump_lanes.proofs.Settling.{sum_by-map}
use Rattle.dump_pipeline.proofs.Released.{begins, memory}
use Rattle.dump_pipeline.proofs.RunLemmas.{prefix_trans}

module _ {X : Type 0} where
  -- as many of each number
  weighs_numbers : (number : X → ℕ) (xs ys : List X) → WeighsSame xs ys → WeighsSame (map number xs) (map number ys)
  weighs_numbers number xs ys h f = sum_by-map number f xs
      ∙ (h (λ (x : X). f (number x)) ∙ sym (sum_by-map number f ys))

module _ {D : Type 0} {run : Ghosts D} where
  -- the workers gave one checked item for each job that they took, with its number
  worked_numbers : (ws : List (WorkerSide (Job D run) (Checked D run)))
      → All (λ (w : WorkerSide (Job D run) (Checked D run)). HasWorked w) ws
      → checked_numbers (all_given ws) ≡ job_numbers (all_taken ws)
  worked_numbers [] h = refl
  worked_numbers (w ∷ ws) h =
      map-append checked_number w.given (all_given ws)
      ∙ (ap (λ (l : List ℕ). l ++ checked_numbers (all_given ws)) (h 0 w (omega arith)).numbers
      ∙ (ap (λ (l : List ℕ). job_numbers w.taken ++ l) (worked_numbers ws (λ k d lt. h (suc k) d (omega arith)))
      ∙ sym (map-append job_number w.taken (all_taken ws))))

  -- what the threads of a run returned, together
  pub record AreJoined (settings : Settings) (dump : List ℕ) (cutter : CutterSide (Job D run))
      (ws : List (WorkerSide (Job D run) (Checked D run))) (window : ℕ) (taken : List (Checked D run))
      (put : List NumberedPiece) (end : Option End) (stray seen : Bool) : Type 0 where
    pub cut : HasCut dump cutter seen
    pub worked : All (λ (w : WorkerSide (Job D run) (Checked D run)). HasWorked w) ws
    pub jobs : WeighsSame (all_taken ws) cutter.put
    pub dones : WeighsSame taken (all_given ws)
    pub few : cutter.drawn ≤ window + length put
    pub sequenced : HasSequenced settings dump window taken put end stray

  module _ {settings : Settings} {dump : List ℕ} {cutter : CutterSide (Job D run)}
      {ws : List (WorkerSide (Job D run) (Checked D run))} {window : ℕ} {taken : List (Checked D run)}
      {put : List NumberedPiece} {end : Option End} {stray seen : Bool}
      (h : AreJoined settings dump cutter ws window taken put end stray seen) where
    -- what arrived are this many of the first items, each once
    arrived : WeighsSame (checked_numbers taken) (first_numbers h.cut.count)
    arrived f =
        weighs_numbers checked_number taken (all_given ws) h.dones f
        ∙ (ap (sum_by f) (worked_numbers ws h.worked)
        ∙ (weighs_numbers job_number (all_taken ws) cutter.put h.jobs f ∙ ap (sum_by f) h.cut.numbers))

    order : (b : Bool) → stray ≡ b
        → MatchBool b (Clash window (length put) (checked_numbers taken))
        (IsWaiting (length put) (checked_numbers taken))
    order b e = subst (λ (b : Bool). MatchBool b (Clash window (length put) (checked_numbers taken))
        (IsWaiting (length put) (checked_numbers taken))) e h.sequenced.order

    -- the sequencer found each item where it should be
    pub none_astray : stray ≡ false
    none_astray =
        ⊎_elim (λ (astray : stray ≡ true).
        absurd (no_clash window (length put) h.cut.count (checked_numbers taken) arrived
        (let c = h.cut.credits in let f = h.few in omega arith) (order true astray)))
        (λ (fine : stray ≡ false). fine) (cases_Bool stray)

    -- so all that were cut were released
    all_released : length put ≡ h.cut.count
    all_released = none_waits (length put) h.cut.count (checked_numbers taken) arrived (order false none_astray)

    -- if the cutter saw no stop, the last item was released
    pub nothing_missing : end ≡ None → seen ≡ false → ⊥
    nothing_missing going unseen =
        let all = all_released in
        let (total, ending, (records, has, many), count) = h.cut.whole unseen in
        let text : HasEndedWith settings dump None (length put) (text_of put) = subst
        (λ (e : Option End). HasEndedWith settings dump e (length put) (text_of put)) going h.sequenced.text in
        let p = text.1 in
        let most = within dump records ending has p.before p.begins in
        let released = p.count in absurd (omega arith)

-- a stop that the cutter saw was raised by the sequencer or by the writer
pub stop_was_raised : (cuts sequences writes all : Seat) → all ≡ joined_seat (joined_seat cuts sequences) writes
    → SeesOnlyRaised all
    → cuts.share + sequences.share + writes.share ≡ 4 → cuts.raised ≡ false → cuts.seen ≡ true
    → (sequences.raised ≡ true) ⊎ (writes.raised ≡ true)
stop_was_raised cuts sequences writes all is only shares c e =
    let whole : all.share ≡ 4 = ap (λ (x : Seat). x.share) is ∙ shares in
    let seen : all.seen ≡ true = ap (λ (x : Seat). x.seen) is
    ∙ or_left (cuts.seen || sequences.seen) writes.seen (or_left cuts.seen sequences.seen e) in
    let raised : ((cuts.raised || sequences.raised) || writes.raised) ≡ true =
    sym (ap (λ (x : Seat). x.raised) is) ∙ only whole seen in
    or_cases sequences.raised writes.raised
    (sym (ap (λ (b : Bool). (b || sequences.raised) || writes.raised) c) ∙ raised)

-- so if neither raised it, the cutter saw none
pub unseen : (cuts sequences writes all : Seat) → all ≡ joined_seat (joined_seat cuts sequences) writes
    → SeesOnlyRaised all
    → cuts.share + sequences.share + writes.share ≡ 4 → cuts.raised ≡ false → sequences.raised ≡ false
    → writes.raised ≡ false → cuts.seen ≡ false
unseen cuts sequences writes all is only shares c s w = by cuts.seen refl
  where
    by : (b : Bool) → cuts.seen ≡ b → cuts.seen ≡ false
    by false e = e
    by true e = neither (stop_was_raised cuts sequences writes all is only shares c e)
      where
        neither : (sequences.raised ≡ true) ⊎ (writes.raised ≡ true) → cuts.seen ≡ false
        neither (inl up) = absurd (false≢true (sym s ∙ up))
        neither (inr up) = absurd (false≢true (sym w ∙ up))

-- if neither seat raised the word that makes the cutter cut nothing, the cutter didn't see it raised
pub unshut : (shut shuts all : Seat) → all ≡ joined_seat shut shuts → SeesOnlyRaised all → shut.share + shuts.share ≡ 4
    → shut.raised ≡ false → shuts.raised ≡ false → shut.seen ≡ false
unshut shut shuts all is only shares a b = by shut.seen refl
  where
    not_raised : all.raised ≡ false
    not_raised = ap (λ (x : Seat). x.raised) is ∙ (ap (λ (r : Bool). r || shuts.raised) a
        ∙ ap (λ (r : Bool). false || r) b)

    by : (b : Bool) → shut.seen ≡ b → shut.seen ≡ false
    by false e = e
    by true e = absurd (false≢true (sym not_raised ∙ only (ap (λ (x : Seat). x.share) is ∙ shares)
        (ap (λ (x : Seat). x.seen) is ∙ or_left shut.seen shuts.seen e)))

-- what was released is the beginning of the filter's text of the dump
pub begins_text : (settings : Settings) (dump : List ℕ) (end : Option End) (released : ℕ) (text received : List ℕ)
    → HasEndedWith settings dump end released text
    → IsPrefixOf received text → IsFilterPrefix settings dump received
begins_text settings dump None released text received (filter, h) front =
    let (whole, answer, is, more) = memory settings dump filter released text h in
    (whole, answer, is, prefix_trans received text whole front more)
begins_text settings dump (Some (ends.Clean report)) released text received h front =
    (text, answers.Clean report, h, front)
begins_text settings dump (Some (ends.Fault which number place)) released text received h front =
    (text, answers.Fault which number place, h, front)
begins_text settings dump (Some ends.Memory) released text received (whole, answer, is, more) front =
    (whole, answer, is, prefix_trans received text whole front more)

module _ {D : Type 0} {run : Ghosts D} {settings : Settings} {dump : List ℕ} {window : ℕ} {taken : List (Checked D run)}
    {put got : List NumberedPiece} {end : Option End} {stray failed : Bool} {first now : Option (List ℕ)} {count : ℕ}
    (h : HasSequenced settings dump window taken put end stray) (same : got ≡ put)
    (r : HasReceived failed (text_of got) first now count) where
  -- after the sink failed
  pub sink_failed : failed ≡ true → RunLeaves settings dump first now (answers.Failed failures.Sink count)
  sink_failed is = record {
    received = r.received;
    appended = r.appended;
    answered = (
      begins_text settings dump end (length put) (text_of put) r.received h.text
          (subst (λ (l : List NumberedPiece). IsPrefixOf r.received (text_of l)) same
          (subst (λ (b : Bool). MatchBool b (IsPrefixOf r.received (text_of got))
          (r.received ≡ text_of got)) is r.part)),
      r.sized,
    );
  }

  -- if the sink took all
  all_received : (last : End) → end ≡ Some last → failed ≡ false → IsEndOf settings dump last r.received
  all_received last at is =
      subst (IsEndOf settings dump last)
      (sym (subst (λ (b : Bool). MatchBool b (IsPrefixOf r.received (text_of got)) (r.received ≡ text_of got)) is r.part
      ∙ ap (λ (l : List NumberedPiece). text_of l) same))
      (subst (λ (e : Option End). HasEndedWith settings dump e (length put) (text_of put)) at h.text)

  -- if the writer took all that was put and the sink didn't fail, the run's result is what the sequencer's end says
  pub ended_so : (last : End) → end ≡ Some last → failed ≡ false
      → RunLeaves settings dump first now (end_answer last count)
  ended_so (ends.Clean report) at is =
      record { received = r.received; appended = r.appended; answered = all_received (ends.Clean report) at is }
  ended_so (ends.Fault which number place) at is = record {
    received = r.received;
    appended = r.appended;
    answered = all_received (ends.Fault which number place) at is;
  }
  ended_so ends.Memory at is =
      record { received = r.received; appended = r.appended; answered = (all_received ends.Memory at is, r.sized) }

-- nothing was written
pub nothing_written : (settings : Settings) (dump : List ℕ) (old : Option (List ℕ)) (failure : Failure)
    → RunLeaves settings dump old old (answers.Failed failure 0)
nothing_written settings dump old failure = record {
  received = [];
  appended = Appends-nil old;
  answered = (memory settings dump (first_state settings) 0 [] (begins settings dump), refl);
}

-- if the threads ended, each of them could be started
pub threads_fail : (answer : Answer) → ((written : ℕ) → answer ≢ answers.Failed failures.Threads written)
    → ThreadsFailFirst answer
threads_fail (answers.Clean report) h = tt
threads_fail (answers.Fault which number place) h = tt
threads_fail (answers.Failed failures.Sink written) h = tt
threads_fail (answers.Failed failures.Memory written) h = tt
threads_fail (answers.Failed failures.Threads written) h = absurd (h written refl)
