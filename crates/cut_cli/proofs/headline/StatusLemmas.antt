-- What each way through the program wrote.
use Rattle.std.proofs.Common.{◌≡◌, ◌⊎◌, ℕ, Bool, true, false, List, [], ◌++◌, Option, Some, None, Result, Ok, Err, IfSome, MatchBool, inl, inr, refl, sym, ap, ◌∙◌, subst, append-nil, eqb-true}
use Rattle.std.specs.Prelude.{◌==◌, if◌then◌else◌}
use Rattle.std.specs.Io.KnownBytes.{Appends, Keeps}
use Rattle.clap.specs.Walk.{is_empty}
use Rattle.clap.specs.Words.{Text}
use Rattle.cli_support.specs.NamedOutputs.{Replaces}
use Rattle.cli_support.specs.declared.info.Info.{Info}
use Rattle.cli_support.specs.declared.usage.Usage.{Usage}
use Rattle.dump_filter.specs.declared.state.Report.{Report}
use Rattle.dump_rules.specs.Settings.{Settings}
use Rattle.dump_pipeline.specs.declared.answer.Answer.{Answer}
use Rattle.dump_pipeline.specs.declared.answer.Answer.TheVariants.{Clean, Fault, Failed}
use Rattle.cut_cli.specs.Sent.{IsSent, stop_line_of}
use Rattle.cut_cli.specs.steps.Drive.{AnswersCall, AnswersWhole, ArrivesOrBreaksOff, BeginsMap, CutsDump, CutsInput, DrivesCut, EndsMap, FollowsCut, RanCut, WritesBoth, WritesCut, WritesIfAsked, cut_status}
use Rattle.cut_cli.specs.steps.Cuts.{text_read}
use Rattle.cut_cli.specs.Statuses.{HasMapOfRun, MapIsWritten, NothingIsWritten, PartIsWritten, TakesPartOfRun}
use Rattle.cut_cli.specs.Words.{CutMeaning, with_texts_of}
use Rattle.cut_cli.specs.steps.Words.{asked_map, cut_meaning}
use Rattle.cut_cli.proofs.headline.ZeroLemmas.{no_refusal, not_one, not_two, not_three, not_unwritten}
use Rattle.dump_writer.specs.SinkWords.{TakesPart}

-- a run of the filter wrote, or was a trial
pub record Wrote (meaning : Result CutMeaning Usage) (old new map_old map_new : Option (List ℕ)) (status : ℕ) : Type 0 where
  pub m : CutMeaning
  pub texts : List (List ℕ)
  pub means : meaning ≡ Ok m
  pub settings : Settings
  pub deletes : Option (List (List (List ℕ)))
  pub read : List ℕ
  pub begun : Option (List ℕ)
  pub begins : BeginsMap (asked_map (with_texts_of m texts)) map_old begun
  pub writes : WritesIfAsked (with_texts_of m texts) settings deletes read old new begun map_new status

-- nothing was written, and the status says so
abbrev Kept : (old new : Option (List ℕ)) → ℕ → Type 0
Kept old new status = Keeps old new × (status ≡ 0 → ⊥)

-- each call wrote nothing, or ran
module _ (meaning : Result CutMeaning Usage) (m : CutMeaning) (texts : List (List ℕ)) (means : meaning ≡ Ok m)
    (dump : List ℕ) (input : Option (List ℕ)) (known : input ≡ Some dump)
    (old new map_old map_new : Option (List ℕ)) (status : ℕ) where
  of_dump : (begun : Option (List ℕ)) → BeginsMap (asked_map (with_texts_of m texts)) map_old begun
      → CutsDump (with_texts_of m texts) dump old new begun map_new status
      → Kept old new status ⊎ Wrote meaning old new map_old map_new status
  of_dump begun begins (inl (expansion, settings, deletes, part, ready, cuts, writes)) = inr (record {
    m = m;
    texts = texts;
    means = means;
    settings = settings;
    deletes = deletes;
    read = text_read expansion dump;
    begun = begun;
    begins = begins;
    writes = writes;
  })
  of_dump begun begins (inr (ends, kept, map_kept)) =
      inl (kept, λ zero. not_unwritten (with_texts_of m texts) dump status zero ends)

  of_input : (begun : Option (List ℕ)) → BeginsMap (asked_map (with_texts_of m texts)) map_old begun
      → CutsInput (with_texts_of m texts) input old new begun map_new status
      → Kept old new status ⊎ Wrote meaning old new map_old map_new status
  of_input begun begins (inl cuts) =
      of_dump begun begins
      (subst (λ i. IfSome i (λ d. CutsDump (with_texts_of m texts) d old new begun map_new status)) known cuts)
  of_input begun begins (inr (kept, map_kept, same)) = inl (kept, λ zero. not_one status zero same)

  of_answer : AnswersCall (with_texts_of m texts) input old new map_old map_new status
      → Kept old new status ⊎ Wrote meaning old new map_old map_new status
  of_answer (inl (begun, begins, cuts)) = of_input begun begins cuts
  of_answer (inr (asked, kept, map_kept, same)) = inl (kept, λ zero. not_one status zero same)

  pub of_whole : AnswersWhole (with_texts_of m texts) input old new map_old map_new status
      → Kept old new status ⊎ Wrote meaning old new map_old map_new status
  of_whole = cases (is_empty (with_texts_of m texts).prefixes)
    where
      cases : (b : Bool) → MatchBool b (Keeps old new × Keeps map_old map_new × (status ≡ 2))
          (AnswersCall (with_texts_of m texts) input old new map_old map_new status)
          → Kept old new status ⊎ Wrote meaning old new map_old map_new status
      cases true (kept, map_kept, same) = inl (kept, λ zero. not_two status zero same)
      cases false answers = of_answer answers

of_drives : (text_of : Text → Option (List ℕ)) (meaning : Result CutMeaning Usage) (dump : List ℕ)
    (input : Option (List ℕ)) (known : input ≡ Some dump) (old new map_old map_new : Option (List ℕ)) (status : ℕ)
    → DrivesCut text_of meaning input old new map_old map_new status
    → Kept old new status ⊎ Wrote meaning old new map_old map_new status
of_drives text_of meaning dump input known old new map_old map_new status (Err usage, tells, obeys) =
    inl (obeys.0, λ zero. no_refusal status usage zero obeys.2)
of_drives text_of meaning dump input known old new map_old map_new status (Ok call, tells, inr (kept, map_kept, same)) =
    inl (kept, λ zero. not_one status zero same)
of_drives text_of meaning dump input known old new map_old map_new status (Ok call, tells, inl (texts, are, answers)) =
    of_whole meaning (cut_meaning call) texts tells dump input known old new map_old map_new status answers

-- what a run has for its status

clean_or_not : (told : Answer) → (cut_status told ≡ 0) ⊎ (cut_status told ≡ 1)
clean_or_not (Clean report) = inl refl
clean_or_not (Fault kind number place) = inr refl
clean_or_not (Failed failure written) = inr refl

-- a run without a fault, of which all arrived
pub record CleanRun (settings : Settings) (deletes : Option (List (List (List ℕ)))) (after : Option ℕ) (read : List ℕ)
    (old new : Option (List ℕ)) : Type 0 where
  pub report : Report
  pub sent : List ℕ
  pub is_sent : IsSent settings deletes after read sent (Clean report)
  pub arrived : Appends old new sent

module _ (asked : Option Text) (settings : Settings) (deletes : Option (List (List (List ℕ)))) (after : Option ℕ)
    (read : List ℕ) (old new begun map_new : Option (List ℕ)) (status : ℕ) where
  cut_zero_or_one : (cut : ℕ) → WritesCut settings deletes after read old new cut → (cut ≡ 0) ⊎ (cut ≡ 1)
  cut_zero_or_one cut (inl (told, ran, is)) = cases (clean_or_not told)
    where
      cases : (cut_status told ≡ 0) ⊎ (cut_status told ≡ 1) → (cut ≡ 0) ⊎ (cut ≡ 1)
      cases (inl zero) = inl (is ∙ zero)
      cases (inr one) = inr (is ∙ one)
  cut_zero_or_one cut (inr (kept, is)) = inr is

  pub zero_or_one : WritesBoth asked settings deletes after read old new begun map_new status → (status ≡ 0) ⊎ (status ≡ 1)
  zero_or_one (cut, writes, follows) = cases (cut == 0) follows
    where
      whole_or_not : (whole : Bool) → status ≡ (if whole then 0 else 1) → (status ≡ 0) ⊎ (status ≡ 1)
      whole_or_not true same = inl same
      whole_or_not false same = inr same

      same_as_cut : status ≡ cut → (cut ≡ 0) ⊎ (cut ≡ 1) → (status ≡ 0) ⊎ (status ≡ 1)
      same_as_cut same (inl zero) = inl (same ∙ zero)
      same_as_cut same (inr one) = inr (same ∙ one)

      cases : (b : Bool) → MatchBool b
          ((whole : Bool) × EndsMap asked after settings read begun map_new whole × (status ≡ (if whole then 0 else 1)))
          (Keeps begun map_new × (status ≡ cut)) → (status ≡ 0) ⊎ (status ≡ 1)
      cases true (whole, ends, same) = whole_or_not whole same
      cases false (kept, same) = same_as_cut same (cut_zero_or_one cut writes)

  arrived_part : (sent : List ℕ) (answer told : Answer) → ArrivesOrBreaksOff sent answer old new told
      → TakesPart old new (sent ++ stop_line_of answer)
  arrived_part sent answer told (inl (all, same)) =
      (sent ++ stop_line_of answer, ([], sym (append-nil (sent ++ stop_line_of answer))), all)
  arrived_part sent answer told (inr breaks) = breaks.part

  pub part_taken : WritesBoth asked settings deletes after read old new begun map_new status
      → Keeps old new ⊎ TakesPartOfRun old new
  part_taken (cut, inl (told, ran, is), follows) = inr (record {
    settings = settings;
    deletes = deletes;
    after = after;
    read = read;
    sent = ran.sent;
    answer = ran.answer;
    is_sent = ran.answered;
    taken = arrived_part ran.sent ran.answer told ran.arrived;
  })
  part_taken (cut, inr (kept, is), follows) = inl kept

  told_clean : (told : Answer) → cut_status told ≡ 0 → RanCut settings deletes after read old new told
      → CleanRun settings deletes after read old new
  told_clean (Fault kind number place) is ran = absurd (not_one (cut_status (Fault kind number place)) is refl)
  told_clean (Failed failure written) is ran = absurd (not_one (cut_status (Failed failure written)) is refl)
  told_clean (Clean report) is ran = cases ran.arrived
    where
      cases : ArrivesOrBreaksOff ran.sent ran.answer old new (Clean report)
          → CleanRun settings deletes after read old new
      cases (inl (all, same)) = record {
        report = report;
        sent = ran.sent;
        is_sent = subst (IsSent settings deletes after read ran.sent) (sym same) ran.answered;
        arrived = subst (Appends old new) (ap (λ a. ran.sent ++ stop_line_of a) (sym same) ∙ append-nil ran.sent) all;
      }
      cases (inr breaks) = absurd (let bad : Clean report ≡ Failed breaks.failure breaks.written = breaks.told_is in cc)

  pub clean_run : (cut : ℕ) → cut ≡ 0 → WritesCut settings deletes after read old new cut
      → CleanRun settings deletes after read old new
  clean_run cut none (inl (told, ran, is)) = told_clean told (sym is ∙ none) ran
  clean_run cut none (inr (kept, is)) = absurd (not_one cut none is)

  -- the map that follows it
  pub map_after : (cut : ℕ) → status ≡ 0 → FollowsCut asked after settings read begun map_new cut status
      → (cut ≡ 0) × EndsMap asked after settings read begun map_new true
  map_after cut zero = cases (cut == 0) refl
    where
      ended : (whole : Bool) → status ≡ (if whole then 0 else 1) → EndsMap asked after settings read begun map_new whole
          → EndsMap asked after settings read begun map_new true
      ended true same ends = ends
      ended false same ends = absurd (not_one status zero same)

      cases : (b : Bool) → (cut == 0) ≡ b → MatchBool b
          ((whole : Bool) × EndsMap asked after settings read begun map_new whole × (status ≡ (if whole then 0 else 1)))
          (Keeps begun map_new × (status ≡ cut)) → (cut ≡ 0) × EndsMap asked after settings read begun map_new true
      cases true is (whole, ends, same) = (eqb-true cut 0 is, ended whole same ends)
      cases false is (kept, same) =
          let none : cut ≡ 0 = sym same ∙ zero in
          absurd (let bad : true ≡ false = sym (ap (λ c. c == 0) none) ∙ is in cc)

-- what is created empty, and then grows by a text, is that text
replaced : (old begun new : Option (List ℕ)) (text : List ℕ) → Replaces old begun [] → Appends begun new text
    → Replaces old new text
replaced None begun new text empty grows = tt
replaced (Some bytes) None new text empty grows = absurd empty
replaced (Some bytes) (Some none) None text empty grows = absurd grows
replaced (Some bytes) (Some none) (Some known) text empty grows = grows ∙ ap (λ bs. bs ++ text) empty

-- a trial writes nothing, and any other call runs
by_trial : (m : CutMeaning) (settings : Settings) (deletes : Option (List (List (List ℕ)))) (read : List ℕ)
    (old new begun map_new : Option (List ℕ)) (status : ℕ) → WritesIfAsked m settings deletes read old new begun map_new status
    → ((m.dry_run ≡ true) × Keeps old new)
    ⊎ ((m.dry_run ≡ false) × WritesBoth (asked_map m) settings deletes m.after read old new begun map_new status)
by_trial m settings deletes read old new begun map_new status = cases m.dry_run refl
  where
    cases : (b : Bool) → m.dry_run ≡ b → MatchBool b
        (WritesBoth (asked_map m) settings deletes m.after read None None begun map_new status × Keeps old new)
        (WritesBoth (asked_map m) settings deletes m.after read old new begun map_new status)
        → ((m.dry_run ≡ true) × Keeps old new)
        ⊎ ((m.dry_run ≡ false) × WritesBoth (asked_map m) settings deletes m.after read old new begun map_new status)
    cases true is (both, kept) = inl (is, kept)
    cases false is both = inr (is, both)

-- the clauses

module _ (text_of : Text → Option (List ℕ)) (meaning : Result CutMeaning Usage) (info : Option Info)
    (input old new map_old map_new : Option (List ℕ)) (status : ℕ)
    (drives : DrivesCut text_of meaning input old new map_old map_new status) where
  wrote : (dump : List ℕ) → input ≡ Some dump → Kept old new status ⊎ Wrote meaning old new map_old map_new status
  wrote dump known = of_drives text_of meaning dump input known old new map_old map_new status drives

  -- a run, if it was no trial
  abbrev Runs : (w : Wrote meaning old new map_old map_new status) → Type 0
  Runs w = WritesBoth (asked_map (with_texts_of w.m w.texts)) w.settings w.deletes w.m.after w.read old new w.begun map_new status

  tried : (w : Wrote meaning old new map_old map_new status)
      → ((w.m.dry_run ≡ true) × Keeps old new) ⊎ ((w.m.dry_run ≡ false) × Runs w)
  tried w = by_trial (with_texts_of w.m w.texts) w.settings w.deletes w.read old new w.begun map_new status w.writes

  -- arguments have one meaning
  meant : (w : Wrote meaning old new map_old map_new status) (m : CutMeaning) → meaning ≡ Ok m → w.m ≡ m
  meant w m means = let both : Ok w.m ≡ Ok m = sym w.means ∙ means in cc

  pub nothing_is_written : NothingIsWritten info meaning input old new status
  nothing_is_written dump none known why = cases (wrote dump known)
    where
      no_reason : (w : Wrote meaning old new map_old map_new status) → w.m.dry_run ≡ false
          → (status ≡ 2) ⊎ (status ≡ 3) ⊎ ((m : CutMeaning) × (meaning ≡ Ok m) × (m.dry_run ≡ true))
          → (status ≡ 0) ⊎ (status ≡ 1) → Keeps old new
      no_reason w wet (inl two) (inl zero) = absurd (not_two status zero two)
      no_reason w wet (inl two) (inr one) = absurd (let bad : 1 ≡ 2 = sym one ∙ two in cc)
      no_reason w wet (inr (inl three)) (inl zero) = absurd (not_three status zero three)
      no_reason w wet (inr (inl three)) (inr one) = absurd (let bad : 1 ≡ 3 = sym one ∙ three in cc)
      no_reason w wet (inr (inr (m, means, dry))) ends =
          absurd (let bad : false ≡ true = sym wet ∙ ap (λ (x : CutMeaning). x.dry_run) (meant w m means) ∙ dry in cc)

      either : (w : Wrote meaning old new map_old map_new status)
          → ((w.m.dry_run ≡ true) × Keeps old new) ⊎ ((w.m.dry_run ≡ false) × Runs w) → Keeps old new
      either w (inl (dry, kept)) = kept
      either w (inr (wet, both)) =
          no_reason w wet why
          (zero_or_one (asked_map (with_texts_of w.m w.texts)) w.settings w.deletes w.m.after w.read old new w.begun map_new
          status both)

      cases : Kept old new status ⊎ Wrote meaning old new map_old map_new status → Keeps old new
      cases (inl (kept, other)) = kept
      cases (inr w) = either w (tried w)

  pub part_is_written : PartIsWritten info input old new status
  part_is_written dump none known one = cases (wrote dump known)
    where
      either : (w : Wrote meaning old new map_old map_new status)
          → ((w.m.dry_run ≡ true) × Keeps old new) ⊎ ((w.m.dry_run ≡ false) × Runs w) → Keeps old new ⊎ TakesPartOfRun old new
      either w (inl (dry, kept)) = inl kept
      either w (inr (wet, both)) =
          part_taken (asked_map (with_texts_of w.m w.texts)) w.settings w.deletes w.m.after w.read old new w.begun map_new
          status both

      cases : Kept old new status ⊎ Wrote meaning old new map_old map_new status → Keeps old new ⊎ TakesPartOfRun old new
      cases (inl (kept, other)) = inl kept
      cases (inr w) = either w (tried w)

  pub map_is_written : MapIsWritten info meaning input old new map_old map_new status
  map_is_written m dump name none means known zero wet named = cases (wrote dump known)
    where
      run : (w : Wrote meaning old new map_old map_new status) → w.m ≡ m → Runs w → HasMapOfRun w.m old new map_old map_new
      run w same (cut, writes, follows) =
          let asked : asked_map (with_texts_of w.m w.texts) ≡ Some name =
          ap (λ (x : CutMeaning). asked_map x) same ∙ ap (λ (b : Bool). if b then None else m.map_name) wet ∙ named in
          let (is_zero, ends) = map_after (asked_map (with_texts_of w.m w.texts)) w.settings w.deletes w.m.after w.read old new
          w.begun map_new status cut zero follows in
          let (map, is_map, grows) = subst (λ a. EndsMap a w.m.after w.settings w.read w.begun map_new true) asked ends in
          let begins : Replaces map_old w.begun [] = subst (λ a. BeginsMap a map_old w.begun) asked w.begins in
          let ran = clean_run (asked_map (with_texts_of w.m w.texts)) w.settings w.deletes w.m.after w.read old new w.begun map_new
          status cut is_zero writes in record {
            settings = w.settings;
            deletes = w.deletes;
            read = w.read;
            sent = ran.sent;
            report = ran.report;
            map = map;
            is_sent = ran.is_sent;
            arrived = ran.arrived;
            is_map = is_map;
            written = replaced map_old w.begun map_new map begins grows;
          }

      either : (w : Wrote meaning old new map_old map_new status) → w.m ≡ m
          → ((w.m.dry_run ≡ true) × Keeps old new) ⊎ ((w.m.dry_run ≡ false) × Runs w)
          → HasMapOfRun w.m old new map_old map_new
      either w same (inl (dry, kept)) =
          absurd (let bad : true ≡ false = sym dry ∙ ap (λ (x : CutMeaning). x.dry_run) same ∙ wet in cc)
      either w same (inr (also, both)) = run w same both

      cases : Kept old new status ⊎ Wrote meaning old new map_old map_new status → HasMapOfRun m old new map_old map_new
      cases (inl (kept, other)) = absurd (other zero)
      cases (inr w) =
          let same = meant w m means in
          subst (λ (x : CutMeaning). HasMapOfRun x old new map_old map_new) same (either w same (tried w))
