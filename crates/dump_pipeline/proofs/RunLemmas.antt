-- A run over a dump, record by record.
use Rattle.dump_pipeline.proofs.Prelude.{◌≡◌, ℕ, ◌+◌, ◌-◌, ◌<◌, Bool, true, false, List, [], ◌∷◌, ◌++◌, take, drop, length, refl, sym, ap, ◌∙◌, subst, arith, append_assoc, inl, inr, Option, Some, None, append-nil, take-append-drop, length-take, Appends, Appends-nil, Appends-trans, FaultKind, NoFault, Record, DumpRecord, record_dump, record_number, record_item, CutStep, CutterState, Ending, BeginsWithRecords, HasRecords, EndsAfter, IsRecordOf, count_fits, each_dump_has_one_list, is_front, one_more, whole_list, begins_prefix, begins_once, Settings, capped, IsPrefixOf, report_of, Seen, FilterState, first_state, count_up_to, AreAccepted, Accepts, Refuses, Finishes, AreFaultFree, HoldsOfRecord, IsRecordFault, IsCleanText, kept_revisions, IsWrittenText, free_more, free_none, begins_none, outputs_once, AllLawful, Reached, reached_written, all_lawful, lawful_front, lawful_behind, reach, reached_none, follow, Outcome, Stops, Ends, Answer, Progress, IsFilterPrefix, RunLeaves, Sends, StopsShort, EndsRun}
use Rattle.std.proofs.Common.{length-append}
use Rattle.dump_records.specs.declared.cutter.Cut.TheVariants as cuts
use Rattle.dump_pipeline.specs.declared.answer.Answer.TheVariants as answers
use Rattle.dump_pipeline.specs.declared.answer.Failure.TheVariants as failures

-- the beginning of the beginning of a text is a beginning of the text
pub prefix_trans : (a b c : List ℕ) → IsPrefixOf a b → IsPrefixOf b c → IsPrefixOf a c
prefix_trans a b c (x, is) (y, at) = (x ++ y, at ∙ ap (λ t. t ++ y) is ∙ append_assoc a x y)

-- what was written for records without a fault is the beginning of the filter's text of the dump
pub goes_on : (settings : Settings) (dump : List ℕ) (before : List DumpRecord) (text : List ℕ)
    → BeginsWithRecords dump before → AreFaultFree settings before → IsWrittenText settings false before text
    → IsFilterPrefix settings dump text
goes_on settings dump before text begins free written = by_law (each_dump_has_one_list dump)
  where
    by_law : ((all : List DumpRecord) × (ending : Ending) × HasRecords dump all ending
        × ((others : List DumpRecord) (end : Ending) → HasRecords dump others end → (others ≡ all) × (end ≡ ending)))
        → IsFilterPrefix settings dump text
    by_law (all, ending, has, once) = by_outcome (follow settings before rest
        (lawful_behind before rest lawful) free reached)
      where
        rest : List DumpRecord
        rest = drop (length before) all

        split : all ≡ before ++ rest
        split = sym (take-append-drop (length before) all) ∙ ap (λ (l : List DumpRecord). l ++ rest)
            (sym (is_front dump all ending has before begins))

        lawful : AllLawful (before ++ rest)
        lawful = subst AllLawful split (all_lawful 0 0 dump has.0 all has.1)

        found : Reached settings ([] ++ before)
        found = reach settings [] before (lawful_front before rest lawful) free (free_none settings)
            (reached_none settings)

        reached : Reached settings before
        reached = found

        same : reached.text ≡ text
        same = outputs_once settings false (kept_revisions settings before) before reached.text text
            (reached_written settings before reached) written

        prefix : (final : List ℕ) (more : List ℕ) → final ≡ reached.text ++ more → IsPrefixOf text final
        prefix final more is = (more, is ∙ ap (λ t. t ++ more) same)

        by_outcome : Outcome settings before rest reached.text → IsFilterPrefix settings dump text
        by_outcome (Stops mid after r which at free' fault more out) =
            let listed : BeginsWithRecords dump (((before ++ mid) ++ r ∷ []) ++ after) =
            subst (BeginsWithRecords dump) (split ∙ ap (λ (l : List DumpRecord). before ++ l) at
            ∙ sym (append_assoc before mid (r ∷ after)) ∙ sym (append_assoc (before ++ mid) (r ∷ []) after))
            (has.0, has.1, has.2) in (
              reached.text ++ more,
              answers.Fault which (length (before ++ mid)) r.place,
              (
                before ++ mid,
                (
                  free',
                  inl (
                    r,
                    begins_prefix dump ((before ++ mid) ++ r ∷ []) after listed,
                    fault,
                    refl,
                  ),
                ),
                out,
                refl,
              ),
              prefix (reached.text ++ more) more refl,
            )
        by_outcome (Ends free' more out end whole) = by_ending ending has
          where
            by_ending : (e : Ending) → HasRecords dump all e → IsFilterPrefix settings dump text
            by_ending Ending.Whole h = (
              (reached.text ++ more) ++ end,
              answers.Clean (report_of settings (before ++ rest)),
              (
                before ++ rest,
                record {
                  whole = subst (λ (l : List DumpRecord). HasRecords dump l Ending.Whole) split h;
                  fault_free = free';
                  written = whole;
                },
                refl,
              ),
              prefix ((reached.text ++ more) ++ end) (more ++ end) (append_assoc reached.text more end),
            )
            by_ending (Ending.Broken fault place) h = (
              reached.text ++ more,
              answers.Fault fault (length (before ++ rest)) place,
              (
                before ++ rest,
                (free', inr (subst (λ (l : List DumpRecord). HasRecords dump l (Ending.Broken fault place)) split h)),
                out,
                refl,
              ),
              prefix (reached.text ++ more) more refl,
            )

-- before the first record a run has written nothing, and its filter is in its first state
pub begun : (settings : Settings) (dump : List ℕ) (cutter : CutterState) (filter : FilterState) (old : Option (List ℕ))
    → cutter ≡ record { dump = dump; number = 0 } → filter ≡ first_state settings
    → Progress settings dump cutter filter old old 0
begun settings dump cutter filter old cut first =
    subst (λ (c : CutterState). Progress settings dump c filter old old 0) (sym cut)
    (subst (λ (f : FilterState). Progress settings dump (record { dump = dump; number = 0 }) f old old 0)
    (sym first) at_first)
  where
    at_first : Progress settings dump (record { dump = dump; number = 0 }) (first_state settings) old old 0
    at_first = record {
      before = [];
      begins = begins_none dump;
      count = refl;
      cut = refl;
      settings_is = refl;
      active = refl;
      accepted = refl;
      same_dump = tt;
      next = refl;
      free = free_none settings;
      text = [];
      out = refl;
      appended = Appends-nil old;
      sized = refl;
    }

accepted_once : (settings : Settings) (last : Option Seen) (active : Bool) (a b : List DumpRecord)
    → AreAccepted (record { settings = settings; last = last; active = active }) a
    → AreAccepted (record { settings = settings; last = last; active = active }) b → a ≡ b
accepted_once settings None active a b p q = p ∙ sym q
accepted_once settings (Some seen) active a b p q = begins_once seen.dump a b (p.1 ∙ sym q.1) p.0 q.0

module _ (settings : Settings) (dump : List ℕ) (cutter : CutterState) (filter : FilterState) (old mid : Option (List ℕ))
    (written : ℕ)
    (p : Progress settings dump cutter filter old mid written) where
  ends_here : (ending : Ending) → EndsAfter cutter.dump cutter.number ending → HasRecords dump p.before ending
  ends_here ending ends = whole_list dump p.before ending p.begins
      (subst (λ (d : List ℕ). EndsAfter d (length p.before) ending) p.cut
      (subst (λ n. EndsAfter cutter.dump n ending) (sym p.count) ends))

  listed : (r : DumpRecord) → IsRecordOf cutter.dump cutter.number r → BeginsWithRecords dump (p.before ++ r ∷ [])
  listed r is = one_more dump p.before r p.begins
      ∣ subst (λ (d : List ℕ). IsRecordOf d (length p.before) r) p.cut
      (subst (λ n. IsRecordOf cutter.dump n r) (sym p.count) is) ∣₁

  no_fault_in : (r : DumpRecord) (piece : List ℕ) → Accepts filter r piece → AreFaultFree settings (p.before ++ r ∷ [])
  no_fault_in r piece accepts = free_more settings p.before r p.free
      (subst (λ (s : Settings). NoFault (HoldsOfRecord s p.before r)) p.settings_is (accepts p.before p.accepted).0)

  written_with : (r : DumpRecord) (piece : List ℕ) → Accepts filter r piece
      → IsWrittenText settings false (p.before ++ r ∷ []) (p.text ++ piece)
  written_with r piece accepts = subst (λ (s : Settings). IsWrittenText s false (p.before ++ r ∷ [])
      (p.text ++ piece)) p.settings_is
      ((accepts p.before p.accepted).1 p.text (subst (λ (s : Settings). IsWrittenText s false p.before p.text)
      (sym p.settings_is) p.out))

  -- the count of the bytes after a part of a piece
  part_sized : (part : ℕ) (piece : List ℕ) (count : ℕ) → part < length piece → count ≡ capped (written + part)
      → count ≡ capped (length (p.text ++ take part piece))
  part_sized part piece count short is =
      let size = length-append p.text (take part piece) in
      let taken = length-take part piece in
      let sized = p.sized in
      omega arith

  prefix_of_piece : (part : ℕ) (piece : List ℕ) → IsPrefixOf (p.text ++ take part piece) (p.text ++ piece)
  prefix_of_piece part piece = (
    drop part piece,
    ap (λ (t : List ℕ). p.text ++ t) (sym (take-append-drop part piece))
        ∙ sym (append_assoc p.text (take part piece) (drop part piece)),
  )

  goes_on_behind : (text : List ℕ) (before : List DumpRecord) (received : List ℕ) → IsPrefixOf received text
      → BeginsWithRecords dump before
      → AreFaultFree settings before → IsWrittenText settings false before text → IsFilterPrefix settings dump received
  goes_on_behind text before received front begins free out =
      let (whole, answer, is, more) = goes_on settings dump before text begins free out in
      (whole, answer, is, prefix_trans received text whole front more)

  clean_text : (piece : List ℕ) → EndsAfter cutter.dump cutter.number Ending.Whole → Finishes filter piece
      → IsCleanText settings dump p.before (p.text ++ piece)
  clean_text piece ends finishes = record {
    whole = ends_here Ending.Whole ends;
    fault_free = p.free;
    written = subst (λ (s : Settings). IsWrittenText s true p.before (p.text ++ piece)) p.settings_is
        (finishes p.before p.text p.accepted (subst (λ (s : Settings). IsWrittenText s false p.before p.text)
        (sym p.settings_is) p.out));
  }

  -- a run after the last record of a whole dump leaves the filter's answer, or why its end couldn't be written
  pub finished : (new : Option (List ℕ)) (answer : Answer) → EndsAfter cutter.dump cutter.number Ending.Whole
      → EndsRun filter mid new written answer → RunLeaves settings dump old new answer
  finished new (answers.Clean report) ends (piece, finishes, appended, reports) = record {
    received = p.text ++ piece;
    appended = Appends-trans old mid new p.text piece p.appended appended;
    answered = (
      p.before,
      clean_text piece ends finishes,
      reports p.before p.accepted ∙ ap (λ (s : Settings). report_of s p.before) p.settings_is,
    );
  }
  finished new (answers.Failed failures.Sink count) ends (piece, finishes, short) = record {
    received = p.text ++ take short.part piece;
    appended = Appends-trans old mid new p.text (take short.part piece) p.appended short.appended;
    answered = (
      (
        p.text ++ piece,
        answers.Clean (report_of settings p.before),
        (p.before, clean_text piece ends finishes, refl),
        prefix_of_piece short.part piece,
      ),
      part_sized short.part piece count short.short short.count_is,
    );
  }
  finished new (answers.Failed failures.Memory count) ends (appended, same) = record {
    received = p.text;
    appended = subst (Appends old new) (append-nil p.text) (Appends-trans old mid new p.text [] p.appended appended);
    answered = (goes_on settings dump p.before p.text p.begins p.free p.out, same ∙ p.sized);
  }
  finished new (answers.Failed failures.Threads count) ends is = absurd is
  finished new (answers.Fault fault number place) ends is = absurd is

  -- if no further record is in the dump, because of a fault, the run leaves that fault
  pub broken : (kind : FaultKind) (place number : ℕ) → EndsAfter cutter.dump cutter.number (Ending.Broken kind place)
      → number ≡ count_up_to filter.last → RunLeaves settings dump old mid (answers.Fault kind number place)
  broken kind place number ends is = record {
    received = p.text;
    appended = p.appended;
    answered = (p.before, (p.free, inr (ends_here (Ending.Broken kind place) ends)), p.out, is ∙ p.next ∙ sym p.count);
  }

  -- if the next record has a fault, the run leaves that fault
  pub refused : (r : DumpRecord) (kind : FaultKind) (place number : ℕ) → IsRecordOf cutter.dump cutter.number r
      → Refuses filter r kind
      → number ≡ cutter.number → place ≡ r.place → RunLeaves settings dump old mid (answers.Fault kind number place)
  refused r kind place number is (before, accepted, fault) counted at = record {
    received = p.text;
    appended = p.appended;
    answered = (
      p.before,
      (
        p.free,
        inl (
          r,
          listed r is,
          subst (λ (s : Settings). IsRecordFault s p.before r kind) p.settings_is
              (subst (λ (l : List DumpRecord). IsRecordFault filter.settings l r kind)
              (accepted_once filter.settings filter.last filter.active before p.before accepted p.accepted) fault),
          at,
        ),
      ),
      p.out,
      counted ∙ sym p.count,
    );
  }

  -- a run that runs out of memory leaves what it has written so far
  pub no_memory : RunLeaves settings dump old mid (answers.Failed failures.Memory written)
  no_memory = record {
    received = p.text;
    appended = p.appended;
    answered = (goes_on settings dump p.before p.text p.begins p.free p.out, p.sized);
  }

  -- if the sink fails in a record's piece, the run leaves what the sink received up to there
  pub sink_failed : (r : DumpRecord) (piece : List ℕ) (new : Option (List ℕ)) (count : ℕ)
      → IsRecordOf cutter.dump cutter.number r
      → Accepts filter r piece → StopsShort mid new piece written count → RunLeaves settings dump old new
      (answers.Failed failures.Sink count)
  sink_failed r piece new count is accepts short = record {
    received = p.text ++ take short.part piece;
    appended = Appends-trans old mid new p.text (take short.part piece) p.appended short.appended;
    answered = (
      goes_on_behind (p.text ++ piece) (p.before ++ r ∷ []) (p.text ++ take short.part piece)
          (prefix_of_piece short.part piece)
          (listed r is) (no_fault_in r piece accepts) (written_with r piece accepts),
      part_sized short.part piece count short.short short.count_is,
    );
  }

  -- with one more record accepted and its piece sent, the run has come one record further
  pub stepped : (r : Record) (cutter' : CutterState) (filter' : FilterState) (piece : List ℕ) (new : Option (List ℕ))
      (count : ℕ)
      → CutStep cutter (cuts.Item r) cutter' → Accepts filter (record_item r) piece
      → filter' ≡ record filter { last = Some (record { dump = record_dump r; number = record_number r }) }
      → Sends mid new piece written count → Progress settings dump cutter' filter' old new count
  stepped r cutter' filter' piece new count (of, number, is, next) accepts same sends =
      subst (λ (c : CutterState). Progress settings dump c filter' old new count) (sym next)
      (subst (λ (f : FilterState). Progress settings dump
      (record cutter { number = cutter.number + 1 }) f old new count) (sym same) after)
    where
      item : DumpRecord
      item = record_item r

      size : length (p.before ++ item ∷ []) ≡ cutter.number + 1
      size = length-append p.before (item ∷ []) ∙ ap (λ n. n + 1) p.count

      begins : BeginsWithRecords dump (p.before ++ item ∷ [])
      begins = listed item is

      after : Progress settings dump (record cutter { number = cutter.number + 1 })
          (record filter { last = Some (record { dump = record_dump r; number = record_number r }) }) old new count
      after = record {
        before = p.before ++ item ∷ [];
        begins = begins;
        count = size;
        cut = p.cut;
        settings_is = p.settings_is;
        active = p.active;
        accepted = (
          subst (λ (d : List ℕ). BeginsWithRecords d (p.before ++ item ∷ [])) (sym (of ∙ p.cut)) begins,
          size ∙ ap (λ n. n + 1) (sym number),
        );
        same_dump = of ∙ p.cut;
        next = ap (λ n. n + 1) number;
        free = no_fault_in item piece accepts;
        text = p.text ++ piece;
        out = written_with item piece accepts;
        appended = Appends-trans old mid new p.text piece p.appended sends.appended;
        sized = let total = length-append p.text piece in let sized = p.sized in let sum = sends.count_is in omega arith;
      }

  -- no more records are taken than the dump has bytes
  pub smaller : (r : Record) (cutter' : CutterState) → CutStep cutter (cuts.Item r) cutter'
      → length dump - cutter'.number < length dump - cutter.number
  smaller r cutter' (of, number, is, next) =
      let begins = listed (record_item r) is in
      let fits = count_fits 0 0 dump begins.0 (p.before ++ record_item r ∷ []) begins.1 in
      let size = length-append p.before (record_item r ∷ []) in
      let count = p.count in
      let more = ap (λ (c : CutterState). c.number) next in
      omega arith
