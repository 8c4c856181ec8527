-- What is known if the program ends with status 0, and has not printed a help text.
use Rattle.std.proofs.Common.{◌≡◌, ◌<◌, ◌^◌, ◌&&◌, ℕ, Bool, true, false, List, ◌++◌, length, Option, Some, None, Result, Ok, Err, IfSome, MatchBool, inl, inr, refl, sym, ap, ◌∙◌, subst, append-nil, arith, eqb-true}
use Rattle.std.specs.Prelude.{◌==◌, if◌then◌else◌}
use Rattle.std.specs.Io.KnownBytes.{Appends, Keeps}
use Rattle.clap.specs.Walk.{is_empty}
use Rattle.clap.specs.Words.{Text}
use Rattle.cli_support.specs.Arguments.{refusal_status}
use Rattle.cli_support.specs.Targets.{AreTextsOf}
use Rattle.cli_support.specs.declared.usage.Usage.{Usage}
use Rattle.cli_support.specs.declared.usage.Usage.TheVariants as usages
use Rattle.dump_records.specs.RecordText.{DumpRecord}
use Rattle.dump_rules.specs.Settings.{Settings}
use Rattle.dump_rules.specs.declared.options.Side.TheVariants.{Exclude}
use Rattle.dump_index.specs.steps.Listed.{Listed}
use Rattle.dump_trees.specs.Paths.{NodePath}
use Rattle.dump_filter.specs.WholeText.{IsCleanText}
use Rattle.dump_filter.specs.declared.state.Report.{Report}
use Rattle.dump_pipeline.specs.declared.answer.Answer.{Answer}
use Rattle.dump_pipeline.specs.declared.answer.Answer.TheVariants.{Clean, Fault, Failed}
use Rattle.cut_cli.specs.Sent.{IsTrimmedIf, IsSent, stop_line_of}
use Rattle.cut_cli.specs.steps.Cuts.{HasPartIf, IsReadFor, text_read, writes_additions}
use Rattle.cut_cli.specs.steps.Drive.{AnswersCall, AnswersWhole, ArrivesOrBreaksOff, CleanTextsAreCuts, CutsDump, CutsInput, DrivesCut, EndsMap, EndsUnwritten, FollowsCut, RanCut, WritesBoth, WritesCut, WritesIfAsked, cut_status}
use Rattle.cut_cli.specs.Headline.{ZeroIsCut, ZeroIsDroppedCut, ZeroIsOfKept}
use Rattle.cut_cli.specs.Words.{CutMeaning, with_texts_of}
use Rattle.cut_cli.specs.steps.Words.{asked_map, cut_meaning}
use Rattle.cut_cli.proofs.CutLemmas.{read_numbered}
use Rattle.cut_cli.proofs.headline.WholeCuts.{agrees_if_added, dropped_cut, none_added, of_kept, whole_cut}

pub not_one : (n : ℕ) → n ≡ 0 → n ≡ 1 → ⊥
not_one n zero one = omega (arith, zero, one)

pub not_two : (n : ℕ) → n ≡ 0 → n ≡ 2 → ⊥
not_two n zero two = omega (arith, zero, two)

pub not_three : (n : ℕ) → n ≡ 0 → n ≡ 3 → ⊥
not_three n zero three = omega (arith, zero, three)

pub no_refusal : (status : ℕ) (usage : Usage) → status ≡ 0 → status ≡ refusal_status 1 usage → ⊥
no_refusal status usages.Words zero is = not_two status zero is
no_refusal status usages.BothDrops zero is = not_two status zero is
no_refusal status usages.Memory zero is = not_one status zero is

pub not_unwritten : (m : CutMeaning) (dump : List ℕ) (status : ℕ) → status ≡ 0 → EndsUnwritten m dump status → ⊥
not_unwritten m dump status zero (inl one) = not_one status zero one
not_unwritten m dump status zero (inr (three, why)) = not_three status zero three

-- under exclude the filter reads the dump, unless what comes back is to be kept
reads_plain : (m : CutMeaning) (dump : List ℕ) (listed : List Listed) (excluded : List NodePath) (e : Option (List ℕ))
    (read : List Listed) → IsReadFor m dump listed excluded e read → m.side ≡ Exclude → m.keep ≡ false → e ≡ None
reads_plain m dump listed excluded None read is side unkept = refl
reads_plain m dump listed excluded (Some text) read (adds, some, has) side unkept =
    absurd (let bad : false ≡ true = sym unkept ∙ sym (ap (λ s. writes_additions s m.keep) side) ∙ adds in cc)

-- a cut with status 0: the filter's answer was clean, and all that was sent arrived
pub record SentClean (m : CutMeaning) (dump : List ℕ) (old new : Option (List ℕ)) : Type 0 where
  pub expansion : Option (List ℕ)
  pub settings : Settings
  pub deletes : Option (List (List (List ℕ)))
  pub part : HasPartIf m.after dump
  pub preserves : settings.preserve ≡ true
  pub plain : m.side ≡ Exclude → m.keep ≡ false → expansion ≡ None
  pub cuts : CleanTextsAreCuts m expansion settings deletes dump
  pub report : Report
  pub sent : List ℕ
  pub answered : IsSent settings deletes m.after (text_read expansion dump) sent (Clean report)
  pub arrived : Appends old new sent

module _ (m : CutMeaning) (dump : List ℕ) (old new map_old map_new : Option (List ℕ)) (status : ℕ) (zero : status ≡ 0)
    (wet : m.dry_run ≡ false) where
  module _ (expansion : Option (List ℕ)) (settings : Settings) (deletes : Option (List (List (List ℕ))))
      (part : HasPartIf m.after dump) (preserves : settings.preserve ≡ true)
      (plain : m.side ≡ Exclude → m.keep ≡ false → expansion ≡ None)
      (cuts : CleanTextsAreCuts m expansion settings deletes dump) where
    abbrev read_text : List ℕ
    read_text = text_read expansion dump

    told_clean : (told : Answer) → cut_status told ≡ 0 → RanCut settings deletes m.after read_text old new told
        → SentClean m dump old new
    told_clean (Fault kind number place) is ran = absurd (not_one (cut_status (Fault kind number place)) is refl)
    told_clean (Failed failure written) is ran = absurd (not_one (cut_status (Failed failure written)) is refl)
    told_clean (Clean report) is ran = cases ran.arrived
      where
        cases : ArrivesOrBreaksOff ran.sent ran.answer old new (Clean report) → SentClean m dump old new
        cases (inl (all, same)) = record {
          expansion = expansion;
          settings = settings;
          deletes = deletes;
          part = part;
          preserves = preserves;
          plain = plain;
          cuts = cuts;
          report = report;
          sent = ran.sent;
          answered = subst (IsSent settings deletes m.after read_text ran.sent) (sym same) ran.answered;
          arrived = subst (Appends old new)
              (ap (λ a. ran.sent ++ stop_line_of a) (sym same) ∙ append-nil ran.sent) all;
        }
        cases (inr breaks) = absurd (let bad : Clean report ≡ Failed breaks.failure breaks.written = breaks.told_is in cc)

    written_clean : (cut : ℕ) → cut ≡ 0 → WritesCut settings deletes m.after read_text old new cut → SentClean m dump old new
    written_clean cut none (inl (told, ran, is)) = told_clean told (sym is ∙ none) ran
    written_clean cut none (inr (kept, is)) = absurd (not_one cut none is)

    followed_zero : (asked : Option Text) (cut : ℕ) → FollowsCut asked m.after settings read_text map_old map_new cut status
        → cut ≡ 0
    followed_zero asked cut = cases (cut == 0) refl
      where
        cases : (b : Bool) → (cut == 0) ≡ b → MatchBool b
            ((whole : Bool) × EndsMap asked m.after settings read_text map_old map_new whole
            × (status ≡ (if whole then 0 else 1))) (Keeps map_old map_new × (status ≡ cut)) → cut ≡ 0
        cases true is follows = eqb-true cut 0 is
        cases false is (kept, same) = sym same ∙ zero

    pub wrote_clean : WritesIfAsked m settings deletes read_text old new map_old map_new status → SentClean m dump old new
    wrote_clean writes = of_both (subst (λ b. MatchBool b
        (WritesBoth (asked_map m) settings deletes m.after read_text None None map_old map_new status × Keeps old new)
        (WritesBoth (asked_map m) settings deletes m.after read_text old new map_old map_new status)) wet writes)
      where
        of_both : WritesBoth (asked_map m) settings deletes m.after read_text old new map_old map_new status
            → SentClean m dump old new
        of_both (cut, writes, follows) = written_clean cut (followed_zero (asked_map m) cut follows) writes

  pub cut_clean : CutsDump m dump old new map_old map_new status → SentClean m dump old new
  cut_clean (inl (expansion, settings, deletes, part, ready, cuts, writes)) =
      wrote_clean expansion settings deletes part ready.is_set_up.preserves
      (reads_plain m dump ready.are_excluded.listed ready.excluded expansion ready.read ready.are_excluded.is_read) cuts writes
  cut_clean (inr (ends, kept, map_kept)) = absurd (not_unwritten m dump status zero ends)

-- the input

module _ (m : CutMeaning) (dump : List ℕ) (old new map_old map_new : Option (List ℕ)) (status : ℕ) (zero : status ≡ 0)
    (wet : m.dry_run ≡ false) (input : Option (List ℕ)) (known : input ≡ Some dump) where
  input_clean : (begun : Option (List ℕ)) → CutsInput m input old new begun map_new status → SentClean m dump old new
  input_clean begun (inl cuts) =
      cut_clean m dump old new begun map_new status zero wet
      (subst (λ i. IfSome i (λ d. CutsDump m d old new begun map_new status)) known cuts)
  input_clean begun (inr (kept, map_kept, same)) = absurd (not_one status zero same)

  call_clean : AnswersCall m input old new map_old map_new status → SentClean m dump old new
  call_clean (inl (begun, begins, cuts)) = input_clean begun cuts
  call_clean (inr (asked, kept, map_kept, same)) = absurd (not_one status zero same)

  pub whole_clean : AnswersWhole m input old new map_old map_new status → SentClean m dump old new
  whole_clean = cases (is_empty m.prefixes)
    where
      cases : (b : Bool) → MatchBool b (Keeps old new × Keeps map_old map_new × (status ≡ 2))
          (AnswersCall m input old new map_old map_new status) → SentClean m dump old new
      cases true (kept, map_kept, same) = absurd (not_two status zero same)
      cases false answers = call_clean answers

-- what status 0 promises, if it does so of each cut that was sent
module _ (Promise : CutMeaning → List ℕ → Option (List ℕ) → Option (List ℕ) → Type 0)
    (keep : (m : CutMeaning) (dump : List ℕ) (old new : Option (List ℕ)) → (m.keep && m.follow) ≡ false
    → (m.dry_run ≡ false → SentClean m dump old new) → Promise m dump old new)
    (text_of : Text → Option (List ℕ)) (meaning : Result CutMeaning Usage)
    (apart : (m : CutMeaning) → meaning ≡ Ok m → (m.keep && m.follow) ≡ false) (input : Option (List ℕ))
    (old new map_old map_new : Option (List ℕ)) (status : ℕ) where
  of_call : (m : CutMeaning) (dump : List ℕ) → status ≡ 0 → meaning ≡ Ok m → input ≡ Some dump
      → DrivesCut text_of meaning input old new map_old map_new status
      → (texts : List (List ℕ)) × AreTextsOf text_of m.targets texts × Promise (with_texts_of m texts) dump old new
  of_call m dump zero means known (Err usage, tells, obeys) = absurd (no_refusal status usage zero obeys.2)
  of_call m dump zero means known (Ok call, tells, inr (kept, map_kept, same)) = absurd (not_one status zero same)
  of_call m dump zero means known (Ok call, tells, inl (texts, are, answers)) =
      let both : Ok m ≡ Ok (cut_meaning call) = sym means ∙ tells in
      let same : cut_meaning call ≡ m = cc in (
        texts,
        subst (λ (x : CutMeaning). AreTextsOf text_of x.targets texts) same are,
        keep (with_texts_of m texts) dump old new (apart m means)
            (λ wet. whole_clean (with_texts_of m texts) dump old new map_old map_new status zero wet input known
            (subst (λ x. AnswersWhole (with_texts_of x texts) input old new map_old map_new status) same answers)),
      )

  pub of_drive : DrivesCut text_of meaning input old new map_old map_new status → (m : CutMeaning) (dump : List ℕ)
      → status ≡ 0 → meaning ≡ Ok m → input ≡ Some dump
      → (texts : List (List ℕ)) × AreTextsOf text_of m.targets texts × Promise (with_texts_of m texts) dump old new
  of_drive drives m dump zero means known = of_call m dump zero means known drives

-- the whole cut

-- what the filter wrote of all that it read, and what was sent of it
pub record CleanFiltered (settings : Settings) (deletes : Option (List (List (List ℕ)))) (read sent : List ℕ) : Type 0 where
  pub again : List DumpRecord
  pub filtered : List ℕ
  pub clean : IsCleanText settings read again filtered
  pub trims : IsTrimmedIf deletes filtered sent
  pub short : length sent < 10 ^ 18 → length filtered < 10 ^ 18

pub sent_whole : (settings : Settings) (deletes : Option (List (List (List ℕ)))) (read sent : List ℕ) (report : Report)
    → IsSent settings deletes None read sent (Clean report) → CleanFiltered settings deletes read sent
sent_whole settings None read sent report (again, clean, counts) = record {
  again = again;
  filtered = sent;
  clean = clean;
  trims = refl;
  short = λ fits. fits;
}
sent_whole settings (Some deletes) read sent report (filtered, (again, clean, counts), (cut, short, trims, same)) = record {
  again = again;
  filtered = filtered;
  clean = clean;
  trims = subst (IsTrimmedIf (Some deletes) filtered) (sym same) trims;
  short = λ fits. short;
}

pub zero_is_cut : (m : CutMeaning) (dump : List ℕ) (old new : Option (List ℕ)) → (m.keep && m.follow) ≡ false
    → (m.dry_run ≡ false → SentClean m dump old new) → ZeroIsCut m dump old new
zero_is_cut m dump old new apart sends wet stays all =
    let s = sends wet in
    let c = sent_whole s.settings s.deletes (text_read s.expansion dump) s.sent s.report
    (subst (λ a. IsSent s.settings s.deletes a (text_read s.expansion dump) s.sent (Clean s.report)) all s.answered) in (
      s.sent,
      s.arrived,
      λ short patched records revisions trees has loads agrees.
          whole_cut m apart dump s.sent s.expansion s.settings
          (s.cuts records c.again c.filtered s.sent has (read_numbered patched records revisions loads.makes) c.clean c.trims)
          c.again c.filtered c.clean
          (c.short short)
          patched records revisions trees has loads (agrees_if_added s.expansion patched agrees) stays,
    )

pub zero_is_dropped : (m : CutMeaning) (dump : List ℕ) (old new : Option (List ℕ)) → (m.keep && m.follow) ≡ false
    → (m.dry_run ≡ false → SentClean m dump old new) → ZeroIsDroppedCut m dump old new
zero_is_dropped m dump old new apart sends wet drops all =
    let s = sends wet in
    let c = sent_whole s.settings s.deletes (text_read s.expansion dump) s.sent s.report
    (subst (λ a. IsSent s.settings s.deletes a (text_read s.expansion dump) s.sent (Clean s.report)) all s.answered) in (
      s.sent,
      s.arrived,
      λ short patched records revisions trees has loads agrees.
          dropped_cut m apart dump s.sent s.expansion s.settings
          (s.cuts records c.again c.filtered s.sent has (read_numbered patched records revisions loads.makes) c.clean c.trims)
          c.again c.filtered c.clean
          (c.short short)
          patched records revisions trees has loads (agrees_if_added s.expansion patched agrees) s.preserves drops,
    )

pub zero_is_of_kept : (m : CutMeaning) (dump : List ℕ) (old new : Option (List ℕ)) → (m.keep && m.follow) ≡ false
    → (m.dry_run ≡ false → SentClean m dump old new) → ZeroIsOfKept m dump old new
zero_is_of_kept m dump old new apart sends side unkept wet all =
    let s = sends wet in
    let c = sent_whole s.settings s.deletes (text_read s.expansion dump) s.sent s.report
    (subst (λ a. IsSent s.settings s.deletes a (text_read s.expansion dump) s.sent (Clean s.report)) all s.answered) in (
      s.sent,
      s.arrived,
      λ short patched records revisions trees has loads.
          of_kept m apart dump s.sent s.expansion s.settings
          (s.cuts records c.again c.filtered s.sent has (read_numbered patched records revisions loads.makes) c.clean c.trims)
          c.again c.filtered c.clean (c.short short) patched records revisions trees has loads
          (none_added s.expansion patched (s.plain side unkept)) (s.plain side unkept) side unkept,
    )
