-- What a surveyor knows after one more record, and what it finds when the records end.
use Rattle.dump_survey.proofs.Prelude.{◌≡◌, ◌⊎◌, ◌↔◌, ℕ, ◌+◌, ◌^◌, ◌<◌, Bool, true, false, not, ◌&&◌, ◌||◌, List, [], ◌∷◌, ◌++◌, length, length-append, map, filter, cond, Option, Some, None, refl, sym, ap, ap₂, ◌∙◌, subst, arith, inl, inr, Result, Ok, Err, IsTrue, MatchBool, list_all, and_from, Record, DumpRecord, record_text, is_lawful, IsCutInto, BeginsWithRecords, HasRecords, CutterState, EndsAfter, IsRecordOf, record_item, record_number, CutStep, one_more, whole_list, Settings, bare_prefix, is_revision_record, is_node, alone, Place, DumpFindings, Tally, leaves_number, LeaveNumber, no_tally, next_tally, numbers_of, tally_behind, tally_findings, no_places, AreNextPlaces, ArePlaces, Finding, every_finding, is_found, AreFindingsOf, IsUnreadRevision, HasUnreadRevision, AreDumpFindingsOf, TellsNaming, findings_once, Found, End, Known, SurveyEnd, Step, Node, Finished, Memory, Numbers, has_found, node_faults, IsFoundIn, AreNumbersBehind, SurveyedNode, NodeReport, IsReportedOfNode, IsReportedOf, reported_in, report_with_prefix, listed, reported_of_finding, reported_of_node, listed_findings, survey_ending, HaveSame, PrefixReport, AreWithout, is_touched_by, prefixes_by, Surveying, Surveys, IsStepOf, ReportsEnd, ComesNext, open_behind, SurveyStep, ArePrefixesReported}
use Rattle.std.specs.Result.{IfOk}
use Rattle.dump_records.specs.declared.cutter.Cut.TheVariants as cuts
use Rattle.dump_records.proofs.CutterLemmas.{begins_with_none}
use Rattle.dump_survey.specs.declared.findings.surveyor.Step.TheVariants.{Other}
use Rattle.dump_survey.proofs.IdleLemmas.{all_idle, idle_more, reported_by_idle}
use Rattle.dump_survey.proofs.TallyLemmas.{is_single, filter_same, tally_more, count_within, present_number, present_is}
use Rattle.dump_survey.proofs.LeftLemmas.{leave_more, tally_tells}
use Rattle.dump_survey.proofs.UnreadLemmas.{none_unread, unread_more}
use Rattle.dump_survey.proofs.NumberLemmas.{numbers_behind}
use Rattle.dump_survey.proofs.PlaceLemmas.{no_places_yet, places_next, reported_where_ended}

-- a lawful record isn't both a node and a revision
single : (number : ℕ) (r : DumpRecord) → is_lawful number r.headers ≡ true
    → is_single r ≡ true
single number r lawful = by (is_node r) refl
  where
    by : (b : Bool) → is_node r ≡ b → not (b && is_revision_record r) ≡ true
    by true node = ap not (alone number r lawful node)
    by false other = refl

-- the records of a dump aren't both either
singles : (number place : ℕ) (text rest : List ℕ) (records : List DumpRecord)
    → IsCutInto number place text records rest → list_all is_single records ≡ true
singles number place text rest [] cut = refl
singles number place text rest (r ∷ records) (lfs, front, after, is, at, stands, more) =
    and_from (is_single r) (list_all is_single records) (single number r stands.lawful)
    (singles (number + 1) (r.place + length (record_text r)) after rest records more)

pub begun_single : (dump : List ℕ) (records : List DumpRecord) → BeginsWithRecords dump records
    → list_all is_single records ≡ true
begun_single dump records (rest, cut, versions) = singles 0 0 dump rest records cut

-- the next record comes after the earlier ones
pub comes_next : (dump : List ℕ) (before : List DumpRecord) (number : ℕ) (r : DumpRecord)
    → BeginsWithRecords dump before → length before ≡ number → IsRecordOf dump number r
    → BeginsWithRecords dump (before ++ r ∷ [])
comes_next dump before number r begins count next =
    one_more dump before r begins ∣ subst (λ n. IsRecordOf dump n r) (sym count) next ∣₁

-- the state before the first record
pub at_first : (dump : List ℕ) (settings : Settings) (prefixes : List (List ℕ)) (known : Known) (cutter : CutterState)
    → cutter ≡ record { dump = dump; number = 0 } → prefixes ≡ map bare_prefix settings.prefixes
    → HaveSame known.idle (map bare_prefix settings.prefixes) → known.tally ≡ no_tally → known.numbers_left ≡ false
    → known.unread_revision ≡ false → known.places ≡ no_places → Surveys settings prefixes known cutter
at_first dump settings prefixes known cutter is same all none not_left no_unread no_place = record {
  prefixes_are = same;
  before = [];
  begins = begins_with_none cutter.dump;
  count = sym (ap (λ (c : CutterState). c.number) is);
  idle_are = all_idle settings.prefixes known.idle all;
  tallied = none;
  left_is = λ names tells. not_left;
  unread_is = subst (λ b. IsTrue b ↔ HasUnreadRevision []) (sym no_unread) none_unread;
  places_are = subst (ArePlaces settings []) (sym no_place) (no_places_yet settings);
}

-- what is found by the program is what is found in the node
found_is : (settings : Settings) (before : List DumpRecord) (numbers : Numbers) (r : DumpRecord) (found : Found)
    → AreNumbersBehind settings before r numbers → IsFoundIn settings numbers r found
    → AreFindingsOf settings before r (listed found)
found_is settings before numbers r found behind (faults, exact, named) =
    let (fs, (ps, m, read, of, is), once) = findings_once settings before r in (
      ps,
      node_faults found.refused,
      read,
      faults before behind,
      filter_same (λ f. has_found found f) (λ f. is_found settings r ps (node_faults found.refused) f)
          (exact ps read) every_finding,
    )

-- each finding of a node is reported with the prefix that cuts
reported_as : (settings : Settings) (numbers : Numbers) (node : SurveyedNode)
    → IsFoundIn settings numbers (record_item node.item) node.found → reported_of_node node
    ≡ map (reported_in settings (record_number node.item) node.revision (record_item node.item)) (listed node.found)
reported_as settings numbers node (faults, exact, named) =
    same_of_those (has_found node.found) (reported_of_finding node) (reported_in settings number node.revision r)
    (λ f has. ap (λ p. report_with_prefix p number node.revision r f) (named f has)) every_finding
  where
    r : DumpRecord
    r = record_item node.item

    number : ℕ
    number = record_number node.item

    same_of_those : (test : Finding → Bool) (one other : Finding → NodeReport)
        → ((f : Finding) → test f ≡ true → one f ≡ other f) → (fs : List Finding)
        → map one (filter test fs) ≡ map other (filter test fs)
    same_of_those test one other same [] = refl
    same_of_those test one other same (f ∷ fs) = by (test f) refl (same_of_those test one other same fs)
      where
        by : (b : Bool) → test f ≡ b → map one (filter test fs) ≡ map other (filter test fs)
            → map one (cond b (f ∷ filter test fs) (filter test fs))
            ≡ map other (cond b (f ∷ filter test fs) (filter test fs))
        by true is more = ap₂ (λ t ts. t ∷ ts) (same f is) more
        by false is more = more

-- the findings in a node of a revision are reported of it
reported_of : (settings : Settings) (before : List DumpRecord) (revision : ℕ) (r : DumpRecord) (found : List Finding)
    (reported : List NodeReport) → is_node r ≡ true → AreFindingsOf settings before r found
    → reported ≡ map (reported_in settings (length before) revision r) found → IsReportedOf settings before (Some revision) r reported
reported_of settings before revision r found reported node are is =
    subst (λ (b : Bool). MatchBool b (IsReportedOfNode settings before revision r reported) (reported ≡ []))
    (sym node) (found, are, is)

module _ (settings : Settings) (prefixes : List (List ℕ)) (known : Known) (cutter after : CutterState)
    (knows : Surveys settings prefixes known cutter) where
  -- the surveyor as its callers see it
  abbrev seen : CutterState → Surveying
  seen c = record { dump = c.dump; settings = settings; number = c.number }

  -- what is known when the records end
  pub ended : (end : End) (reported : SurveyEnd) → EndsAfter cutter.dump cutter.number (survey_ending end)
      → after ≡ cutter → ReportsEnd known end reported
      → SurveyStep (seen cutter) (Finished reported) (seen after)
  ended end reported ends same (end_is, places_is, found) =
      let begins = knows.begins in
      let has = whole_list cutter.dump knows.before (survey_ending end) begins
      (subst (λ n. EndsAfter cutter.dump n (survey_ending end)) (sym knows.count) ends) in (
        knows.before,
        subst (λ e. HasRecords cutter.dump knows.before (survey_ending e)) (sym end_is) has,
        knows.count,
        reported_where_ended settings knows.before reported
            (subst (AreDumpFindingsOf settings knows.before)
            (sym (found ∙ ap (λ (t : Tally). tally_findings t known.numbers_left known.unread_revision) knows.tallied))
            (tally_tells settings knows.before known.numbers_left known.unread_revision
            (begun_single cutter.dump knows.before begins) knows.left_is knows.unread_is))
            (subst (ArePlaces settings knows.before) (sym places_is) knows.places_are),
        subst (ArePlaces settings knows.before) (sym places_is) knows.places_are,
        ap seen same,
      )

  module _ (item : Record) (step : CutStep cutter (cuts.Item item) after) where
    next_begins : BeginsWithRecords cutter.dump (knows.before ++ record_item item ∷ [])
    next_begins = comes_next cutter.dump knows.before cutter.number (record_item item) knows.begins knows.count step.2

    -- the tally has room for one more revision
    pub room : known.tally.count + 1 < 2 ^ 64
    room =
        let within = count_within settings no_tally knows.before in
        let same = ap (λ (t : Tally). t.count) knows.tallied in
        let count = knows.count in
        let number = step.1 in
        let fits = item.counted in
        omega arith

    -- the tally after the record
    next_tallied : (next : Tally) → next ≡ next_tally settings known.tally (record_item item)
        → next ≡ tally_behind settings no_tally (knows.before ++ record_item item ∷ [])
    next_tallied next is = is ∙ (ap (λ t. next_tally settings t (record_item item)) knows.tallied
        ∙ sym (tally_more settings no_tally knows.before (record_item item)))

    -- whether numbers are left after the record
    next_left : (still : Bool) → ((names : DumpRecord → Bool) → TellsNaming names
        → still ≡ (known.numbers_left || leaves_number settings names known.tally (record_item item)))
        → LeaveNumber settings (knows.before ++ record_item item ∷ []) still
    next_left still still_is = λ names tells. still_is names tells
        ∙ (ap₂ (λ b (t : Tally). b || leaves_number settings names t (record_item item)) (knows.left_is names tells)
        knows.tallied
        ∙ sym (leave_more settings names no_tally knows.before (record_item item)))

    -- so this is found with the record
    next_found : (next : Tally) (still unread_still : Bool) (flags : DumpFindings)
        → next ≡ next_tally settings known.tally (record_item item)
        → LeaveNumber settings (knows.before ++ record_item item ∷ []) still
        → IsTrue unread_still ↔ HasUnreadRevision (knows.before ++ record_item item ∷ [])
        → listed_findings flags ≡ tally_findings next still unread_still
        → AreDumpFindingsOf settings (knows.before ++ record_item item ∷ []) (listed_findings flags)
    next_found next still unread_still flags is left_is unread_is flags_are =
        subst (AreDumpFindingsOf settings (knows.before ++ record_item item ∷ []))
        (sym (flags_are ∙ ap (λ (t : Tally). tally_findings t still unread_still) (next_tallied next is)))
        (tally_tells settings (knows.before ++ record_item item ∷ []) still unread_still
        (begun_single cutter.dump (knows.before ++ record_item item ∷ []) next_begins) left_is unread_is)

    -- and the surveyor's state after the record
    pub goes_on : (next : Known) → AreWithout (is_touched_by (record_item item)) known.idle next.idle
        → next.tally ≡ next_tally settings known.tally (record_item item)
        → ((names : DumpRecord → Bool) → TellsNaming names
        → next.numbers_left ≡ (known.numbers_left || leaves_number settings names known.tally (record_item item)))
        → IsTrue next.unread_revision ↔ (IsTrue known.unread_revision ⊎ IsUnreadRevision (record_item item))
        → (flags : DumpFindings)
        → listed_findings flags ≡ tally_findings next.tally next.numbers_left next.unread_revision
        → (here : Place) → here ≡ record { number = record_number item; place = (record_item item).place }
        → AreNextPlaces known.places flags here next.places → Surveys settings prefixes next after
    goes_on next without is still_is unread_so flags flags_are here here_is new_are = record {
      prefixes_are = knows.prefixes_are;
      before = knows.before ++ record_item item ∷ [];
      begins = subst (λ (c : CutterState). BeginsWithRecords c.dump (knows.before ++ record_item item ∷ []))
          (sym step.3) next_begins;
      count = length-append knows.before (record_item item ∷ [])
          ∙ (ap (λ n. n + 1) knows.count ∙ sym (ap (λ (c : CutterState). c.number) step.3));
      idle_are = idle_more knows.before (record_item item) settings.prefixes known.idle next.idle knows.idle_are without;
      tallied = next_tallied next.tally is;
      left_is = next_left next.numbers_left still_is;
      unread_is = unread_more knows.before (record_item item) known.unread_revision next.unread_revision
          knows.unread_is unread_so;
      places_are = places_next settings knows.before (record_item item) known.places next.places flags here
          knows.places_are (next_found next.tally next.numbers_left next.unread_revision flags is
          (next_left next.numbers_left still_is)
          (unread_more knows.before (record_item item) known.unread_revision next.unread_revision knows.unread_is
          unread_so) flags_are)
          (here_is ∙ ap (λ n. record { number = n; place = (record_item item).place }) (step.1 ∙ sym knows.count))
          new_are;
    }

    comes : ComesNext (seen cutter) knows.before (record_item item) (seen after)
    comes = record { begins = next_begins; count = knows.count; next = ap seen step.3 }

    present : present_number known.tally.present ≡ open_behind None knows.before
    present = ap (λ (t : Tally). present_number t.present) knows.tallied ∙ present_is settings no_tally knows.before

    -- the findings in the record are reported
    pub stepped : (reported : Step) → IsStepOf settings item known.tally reported → SurveyStep (seen cutter) reported (seen after)
    stepped (Finished end) is = absurd is
    stepped Other is = (
      knows.before,
      record_item item,
      comes,
      elim is [
        | inl none ↦ subst (λ p. IsReportedOf settings knows.before p (record_item item) [])
            (ap present_number (sym none) ∙ present) refl
        | inr other ↦ nothing (open_behind None knows.before) (is_node (record_item item)) refl other
      ],
    )
      where
        nothing : (p : Option ℕ) (b : Bool) → is_node (record_item item) ≡ b → b ≡ false
            → IsReportedOf settings knows.before p (record_item item) []
        nothing None b is other = refl
        nothing (Some revision) true is other = cc
        nothing (Some revision) false is other = rw is refl
    stepped (Node node) (same, is, revision, found) = (
      knows.before,
      subst (λ (i : Record). ComesNext (seen cutter) knows.before (record_item i) (seen after)) (sym same) comes,
      number,
      node_is,
      subst (λ (p : Option ℕ). IsReportedOf settings knows.before p r (reported_of_node node)) (sym revision ∙ present)
          (reported_of settings knows.before node.revision r (listed node.found) (reported_of_node node) node_is
          (found_is settings knows.before (numbers_of known.tally node.revision) r node.found behind finds)
          (reported_as settings (numbers_of known.tally node.revision) node finds
          ∙ ap (λ n. map (reported_in settings n node.revision r) (listed node.found)) (number ∙ sym knows.count))),
    )
      where
        r : DumpRecord
        r = record_item node.item

        number : record_number node.item ≡ cutter.number
        number = ap record_number same ∙ step.1

        node_is : is_node r ≡ true
        node_is = ap (λ (i : Record). is_node (record_item i)) same ∙ is

        finds : IsFoundIn settings (numbers_of known.tally node.revision) r node.found
        finds = subst (λ (i : Record). IsFoundIn settings (numbers_of known.tally node.revision) (record_item i) node.found)
            (sym same) found

        behind : AreNumbersBehind settings knows.before r (numbers_of known.tally node.revision)
        behind = subst (λ (t : Tally). AreNumbersBehind settings knows.before r (numbers_of t node.revision))
            (sym knows.tallied) (numbers_behind settings knows.before r node.revision
            (subst (λ (i : Record). list_all is_single (knows.before ++ record_item i ∷ []) ≡ true) (sym same)
            (begun_single cutter.dump (knows.before ++ record_item item ∷ []) next_begins)) node_is
            (ap (λ (t : Tally). present_number t.present) (sym knows.tallied) ∙ revision))

    -- the same for a result, if memory doesn't run out
    pub stepped_ok : (result : Result Step Memory) → IfOk result (IsStepOf settings item known.tally)
        → IfOk result (λ reported. SurveyStep (seen cutter) reported (seen after))
    stepped_ok (Ok reported) is = stepped reported is
    stepped_ok (Err e) is = tt

-- what is reported of the prefixes, if memory doesn't run out
pub reported_so_far : (settings : Settings) (prefixes : List (List ℕ)) (known : Known) (cutter : CutterState)
    → Surveys settings prefixes known cutter → (given : List (List ℕ)) → given ≡ settings.prefixes
    → {V : Type 0} (view : V → List PrefixReport) (result : Result V Memory)
    → IfOk result (λ reported. view reported ≡ prefixes_by known.idle given)
    → IfOk result (λ reported. ArePrefixesReported (record { dump = cutter.dump; settings = settings; number = cutter.number })
    (view reported))
reported_so_far settings prefixes known cutter knows given same view (Err e) is = tt
reported_so_far settings prefixes known cutter knows given same view (Ok reported) is = (
  knows.before,
  knows.begins,
  knows.count,
  is ∙ (ap (prefixes_by known.idle) same ∙ reported_by_idle knows.before settings.prefixes known.idle knows.idle_are),
)
