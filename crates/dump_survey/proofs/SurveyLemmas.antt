-- What a survey has reported so far, and what it has reported after one more record.
use Rattle.dump_survey.proofs.Prelude.{◌≡◌, ℕ, ◌+◌, ◌≤◌, List, [], ◌∷◌, ◌++◌, length, length-append, Option, None, refl, sym, ap, ap₂, ◌∙◌, subst, arith, append-nil, append_assoc, DumpRecord, BeginsWithRecords, HasRecords, begins_prefix, begins_once, count_fits, Settings, Node, Finished, SurveyedNode, SurveyEnd, reported_at_end, ArePlaces, AreDumpReports, NodeReport, present_after, IsReportedOf, AreReported, reported_of_node, PrefixReport, reported_prefixes, survey_ending, Surveying, ComesNext, open_behind, SurveyStep, ArePrefixesReported}
use Rattle.dump_survey.specs.declared.findings.surveyor.Step.TheVariants.{Other}

-- the surveyor is at a place of this dump, and this was reported of the records before it
pub record HaveReported (settings : Settings) (dump : List ℕ) (state : Surveying) (so_far : List NodeReport) : Type 0 where
  pub dump_is : state.dump ≡ dump
  pub settings_is : state.settings ≡ settings
  pub before : List DumpRecord
  pub begins : BeginsWithRecords dump before
  pub count : length before ≡ state.number
  pub reported : AreReported settings [] None before so_far

-- what is reported of some records and one more
reported_more : (settings : Settings) (before : List DumpRecord) (present : Option ℕ) (records : List DumpRecord)
    (r : DumpRecord) (reported this : List NodeReport) → AreReported settings before present records reported
    → IsReportedOf settings (before ++ records) (open_behind present records) r this
    → AreReported settings before present (records ++ r ∷ []) (reported ++ this)
reported_more settings before present [] r reported this none is = (
  this,
  [],
  ap (λ l. l ++ this) none ∙ sym (append-nil this),
  subst (λ rs. IsReportedOf settings rs present r this) (append-nil before) is,
  refl,
)
reported_more settings before present (x ∷ records) r reported this (first, others, all, one, more) is = (
  first,
  others ++ this,
  ap (λ l. l ++ this) all ∙ append_assoc first others this,
  one,
  reported_more settings (before ++ x ∷ []) (present_after present x) records r others this more
      (subst (λ rs. IsReportedOf settings rs (open_behind (present_after present x) records) r this)
      (sym (append_assoc before (x ∷ []) records)) is),
)

module _ (settings : Settings) (dump : List ℕ) (state after : Surveying) (reported : List NodeReport)
    (so_far : HaveReported settings dump state reported) where
  -- the records before the next one are the records that were reported
  pub same_before : (before : List DumpRecord) (r : DumpRecord) → ComesNext state before r after → before ≡ so_far.before
  same_before before r next = begins_once dump before so_far.before (next.count ∙ sym so_far.count)
      (begins_prefix dump before (r ∷ []) (subst (λ d. BeginsWithRecords d (before ++ r ∷ [])) so_far.dump_is next.begins))
      so_far.begins

  more : (before : List DumpRecord) (r : DumpRecord) (this : List NodeReport)
      → ComesNext state before r after
      → IsReportedOf state.settings before (open_behind None before) r this
      → HaveReported settings dump after (reported ++ this)
  more before r this next is =
      let same = same_before before r next in record {
        dump_is = ap (λ (s : Surveying). s.dump) next.next ∙ so_far.dump_is;
        settings_is = ap (λ (s : Surveying). s.settings) next.next ∙ so_far.settings_is;
        before = before ++ r ∷ [];
        begins = subst (λ d. BeginsWithRecords d (before ++ r ∷ [])) so_far.dump_is next.begins;
        count = length-append before (r ∷ [])
            ∙ (ap (λ n. n + 1) next.count ∙ sym (ap (λ (s : Surveying). s.number) next.next));
        reported = reported_more settings [] None before r reported this
            (subst (λ l. AreReported settings [] None l reported) (sym same) so_far.reported)
            (subst (λ s. IsReportedOf s before (open_behind None before) r this) so_far.settings_is is);
      }

  -- the findings of a node are reported
  pub node_reported : (node : SurveyedNode) → SurveyStep state (Node node) after
      → HaveReported settings dump after (reported ++ reported_of_node node)
  node_reported node (before, next, number, node_is, is) = more before _ (reported_of_node node) next is

  -- nothing is reported of another record
  pub nothing_reported : SurveyStep state Other after → HaveReported settings dump after reported
  nothing_reported (before, r, next, is) = subst (HaveReported settings dump after) (append-nil reported) (more before r [] next is)

  -- after one more record the surveyor is nearer to the end of the dump
  nearer : (before : List DumpRecord) (r : DumpRecord) → ComesNext state before r after
      → (after.number ≡ state.number + 1) × (after.number ≤ length dump)
  nearer before r next =
      let begins = subst (λ d. BeginsWithRecords d (before ++ r ∷ [])) so_far.dump_is next.begins in
      let fits = count_fits 0 0 dump begins.0 (before ++ r ∷ []) begins.1 in
      let size = length-append before (r ∷ []) in
      let count = next.count in
      let number = ap (λ (s : Surveying). s.number) next.next in
      (number, omega arith)

  pub node_nearer : (node : SurveyedNode) → SurveyStep state (Node node) after
      → (after.number ≡ state.number + 1) × (after.number ≤ length dump)
  node_nearer node (before, next, number, node_is, is) = nearer before _ next

  pub other_nearer : SurveyStep state Other after → (after.number ≡ state.number + 1) × (after.number ≤ length dump)
  other_nearer (before, r, next, is) = nearer before r next

  -- when the records end, the reports of the prefixes are those by the reported records
  pub prefixes_reported : (end : SurveyEnd) (reported : List PrefixReport) → SurveyStep state (Finished end) after
      → ArePrefixesReported after reported → reported ≡ reported_prefixes so_far.before settings.prefixes
  prefixes_reported end reported (all, has, all_count, found, places, same) are =
      let (records, begins, count, is) = subst (λ s. ArePrefixesReported s reported) same are in
      is ∙ ap₂ (λ (s : Settings) (rs : List DumpRecord). reported_prefixes rs s.prefixes) so_far.settings_is
      (begins_once dump records so_far.before (count ∙ sym so_far.count)
      (subst (λ d. BeginsWithRecords d records) so_far.dump_is begins) so_far.begins)

  -- when the records end, all findings were reported
  pub all_reported : (end : SurveyEnd) → SurveyStep state (Finished end) after
      → HasRecords dump so_far.before (survey_ending end.end)
      × AreDumpReports settings so_far.before (reported_at_end end) × ArePlaces settings so_far.before end.places
  all_reported end (records, has, count, found, places, next) =
      let here = subst (λ d. HasRecords d records (survey_ending end.end)) so_far.dump_is has in
      let all : records ≡ so_far.before = begins_once dump records so_far.before (count ∙ sym so_far.count)
      (here.0, here.1, here.2) so_far.begins in (
        subst (λ l. HasRecords dump l (survey_ending end.end)) all here,
        subst (λ (s : Settings). AreDumpReports s so_far.before (reported_at_end end)) so_far.settings_is
            (subst (λ (l : List DumpRecord). AreDumpReports state.settings l (reported_at_end end)) all found),
        subst (λ (s : Settings). ArePlaces s so_far.before end.places) so_far.settings_is
            (subst (λ (l : List DumpRecord). ArePlaces state.settings l end.places) all places),
      )
