-- If nothing that matters is reported, nothing that matters is found in the groups.
use Rattle.dump_survey.proofs.Prelude.{◌≡◌, ℕ, Bool, true, false, not, ◌&&◌, ◌||◌, ◌==◌, List, [], ◌∷◌, ◌++◌, length, flat_map, map, None, IsTrue, IsFalse, refl, sym, ap, ◌∙◌, subst, arith, append-nil, append_assoc, list_all, list_any, and_from, ne_eqb, first_true, second_true, first_false, second_false, not-true, not_from_false, false_from_ne_true, false_true, records_once, DumpRecord, Ending, HasRecords, FaultKind, CopySource, Settings, keeps_path, is_node, node_path, has_lost_source, is_whole_file, HoldsOfRecord, LengthsFit, IsCleanText, Patching, Finding, DumpFinding, AreDumpFindingsOf, is_obstacle, is_alarm, none_is, DumpRestricts, surveyed_dump, DumpReport, place_in, AreDumpReports, reported_prefixes, prefix_lines, NodeReport, reported_view, AreReported, survey_ending, all_findings, none_reported, SilentSurveyRestricts, SilentTextRestricts, SilentTextLeavesDigests, is_digest_fault, IsSurveyText, FindsNothing, stops_at, stops_somewhere, wanted_path, matches_itself, ArePrefixesToAddIn, AreAddedPrefixLines}
use Rattle.dump_survey.specs.FindingRows.{dump_row}
use Rattle.dump_survey.specs.Lines.{node_line, dump_line, broken_line, ending_line}
use Rattle.dump_survey.proofs.DigestLemmas.{digests_alone}
use Rattle.dump_survey.proofs.PlaceLemmas.{nothing_found}
use Rattle.dump_survey.proofs.TieLemmas.{reported_are_findings}
use Rattle.dump_history.specs.declared.findings.DumpFinding.TheVariants as dump_wide

any_both : (test : Finding → Bool) (xs ys : List Finding)
    → list_any test (xs ++ ys) ≡ (list_any test xs || list_any test ys)
any_both test [] ys = refl
any_both test (x ∷ xs) ys = cases (any_both test xs ys) (test x)
  where
    cases : list_any test (xs ++ ys) ≡ (list_any test xs || list_any test ys) → (b : Bool)
        → (b || list_any test (xs ++ ys)) ≡ ((b || list_any test xs) || list_any test ys)
    cases more true = refl
    cases more false = more

module _ (test : Finding → Bool) where
  none_of_nodes : (fs : List (List Finding)) → list_any test (flat_map (λ node. node) fs) ≡ false
      → list_all (λ node. not (list_any test node)) fs ≡ true
  none_of_nodes [] none = refl
  none_of_nodes (node ∷ fs) none =
      let both = sym (any_both test node (flat_map (λ other. other) fs)) ∙ none in
      and_from (not (list_any test node)) (list_all (λ other. not (list_any test other)) fs)
      (not_from_false (list_any test node) (first_false (list_any test node) _ both))
      (none_of_nodes fs (second_false (list_any test node) _ both))

  none_of_groups : (found : List (List (List Finding))) → list_any test (all_findings found) ≡ false
      → none_is test found ≡ true
  none_of_groups [] none = refl
  none_of_groups (fs ∷ found) none =
      let both = sym (any_both test (flat_map (λ node. node) fs) (all_findings found)) ∙ none in
      and_from (list_all (λ node. not (list_any test node)) fs) (none_is test found)
      (none_of_nodes fs (first_false (list_any test (flat_map (λ node. node) fs)) _ both))
      (none_of_groups found (second_false (list_any test (flat_map (λ node. node) fs)) _ both))

module _ (patched : Patching) (settings : Settings) (dump text : List ℕ) (records : List DumpRecord)
    (clean : IsCleanText settings dump records text) (fit : LengthsFit settings records) where
  -- if nothing that matters is reported of the dump, the premise of the law is true
  silent : (theirs : List DumpRecord) (ending : Ending) (reported : List NodeReport) → HasRecords dump theirs ending
      → AreReported settings [] None theirs reported → AreDumpFindingsOf settings theirs []
      → IsTrue (none_reported is_obstacle reported) → IsTrue (none_reported is_alarm reported)
      → DumpRestricts patched settings records text
  silent theirs ending reported has are nothing no_obstacle no_alarm =
      let same = records_once dump theirs records ending Ending.Whole has clean.whole in
      let here = subst (λ l. AreReported settings [] None l reported) same.0 are in
      let (found, have, all) = reported_are_findings settings dump records Ending.Whole reported clean.whole here in
      surveyed_dump patched settings dump text records found clean fit
      (subst (λ l. AreDumpFindingsOf settings l []) same.0 nothing) have
      (none_of_groups is_obstacle found (ap (list_any is_obstacle) (sym all) ∙ not-true _ no_obstacle))
      (none_of_groups is_alarm found (ap (list_any is_alarm) (sym all) ∙ not-true _ no_alarm))

-- so the law holds after a survey that reports nothing that matters
pub silent_restricts : SilentSurveyRestricts
silent_restricts patched settings dump text records survey clean fit is nothing no_obstacle no_alarm =
    silent patched settings dump text records clean fit is.records (survey_ending survey.end.end)
    (map reported_view survey.reported.items) is.has is.reported (nothing_found settings is.records (subst (AreDumpReports settings is.records)
    (ap (map (λ f. record { finding = f; at = place_in survey.end.places f })) nothing) is.found)) no_obstacle no_alarm

no_bytes : (xs : List ℕ) → false ≡ not (length xs == 0) → xs ≡ []
no_bytes [] is = refl
no_bytes (x ∷ xs) is = absurd (true_is_no_false (sym (ap not (ne_eqb (length (x ∷ xs)) 0 (λ e. omega (arith, e))))
    ∙ sym is))
  where
    true_is_no_false : true ≡ false → ⊥
    true_is_no_false e = cc

both_none : (xs ys : List ℕ) → xs ++ ys ≡ [] → (xs ≡ []) × (ys ≡ [])
both_none [] ys none = (refl, none)
both_none (x ∷ xs) ys none = cc

-- the line of a node isn't empty
no_lines : (reported : List NodeReport) → flat_map node_line reported ≡ [] → reported ≡ []
unfolding node_line
no_lines [] none = refl
no_lines (t ∷ reported) none = cc

-- the line of a finding in the dump as a whole isn't empty
some_words : (f : DumpFinding) → (dump_row f).words ≡ [] → ⊥
unfolding dump_row
some_words dump_wide.NoRevision none = cc
some_words dump_wide.OtherNumbers none = cc
some_words dump_wide.NumberFalls none = cc
some_words dump_wide.UnreadRevision none = cc
some_words dump_wide.NodeInFirst none = cc
some_words dump_wide.SourceBefore none = cc
some_words dump_wide.NodeOutside none = cc
some_words dump_wide.NumbersLeft none = cc

-- the line about the end of the list of records isn't empty
no_ending : (count : ℕ) (ending : Ending) → ending_line count ending ≡ [] → ending ≡ Ending.Whole
unfolding broken_line
no_ending count Ending.Whole none = refl
no_ending count (Ending.Broken _ _) none = cc

no_dump_lines : (reported : List DumpReport) → flat_map dump_line reported ≡ [] → reported ≡ []
unfolding dump_line
no_dump_lines [] none = refl
no_dump_lines (t ∷ reported) none = absurd (some_words t.finding
    (both_none (dump_row t.finding).words _ (both_none (dump_line t) (flat_map dump_line reported) none).0).0)

-- if no line is written, nothing is reported
module _ (settings : Settings) (dump said : List ℕ) (is : IsSurveyText settings dump said false) where
  each_part : (flat_map node_line is.reported ≡ []) × (flat_map dump_line is.of_dump ≡ [])
      × (ending_line (length is.records) is.ending ≡ [])
  each_part =
      let nothing = sym is.text_is ∙ no_bytes said is.found_is in
      let parts = both_none (flat_map node_line is.reported) _ nothing in
      let behind = both_none (flat_map dump_line is.of_dump) _ parts.1 in
      let prefixes = both_none (prefix_lines (reported_prefixes is.records settings.prefixes)) _ behind.1 in
      (parts.0, behind.0, (both_none (ending_line (length is.records) is.ending) _ prefixes.1).0)

  none_reported_of_nodes : is.reported ≡ []
  none_reported_of_nodes = no_lines is.reported each_part.0

  none_found_in_dump : AreDumpFindingsOf settings is.records []
  none_found_in_dump = nothing_found settings is.records
      (subst (AreDumpReports settings is.records) (no_dump_lines is.of_dump each_part.1) is.are_of_dump)

  whole : is.ending ≡ Ending.Whole
  whole = no_ending (length is.records) is.ending each_part.2

-- so nothing that matters is reported
pub silent_text_restricts : SilentTextRestricts
silent_text_restricts patched settings dump text said records clean fit is =
    let reported = none_reported_of_nodes settings dump said is in
    silent patched settings dump text records clean fit is.records is.ending is.reported is.has is.are_reported
    (none_found_in_dump settings dump said is)
    (none is.reported reported is_obstacle) (none is.reported reported is_alarm)
  where
    none : (reported : List NodeReport) → reported ≡ [] → (test : Finding → Bool) → IsTrue (none_reported test reported)
    none [] same test = refl
    none (t ∷ reported) same test = cc

-- and the filter stops only for a digest
pub silent_text_leaves_digests : SilentTextLeavesDigests
silent_text_leaves_digests settings dump said is = (
  is.records,
  subst (HasRecords dump is.records) (whole settings dump said is) is.has,
  λ before after r kind are holds. digests_alone settings is.records before after r kind
      (none_found_in_dump settings dump said is)
      (subst (AreReported settings [] None is.records) (none_reported_of_nodes settings dump said is) is.are_reported) are holds,
)

-- there is no prefix to add
module _ (settings : Settings) (records : List DumpRecord)
    (digests : (before after : List DumpRecord) (r : DumpRecord) (kind : FaultKind) → records ≡ before ++ r ∷ after
    → HoldsOfRecord settings before r kind → IsTrue (is_digest_fault kind)) where
  goes_on : (before after : List DumpRecord) (r : DumpRecord) → records ≡ before ++ r ∷ after
      → stops_at settings r ≡ false
  goes_on before after r are = false_from_ne_true (stops_at settings r)
      (λ stops. false_true (digests before after r CopySource are (lacks stops)))
    where
      kept : Bool
      kept = keeps_path settings (node_path r)

      lost : Bool
      lost = has_lost_source settings r

      changed : Bool
      changed = not (is_whole_file r)

      lacks : stops_at settings r ≡ true → HoldsOfRecord settings before r CopySource
      lacks stops =
          let node = first_true (is_node r) ((kept && lost) && changed) stops in
          let rest = second_true (is_node r) ((kept && lost) && changed) stops in
          let both = first_true (kept && lost) changed rest in
          and_from ((is_node r && kept) && lost) changed
          (and_from (is_node r && kept) lost (and_from (is_node r) kept node (first_true kept lost both))
          (second_true kept lost both))
          (second_true (kept && lost) changed rest)

  goes_on_from : (before rest : List DumpRecord) → records ≡ before ++ rest → stops_somewhere settings rest ≡ false
  goes_on_from before [] are = refl
  goes_on_from before (r ∷ rest) are =
      ap (λ b. b && matches_itself (wanted_path settings.side r) || stops_somewhere settings rest)
      (goes_on before rest r are)
      ∙ goes_on_from (before ++ r ∷ []) rest (are ∙ sym (append_assoc before (r ∷ []) rest))

pub nothing_is_to_add : (settings : Settings) (dump : List ℕ) → FindsNothing settings dump
    → ArePrefixesToAddIn settings dump []
nothing_is_to_add settings dump (said, is) =
    let (records, has, digests) = silent_text_leaves_digests settings dump said is in (
      records,
      Ending.Whole,
      has,
      record {
        wanted = [];
        are_wanted = tt;
        paths_are = refl;
        apart = refl;
        stops_nowhere = subst (λ (ps : List (List ℕ)). IsFalse (stops_somewhere (record settings { prefixes = ps }) records))
            (sym (append-nil settings.prefixes)) (goes_on_from settings records digests [] records refl);
      },
    )

-- so there is no line
pub no_lines_of_added_prefixes : (settings : Settings) (dump : List ℕ) → FindsNothing settings dump
    → AreAddedPrefixLines settings dump []
no_lines_of_added_prefixes settings dump nothing = record {
  paths = [];
  are_kept = nothing_is_to_add settings dump nothing;
  lines_are = refl;
}
