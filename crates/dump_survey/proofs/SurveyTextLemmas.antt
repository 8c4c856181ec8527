-- Each dump has the text of a survey, and the lines of what is reported of its first records are a first part of the
-- text.
use Rattle.dump_survey.proofs.Prelude.{◌≡◌, ℕ, Bool, true, false, not, ◌==◌, List, [], ◌∷◌, ◌++◌, take, drop, length, map, flat_map, Option, Some, None, MatchBool, refl, sym, ap, ◌∙◌, subst, append_assoc, flat_map-append, DumpRecord, BeginsWithRecords, each_dump_has_one_list, is_front, Settings, is_node, IsPrefixOf, findings_once, NodeReport, reported_in, present_after, IsReportedOfNode, IsReportedOf, AreReported, DumpReport, kind_lines, times_reported, dump_line, reported_prefixes, prefix_lines, IsSurveyText, survey_lines}
use Rattle.std.proofs.Common.{take-append-drop}
use Rattle.dump_survey.specs.Lines.{node_line, ending_line}
use Rattle.dump_survey.proofs.PlaceLemmas.{each_dump_reported}
use Rattle.dump_survey.proofs.TieLemmas.{reported_once}

-- for each record there are reports, possibly none
reported_of_record : (settings : Settings) (before : List DumpRecord) (present : Option ℕ) (r : DumpRecord)
    → (reported : List NodeReport) × IsReportedOf settings before present r reported
reported_of_record settings before None r = ([], refl)
reported_of_record settings before (Some revision) r = by (is_node r)
  where
    by : (b : Bool) → (reported : List NodeReport)
        × MatchBool b (IsReportedOfNode settings before revision r reported) (reported ≡ [])
    by true =
        let (found, are, once) = findings_once settings before r in
        (map (reported_in settings (length before) revision r) found, (found, are, refl))
    by false = ([], refl)

-- the same for a list of records
reported_of_records : (settings : Settings) (before : List DumpRecord) (present : Option ℕ) (records : List DumpRecord)
    → (reported : List NodeReport) × AreReported settings before present records reported
reported_of_records settings before present [] = ([], refl)
reported_of_records settings before present (r ∷ records) =
    let (this, one) = reported_of_record settings before present r in
    let (others, more) = reported_of_records settings (before ++ r ∷ []) (present_after present r) records in
    (this ++ others, (this, others, refl, one, more))

-- the reports of some records begin with the reports of the first of them
reported_front : (settings : Settings) (before : List DumpRecord) (present : Option ℕ) (records rest : List DumpRecord)
    (reported : List NodeReport) → AreReported settings before present (records ++ rest) reported
    → (front behind : List NodeReport) × (reported ≡ front ++ behind) × AreReported settings before present records front
reported_front settings before present [] rest reported are = ([], reported, refl, refl)
reported_front settings before present (r ∷ records) rest reported (this, others, is, one, more) =
    let (front, behind, same, are) =
    reported_front settings (before ++ r ∷ []) (present_after present r) records rest others more in (
      this ++ front,
      behind,
      is ∙ (ap (λ l. this ++ l) same ∙ sym (append_assoc this front behind)),
      (this, front, refl, one, are),
    )

-- the text of a survey begins with the lines of the reports of the first records
pub begins_text : (settings : Settings) (dump : List ℕ) (before : List DumpRecord) (reported : List NodeReport)
    → BeginsWithRecords dump before → AreReported settings [] None before reported
    → (text : List ℕ) × (found : Bool) × IsSurveyText settings dump text found
    × IsPrefixOf (flat_map node_line reported) text
begins_text settings dump before reported begins are =
    let (records, ending, has, once) = each_dump_has_one_list dump in
    let front : before ≡ take (length before) records = is_front dump records ending has before begins in
    let rest : List DumpRecord = drop (length before) records in
    let whole : before ++ rest ≡ records =
    ap (λ l. l ++ rest) front ∙ take-append-drop (length before) records in
    let (all, all_are) = reported_of_records settings [] None records in
    let (first, behind, is, first_are) = reported_front settings [] None before rest all
    (subst (λ l. AreReported settings [] None l all) (sym whole) all_are) in
    let same : reported ≡ first = reported_once settings before first reported first_are are in
    let (of_dump, of_dump_are) = each_dump_reported settings records in
    let end : List ℕ = flat_map dump_line of_dump
    ++ (prefix_lines (reported_prefixes records settings.prefixes) ++ (ending_line (length records) ending
    ++ kind_lines (times_reported all) (map (λ (t : DumpReport). t.finding) of_dump) (reported_prefixes records settings.prefixes) ending)) in (
      survey_lines settings all of_dump records ending,
      not (length (survey_lines settings all of_dump records ending) == 0),
      record {
        records = records;
        ending = ending;
        has = has;
        reported = all;
        are_reported = all_are;
        of_dump = of_dump;
        are_of_dump = of_dump_are;
        text_is = refl;
        found_is = refl;
      },
      (
        flat_map node_line behind ++ end,
        ap (λ l. flat_map node_line l ++ end) is
            ∙ (ap (λ l. l ++ end) (flat_map-append node_line first behind)
            ∙ (append_assoc (flat_map node_line first) (flat_map node_line behind) end
            ∙ ap (λ l. flat_map node_line l ++ (flat_map node_line behind ++ end)) (sym same))),
      ),
    )
