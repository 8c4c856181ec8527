-- A dump has one text of a survey, and one map of revisions.
use Rattle.dump_survey.proofs.Prelude.{◌≡◌, ◌⊎◌, ℕ, Bool, true, false, not, ◌==◌, List, [], ◌∷◌, ◌++◌, length, Option, Some, refl, sym, ap, ap₂, ◌∙◌, subst, append_assoc, inl, inr, AllZip, MatchBool, DumpRecord, Settings, Ending, HasRecords, kept_revisions, each_dump_has_one_list, map_lines, AreReported, NodeReport, survey_lines, DumpFinding, DumpReport, AreDumpReports, IsDumpReport, ComesUpAt, comes_up}
use Rattle.dump_history.proofs.survey.NamingTest.{dump_findings_once}
use Rattle.dump_survey.specs.declared.findings.places.Place.{Place}
use Rattle.dump_survey.specs.OnceLaws.{SurveyTextIsOnce, RevisionMapIsOnce}
use Rattle.dump_survey.proofs.TieLemmas.{reported_once}

same_records : (dump : List ℕ) (records others : List DumpRecord) (ending end : Ending)
    → HasRecords dump records ending → HasRecords dump others end → (others ≡ records) × (end ≡ ending)
same_records dump records others ending end has has_too =
    let (all, last, is, once) = each_dump_has_one_list dump in
    let one = once records ending has in
    let two = once others end has_too in
    (two.0 ∙ sym one.0, two.1 ∙ sym one.1)

pub revision_map_is_once : RevisionMapIsOnce
revision_map_is_once settings dump text other is too =
    let same = same_records dump is.records too.records is.ending too.ending is.has too.has in
    too.text_is ∙ ap (λ rs. map_lines settings (kept_revisions settings rs)) same.0 ∙ sym is.text_is

-- the first records of one list, cut at two places
abbrev Splits : (b c : List DumpRecord) (r s : DumpRecord) → Type 0
Splits b c r s = ((b ≡ c) × (r ≡ s))
    ⊎ (((m : List DumpRecord) × (c ≡ b ++ r ∷ m)) ⊎ ((m : List DumpRecord) × (b ≡ c ++ s ∷ m)))

splits : (b c x y : List DumpRecord) (r s : DumpRecord) → b ++ r ∷ x ≡ c ++ s ∷ y → Splits b c r s
splits [] [] x y r s same = inl (refl, (let e : r ≡ s = cc in e))
splits [] (d ∷ c) x y r s same = inr (inl (c, (let e : r ≡ d = cc in ap (λ q. q ∷ c) (sym e))))
splits (d ∷ b) [] x y r s same = inr (inr (b, (let e : d ≡ s = cc in ap (λ q. q ∷ b) e)))
splits (d ∷ b) (e ∷ c) x y r s same =
    let first : d ≡ e = cc in
    let rest : b ++ r ∷ x ≡ c ++ s ∷ y = cc in
    elim (splits b c x y r s rest) [
      | inl is ↦ inl (ap₂ (λ q l. q ∷ l) first is.0, is.1)
      | inr (inl is) ↦ inr (inl (is.0, ap₂ (λ q l. q ∷ l) (sym first) is.1))
      | inr (inr is) ↦ inr (inr (is.0, ap₂ (λ q l. q ∷ l) first is.1))
    ]

module _ (settings : Settings) (records : List DumpRecord) (f : DumpFinding) where
  place_once : (p q : Place) → ComesUpAt settings records f p → ComesUpAt settings records f q → q ≡ p
  place_once p q here there = elim (splits here.before there.before here.after there.after here.r there.r (sym here.are ∙ there.are)) [
    | inl same ↦
        there.is ∙ ap₂ (λ (b : List DumpRecord) (r : DumpRecord). record { number = length b; place = r.place })
        (sym same.0) (sym same.1) ∙ sym here.is
    | inr (inl (m, longer)) ↦
        absurd (there.none (here.before ++ here.r ∷ []) m
        (longer ∙ sym (append_assoc here.before (here.r ∷ []) m)) here.found)
    | inr (inr (m, longer)) ↦
        absurd (here.none (there.before ++ there.r ∷ []) m
        (longer ∙ sym (append_assoc there.before (there.r ∷ []) m)) there.found)
  ]

  report_once : (t u : DumpReport) → IsDumpReport settings records f t → IsDumpReport settings records f u → u ≡ t
  report_once t u is too =
      ap₂ (λ (g : DumpFinding) (at : Option Place). record { finding = g; at = at }) (too.finding ∙ sym is.finding)
      (by (comes_up f) is.at too.at)
    where
      by : (b : Bool)
          → MatchBool b ((p : Place) × (t.at ≡ Some p) × ComesUpAt settings records f p) (t.at ≡ Option.None)
          → MatchBool b ((p : Place) × (u.at ≡ Some p) × ComesUpAt settings records f p) (u.at ≡ Option.None)
          → u.at ≡ t.at
      by true (p, at, here) (q, at_too, there) = at_too ∙ ap (λ r. Some r) (place_once p q here there) ∙ sym at
      by false at at_too = at_too ∙ sym at

all_once : (settings : Settings) (records : List DumpRecord) (found : List DumpFinding) (reported others : List DumpReport)
    → AllZip (IsDumpReport settings records) found reported → AllZip (IsDumpReport settings records) found others
    → others ≡ reported
all_once settings records [] [] [] are too = refl
all_once settings records [] [] (u ∷ others) are too = absurd too
all_once settings records [] (t ∷ reported) others are too = absurd are
all_once settings records (f ∷ found) [] others are too = absurd are
all_once settings records (f ∷ found) (t ∷ reported) [] are too = absurd too
all_once settings records (f ∷ found) (t ∷ reported) (u ∷ others) are too =
    ap₂ (λ v l. v ∷ l) (report_once settings records f t u are.0 too.0)
    (all_once settings records found reported others are.1 too.1)

dump_reports_once : (settings : Settings) (records : List DumpRecord) (reported others : List DumpReport)
    → AreDumpReports settings records reported → AreDumpReports settings records others → others ≡ reported
dump_reports_once settings records reported others (found, are, zip) (found_too, are_too, zip_too) =
    let (all, is, once) = dump_findings_once settings records in
    all_once settings records found reported others zip
    (subst (λ fs. AllZip (IsDumpReport settings records) fs others) (once found_too are_too ∙ sym (once found are)) zip_too)

pub survey_text_is_once : SurveyTextIsOnce
survey_text_is_once settings dump text other found also is too =
    let same = same_records dump is.records too.records is.ending too.ending is.has too.has in
    let reported = reported_once settings is.records is.reported too.reported is.are_reported
    (subst (λ rs. AreReported settings [] Option.None rs too.reported) same.0 too.are_reported) in
    let of_dump = dump_reports_once settings is.records is.of_dump too.of_dump is.are_of_dump
    (subst (λ rs. AreDumpReports settings rs too.of_dump) same.0 too.are_of_dump) in
    let texts : other ≡ text =
    too.text_is ∙ ap₂ (λ (rs : List NodeReport) (ds : List DumpReport). survey_lines settings rs ds too.records too.ending) reported of_dump
    ∙ ap₂ (λ (rs : List DumpRecord) (e : Ending). survey_lines settings is.reported is.of_dump rs e) same.0 same.1
    ∙ sym is.text_is in
    (texts, too.found_is ∙ ap (λ (t : List ℕ). not (length t == 0)) texts ∙ sym is.found_is)
