-- A prefix is reported with each copy that is cut differently from its source, and with nothing else.
use Rattle.dump_survey.proofs.Prelude.{◌≡◌, ℕ, Bool, true, false, ◌&&◌, List, [], ◌∷◌, ◌++◌, length, map, filter, cond, Option, Some, None, is_some, MatchBool, refl, sym, ap, ap₂, ◌∙◌, map-append, Property, DumpRecord, Settings, is_node, node_path, copy_path, Finding, NodeFaults, cuts, every_finding, has_kept_path, has_kept_source, is_found, makes_copy, cutting_prefix, tells_cut, EachCutNamesPrefix, NodeReport, reported_in, present_after, IsReportedOfNode, IsReportedOf, AreReported}
use Rattle.dump_survey.proofs.CutLemmas.{cut_there}
use Rattle.dump_history.specs.declared.findings.Finding.TheVariants as findings

-- for each report, whether it has a prefix
abbrev named : List NodeReport → List Bool
named reported = map (λ (t : NodeReport). is_some t.prefix) reported

abbrev wanted : List NodeReport → List Bool
wanted reported = map (λ (t : NodeReport). tells_cut t.finding) reported

last_holds : (a b c d : Bool) → (a && b && c && d) ≡ true → d ≡ true
last_holds true true true d is = is
last_holds true true false d is = cc
last_holds true false c d is = cc
last_holds false b c d is = cc

module _ (settings : Settings) (r : DumpRecord) (ps : Option (List Property)) (m : NodeFaults) where
  found_named : (f : Finding) → is_found settings r ps m f ≡ true → is_some (cutting_prefix settings r f) ≡ tells_cut f
  found_named findings.CopyLoses is = cut_there settings (copy_path r) (node_path r)
      ∙ last_holds (has_kept_path settings r) (makes_copy r) (has_kept_source settings r)
      (cuts settings (copy_path r) (node_path r)) is
  found_named findings.CopyLetsIn is = cut_there settings (node_path r) (copy_path r)
      ∙ last_holds (has_kept_path settings r) (makes_copy r) (has_kept_source settings r)
      (cuts settings (node_path r) (copy_path r)) is
  found_named f is = refl

  all_named : (number revision : ℕ) (fs : List Finding)
      → named (map (reported_in settings number revision r) (filter (λ f. is_found settings r ps m f) fs))
      ≡ wanted (map (reported_in settings number revision r) (filter (λ f. is_found settings r ps m f) fs))
  all_named number revision [] = refl
  all_named number revision (f ∷ fs) = by (is_found settings r ps m f) refl (all_named number revision fs)
    where
      those : List Finding
      those = filter (λ g. is_found settings r ps m g) fs

      by : (b : Bool) → is_found settings r ps m f ≡ b
          → named (map (reported_in settings number revision r) those) ≡ wanted (map (reported_in settings number revision r) those)
          → named (map (reported_in settings number revision r) (cond b (f ∷ those) those))
          ≡ wanted (map (reported_in settings number revision r) (cond b (f ∷ those) those))
      by true is more = ap₂ (λ b bs. b ∷ bs) (found_named f is) more
      by false is more = more

named_of_record : (settings : Settings) (before : List DumpRecord) (present : Option ℕ) (r : DumpRecord)
    (reported : List NodeReport) → IsReportedOf settings before present r reported → named reported ≡ wanted reported
named_of_record settings before None r reported is = ap named is ∙ sym (ap wanted is)
named_of_record settings before (Some revision) r reported is = by (is_node r) is
  where
    by : (b : Bool) → MatchBool b (IsReportedOfNode settings before revision r reported) (reported ≡ []) → named reported ≡ wanted reported
    by true (fs, (ps, m, read, of, found), is) =
        let all = is ∙ ap (map (reported_in settings (length before) revision r)) found in
        ap named all ∙ (all_named settings r ps m (length before) revision every_finding ∙ sym (ap wanted all))
    by false is = ap named is ∙ sym (ap wanted is)

named_of_records : (settings : Settings) (before : List DumpRecord) (present : Option ℕ) (records : List DumpRecord)
    (reported : List NodeReport) → AreReported settings before present records reported → named reported ≡ wanted reported
named_of_records settings before present [] reported is = ap named is ∙ sym (ap wanted is)
named_of_records settings before present (r ∷ records) reported (this, others, is, one, more) =
    ap named is
    ∙ (map-append (λ (t : NodeReport). is_some t.prefix) this others
    ∙ (ap₂ (λ l m. l ++ m) (named_of_record settings before present r this one)
    (named_of_records settings (before ++ r ∷ []) (present_after present r) records others more)
    ∙ (sym (map-append (λ (t : NodeReport). tells_cut t.finding) this others) ∙ sym (ap wanted is))))

pub each_cut_names_prefix : EachCutNamesPrefix
each_cut_names_prefix settings records reported is = named_of_records settings [] None records reported is
