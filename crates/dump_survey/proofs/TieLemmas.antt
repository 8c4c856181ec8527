-- What is reported of a dump's nodes is what is found in its groups.
use Rattle.dump_survey.proofs.Prelude.{◌≡◌, ℕ, Bool, true, false, not, ◌&&◌, List, [], ◌∷◌, ◌++◌, length, map, flat_map, Option, Some, None, if◌then◌else◌, MatchBool, refl, sym, ap, ap₂, ◌∙◌, subst, append_assoc, list_all, and_parts, map-append, DumpRecord, Settings, is_revision_record, is_node, revision_number, Finding, AreFindingsBehind, HaveFindingsBehind, findings_once, NodeReport, reported_in, present_after, IsReportedOfNode, IsReportedOf, AreReported, all_findings, ReportsAreFindings, ReportedOnce}
use Rattle.dump_survey.proofs.TallyLemmas.{nodes, nodes_more, nodes_none, is_single}
use Rattle.dump_survey.proofs.SurveyorLemmas.{begun_single}

-- the findings of the reports
abbrev findings : List NodeReport → List Finding
findings reported = map (λ (t : NodeReport). t.finding) reported

-- the findings of nodes as one list
abbrev node_findings : List (List Finding) → List Finding
node_findings found = flat_map (λ node. node) found

-- the reports are the findings of the nodes that follow in the present revision, and then those of the groups; these
-- come after the records before
record Covers (settings : Settings) (before ns records : List DumpRecord) (reported : List NodeReport) : Type 0 where
  first : List (List Finding)
  found : List (List (List Finding))
  of_nodes : AreFindingsBehind settings before ns first
  of_groups : HaveFindingsBehind settings before records found
  same : findings reported ≡ node_findings first ++ all_findings found

-- the nodes that follow in the present revision, if there is one
abbrev own_nodes : Option ℕ → List DumpRecord → List DumpRecord
own_nodes None records = []
own_nodes (Some revision) records = nodes records

reported_findings : (settings : Settings) (number revision : ℕ) (r : DumpRecord) (found : List Finding)
    → findings (map (reported_in settings number revision r) found) ≡ found
reported_findings settings number revision r [] = refl
reported_findings settings number revision r (f ∷ found) = ap (λ fs. f ∷ fs) (reported_findings settings number revision r found)

module _ (settings : Settings) (before : List DumpRecord) (r : DumpRecord) (records : List DumpRecord) where
  -- the findings after the record
  abbrev Own : List (List (List Finding)) → Type 0
  Own found = (first : List (List Finding)) × (others : List (List (List Finding))) × (found ≡ first ∷ others)
      × AreFindingsBehind settings (before ++ r ∷ []) (nodes records) first
      × HaveFindingsBehind settings (before ++ r ∷ []) records others

  -- nothing is reported of a record that is no node
  none_reported : (present : Option ℕ) (this : List NodeReport) → is_node r ≡ false
      → IsReportedOf settings before present r this → this ≡ []
  none_reported None this other is = is
  none_reported (Some revision) this other is =
      subst (λ (b : Bool). MatchBool b (IsReportedOfNode settings before revision r this) (this ≡ [])) other is

  no_nodes : (present : Option ℕ) → is_node r ≡ false → own_nodes present (r ∷ records) ≡ []
  no_nodes None other = refl
  no_nodes (Some revision) other = nodes_none r records other

  -- a revision begins a group
  covers_revision : (present : Option ℕ) (this others : List NodeReport) → is_node r ≡ false
      → is_revision_record r ≡ true → IsReportedOf settings before present r this
      → Covers settings (before ++ r ∷ []) (nodes records) records others
      → Covers settings before (own_nodes present (r ∷ records)) (r ∷ records) (this ++ others)
  covers_revision present this others other rev is rest = record {
    first = [];
    found = rest.first ∷ rest.found;
    of_nodes = subst (λ ns. AreFindingsBehind settings before ns []) (sym (no_nodes present other)) refl;
    of_groups = subst (λ (b : Bool). MatchBool b (Own (rest.first ∷ rest.found))
        (HaveFindingsBehind settings (before ++ r ∷ []) records (rest.first ∷ rest.found))) (sym rev)
        (rest.first, rest.found, refl, rest.of_nodes, rest.of_groups);
    same = ap (λ l. findings (l ++ others)) (none_reported present this other is) ∙ rest.same;
  }

  -- no group begins at another record
  behind_other : (found : List (List (List Finding))) → is_revision_record r ≡ false
      → HaveFindingsBehind settings (before ++ r ∷ []) records found
      → HaveFindingsBehind settings before (r ∷ records) found
  behind_other found rev have = subst (λ (b : Bool). MatchBool b (Own found)
      (HaveFindingsBehind settings (before ++ r ∷ []) records found)) (sym rev) have

  -- a record that is neither a node nor a revision ends a group
  covers_other : (present : Option ℕ) (this others : List NodeReport) → is_node r ≡ false
      → is_revision_record r ≡ false → IsReportedOf settings before present r this
      → Covers settings (before ++ r ∷ []) [] records others
      → Covers settings before (own_nodes present (r ∷ records)) (r ∷ records) (this ++ others)
  covers_other present this others other rev is rest = record {
    first = [];
    found = rest.found;
    of_nodes = subst (λ ns. AreFindingsBehind settings before ns []) (sym (no_nodes present other)) refl;
    of_groups = behind_other rest.found rev rest.of_groups;
    same = ap (λ l. findings (l ++ others)) (none_reported present this other is)
        ∙ (rest.same ∙ ap (λ l. node_findings l ++ all_findings rest.found) rest.of_nodes);
  }

  -- a node belongs to the present revision, if there is one
  covers_node : (present : Option ℕ) (this others : List NodeReport) → is_node r ≡ true
      → is_revision_record r ≡ false → IsReportedOf settings before present r this
      → Covers settings (before ++ r ∷ []) (own_nodes present records) records others
      → Covers settings before (own_nodes present (r ∷ records)) (r ∷ records) (this ++ others)
  covers_node None this others node rev is rest = record {
    first = [];
    found = rest.found;
    of_nodes = refl;
    of_groups = behind_other rest.found rev rest.of_groups;
    same = ap (λ l. findings (l ++ others)) is
        ∙ (rest.same ∙ ap (λ l. node_findings l ++ all_findings rest.found) rest.of_nodes);
  }
  covers_node (Some revision) this others node rev is rest =
      let (fs, are, this_is) =
      subst (λ (b : Bool). MatchBool b (IsReportedOfNode settings before revision r this) (this ≡ [])) node is in record {
        first = fs ∷ rest.first;
        found = rest.found;
        of_nodes = subst (λ ns. AreFindingsBehind settings before ns (fs ∷ rest.first))
            (sym (nodes_more r records node)) (fs, rest.first, refl, are, rest.of_nodes);
        of_groups = behind_other rest.found rev rest.of_groups;
        same = map-append (λ (t : NodeReport). t.finding) this others
            ∙ (ap₂ (λ l m. l ++ m) (ap findings this_is ∙ reported_findings settings (length before) revision r fs) rest.same
            ∙ sym (append_assoc fs (node_findings rest.first) (all_findings rest.found)));
      }

  covers_step : (present : Option ℕ) (this others : List NodeReport) (v n : Bool) → is_revision_record r ≡ v
      → is_node r ≡ n → not (n && v) ≡ true → IsReportedOf settings before present r this
      → Covers settings (before ++ r ∷ [])
      (own_nodes (if v then Some (revision_number r) else if n then present else None) records) records others
      → Covers settings before (own_nodes present (r ∷ records)) (r ∷ records) (this ++ others)
  covers_step present this others true true rev node single is rest = cc
  covers_step present this others true false rev other single is rest =
      covers_revision present this others other rev is rest
  covers_step present this others false true rev node single is rest =
      covers_node present this others node rev is rest
  covers_step present this others false false rev other single is rest =
      covers_other present this others other rev is rest

covers : (settings : Settings) (before : List DumpRecord) (present : Option ℕ) (records : List DumpRecord)
    (reported : List NodeReport) → list_all is_single records ≡ true → AreReported settings before present records reported
    → Covers settings before (own_nodes present records) records reported
covers settings before None [] reported single is =
    record { first = []; found = []; of_nodes = refl; of_groups = refl; same = ap findings is }
covers settings before (Some revision) [] reported single is =
    record { first = []; found = []; of_nodes = refl; of_groups = refl; same = ap findings is }
covers settings before present (r ∷ records) reported single (this, others, reported_is, one, more) =
    let parts = and_parts (is_single r) (list_all is_single records) single in
    subst (Covers settings before (own_nodes present (r ∷ records)) (r ∷ records)) (sym reported_is)
    (covers_step settings before r records present this others (is_revision_record r) (is_node r) refl refl parts.0 one
    (covers settings (before ++ r ∷ []) (present_after present r) records others parts.1 more))

-- the reports for a dump's nodes are the findings of its groups
pub reported_are_findings : ReportsAreFindings
reported_are_findings settings dump records ending reported has is =
    let all = covers settings [] None records reported (begun_single dump records (has.0, has.1, has.2)) is in
    (all.found, all.of_groups, all.same ∙ ap (λ l. node_findings l ++ all_findings all.found) all.of_nodes)

one_reported : (settings : Settings) (before : List DumpRecord) (present : Option ℕ) (r : DumpRecord) (x y : List NodeReport)
    → IsReportedOf settings before present r x → IsReportedOf settings before present r y → y ≡ x
one_reported settings before None r x y is too = too ∙ sym is
one_reported settings before (Some revision) r x y is too = by (is_node r) is too
  where
    by : (b : Bool) → MatchBool b (IsReportedOfNode settings before revision r x) (x ≡ [])
        → MatchBool b (IsReportedOfNode settings before revision r y) (y ≡ []) → y ≡ x
    by true (fs, are, is) (gs, are_too, is_too) =
        let (all, has, once) = findings_once settings before r in
        is_too ∙ (ap (map (reported_in settings (length before) revision r)) (once gs are_too ∙ sym (once fs are)) ∙ sym is)
    by false is too = too ∙ sym is

reported_once_from : (settings : Settings) (before : List DumpRecord) (present : Option ℕ) (records : List DumpRecord)
    (reported others : List NodeReport) → AreReported settings before present records reported
    → AreReported settings before present records others → others ≡ reported
reported_once_from settings before present [] reported others is too = too ∙ sym is
reported_once_from settings before present (r ∷ records) reported others (x, xs, is, one, more) (y, ys, is_too, one_too, more_too) =
    is_too ∙ (ap₂ (λ l m. l ++ m) (one_reported settings before present r x y one one_too)
    (reported_once_from settings (before ++ r ∷ []) (present_after present r) records xs ys more more_too) ∙ sym is)

-- there is only one list of reports for a dump
pub reported_once : ReportedOnce
reported_once settings records reported others is too = reported_once_from settings [] None records reported others is too
