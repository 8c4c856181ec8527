-- What a sink has taken of a survey so far, and what it takes next.
use Rattle.dump_survey.proofs.Prelude.{◌≡◌, ◌≤◌, ℕ, ◌+◌, Bool, true, false, not, ◌||◌, ◌==◌, List, [], ◌∷◌, ◌++◌, length, map, flat_map, Option, refl, sym, ap, ap₂, ◌∙◌, subst, append_assoc, append-nil, arith, Result, Ok, Err, OnErr, list_any, or-false, ne_eqb, Appends, Appends-nil, Appends-trans, flat_map-append, Ending, Settings, Finding, every_finding, DumpFinding, each_dump_has_one_list, begins_prefix, IsPrefixOf, Counts, NotCanonical, Idle, Node, Finished, SurveyEnd, SurveyedNode, listed_findings, reported_at_end, ending_kind_line, finding_row, kind_line, kind_lines, prefix_kind, times_in_prefixes, times_reported, dump_line, PrefixReport, reported_prefixes, prefix_lines, survey_ending, IsSurveyText, BreaksOffSurvey, NodeReport, AreWithNode, count_in, has_found, SurveyStep, reported_of_finding, reported_of_node, Surveying, TakesPart}
use Rattle.dump_survey.specs.declared.findings.surveyor.Step.TheVariants.{Other}
use Rattle.dump_survey.specs.Kinds.{dump_kind_line}
use Rattle.dump_survey.specs.Lines.{node_line, ending_line}
use Rattle.dump_survey.proofs.PlaceLemmas.{findings_at_end}
use Rattle.dump_survey.proofs.KindLemmas.{counts_with_node, low_with_node, nothing_listed, same_counts, same_lines}
use Rattle.dump_survey.proofs.SurveyLemmas.{HaveReported, node_reported, nothing_reported, node_nearer, other_nearer, all_reported}
use Rattle.dump_survey.proofs.SurveyTextLemmas.{begins_text}

-- the lines of all kinds except those of nodes
abbrev kinds_behind : List DumpFinding → List PrefixReport → Ending → List ℕ
kinds_behind found prefixes ending = flat_map dump_kind_line found
    ++ (kind_line (times_in_prefixes prefixes NotCanonical) (prefix_kind NotCanonical)
    ++ (kind_line (times_in_prefixes prefixes Idle) (prefix_kind Idle) ++ ending_kind_line ending))

-- whether a text isn't empty
abbrev pub has_some : List ℕ → Bool
has_some bytes = not (length bytes == 0)

-- the surveyor is at a place of this dump, and the sink has taken the lines of the reports for the records before it
pub record HasWritten (settings : Settings) (dump : List ℕ) (state : Surveying) (old new : Option (List ℕ))
    (found : Bool) (count : ℕ) (counts : Counts) : Type 0 where
  pub reported : List NodeReport
  pub have : HaveReported settings dump state reported
  pub appended : Appends old new (flat_map node_line reported)
  pub found_is : found ≡ has_some (flat_map node_line reported)
  pub counted : count ≡ state.number
  pub counts_are : (f : Finding) → count_in counts f ≡ times_reported reported f
  pub low : (f : Finding) → count_in counts f ≤ count

some_of_both : (xs ys : List ℕ) → has_some (xs ++ ys) ≡ (has_some xs || has_some ys)
some_of_both [] ys = refl
some_of_both (x ∷ xs) ys = filled x (xs ++ ys) ∙ sym (ap (λ b. b || has_some ys) (filled x xs))
  where
    filled : (y : ℕ) (rest : List ℕ) → has_some (y ∷ rest) ≡ true
    filled y rest = ap not (ne_eqb (length (y ∷ rest)) 0 (λ e. omega (arith, e)))

-- a true claim is true of a result if that is a failure
pub at_err : {X E A : Type 0} (r : Result X E) → A → OnErr r A
at_err (Ok x) is = tt
at_err (Err e) is = is

-- a success is no failure
pub no_error : {X E : Type 0} {x : X} {e : E} → Ok x ≡ Err e → ⊥
no_error is = cc

-- before the first record nothing was written
pub nothing_written : (settings : Settings) (dump : List ℕ) (state : Surveying) (taken : Option (List ℕ)) (counts : Counts)
    → state ≡ record { dump = dump; settings = settings; number = 0 } → ((f : Finding) → count_in counts f ≡ 0)
    → HasWritten settings dump state taken taken false 0 counts
nothing_written settings dump state taken counts is none = record {
  reported = [];
  have = record {
    dump_is = ap (λ (s : Surveying). s.dump) is;
    settings_is = ap (λ (s : Surveying). s.settings) is;
    before = [];
    begins = (let (records, ending, has, once) = each_dump_has_one_list dump in
        begins_prefix dump [] records (has.0, has.1, has.2));
    count = sym (ap (λ (s : Surveying). s.number) is);
    reported = refl;
  };
  appended = Appends-nil taken;
  found_is = refl;
  counted = sym (ap (λ (s : Surveying). s.number) is);
  counts_are = none;
  low = λ f. let its = none f in omega (arith, its);
}

module _ (settings : Settings) (dump : List ℕ) (state after : Surveying) (old new newer : Option (List ℕ)) (found : Bool)
    (count : ℕ) (counts : Counts) (so_far : HasWritten settings dump state old new found count counts) where
  -- the lines of a node's findings were written
  pub node_written : (node : SurveyedNode) (some : Bool) (more : Counts) → SurveyStep state (Node node) after
      → Appends new newer (flat_map node_line (reported_of_node node))
      → some ≡ has_some (flat_map node_line (reported_of_node node))
      → AreWithNode counts node.found more
      → HasWritten settings dump after old newer (found || some) (count + 1) more
  node_written node some more step appends some_is with_node =
      let all = flat_map-append node_line so_far.reported (reported_of_node node) in record {
        reported = so_far.reported ++ reported_of_node node;
        have = node_reported settings dump state after so_far.reported so_far.have node step;
        appended = subst (Appends old newer) (sym all) (Appends-trans old new newer _ _ so_far.appended appends);
        found_is = ap₂ (λ a b. a || b) so_far.found_is some_is
            ∙ (sym (some_of_both (flat_map node_line so_far.reported) (flat_map node_line (reported_of_node node)))
            ∙ ap has_some (sym all));
        counted = ap (λ n. n + 1) so_far.counted
            ∙ sym (node_nearer settings dump state after so_far.reported so_far.have node step).0;
        counts_are = counts_with_node counts more so_far.reported node so_far.counts_are with_node;
        low = low_with_node counts more node count so_far.low with_node;
      }

  -- nothing is written of another record
  pub other_written : SurveyStep state Other after → HasWritten settings dump after old new found (count + 1) counts
  other_written step = record {
    reported = so_far.reported;
    have = nothing_reported settings dump state after so_far.reported so_far.have step;
    appended = so_far.appended;
    found_is = so_far.found_is;
    counted = ap (λ n. n + 1) so_far.counted
        ∙ sym (other_nearer settings dump state after so_far.reported so_far.have step).0;
    counts_are = so_far.counts_are;
    low = λ f. let below = so_far.low f in omega (arith, below);
  }

  -- the sink has taken a first part of the text
  pub broken_off : BreaksOffSurvey settings dump old new
  broken_off =
      let (text, found, is, begins) =
      begins_text settings dump so_far.have.before so_far.reported so_far.have.begins so_far.have.reported in record {
        text = text;
        found = found;
        is = is;
        part = flat_map node_line so_far.reported;
        begins = begins;
        appended = so_far.appended;
      }

  -- so it has if it took some of what followed
  broken_in : (lines text : List ℕ) (all : Bool) → IsSurveyText settings dump text all
      → IsPrefixOf (flat_map node_line so_far.reported ++ lines) text → TakesPart new newer lines
      → BreaksOffSurvey settings dump old newer
  broken_in lines text all is (behind, begins) (part, (rest, front), appends) = record {
    text = text;
    found = all;
    is = is;
    part = flat_map node_line so_far.reported ++ part;
    begins = (
      rest ++ behind,
      begins ∙ (ap (λ l. (flat_map node_line so_far.reported ++ l) ++ behind) front
          ∙ (append_assoc (flat_map node_line so_far.reported) (part ++ rest) behind
          ∙ (ap (λ l. flat_map node_line so_far.reported ++ l) (append_assoc part rest behind)
          ∙ sym (append_assoc (flat_map node_line so_far.reported) part (rest ++ behind))))),
    );
    appended = Appends-trans old new newer _ _ so_far.appended appends;
  }

  -- the sink has taken some of the lines of a node
  pub broken_in_node : (node : SurveyedNode) → SurveyStep state (Node node) after
      → TakesPart new newer (flat_map node_line (reported_of_node node)) → BreaksOffSurvey settings dump old newer
  broken_in_node node step takes =
      let have = node_reported settings dump state after so_far.reported so_far.have node step in
      let (text, all, is, begins) = begins_text settings dump have.before (so_far.reported ++ reported_of_node node) have.begins
      have.reported in
      broken_in (flat_map node_line (reported_of_node node)) text all is
      (subst (λ l. IsPrefixOf l text) (flat_map-append node_line so_far.reported (reported_of_node node)) begins) takes

  module _ (end : SurveyEnd) (step : SurveyStep state (Finished end) after) (prefixes : List PrefixReport)
      (prefixes_are : prefixes ≡ reported_prefixes so_far.have.before settings.prefixes) (lines : List ℕ)
      (lines_are : lines ≡ flat_map dump_line (reported_at_end end)
      ++ (prefix_lines prefixes ++ (ending_line count (survey_ending end.end)
      ++ kind_lines (count_in counts) (listed_findings end.dump) prefixes (survey_ending end.end)))) where
    -- with the lines of the end the text is complete
    text_whole : IsSurveyText settings dump (flat_map node_line so_far.reported ++ lines)
        (has_some (flat_map node_line so_far.reported ++ lines))
    text_whole =
        let all = all_reported settings dump state after so_far.reported so_far.have end step in record {
          records = so_far.have.before;
          ending = survey_ending end.end;
          has = all.0;
          reported = so_far.reported;
          are_reported = so_far.have.reported;
          of_dump = reported_at_end end;
          are_of_dump = all.1;
          text_is = ap (λ l. flat_map node_line so_far.reported ++ l)
              (lines_are ∙ (ap (λ ps. flat_map dump_line (reported_at_end end)
              ++ (prefix_lines ps ++ (ending_line count (survey_ending end.end)
              ++ kind_lines (count_in counts) (listed_findings end.dump) ps (survey_ending end.end)))) prefixes_are
              ∙ (ap (λ n. flat_map dump_line (reported_at_end end)
              ++ (prefix_lines (reported_prefixes so_far.have.before settings.prefixes)
              ++ (ending_line n (survey_ending end.end) ++ kind_lines (count_in counts) (listed_findings end.dump)
              (reported_prefixes so_far.have.before settings.prefixes) (survey_ending end.end))))
              (so_far.counted ∙ sym so_far.have.count)
              ∙ (ap (λ ks. flat_map dump_line (reported_at_end end)
              ++ (prefix_lines (reported_prefixes so_far.have.before settings.prefixes)
              ++ (ending_line (length so_far.have.before) (survey_ending end.end) ++ (ks
              ++ kinds_behind (listed_findings end.dump)
              (reported_prefixes so_far.have.before settings.prefixes) (survey_ending end.end)))))
              (same_lines (λ n f. kind_line n (finding_row f).kind) (count_in counts) (times_reported so_far.reported)
              so_far.counts_are every_finding)
              ∙ ap (λ fs. flat_map dump_line (reported_at_end end)
              ++ (prefix_lines (reported_prefixes so_far.have.before settings.prefixes)
              ++ (ending_line (length so_far.have.before) (survey_ending end.end)
              ++ kind_lines (times_reported so_far.reported) fs (reported_prefixes so_far.have.before settings.prefixes)
              (survey_ending end.end)))) (sym (findings_at_end end))))));
          found_is = refl;
        }

    pub whole_written : (some : Bool) → Appends new newer lines → some ≡ has_some lines
        → (text : List ℕ) × IsSurveyText settings dump text (found || some) × Appends old newer text
    whole_written some appends some_is = (
      flat_map node_line so_far.reported ++ lines,
      subst (IsSurveyText settings dump (flat_map node_line so_far.reported ++ lines))
          (some_of_both (flat_map node_line so_far.reported) lines
          ∙ ap₂ (λ a b. a || b) (sym so_far.found_is) (sym some_is)) text_whole,
      Appends-trans old new newer _ _ so_far.appended appends,
    )

    -- the sink has taken some of the lines of the end
    pub broken_in_end : TakesPart new newer lines → BreaksOffSurvey settings dump old newer
    broken_in_end takes = broken_in lines (flat_map node_line so_far.reported ++ lines)
        (has_some (flat_map node_line so_far.reported ++ lines)) text_whole
        ([], sym (append-nil (flat_map node_line so_far.reported ++ lines))) takes

-- a node without findings has no lines
pub silent_written : (settings : Settings) (dump : List ℕ) (state after : Surveying) (old new : Option (List ℕ))
    (found : Bool) (count : ℕ) (counts : Counts) → HasWritten settings dump state old new found count counts
    → (node : SurveyedNode) → SurveyStep state (Node node) after
    → list_any (has_found node.found) every_finding ≡ false
    → HasWritten settings dump after old new found (count + 1) counts
silent_written settings dump state after old new found count counts so_far node step none =
    let no_lines : [] ≡ flat_map node_line (reported_of_node node) =
    ap (λ fs. flat_map node_line (map (reported_of_finding node) fs)) (sym (nothing_listed node.found none)) in
    subst (λ b. HasWritten settings dump after old new b (count + 1) counts) (or-false found)
    (node_written settings dump state after old new new found count counts so_far node false counts step
    (subst (Appends new new) no_lines (Appends-nil new)) (ap has_some no_lines) (same_counts node.found none counts))
