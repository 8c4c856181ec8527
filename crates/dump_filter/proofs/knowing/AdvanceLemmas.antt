-- One more record with its fate: what is true then, the text that is written, and the counts.
use Rattle.dump_filter.proofs.Prelude.{◌≡◌, ℕ, ◌+◌, ◌≤◌, Bool, true, false, not, ◌&&◌, ◌||◌, List, [], ◌∷◌, ◌++◌, length, refl, sym, ap, ◌∙◌, subst, length-append, suc, arith, Option, Some, None, Contains, MatchBool, count_by, cond, if◌then◌else◌, or_right, block_text, Property, block_stable, property_list_once, DumpRecord, Settings, KeptRevisions, RiseFrom, HasMergeLines, has_lines, new_value, is_revision_record, is_node, is_kept_node, is_mergeinfo, is_checked_text, value_of, HasPropertyBlock, CopyChange, Fate, Report, kept_revisions, revision_number, AreFaultFree, IsNewProperty, AreNewProperties, HasGoodMergeinfo, revision_own, node_own, IsWrittenText, PresentGroup, State, pending_count, revision_count, NoGroup, Pending, Written, stays, pads, next_number, IsOwnRevision, IsOwnNode, IsEndText, IsFrontText, IsPiece, with_kept, front_kept, end_kept, with_kept_revision, with_dropped_revision, front_report, end_report, ended, emptied, started, text_count, next_state, Shape, AreKept, Stands, Fresh, Idle, Passed, Waits}
use Rattle.std.proofs.lemmas.List.{append-nil}
use Rattle.dump_text.specs.declared.fault.FaultKind.TheVariants as faults
use Rattle.dump_filter.specs.declared.decide.Fate.TheVariants as fates
use Rattle.dump_filter.proofs.written.PropertyOutput.{IsNewValue}
use Rattle.dump_filter.proofs.groups.GroupLemmas.{plain_node}
use Rattle.dump_filter.proofs.groups.KeptLemmas.{front_rising}
use Rattle.dump_filter.proofs.groups.NumberLemmas.{count_one}
use Rattle.dump_filter.proofs.knowing.StandsNext.{IsReadable, keep_stands, drop_stands, hold_stands, pass_stands, becomes}
use Rattle.dump_filter.proofs.answer.FaultLemmas.{above_present}
use Rattle.dump_filter.proofs.answer.MergeLemmas.{lines_told}
use Rattle.dump_filter.proofs.answer.DecisionLemmas.{IsTaken}
use Rattle.dump_filter.proofs.knowing.OnceLemmas.{outputs_once}

-- a pending revision's properties can be read
pub pending_readable : (settings : Settings) (before : List DumpRecord) (s : State) → Shape settings before s
    → AreFaultFree settings before → IsReadable s.group
pending_readable settings before s (Fresh t c) free = tt
pending_readable settings before s (Idle t closed y other no_rev c) free = tt
pending_readable settings before s (Passed t closed y ns other rev all some c) free = tt
pending_readable settings before s (Waits t closed y ns other rev all none c) free =
    block_stable y
    (λ none. free closed ns y refl faults.Props (ap (λ b. b || is_kept_node settings y) rev, none))

-- the number of dropped revisions is that of an ended group, or unchanged
front_dropped : (group : PresentGroup) (report : Report)
    → (front_report group report).revisions_dropped ≡ report.revisions_dropped
front_dropped NoGroup report = refl
front_dropped Written report = refl
front_dropped (Pending w) report = refl

-- what is true after one more record
pub next_stands : (settings : Settings) (before : List DumpRecord) (s : State) (text : List ℕ) (r : DumpRecord)
    (fate : Fate) (checked : Bool) (piece : List ℕ)
    → Stands settings before s text → IsReadable s.group → IsTaken settings before s r fate
    → IsPiece settings s r fate piece
    → Stands settings (before ++ r ∷ []) (next_state settings s r fate checked) (text ++ piece)
next_stands settings before s text r (fates.Keep copy) checked piece st readable taken
    (front, own, joined, at_front, at_own) =
    let (plain, keep, new, source, known) = taken.is in
    let next = next_state settings s r (fates.Keep copy) checked in
    subst (λ (t : List ℕ). Stands settings (before ++ r ∷ []) next (text ++ t)) (sym joined)
    (keep_stands settings r plain text before s copy next.report front own st.shape st keep
    (sym (rw (plain_node r plain) refl) ∙ taken.in_order) (front_dropped s.group s.report) readable
    (taken.readable (or_right (is_revision_record r) (is_kept_node settings r) keep)) new source known at_front at_own)
next_stands settings before s text r fates.Drop checked piece st readable taken none =
    let (plain, drop) = taken.is in
    let next = next_state settings s r fates.Drop checked in
    subst (Stands settings (before ++ r ∷ []) next) (sym (ap (λ t. text ++ t) none ∙ append-nil text))
    (drop_stands settings r plain text before s next.report st.shape st drop
    (sym (rw (plain_node r plain) refl) ∙ taken.in_order) refl)
next_stands settings before s text r fates.Hold checked piece st readable taken ends =
    let (other, rev) = taken.is in
    hold_stands settings before s r other
    (next_state settings s r fates.Hold checked).report text piece st readable ends refl rev
    (above_present s r taken.in_order other rev)
next_stands settings before s text r fates.Pass checked piece st readable taken (front, joined, ends) =
    let (other, no_rev) = taken.is in
    let next = next_state settings s r fates.Pass checked in
    subst (λ (t : List ℕ). Stands settings (before ++ r ∷ []) next (text ++ t)) (sym joined)
    (pass_stands settings before s r other next.report text front st readable ends refl no_rev)

-- each accepted record has its text
revision_exists : (settings : Settings) (kept : KeptRevisions) (r : DumpRecord) (padded : Bool) → HasPropertyBlock r
    → (text : List ℕ) × IsOwnRevision settings kept r padded text
revision_exists settings kept r padded (ps, block) = (
  revision_own r (next_number settings kept r) padded ps,
  λ qs other. ap
      (λ (l : List Property). revision_own r (next_number settings kept r) padded l)
      (property_list_once r ps qs block other),
)

-- each value has a new one
value_exists : (settings : Settings) (kept : KeptRevisions) → RiseFrom kept.first kept.numbers → (p : Property)
    → (is_mergeinfo p ≡ true → ¬ ¬ HasMergeLines (value_of p)) → (q : Property) × IsNewProperty settings kept p q
value_exists settings kept rise p lines =
    let (value, is) = by_case (is_mergeinfo p) refl in (record { name = p.name; value = value }, (refl, is))
  where
    by_case : (b : Bool) → is_mergeinfo p ≡ b → (value : Option (List ℕ)) × IsNewValue settings kept p value b
    by_case true is =
        let has = has_lines (value_of p) (lines is) in
        (Some _, (_, refl, new_value settings kept rise (value_of p) has.0 has.1))
    by_case false is = (p.value, refl)

properties_exist : (settings : Settings) (kept : KeptRevisions) → RiseFrom kept.first kept.numbers
    → (ps : List Property) → ((p : Property) → Contains ps p → is_mergeinfo p ≡ true → ¬ ¬ HasMergeLines (value_of p))
    → (new : List Property) × AreNewProperties settings kept ps new
properties_exist settings kept rise [] lines = ([], tt)
properties_exist settings kept rise (p ∷ ps) lines =
    let (q, one) = value_exists settings kept rise p (lines p (0, omega arith, refl)) in
    let (new, all) = properties_exist settings kept rise ps (λ x (i, within, at). lines x (suc i, omega arith, at)) in
    (q ∷ new, (one, all))

node_exists : (settings : Settings) (kept : KeptRevisions) (r : DumpRecord) (copy : CopyChange)
    → RiseFrom kept.first kept.numbers → HasPropertyBlock r → HasGoodMergeinfo r.props
    → (text : List ℕ) × IsOwnNode settings kept r copy text
node_exists settings kept r copy rise (ps, block) lines =
    let (new, all) = properties_exist settings kept rise ps (lines ps block.0) in (
      node_own r copy new,
      λ qs other. (
        new,
        subst (λ (l : List Property). AreNewProperties settings kept l new)
            (property_list_once r ps qs block other) all,
        refl,
      ),
    )

front_exists : (settings : Settings) (kept : KeptRevisions) (group : PresentGroup) → IsReadable group → (text : List ℕ)
    × IsFrontText settings kept group text
front_exists settings kept NoGroup readable = ([], refl)
front_exists settings kept Written readable = ([], refl)
front_exists settings kept (Pending w) readable = revision_exists settings kept w.revision false readable

-- something is written when the group ends, if the pending revision can be read
pub end_exists : (settings : Settings) (kept : KeptRevisions) (group : PresentGroup) → IsReadable group
    → (text : List ℕ) × IsEndText settings kept group text
end_exists settings kept NoGroup readable = ([], refl)
end_exists settings kept Written readable = ([], refl)
end_exists settings kept (Pending w) readable = by_stays (stays settings w)
  where
    by_stays : (b : Bool) → (text : List ℕ)
        × MatchBool b (IsOwnRevision settings kept w.revision (pads settings w) text) (text ≡ [])
    by_stays true = revision_exists settings kept w.revision (pads settings w) readable
    by_stays false = ([], refl)

-- the kept revisions rise, also with the present one
rising : (s : State) → AreKept s.revisions s.group
    → RiseFrom (front_kept s.revisions.kept s.group).first (front_kept s.revisions.kept s.group).numbers
rising s = by_present s.revisions.present
  where
    by_present : (p : Option ℕ) → AreKept (record s.revisions { present = p }) s.group
        → RiseFrom (front_kept s.revisions.kept s.group).first (front_kept s.revisions.kept s.group).numbers
    by_present None (none, free) =
        subst (λ (k : KeptRevisions). RiseFrom k.first k.numbers)
        (sym (ap (front_kept s.revisions.kept) free ∙ none)) tt
    by_present (Some p) up = (front_rising s.revisions.kept s.group p up).rise

-- something is written for a record with a fate, if the pending revision can be read
pub piece_exists : (settings : Settings) (before : List DumpRecord) (s : State) (r : DumpRecord) (fate : Fate)
    → AreKept s.revisions s.group → IsReadable s.group → IsTaken settings before s r fate → (piece : List ℕ)
    × IsPiece settings s r fate piece
piece_exists settings before s r (fates.Keep copy) up readable taken =
    let keep = taken.is.1 in
    let front = front_exists settings s.revisions.kept s.group readable in
    let block = taken.readable (or_right (is_revision_record r) (is_kept_node settings r) keep) in
    let own = node_exists settings (front_kept s.revisions.kept s.group) r copy (rising s up) block
    (lines_told settings r keep (taken.free faults.MergeInfo) block) in
    (front.0 ++ own.0, (front.0, own.0, refl, front.1, own.1))
piece_exists settings before s r fates.Drop up readable taken = ([], refl)
piece_exists settings before s r fates.Hold up readable taken = end_exists settings s.revisions.kept s.group readable
piece_exists settings before s r fates.Pass up readable taken =
    let front = end_exists settings s.revisions.kept s.group readable in
    (front.0 ++ block_text r.headers, (front.0, refl, front.1))

-- the text of the state is what is written for the records
pub stands_written : (settings : Settings) (before : List DumpRecord) (s : State) (text : List ℕ)
    → Stands settings before s text → IsWrittenText settings false before text
stands_written settings before s text st =
    st.written (kept_revisions settings before) (becomes settings before s text st)

-- the text of the state is the only one that is written for the records
pub stands_once : (settings : Settings) (before : List DumpRecord) (s : State) (text other : List ℕ)
    → Stands settings before s text → IsWrittenText settings false before other → text ≡ other
stands_once settings before s text other st written =
    outputs_once settings false (kept_revisions settings before) before text other
    (stands_written settings before s text st) written

-- the counts of kept revisions
pub ended_counted : (settings : Settings) (s : State) → s.report.revisions_kept ≡ length s.revisions.kept.numbers
    → (ended settings s).report.revisions_kept ≡ length (ended settings s).revisions.kept.numbers
ended_counted settings s is = by_group s.group
  where
    by_group : (group : PresentGroup)
        → (end_report settings group s.report).revisions_kept
        ≡ length (end_kept settings s.revisions.kept group).numbers
    by_group NoGroup = is
    by_group Written = is
    by_group (Pending w) = by_stays (stays settings w)
      where
        by_stays : (b : Bool) → (if b then with_kept_revision s.report
            else with_dropped_revision s.report).revisions_kept
            ≡ length (if b then with_kept s.revisions.kept w.revision else s.revisions.kept).numbers
        by_stays true = ap (λ n. n + 1) is
            ∙ sym (length-append s.revisions.kept.numbers (revision_number w.revision ∷ []))
        by_stays false = is

-- after one more record the report's count of kept revisions is right
pub next_counted : (settings : Settings) (s : State) (r : DumpRecord) (fate : Fate) (checked : Bool)
    → AreKept s.revisions s.group → s.report.revisions_kept ≡ length s.revisions.kept.numbers
    → (next_state settings s r fate checked).report.revisions_kept
    ≡ length (next_state settings s r fate checked).revisions.kept.numbers
next_counted settings s r (fates.Keep copy) checked up is = by_group s.group
  where
    by_group : (group : PresentGroup)
        → (front_report group s.report).revisions_kept ≡ length (front_kept s.revisions.kept group).numbers
    by_group NoGroup = is
    by_group Written = is
    by_group (Pending w) = ap (λ n. n + 1) is
        ∙ sym (length-append s.revisions.kept.numbers (revision_number w.revision ∷ []))
next_counted settings s r fates.Drop checked up is = is
next_counted settings s r fates.Hold checked up is = by_present s.revisions.present up
  where
    by_present : (p : Option ℕ) → AreKept (record s.revisions { present = p }) s.group
        → (end_report settings s.group s.report).revisions_kept
        ≡ length (started p r (end_kept settings s.revisions.kept s.group)).numbers
    by_present None (none, free) =
        ap (λ (g : PresentGroup). (end_report settings g s.report).revisions_kept) free ∙ is
        ∙ ap (λ (k : KeptRevisions). length k.numbers) none
    by_present (Some p) rising = ended_counted settings s is
next_counted settings s r fates.Pass checked up is = ended_counted settings s is

-- room for the counts of revisions
ended_room : (settings : Settings) (group : PresentGroup) (report : Report) (n : ℕ)
    → report.revisions_kept + report.revisions_dropped + pending_count group ≤ n
    → (end_report settings group report).revisions_kept + (end_report settings group report).revisions_dropped ≤ n
ended_room settings NoGroup report n room = omega arith
ended_room settings Written report n room = omega arith
ended_room settings (Pending w) report n room = by_stays (stays settings w)
  where
    by_stays : (b : Bool) → (if b then with_kept_revision report else with_dropped_revision report).revisions_kept
        + (if b then with_kept_revision report else with_dropped_revision report).revisions_dropped ≤ n
    by_stays true = omega arith
    by_stays false = omega arith

-- one more record adds at most one to the count of revisions
pub next_room : (settings : Settings) (s : State) (r : DumpRecord) (fate : Fate) (checked : Bool) (n : ℕ)
    → revision_count s ≤ n
    → revision_count (next_state settings s r fate checked) ≤ n + 1
next_room settings s r (fates.Keep copy) checked n room = by_group s.group room
  where
    by_group : (group : PresentGroup) → s.report.revisions_kept + s.report.revisions_dropped + pending_count group ≤ n
        → (front_report group s.report).revisions_kept + (front_report group s.report).revisions_dropped + 0 ≤ n + 1
    by_group NoGroup low = omega arith
    by_group Written low = omega arith
    by_group (Pending w) low = omega arith
next_room settings s r fates.Drop checked n room = by_group s.group room
  where
    by_group : (group : PresentGroup) → s.report.revisions_kept + s.report.revisions_dropped + pending_count group ≤ n
        → s.report.revisions_kept + s.report.revisions_dropped + pending_count (emptied group) ≤ n + 1
    by_group NoGroup low = omega arith
    by_group Written low = omega arith
    by_group (Pending w) low = omega arith
next_room settings s r fates.Hold checked n room = let low =
    ended_room settings s.group s.report n room in omega (arith, low)
next_room settings s r fates.Pass checked n room = let low =
    ended_room settings s.group s.report n room in omega (arith, low)

-- the counts of nodes and of texts after the present group has ended
pub ended_others : (settings : Settings) (group : PresentGroup) (report : Report)
    → ((end_report settings group report).nodes_kept ≡ report.nodes_kept)
    × ((end_report settings group report).nodes_dropped ≡ report.nodes_dropped)
    × ((end_report settings group report).texts_checked ≡ report.texts_checked)
ended_others settings NoGroup report = (refl, refl, refl)
ended_others settings Written report = (refl, refl, refl)
ended_others settings (Pending w) report = by_stays (stays settings w)
  where
    counted : Bool → Report
    counted b = if b then with_kept_revision report else with_dropped_revision report

    by_stays : (b : Bool) → ((counted b).nodes_kept ≡ report.nodes_kept)
        × ((counted b).nodes_dropped ≡ report.nodes_dropped)
        × ((counted b).texts_checked ≡ report.texts_checked)
    by_stays true = (refl, refl, refl)
    by_stays false = (refl, refl, refl)

front_nodes : (group : PresentGroup) (report : Report)
    → ((front_report group report).nodes_kept ≡ report.nodes_kept)
    × ((front_report group report).nodes_dropped ≡ report.nodes_dropped)
front_nodes NoGroup report = (refl, refl)
front_nodes Written report = (refl, refl)
front_nodes (Pending w) report = (refl, refl)

-- the counts of nodes after one more record
module _ (settings : Settings) (before : List DumpRecord) (s : State) (r : DumpRecord) (checked : Bool)
    (kept_is : s.report.nodes_kept ≡ count_by (is_kept_node settings) before)
    (dropped_is : s.report.nodes_dropped ≡ count_by (λ x. is_node x && not (is_kept_node settings x)) before) where
  one_kept : count_by (is_kept_node settings) (before ++ r ∷ [])
      ≡ count_by (is_kept_node settings) before + cond (is_kept_node settings r) 1 0
  one_kept = count_one (is_kept_node settings) before r

  one_dropped : count_by (λ x. is_node x && not (is_kept_node settings x)) (before ++ r ∷ [])
      ≡ count_by (λ x. is_node x && not (is_kept_node settings x)) before + cond
      (is_node r && not (is_kept_node settings r)) 1 0
  one_dropped = count_one (λ x. is_node x && not (is_kept_node settings x)) before r

  -- after one more record the report counts the kept nodes of all of them
  pub kept_nodes : (fate : Fate) → IsTaken settings before s r fate
      → (next_state settings s r fate checked).report.nodes_kept ≡ count_by (is_kept_node settings) (before ++ r ∷ [])
  kept_nodes (fates.Keep copy) taken =
      ap (λ n. n + 1) ((front_nodes s.group s.report).0 ∙ kept_is) ∙ sym (one_kept ∙ rw taken.is.1 refl)
  kept_nodes fates.Drop taken = kept_is ∙ sym (one_kept ∙ rw taken.is.1 (omega arith))
  kept_nodes fates.Hold taken =
      (ended_others settings s.group s.report).0 ∙ kept_is ∙ sym (one_kept ∙ rw taken.is.0 (omega arith))
  kept_nodes fates.Pass taken =
      (ended_others settings s.group s.report).0 ∙ kept_is ∙ sym (one_kept ∙ rw taken.is.0 (omega arith))

  -- after one more record the report counts those of all the nodes that aren't kept
  pub dropped_nodes : (fate : Fate) → IsTaken settings before s r fate
      → (next_state settings s r fate checked).report.nodes_dropped
      ≡ count_by (λ x. is_node x && not (is_kept_node settings x)) (before ++ r ∷ [])
  dropped_nodes (fates.Keep copy) taken =
      (front_nodes s.group s.report).1 ∙ dropped_is
      ∙ sym (one_dropped ∙ rw (taken.is.1, plain_node r taken.is.0) (omega arith))
  dropped_nodes fates.Drop taken =
      ap (λ n. n + 1) dropped_is ∙ sym (one_dropped ∙ rw (taken.is.1, plain_node r taken.is.0) refl)
  dropped_nodes fates.Hold taken =
      (ended_others settings s.group s.report).1 ∙ dropped_is ∙ sym (one_dropped ∙ rw taken.is.0 (omega arith))
  dropped_nodes fates.Pass taken =
      (ended_others settings s.group s.report).1 ∙ dropped_is ∙ sym (one_dropped ∙ rw taken.is.0 (omega arith))

-- the count of checked texts after one more record
pub next_texts : (settings : Settings) (before : List DumpRecord) (s : State) (r : DumpRecord) (checked : Bool)
    → checked ≡ is_checked_text settings r → s.report.texts_checked ≡ count_by (is_checked_text settings) before
    → text_count checked s.report ≡ count_by (is_checked_text settings) (before ++ r ∷ [])
next_texts settings before s r checked is count =
    by_case checked ∙ ap (λ n. n + cond checked 1 0) count
    ∙ ap (λ b. count_by (is_checked_text settings) before + cond b 1 0) is
    ∙ sym (count_one (is_checked_text settings) before r)
  where
    by_case : (b : Bool) → text_count b s.report ≡ s.report.texts_checked + cond b 1 0
    by_case true = refl
    by_case false = omega arith
