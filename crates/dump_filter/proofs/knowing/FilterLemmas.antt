-- A filter's step and end, from what it knows about the records that it has accepted.
use Rattle.dump_filter.proofs.Prelude.{◌≡◌, ◌↔◌, ◌⊎◌, ℕ, ◌+◌, ◌^◌, ◌<◌, ◌≤◌, Bool, true, false, not, ◌&&◌, List, [], ◌∷◌, ◌++◌, length, refl, sym, ap, ◌∙◌, subst, arith, length-append, filter, inl, inr, Option, Some, None, option_map, IsTrue, Result, Ok, Err, or_right, not-false, length-map, count_by-le-length, length-filter, FaultKind, NoFault, Property, tail-eq, block_or_not, Record, DumpRecord, record_dump, record_number, record_item, BeginsWithRecords, IsRecordOf, strip, begins_once, one_more, least_once, Settings, done_record, done_settings, done_verdict, Done, is_revision_record, is_node, is_kept_node, is_checked_text, IsVerdict, Verdict, CopyChange, Fate, Inside, Report, groups, group_number, keeps_group, kept_revisions, HoldsOfRecord, IsRecordFault, AreFaultFree, IsWrittenText, report_of, Seen, FilterState, count_up_to, AreAccepted, IsOfSameDump, Accepts, Refuses, Finishes, State, CanCountMore, view_state, new_state, revision_count, IsEndText, IsPiece, ended, next_state, decided, AreAsked, Stands, AreUpTo, KnowsAccepted, Fresh, absurd_bool, false_from_ne_true, not-true, ∥∥₁_elim, transport, IsReadNode}
use Rattle.dump_text.specs.declared.fault.FaultKind.TheVariants as faults
use Rattle.dump_filter.specs.declared.decide.Fate.TheVariants as fates
use Rattle.dump_filter.proofs.knowing.StandsNext.{IsReadable, ended_numbers, ended_dropped, ended_text, becomes_ended}
use Rattle.dump_filter.proofs.answer.DecisionLemmas.{IsTaken, IsAnswer, answered}
use Rattle.dump_filter.proofs.knowing.AdvanceLemmas.{pending_readable, next_stands, stands_written, stands_once, ended_counted, ended_others, next_counted, next_room, kept_nodes, dropped_nodes, next_texts}

-- the accepted records are exactly one list
pub up_to_once : (last : Option Record) (rs ss : List DumpRecord) → AreUpTo last rs → AreUpTo last ss → rs ≡ ss
up_to_once None rs ss a b = a ∙ sym b
up_to_once (Some r) rs ss a b = begins_once (record_dump r) rs ss (a.1 ∙ sym b.1) a.0 b.0

abbrev pub seen : Record → Seen
seen r = record { dump = record_dump r; number = record_number r }

pub accepted_up_to : (settings : Settings) (active : Bool) (last : Option Record) (rs : List DumpRecord)
    → AreAccepted (record { settings = settings; last = option_map seen last; active = active }) rs → AreUpTo last rs
accepted_up_to settings active None rs a = a
accepted_up_to settings active (Some r) rs a = a

pub up_to_accepted : (settings : Settings) (active : Bool) (last : Option Record) (rs : List DumpRecord)
    → AreUpTo last rs → AreAccepted (record { settings = settings; last = option_map seen last; active = active }) rs
up_to_accepted settings active None rs a = a
up_to_accepted settings active (Some r) rs a = a

-- the empty list has no record
pub none_within : (b a : List DumpRecord) (x : DumpRecord) → [] ≡ b ++ x ∷ a → ⊥
none_within [] a x e = cc
none_within (c ∷ b) a x e = cc

-- an empty list of records has no fault
pub free_none : (settings : Settings) → AreFaultFree settings []
free_none settings = λ b a x is. absurd (none_within b a x is)

-- a record of a list with one more at its end is in the list, or is that one
snoc_split : (before b a : List DumpRecord) (r x : DumpRecord) → before ++ r ∷ [] ≡ b ++ x ∷ a
    → ((before ≡ b) × (r ≡ x)) ⊎ ((rest : List DumpRecord) × (before ≡ b ++ x ∷ rest))
snoc_split [] [] a r x is = inl (refl, cc)
snoc_split [] (c ∷ b) a r x is = absurd (none_within b a x (tail-eq r c [] (b ++ x ∷ a) is))
snoc_split (y ∷ before) [] a r x is = let same : y ≡ x = cc in inr (before, ap (λ z. z ∷ before) same)
snoc_split (y ∷ before) (c ∷ b) a r x is =
    let same : y ≡ c = cc in
    elim (snoc_split before b a r x (tail-eq y c (before ++ r ∷ []) (b ++ x ∷ a) is)) [
      | inl (l, last) ↦ inl ((λ i. same i ∷ l i), last)
      | inr (rest, l) ↦ inr (rest, (λ i. same i ∷ l i))
    ]

-- the same text of the same records with the same settings
pub written_as : (ended : Bool) {u v : Settings} {l m : List DumpRecord} {s t : List ℕ} → u ≡ v → l ≡ m → s ≡ t
    → IsWrittenText u ended l s → IsWrittenText v ended m t
written_as ended settings lists texts =
    transport (λ i. IsWrittenText (settings i) ended (lists i) (texts i))

-- records without a fault, with one more that has none, have no fault
pub free_more : (settings : Settings) (before : List DumpRecord) (r : DumpRecord) → AreFaultFree settings before
    → NoFault (HoldsOfRecord settings before r) → AreFaultFree settings (before ++ r ∷ [])
free_more settings before r free last b a x is fault h =
    elim (snoc_split before b a r x is) [
      | inl same ↦ last fault (transport (λ i. HoldsOfRecord settings (sym same.0 i) (sym same.1 i) fault) h)
      | inr more ↦ free b more.0 x more.1 fault h
    ]

-- the records up to the next one
pub begins_none : (dump : List ℕ) → BeginsWithRecords dump []
begins_none dump = let s = strip dump in (s.rest, (s.count, s.is, s.stop), tt)

pub up_to_next : (settings : Settings) (active : Bool) (last : Option Record) (before : List DumpRecord) (r : Record)
    → AreUpTo last before
    → IsOfSameDump (record { settings = settings; last = option_map seen last; active = active }) (record_dump r)
    → record_number r ≡ count_up_to (option_map seen last)
    → AreUpTo (Some r) (before ++ record_item r ∷ [])
up_to_next settings active None before r none same number =
    let count : length before ≡ record_number r = ap length none ∙ sym number in (
      one_more (record_dump r) before (record_item r)
          (subst (BeginsWithRecords (record_dump r)) (sym none) (begins_none (record_dump r)))
          (subst (λ (n : ℕ). ∥ IsRecordOf (record_dump r) n (record_item r) ∥₁) (sym count) r.numbered),
      length-append before (record_item r ∷ []) ∙ ap (λ n. n + 1) count,
    )
up_to_next settings active (Some l) before r up same number =
    let count : length before ≡ record_number r = up.1 ∙ sym number in (
      one_more (record_dump r) before (record_item r) (subst (λ (d : List ℕ). BeginsWithRecords d before) same up.0)
          (subst (λ (n : ℕ). ∥ IsRecordOf (record_dump r) n (record_item r) ∥₁) (sym count) r.numbered),
      length-append before (record_item r ∷ []) ∙ ap (λ n. n + 1) count,
    )

pub count_is : (last : Option Record) (before : List DumpRecord) → AreUpTo last before
    → length before ≡ count_up_to (option_map seen last)
count_is None before none = ap length none
count_is (Some l) before up = up.1

-- before the first record nothing is written
pub new_stands : (settings : Settings) → Stands settings [] new_state []
new_stands settings = record {
  present_is = refl;
  first_is = refl;
  shape = Fresh new_state (record { numbers_are = refl; dropped_are = refl });
  numbers = (refl, refl);
  written = λ whole may. refl;
}

-- a filter that has accepted nothing
pub new_knows : (settings : Settings) → KnowsAccepted settings None new_state
new_knows settings = record {
  before = [];
  up_to = refl;
  free = free_none settings;
  text = [];
  stands = new_stands settings;
  counted = refl;
  room = omega arith;
  kept_is = refl;
  dropped_is = refl;
  texts_is = refl;
}

-- the same facts about the same record and state
pub knows_as : (settings : Settings) (last last' : Option Record) (s s' : State) → KnowsAccepted settings last s
    → last' ≡ last → s' ≡ s → KnowsAccepted settings last' s'
knows_as settings last last' s s' knows l e =
    subst (λ (x : Option Record). KnowsAccepted settings x s') (sym l)
    (subst (λ (x : State). KnowsAccepted settings last x) (sym e) knows)

-- the properties that are needed of a record
pub asked_properties : (settings : Settings) (r : DumpRecord) (v : Verdict) → IsVerdict settings r v
    → (ps : List Property) × AreAsked settings r v ps
asked_properties settings r v means = elim (block_or_not r) [
  | inl (ps, list) ↦ (ps, λ keep ok. list)
  | inr none ↦ (
    [],
    λ keep ok. absurd
        (absurd_bool v.props_ok ok
        (means.props.1 (or_right (is_revision_record r) (is_kept_node settings r) keep, none))),
  )
]

-- the fields of an active filter, and its view
pub record Holds (f : Inside) (state : FilterState) : Type 0 where
  pub knows : KnowsAccepted f.options.now f.state.last (view_state f.state)
  pub view_is : record { settings = f.options.now; last = option_map seen f.state.last; active = f.active } ≡ state
  pub active : f.active ≡ true

-- the facts at the beginning of a call of an active filter
pub holds : (f : Inside) (state : FilterState)
    → (f.active ≡ true → KnowsAccepted f.options.now f.state.last (view_state f.state))
    → record { settings = f.options.now; last = option_map seen f.state.last; active = f.active } ≡ state
    → f.active ≡ true → Holds f state
holds f state knows view_is active = record { knows = knows active; view_is = view_is; active = active }

-- what the fields of an active filter give
module _ {f : Inside} {state : FilterState} (h : Holds f state) where
  abbrev settings : Settings
  settings = f.options.now

  abbrev s : State
  s = view_state f.state

  abbrev before : List DumpRecord
  before = h.knows.before

  is_before : (rs : List DumpRecord) → AreAccepted state rs → rs ≡ before
  is_before rs accepted = up_to_once f.state.last rs before
      (accepted_up_to settings f.active f.state.last rs
      (subst (λ (v : FilterState). AreAccepted v rs) (sym h.view_is) accepted)) h.knows.up_to

  accepted_is : AreAccepted state before
  accepted_is = subst (λ (v : FilterState). AreAccepted v before) h.view_is
      (up_to_accepted settings f.active f.state.last before h.knows.up_to)

  readable : IsReadable s.group
  readable = pending_readable settings before s h.knows.stands.shape h.knows.free

  settings_is : settings ≡ state.settings
  settings_is = ap (λ (v : FilterState). v.settings) h.view_is

  count_of : length before ≡ count_up_to state.last
  count_of = count_is f.state.last before h.knows.up_to ∙ ap (λ (v : FilterState). count_up_to v.last) h.view_is

  -- the text if the dump ends here
  pub finishes : (end : List ℕ) → IsEndText settings s.revisions.kept s.group end → Finishes state end
  finishes end ends records text accepted written =
      let same = is_before records accepted in
      let mine = written_as false (sym settings_is) same refl written in
      let texts = stands_once settings before s h.knows.text text h.knows.stands mine in
      written_as true settings_is (sym same) (ap (λ t. t ++ end) texts) at_end
    where
      at_end : IsWrittenText settings true before (h.knows.text ++ end)
      at_end = ended_text settings before s h.knows.text end h.knows.stands.shape h.knows.stands.numbers readable
          h.knows.stands.written ends
          (kept_revisions settings before) (becomes_ended settings before s h.knows.text h.knows.stands)

  -- the counts of the whole list
  pub reports : (records : List DumpRecord) → AreAccepted state records
      → (ended settings s).report ≡ report_of state.settings records
  reports records accepted =
      let same = is_before records accepted in
      let (nodes, others, texts) = ended_others settings s.group s.report in
      report-is (ended settings s).report (report_of settings before)
      (ended_counted settings s h.knows.counted
      ∙ ap length (ended_numbers settings before s h.knows.stands.shape)
      ∙ length-map (filter (keeps_group settings) (groups before)) group_number
      ∙ length-filter (keeps_group settings) (groups before))
      (ended_dropped settings before s h.knows.stands.shape)
      (nodes ∙ h.knows.kept_is) (others ∙ h.knows.dropped_is) (texts ∙ h.knows.texts_is)
      ∙ ap (report_of settings) (sym same) ∙ ap (λ (v : Settings). report_of v records) settings_is
    where
      report-is : (a b : Report) → a.revisions_kept ≡ b.revisions_kept → a.revisions_dropped ≡ b.revisions_dropped
          → a.nodes_kept ≡ b.nodes_kept
          → a.nodes_dropped ≡ b.nodes_dropped → a.texts_checked ≡ b.texts_checked → a ≡ b
      report-is a b p q r s t =
          λ i. record {
            revisions_kept = p i;
            revisions_dropped = q i;
            nodes_kept = r i;
            nodes_dropped = s i;
            texts_checked = t i;
          }

  -- no count is above the number of records, so each has room for one more if the next record's number has
  pub has_room : (number : ℕ) → number ≡ count_up_to state.last → number + 1 < 2 ^ 64 → CanCountMore s
  has_room number is small =
      let count = count_of in
      let room = h.knows.room in
      let kept = h.knows.kept_is in
      let dropped = h.knows.dropped_is in
      let texts = h.knows.texts_is in record {
        revisions = omega (arith, count, is, small, room);
        nodes_kept = omega (arith, count, is, small, kept, count_by-le-length (is_kept_node settings) before);
        nodes_dropped = omega (
          arith,
          count,
          is,
          small,
          dropped,
          count_by-le-length (λ x. is_node x && not (is_kept_node settings x)) before,
        );
        texts = omega (arith, count, is, small, texts, count_by-le-length (is_checked_text settings) before);
      }

  -- a step with a record that was checked with the filter's options
  module _ (done : Done) (asked : done_settings done ≡ state.settings) where
    abbrev r : DumpRecord
    r = record_item (done_record done)

    abbrev v : Verdict
    v = done_verdict done

    means : IsVerdict settings r v
    means = subst (λ (x : Settings). IsVerdict x r v) (asked ∙ sym settings_is) done.judged.verdict_is

    -- the result is the decision about the record with its properties, if these are needed
    abbrev IsDecided : Result Fate FaultKind → Type 0
    IsDecided result = (ps : List Property) → AreAsked settings r v ps → result ≡ decided settings s r v ps

    answer : (result : Result Fate FaultKind) → IsDecided result → IsAnswer settings before s r result
    answer result is =
        let (ps, of) = asked_properties settings r v means in
        subst (IsAnswer settings before s r) (sym (is ps of))
        (answered settings before s h.knows.text h.knows.stands (record_number (done_record done)) r
        (done_record done).stands.lawful v means ps of)

    -- the fault that is found is that of the record
    pub fault_told : (found : FaultKind) → IsDecided (Err found) → (kind : FaultKind)
        → (found ≡ kind) ↔ (IsTrue state.active × Refuses state r kind)
    fault_told found is kind = (
      (λ same. (
        ap (λ (x : FilterState). x.active) (sym h.view_is) ∙ h.active,
        (
          before,
          accepted_is,
          transport (λ i. IsRecordFault (settings_is i) before r (same i)) (answer (Err found) is),
        ),
      )),
      λ (active, (list, accepted, holds)). sym (least_once (HoldsOfRecord settings before r) kind found
          (transport (λ i. IsRecordFault (sym settings_is i) (is_before list accepted i) r kind) holds)
          (answer (Err found) is)),
    )

    module _ (fate : Fate) (is : IsDecided (Ok fate)) where
      taken : IsTaken settings before s r fate
      taken = answer (Ok fate) is

      -- a record with a fate has no fault
      pub never_refuses : (kind : FaultKind) → ¬ Refuses state r kind
      never_refuses kind (list, accepted, found) = taken.free kind
          (transport (λ i. HoldsOfRecord (sym settings_is i) (is_before list accepted i) r kind) found.holds)

      next : (piece : List ℕ) → IsPiece settings s r fate piece
          → Stands settings (before ++ r ∷ []) (next_state settings s r fate v.checked) (h.knows.text ++ piece)
      next piece text = next_stands settings before s h.knows.text r fate v.checked piece h.knows.stands readable taken
          text

      -- the properties of a record with a fate were read
      pub is_read : v.props_ok ≡ true
      is_read = not-false v.props_ok (false_from_ne_true (not v.props_ok) (λ bad. taken.free faults.Props
          (means.props.0 (not-true v.props_ok bad))))

      -- a node that is kept was read as one
      pub node_is_read : (copy : CopyChange) → fate ≡ fates.Keep copy → IsReadNode done
      node_is_read copy keeps = (
        subst (λ (x : Settings). is_kept_node x r ≡ true) (settings_is ∙ sym asked)
            (subst (IsTaken settings before s r) keeps taken).is.1,
        is_read,
        not-false v.merge_ok (false_from_ne_true (not v.merge_ok) (λ bad. ∥∥₁_elim (means.merge.0 (not-true v.merge_ok bad))
            (λ x y. absurd x) (taken.free faults.MergeInfo))),
      )

      -- a record whose fate is to be held back is a revision
      pub held_is_revision : fate ≡ fates.Hold → is_revision_record r ≡ true
      held_is_revision held = (subst (IsTaken settings before s r) held taken).is.1

      -- a record with a fate is accepted, and this is what is written for it
      pub accepts : (piece : List ℕ) → IsPiece settings s r fate piece → Accepts state r piece
      accepts piece is_piece list accepted =
          let same = is_before list accepted in (
            transport (λ i. NoFault (HoldsOfRecord (settings_is i) (sym same i) r)) taken.free,
            λ text written.
                let mine = written_as false (sym settings_is) same refl written in
                let texts = stands_once settings before s h.knows.text text h.knows.stands mine in
                written_as false settings_is (ap (λ (l : List DumpRecord). l ++ r ∷ []) (sym same))
                (ap (λ t. t ++ piece) texts)
                (stands_written settings (before ++ r ∷ []) (next_state settings s r fate v.checked)
                (h.knows.text ++ piece) (next piece is_piece)),
          )

      -- after the next record of the dump, with its fate, the filter's state says what it has accepted
      pub next_knows : (piece : List ℕ) → IsPiece settings s r fate piece
          → IsOfSameDump state (record_dump (done_record done))
          → record_number (done_record done) ≡ count_up_to state.last
          → KnowsAccepted settings (Some (done_record done)) (next_state settings s r fate v.checked)
      next_knows piece is_piece same number = record {
        before = before ++ r ∷ [];
        up_to = up_to_next settings f.active f.state.last before (done_record done) h.knows.up_to
            (subst (λ (x : FilterState). IsOfSameDump x (record_dump (done_record done))) (sym h.view_is) same)
            (number ∙ ap (λ (x : FilterState). count_up_to x.last) (sym h.view_is));
        free = free_more settings before r h.knows.free taken.free;
        text = h.knows.text ++ piece;
        stands = next piece is_piece;
        counted = next_counted settings s r fate v.checked h.knows.stands.numbers h.knows.counted;
        room = subst (λ (n : ℕ). revision_count (next_state settings s r fate v.checked) ≤ n)
            (sym (length-append before (r ∷ [])))
            (next_room settings s r fate v.checked (length before) h.knows.room);
        kept_is = kept_nodes settings before s r v.checked h.knows.kept_is h.knows.dropped_is fate taken;
        dropped_is = dropped_nodes settings before s r v.checked h.knows.kept_is h.knows.dropped_is fate taken;
        texts_is = next_texts settings before s r v.checked means.checked h.knows.texts_is;
      }
