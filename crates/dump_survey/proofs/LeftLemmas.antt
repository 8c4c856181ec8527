-- Whether a kept node names a revision after a dropped one, record by record.
use Rattle.dump_survey.proofs.Prelude.{◌≡◌, ◌↔◌, Bool, true, false, IsTrue, not, ◌&&◌, ◌||◌, ◌==◌, List, [], ◌∷◌, ◌++◌, length, Option, Some, None, is_some, if◌then◌else◌, refl, sym, ap, ap₂, ◌∙◌, and-true, or-false, or_assoc, list_all, list_any, and_parts, DumpRecord, Settings, keeps_path, is_revision_record, revision_number, is_node, is_kept_node, node_path, Group, group_of, groups, keeps_group, keeps_empty, every_dump_finding, copies_from_before, is_found_in_dump, HasUnreadRevision, AreDumpFindingsOf, NamesRevision, TellsNaming, nodes_name, groups_name, groups_name_behind, same_truth, names_test, test_tells, behind_told, Present, Tally, is_behind_dropped, leaves_number, leave_number, LeaveNumber, no_tally, keeps_present, revision_tally, node_tally, other_tally, next_tally, tally_behind, is_tallied, tally_findings}
use Rattle.dump_survey.proofs.TallyLemmas.{is_single, filter_same, closes, closes_none, some_left, nodes, nodes_more, nodes_none, each_tallied}
use Rattle.std.proofs.Math.Bool.{and-false}

none_of : (a b : Bool) → (a && (b && false)) ≡ false
none_of true true = refl
none_of true false = refl
none_of false b = refl

neither : (b : Bool) → (if b then false else false) ≡ false
neither true = refl
neither false = refl

-- a group that follows groups that are all kept or not, and the groups after it
first_group : (all kept here behind later : Bool) → ((not all && here) || (if all && kept then behind else later))
    ≡ (if all then (if kept then behind else later) else here || later)
first_group true kept here behind later = refl
first_group false kept here behind later = refl

-- one more node of a revision
one_node : (a all here more later : Bool) → ((a && (not all && here)) || (a && ((not all && more) || later)))
    ≡ (a && ((not all && (here || more)) || later))
one_node true true here more later = refl
one_node true false true more later = refl
one_node true false false more later = refl
one_node false all here more later = refl

module _ (settings : Settings) (names : DumpRecord → Bool) where
  -- one more record
  pub leave_more : (t : Tally) (records : List DumpRecord) (r : DumpRecord)
      → leave_number settings names t (records ++ r ∷ [])
      ≡ (leave_number settings names t records || leaves_number settings names (tally_behind settings t records) r)
  leave_more t [] r = or-false (leaves_number settings names t r)
  leave_more t (x ∷ records) r =
      ap (λ b. leaves_number settings names t x || b) (leave_more (next_tally settings t x) records r)
      ∙ sym (or_assoc (leaves_number settings names t x)
      (leave_number settings names (next_tally settings t x) records) _)

  -- whether a node names a revision: one of these nodes, which follow in the present revision, or a node of these
  -- later groups
  abbrev names_later : Tally → Option Present → List DumpRecord → List Group → Bool
  names_later t p ns gs = (is_some p && (not t.all_kept && nodes_name settings names ns))
      || (if t.all_kept && closes settings p ns then groups_name_behind settings names gs
      else groups_name settings names gs)

  module _ (t : Tally) (r : DumpRecord) (records : List DumpRecord)
      (more : (u : Tally) → leave_number settings names u records
      ≡ (not settings.renumber && names_later u u.present (nodes records) (groups records))) where
    -- a record that is no node names no revision
    leaves_none : is_node r ≡ false → leaves_number settings names t r ≡ false
    leaves_none other =
        ap (λ b. not settings.renumber && (is_behind_dropped t && ((b && keeps_path settings (node_path r)) && names r)))
        other
        ∙ none_of (not settings.renumber) (is_behind_dropped t)

    -- after such a record, the present revision has all its nodes
    later_ends : is_node r ≡ false → (gs : List Group) → names_later t t.present (nodes (r ∷ records)) gs
        ≡ (if keeps_present settings t then groups_name_behind settings names gs else groups_name settings names gs)
    later_ends other gs =
        ap (λ ns. names_later t t.present ns gs) (nodes_none r records other)
        ∙ ap₂ (λ b c. b || (if t.all_kept && c then groups_name_behind settings names gs
        else groups_name settings names gs))
        (none_of (is_some t.present) (not t.all_kept)) (closes_none settings t.present)

    left_revision : is_node r ≡ false
        → (leaves_number settings names t r || leave_number settings names (revision_tally settings t (revision_number r)) records)
        ≡ (not settings.renumber
        && names_later t t.present (nodes (r ∷ records)) (group_of r records ∷ groups records))
    left_revision other =
        ap₂ (λ b c. b || c) (leaves_none other) (more (revision_tally settings t (revision_number r)))
        ∙ ap (λ b. not settings.renumber && b)
        (first_group (keeps_present settings t) (keeps_group settings (group_of r records))
        (nodes_name settings names (nodes records)) (groups_name_behind settings names (groups records))
        (groups_name settings names (groups records))
        ∙ sym (later_ends other (group_of r records ∷ groups records)))

    left_other : is_node r ≡ false
        → (leaves_number settings names t r || leave_number settings names (other_tally settings t) records)
        ≡ (not settings.renumber && names_later t t.present (nodes (r ∷ records)) (groups records))
    left_other other =
        ap₂ (λ b c. b || c) (leaves_none other) (more (other_tally settings t))
        ∙ ap (λ b. not settings.renumber && b)
        (ap (λ k. if k then groups_name_behind settings names (groups records)
        else groups_name settings names (groups records)) (and-true (keeps_present settings t))
        ∙ sym (later_ends other (groups records)))

    closes_more : (p : Present)
        → closes settings (Some (record { number = p.number; bare = false; kept = p.kept || is_kept_node settings r }))
        (nodes records)
        ≡ closes settings (Some p) (r ∷ nodes records)
    closes_more p =
        ap₂ (λ k b. p.number == 0 || k || keeps_empty settings.empty b)
        (or_assoc p.kept (is_kept_node settings r) (list_any (is_kept_node settings) (nodes records)))
        (sym (some_left (length (nodes records)) p.bare))

    -- a node if this revision is the present one
    left_at : is_node r ≡ true → (p : Option Present) → t.present ≡ p
        → ((not settings.renumber && ((is_some p && not t.all_kept) && (is_kept_node settings r && names r)))
        || leave_number settings names (node_tally t (is_kept_node settings r) (copies_from_before t.first r) p) records)
        ≡ (not settings.renumber && names_later t p (nodes (r ∷ records)) (groups records))
    left_at node None is =
        ap₂ (λ b c. b || c) (and-false (not settings.renumber))
        (more (node_tally t (is_kept_node settings r) (copies_from_before t.first r) None)
        ∙ ap (λ q. not settings.renumber && names_later t q (nodes records) (groups records)) is)
    left_at node (Some p) is =
        ap (λ b. (not settings.renumber && (not t.all_kept && (is_kept_node settings r && names r))) || b)
        (more (node_tally t (is_kept_node settings r) (copies_from_before t.first r) (Some p))
        ∙ ap (λ c. not settings.renumber && ((not t.all_kept && nodes_name settings names (nodes records))
        || (if t.all_kept && c then groups_name_behind settings names (groups records)
        else groups_name settings names (groups records)))) (closes_more p))
        ∙ (one_node (not settings.renumber) t.all_kept (is_kept_node settings r && names r)
        (nodes_name settings names (nodes records)) _
        ∙ ap (λ ns. not settings.renumber && names_later t (Some p) ns (groups records))
        (sym (nodes_more r records node)))

    left_step : (v n : Bool) → is_node r ≡ n → not (n && v) ≡ true
        → (leaves_number settings names t r || leave_number settings names (if v then revision_tally settings t (revision_number r)
        else if n then node_tally t (is_kept_node settings r) (copies_from_before t.first r) t.present
        else other_tally settings t) records)
        ≡ (not settings.renumber && names_later t t.present (nodes (r ∷ records))
        (if v then group_of r records ∷ groups records else groups records))
    left_step true true node single = cc
    left_step true false other single = left_revision other
    left_step false true node single = left_at node t.present refl
    left_step false false other single = left_other other

  left_is : (t : Tally) (records : List DumpRecord) → list_all is_single records ≡ true
      → leave_number settings names t records
      ≡ (not settings.renumber && names_later t t.present (nodes records) (groups records))
  left_is t [] single =
      sym (ap₂ (λ b c. not settings.renumber && (b || c)) (none_of (is_some t.present) (not t.all_kept))
      (neither (t.all_kept && closes settings t.present []))
      ∙ and-false (not settings.renumber))
  left_is t (r ∷ records) single =
      let parts = and_parts (is_single r) (list_all is_single records) single in
      left_step t r records (λ u. left_is u records parts.1) (is_revision_record r) (is_node r) refl parts.0

-- if all other conditions are met, a node leaves a number exactly if it names one
pub left_named : (settings : Settings) (t : Tally) (r : DumpRecord) (named : Bool) → settings.renumber ≡ false
    → is_behind_dropped t ≡ true → is_kept_node settings r ≡ true → IsTrue named ↔ NamesRevision r
    → (names : DumpRecord → Bool) → TellsNaming names → named ≡ leaves_number settings names t r
left_named settings t r named plain behind kept reported names tells =
    same_truth named (names r) reported (tells r)
    ∙ sym (λ i. not (plain i) && (behind i && (kept i && names r)))

-- so the tally says what is found in the dump
pub tally_tells : (settings : Settings) (records : List DumpRecord) (left unread : Bool)
    → list_all is_single records ≡ true → LeaveNumber settings records left
    → IsTrue unread ↔ HasUnreadRevision records
    → AreDumpFindingsOf settings records (tally_findings (tally_behind settings no_tally records) left unread)
tally_tells settings records left unread single tells unread_is =
    let named = groups_name_behind settings names_test (groups records) in (
      record { named = named; unread = unread },
      record { named = behind_told settings names_test test_tells (groups records); unread = unread_is },
      filter_same (λ f. is_tallied (tally_behind settings no_tally records) left unread f)
          (λ f. is_found_in_dump settings records (record { named = named; unread = unread }) f)
          (each_tallied settings records single left named unread
          (tells names_test test_tells ∙ left_is settings names_test no_tally records single)) every_dump_finding,
    )
