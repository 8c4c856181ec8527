-- If a survey finds nothing, the premise of the law of filtered dumps is true.
use Rattle.dump_history.proofs.Prelude.{◌≡◌, zero, suc, Bool, true, not, ◌&&◌, ◌||◌, ◌==◌, ◌++◌, length, take_while, if◌then◌else◌, MatchBool, None, refl, sym, ap, ◌∙◌, subst, inl, append_assoc, AllZip, list_all, list_any, last_or, eqb-true, both_ways, nil_from_length, Order, first_true, second_true, first_false, second_false, and_from, not-true, false_from_ne_true, DumpRecord, Settings, is_revision_record, is_node, Group, group_of, groups, revision_numbers, is_bare, ends_in_group, AreFaultFree, Change, is_quiet, are_quiet, Patching, MakesChange, counts_from, has_ordered_nodes, MakeChanges, MakeRevisions, NamesRevisionBehind, KeepsNamedNumbers, MakePartRevisions, Finding, begins_at, has_source_before, AreFindingsOf, is_obstacle, is_alarm, every_dump_finding, rise, first_has_node, is_found_in_dump, HasUnreadRevision, AreDumpFindingsOf, AreFindingsBehind, HaveFindingsBehind, none_is, RestrictsFrom, SurveyedDumpRestricts, SurveyedDumpFrontRestricts}
use Rattle.std.proofs.Common.{ℕ, false, List, [], ◌∷◌}
use Rattle.dump_history.proofs.survey.FindingLemmas.{none_passes, obstacles_exact, alarms_exact}
use Rattle.dump_history.proofs.survey.PartLemmas.{groups_lowered, lowered_quiet}
use Rattle.dump_history.proofs.restricted.FilteredLaw.{quiet_dump_restricts, quiet_front_restricts}
use Rattle.dump_history.proofs.restricted.DirectoryLaw.{quiet_dump_restricts_behind}
use Rattle.dump_history.proofs.restricted.PartLaw.{quiet_part_restricts}
use Rattle.std.proofs.lemmas.Bool.{not-false}
use Rattle.dump_rules.proofs.ReachLemmas.{last_or_pushed}

-- what is found in the nodes

-- this is found in the node, whatever comes before it
abbrev IsFoundBehind : Settings → DumpRecord → List Finding → Type 0
IsFoundBehind settings r found = (before : List DumpRecord) × AreFindingsOf settings before r found

nodes_found : (settings : Settings) (before nodes : List DumpRecord) (found : List (List Finding))
    → AreFindingsBehind settings before nodes found → AllZip (IsFoundBehind settings) nodes found
nodes_found settings before [] found none = subst (AllZip (IsFoundBehind settings) []) (sym none) tt
nodes_found settings before (r ∷ nodes) found (first, others, is, one, more) =
    subst (AllZip (IsFoundBehind settings) (r ∷ nodes)) (sym is)
    ((before, one), nodes_found settings (before ++ r ∷ []) nodes others more)

-- this is found in the nodes of these groups
abbrev AreFoundIn : Settings → List Group → List (List (List Finding)) → Type 0
AreFoundIn settings gs found = AllZip (λ (g : Group) fs. AllZip (IsFoundBehind settings) g.nodes fs) gs found

groups_found : (settings : Settings) (before records : List DumpRecord) (found : List (List (List Finding)))
    → HaveFindingsBehind settings before records found → AreFoundIn settings (groups records) found
groups_found settings before [] found none = subst (AreFoundIn settings []) (sym none) tt
groups_found settings before (r ∷ records) found have =
    by (groups_found settings (before ++ r ∷ []) records) (is_revision_record r) have
  where
    More : Type 0
    More = (fs : List (List (List Finding))) → HaveFindingsBehind settings (before ++ r ∷ []) records fs
        → AreFoundIn settings (groups records) fs

    by : More → (b : Bool) → MatchBool b
        ((first : List (List Finding)) × (others : List (List (List Finding))) × (found ≡ first ∷ others)
        × AreFindingsBehind settings (before ++ r ∷ []) (take_while is_node records) first
        × HaveFindingsBehind settings (before ++ r ∷ []) records others)
        (HaveFindingsBehind settings (before ++ r ∷ []) records found)
        → AreFoundIn settings (if b then group_of r records ∷ groups records else groups records) found
    by go true (first, others, is, own, more) =
        subst (AreFoundIn settings (group_of r records ∷ groups records)) (sym is)
        (nodes_found settings (before ++ r ∷ []) (take_while is_node records) first own, go others more)
    by go false more = go found more

module _ (patched : Patching) (settings : Settings) where
  -- a node in which no obstacle is found makes a change, a quiet one if no alarm is found
  node_change_is : (before : List DumpRecord) (r : DumpRecord) (found : List Finding)
      → AreFindingsOf settings before r found → not (list_any is_obstacle found) ≡ true
      → (c : Change) × MakesChange patched r c × (not (list_any is_alarm found) ≡ true → is_quiet settings c ≡ true)
  node_change_is before r found (ps, m, read, faults, same) none =
      let no_obstacle = ap (λ fs. list_any is_obstacle fs) (sym same) ∙ not-true (list_any is_obstacle found) none in
      let made = (obstacles_exact patched settings r ps m read).0 no_obstacle in (
        made.0,
        made.1,
        λ quiet. alarms_exact patched settings r ps m made.0 read made.1
            ∙ (ap (λ fs. not (list_any is_alarm fs)) (sym same) ∙ quiet),
      )

  -- so do the nodes of a group
  nodes_change : (rs : List DumpRecord) (found : List (List Finding)) → AllZip (IsFoundBehind settings) rs found
      → list_all (λ node. not (list_any is_obstacle node)) found ≡ true
      → (changes : List Change) × AllZip (MakesChange patched) rs changes
      × (list_all (λ node. not (list_any is_alarm node)) found ≡ true → list_all (is_quiet settings) changes ≡ true)
  nodes_change [] [] all none = ([], tt, λ quiet. refl)
  nodes_change [] (f ∷ found) all none = absurd all
  nodes_change (r ∷ rs) [] all none = absurd all
  nodes_change (r ∷ rs) (f ∷ found) all none =
      let one = node_change_is all.0.0 r f all.0.1 (first_true (not (list_any is_obstacle f)) _ none) in
      let more = nodes_change rs found all.1 (second_true (not (list_any is_obstacle f)) _ none) in (
        one.0 ∷ more.0,
        (one.1, more.1),
        λ quiet. and_from (is_quiet settings one.0) (list_all (is_quiet settings) more.0)
            (one.2 (first_true (not (list_any is_alarm f)) _ quiet))
            (more.2 (second_true (not (list_any is_alarm f)) _ quiet)),
      )

  -- so do the groups of a dump
  groups_change : (gs : List Group) (found : List (List (List Finding)))
      → AreFoundIn settings gs found
      → none_is is_obstacle found ≡ true
      → (revisions : List (List Change)) × AllZip (MakeChanges patched) gs revisions
      × (none_is is_alarm found ≡ true → are_quiet settings revisions ≡ true)
  groups_change [] [] all none = ([], tt, λ quiet. refl)
  groups_change [] (f ∷ found) all none = absurd all
  groups_change (g ∷ gs) [] all none = absurd all
  groups_change (g ∷ gs) (f ∷ found) all none =
      let one = nodes_change g.nodes f all.0
      (first_true (list_all (λ node. not (list_any is_obstacle node)) f) (none_is is_obstacle found) none) in
      let more = groups_change gs found all.1
      (second_true (list_all (λ node. not (list_any is_obstacle node)) f) (none_is is_obstacle found) none) in (
        one.0 ∷ more.0,
        (one.1, more.1),
        λ quiet. and_from (list_all (is_quiet settings) one.0)
            (are_quiet settings more.0)
            (one.2 (first_true (list_all (λ node. not (list_any is_alarm node)) f) (none_is is_alarm found) quiet))
            (more.2 (second_true (list_all (λ node. not (list_any is_alarm node)) f) (none_is is_alarm found) quiet)),
      )

  -- and the first groups, if alarms are found only after them
  front_change : (gs : List Group) (found behind : List (List (List Finding)))
      → AreFoundIn settings gs (found ++ behind)
      → none_is is_obstacle (found ++ behind) ≡ true
      → (front rest : List (List Change)) × AllZip (MakeChanges patched) gs (front ++ rest)
      × (length front ≡ length found)
      × (none_is is_alarm found ≡ true → are_quiet settings front ≡ true)
  front_change gs [] behind all none =
      let whole = groups_change gs behind all none in ([], whole.0, whole.1, refl, λ quiet. refl)
  front_change [] (f ∷ found) behind all none = absurd all
  front_change (g ∷ gs) (f ∷ found) behind all none =
      let one = nodes_change g.nodes f all.0
      (first_true (list_all (λ node. not (list_any is_obstacle node)) f)
      (none_is is_obstacle (found ++ behind)) none) in
      let more = front_change gs found behind all.1
      (second_true (list_all (λ node. not (list_any is_obstacle node)) f)
      (none_is is_obstacle (found ++ behind)) none) in (
        one.0 ∷ more.0,
        more.1,
        (one.1, more.2),
        ap suc more.3,
        λ quiet. and_from (list_all (is_quiet settings) one.0)
            (are_quiet settings more.0)
            (one.2 (first_true (list_all (λ node. not (list_any is_alarm node)) f) (none_is is_alarm found) quiet))
            (more.4 (second_true (list_all (λ node. not (list_any is_alarm node)) f) (none_is is_alarm found) quiet)),
      )

-- what is found in the dump

may_stand : (node follows : Bool) → (node && not follows) ≡ false → (not node || follows) ≡ true
may_stand true true none = refl
may_stand true false none = cc
may_stand false follows none = refl

-- the nodes of a dump without a fault are in revisions
module _ (settings : Settings) (all : List DumpRecord) (free : AreFaultFree settings all) where
  order_behind : (before rest : List DumpRecord) → all ≡ before ++ rest
      → has_ordered_nodes (ends_in_group (last_or None before)) rest ≡ true
  order_behind before [] at = refl
  order_behind before (r ∷ rest) at =
      and_from (not (is_node r) || ends_in_group (last_or None before))
      (has_ordered_nodes (is_revision_record r || is_node r) rest)
      (may_stand (is_node r) (ends_in_group (last_or None before))
      (false_from_ne_true (is_node r && not (ends_in_group (last_or None before))) (λ out. free before rest r at Order (inl out))))
      (subst (λ o. has_ordered_nodes (ends_in_group o) rest ≡ true) (last_or_pushed None before r)
      (order_behind (before ++ r ∷ []) rest (at ∙ sym (append_assoc before (r ∷ []) rest))))

  pub order_of : has_ordered_nodes false all ≡ true
  order_of = order_behind [] all refl

-- nothing is found in the dump as a whole
module _ (settings : Settings) (records : List DumpRecord) (nothing : AreDumpFindingsOf settings records []) where
  each_none : (length (groups records) == 0 || (not (counts_from (begins_at records) (revision_numbers records))
      || (not (rise (revision_numbers records)) || (nothing.0.unread
      || ((begins_at records == 0 && first_has_node (groups records))
      || (has_source_before (begins_at records) (groups records) || (not (has_ordered_nodes false records)
      || ((not settings.renumber && nothing.0.named) || false)))))))) ≡ false
  each_none = none_passes (λ f. is_found_in_dump settings records nothing.0 f) every_dump_finding
      (sym nothing.2)

  some_group : (length (groups records) == 0) ≡ false
  some_group = first_false (length (groups records) == 0) _ each_none

  is_numbered : counts_from (begins_at records) (revision_numbers records) ≡ true
  is_numbered = not-false (counts_from (begins_at records) (revision_numbers records))
      (first_false (not (counts_from (begins_at records) (revision_numbers records))) _
      (second_false (length (groups records) == 0) _ each_none))

  pub numbers_rise : rise (revision_numbers records) ≡ true
  numbers_rise = not-false (rise (revision_numbers records))
      (first_false (not (rise (revision_numbers records))) _
      (second_false (not (counts_from (begins_at records) (revision_numbers records))) _
      (second_false (length (groups records) == 0) _ each_none)))

  pub all_read : ¬ HasUnreadRevision records
  all_read some = both_ways nothing.0.unread (first_false nothing.0.unread _
      (second_false (not (rise (revision_numbers records))) _
      (second_false (not (counts_from (begins_at records) (revision_numbers records))) _
      (second_false (length (groups records) == 0) _ each_none)))) (nothing.1.unread.1 some)

  behind_numbers : ((begins_at records == 0 && first_has_node (groups records))
      || (has_source_before (begins_at records) (groups records) || (not (has_ordered_nodes false records)
      || ((not settings.renumber && nothing.0.named) || false)))) ≡ false
  behind_numbers = second_false nothing.0.unread _ (second_false (not (rise (revision_numbers records))) _
      (second_false (not (counts_from (begins_at records) (revision_numbers records))) _
      (second_false (length (groups records) == 0) _ each_none)))

  is_first_bare : begins_at records ≡ 0 → first_has_node (groups records) ≡ false
  is_first_bare zero_first = sym (ap (λ n. n == 0 && first_has_node (groups records)) zero_first)
      ∙ first_false (begins_at records == 0 && first_has_node (groups records)) _ behind_numbers

  behind_first : (has_source_before (begins_at records) (groups records) || (not (has_ordered_nodes false records)
      || ((not settings.renumber && nothing.0.named) || false))) ≡ false
  behind_first = second_false (begins_at records == 0 && first_has_node (groups records)) _ behind_numbers

  no_source_before : has_source_before (begins_at records) (groups records) ≡ false
  no_source_before = first_false (has_source_before (begins_at records) (groups records)) _ behind_first

  pub nodes_stand : has_ordered_nodes false records ≡ true
  nodes_stand = not-false (has_ordered_nodes false records) (first_false (not (has_ordered_nodes false records)) _
      (second_false (has_source_before (begins_at records) (groups records)) _ behind_first))

  none_left : (not settings.renumber && nothing.0.named) ≡ false
  none_left = first_false (not settings.renumber && nothing.0.named) false
      (second_false (not (has_ordered_nodes false records)) _
      (second_false (has_source_before (begins_at records) (groups records)) _ behind_first))

  keeps_numbers : KeepsNamedNumbers settings records
  keeps_numbers = cases settings.renumber none_left
    where
      cases : (b : Bool) → (not b && nothing.0.named) ≡ false
          → MatchBool b (Unit {0}) (¬ NamesRevisionBehind settings records)
      cases true none = tt
      cases false none = λ names. both_ways nothing.0.named none (nothing.1.named.1 names)

-- a group without nodes makes no changes
no_changes : (patched : Patching) (g : Group) (changes : List Change) → not (is_bare g) ≡ false
    → MakeChanges patched g changes → changes ≡ []
no_changes patched g changes bare make =
    none changes (subst (λ nodes. AllZip (MakesChange patched) nodes changes) (nil_from_length g.nodes
    (eqb-true (length g.nodes) 0 (not-false (is_bare g) bare))) make)
  where
    none : (changes : List Change) → AllZip (MakesChange patched) [] changes → changes ≡ []
    none [] make = refl
    none (c ∷ changes) make = absurd make

-- the first group makes no change, and the others make these revisions
first_is_bare : (patched : Patching) (gs : List Group) (revisions : List (List Change)) → (length gs == 0) ≡ false
    → first_has_node gs ≡ false
    → AllZip (MakeChanges patched) gs revisions
    → (rest : List (List Change)) × (revisions ≡ [] ∷ rest)
first_is_bare patched [] revisions some bare make = cc
first_is_bare patched (g ∷ gs) [] some bare make = absurd make
first_is_bare patched (g ∷ gs) (changes ∷ revisions) some bare make =
    (revisions, ap (λ cs. cs ∷ revisions) (no_changes patched g changes bare make.0))

-- the first group makes no change, and the groups after it make these revisions, of which the first ones are quiet
front_behind : (patched : Patching) (settings : Settings) (gs : List Group) (first : List (List Finding))
    (found behind : List (List (List Finding)))
    → (length gs == 0) ≡ false → first_has_node gs ≡ false
    → AreFoundIn settings gs (first ∷ found ++ behind)
    → none_is is_obstacle (found ++ behind) ≡ true
    → (front rest : List (List Change)) × AllZip (MakeChanges patched) gs ([] ∷ front ++ rest)
    × (length front ≡ length found)
    × (none_is is_alarm found ≡ true → are_quiet settings front ≡ true)
front_behind patched settings [] first found behind some bare all none = absurd all
front_behind patched settings (g ∷ gs) first found behind some bare all none =
    let more = front_change patched settings gs found behind all.1 none in
    (more.0, more.1, (bare_group g bare, more.2), more.3, more.4)
  where
    bare_group : (g : Group) → not (is_bare g) ≡ false → MakeChanges patched g []
    bare_group g bare = subst (λ nodes. AllZip (MakesChange patched) nodes []) (sym (nil_from_length g.nodes
        (eqb-true (length g.nodes) 0 (not-false (is_bare g) bare)))) tt

-- if nothing is found, the law of filtered dumps is true
pub surveyed_dump : SurveyedDumpRestricts
surveyed_dump patched settings dump text records found clean fit nothing have no_obstacle no_alarm =
    by_first (begins_at records) refl
  where
    Made : Type 0
    Made = (revisions : List (List Change)) × AllZip (MakeChanges patched) (groups records) revisions
        × (none_is is_alarm found ≡ true → are_quiet settings revisions ≡ true)

    from_zero : Made → begins_at records ≡ 0 → RestrictsFrom patched settings records text 0
    from_zero whole first_is =
        let bare = first_is_bare patched (groups records) whole.0 (some_group settings records nothing)
        (is_first_bare settings records nothing first_is) whole.1 in
        let makes : MakeRevisions patched records bare.0 = record {
          numbered = subst (λ n. counts_from n (revision_numbers records) ≡ true) first_is
              (is_numbered settings records nothing);
          ordered = order_of settings records clean.fault_free;
          changes = subst (λ rs. AllZip (MakeChanges patched) (groups records) rs) bare.1 whole.1;
        } in
        let quiet : are_quiet settings bare.0 ≡ true =
        ap (are_quiet settings) (sym bare.1) ∙ whole.2 no_alarm in (
          bare.0,
          makes,
          λ trees loads over. (
            quiet_dump_restricts patched settings dump text records bare.0 trees clean fit
                (keeps_numbers settings records nothing) (record { makes = makes; loads = loads }) quiet over,
            quiet_dump_restricts_behind patched settings dump text records bare.0 trees clean fit
                (keeps_numbers settings records nothing) (record { makes = makes; loads = loads }) quiet over,
          ),
        )

    from_later : Made → (before : ℕ) → begins_at records ≡ suc before
        → RestrictsFrom patched settings records text (suc before)
    from_later whole before first_is =
        let low = groups_lowered patched before (groups records) whole.0
        (subst (λ n. has_source_before n (groups records) ≡ false) first_is
        (no_source_before settings records nothing)) whole.1 in
        let makes : MakePartRevisions patched before records low.0 = record {
          numbered = subst (λ n. counts_from n (revision_numbers records) ≡ true) first_is
              (is_numbered settings records nothing);
          ordered = order_of settings records clean.fault_free;
          changes = subst (λ rs. AllZip (MakeChanges patched) (groups records) rs) low.1 whole.1;
        } in
        let quiet : are_quiet settings low.0 ≡ true =
        sym (lowered_quiet settings before low.0) ∙ ap (are_quiet settings) (sym low.1) ∙ whole.2 no_alarm in (
          low.0,
          makes,
          λ trees loads over. quiet_part_restricts patched before settings dump text records low.0 trees clean fit
              (keeps_numbers settings records nothing) (record { makes = makes; loads = loads }) quiet over,
        )

    by_first : (n : ℕ) → begins_at records ≡ n → RestrictsFrom patched settings records text n
    by_first zero is = from_zero (groups_change patched settings (groups records) found (groups_found settings [] records found have) no_obstacle) is
    by_first (suc before) is =
        from_later (groups_change patched settings (groups records) found (groups_found settings [] records found have) no_obstacle) before is

-- and it is true of the first revisions if alarms are found only after them
pub surveyed_front : SurveyedDumpFrontRestricts
surveyed_front patched settings dump text records first found behind clean fit first_is nothing have no_obstacle
    no_alarm =
    let parts = front_behind patched settings (groups records) first found behind (some_group settings records nothing)
    (is_first_bare settings records nothing first_is)
    (groups_found settings [] records (first ∷ found ++ behind) have) no_obstacle in
    let makes : MakeRevisions patched records (parts.0 ++ parts.1) = record {
      numbered = subst (λ n. counts_from n (revision_numbers records) ≡ true) first_is
          (is_numbered settings records nothing);
      ordered = order_of settings records clean.fault_free;
      changes = parts.2;
    } in (
      parts.0,
      parts.1,
      makes,
      parts.3,
      λ trees loads over. quiet_front_restricts patched settings dump text records parts.0 parts.1 trees clean fit
          (keeps_numbers settings records nothing) makes loads (parts.4 no_alarm) over,
    )
