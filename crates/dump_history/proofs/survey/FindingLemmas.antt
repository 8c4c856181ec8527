-- What is found in a node is found exactly: a node without an obstacle makes a change, and one without an alarm a quiet
-- change.
use Rattle.dump_history.proofs.Prelude.{◌≡◌, ◌⊎◌, ◌↔◌, ◌<◌, Bool, true, not, ◌&&◌, ◌||◌, ◌++◌, Option, None, is_some, option_map, cond, if◌then◌else◌, refl, sym, ap, ap₂, ◌∙◌, subst, inl, inr, Contains, IsTrue, arith, list_any, last_or, or-true, or_parts, or_cases, copy_revision_name, property_length_name, has_header, Property, CopyRevision, MergeSource, MergeRange, first_true, second_true, first_false, second_false, and_from, not-true, not_from_false, header_number, DumpRecord, has_prop_delta, Settings, HasMergeLines, KeptRevisions, new_number, last_kept, image, HasMissingSource, HasForeignNumber, value_reads, reads_exactly, found, finds, missing_there, missing_back, foreign_there, foreign_back, is_copy, is_kept_node, is_mergeinfo, value_of, node_path, HasPropertyList, HasPropertyBlock, HasBadMergeinfo, IsMergeinfoValueOf, property_list_once, block_or_not, kept_revisions, stays_copy, present_number, HasBadCopyRevision, HoldsOfRecord, path_of, Made, is_copied, PropertyChange, Change, cuts_alike, is_quiet_kept, is_quiet_dropped, is_quiet, keeps_text, Patching, has_known_action, deletes, makes, made_by_kind, copy_path, copied_from, made_of, property_change_of, has_undefined_delta, change_of, loads_as_written, MakesChange, begins_at, Finding, every_finding, NodeFaults, AreNodeFaultsOf, has_kept_path, has_kept_source, is_above_prefix, is_found, findings_of, IsReadBlock, is_obstacle, is_alarm, is_unread_value, names_missing_source, names_outside, has_up_to, is_missing_number, copy_refused, faults_read, copy_faults, no_node_faults, FindingsAreOnce, ObstaclesAreExact, AlarmsAreExact}
use Rattle.std.proofs.Common.{ℕ, false, List, [], ◌∷◌, filter, Some}
use Rattle.std.specs.Prelude.{nat_lt, nat_le}
use Rattle.dump_history.proofs.again.NodeChanges.{makes_change, node_change, change_is}
use Rattle.std.proofs.lemmas.Bool.{not-false}

-- some element that passes one test passes another one exactly if some element passes both
pub any_filtered : {X : Type 0} (test p : X → Bool) (xs : List X)
    → list_any test (filter p xs) ≡ list_any (λ x. test x && p x) xs
any_filtered test p [] = refl
any_filtered test p (x ∷ xs) =
    pushed (p x) ∙ cases (any_filtered test p xs) (p x) (test x)
  where
    pushed : (b : Bool) → list_any test (cond b (x ∷ filter p xs) (filter p xs))
        ≡ cond b (test x || list_any test (filter p xs)) (list_any test (filter p xs))
    pushed true = refl
    pushed false = refl

    cases : list_any test (filter p xs) ≡ list_any (λ y. test y && p y) xs → (b c : Bool)
        → cond b (c || list_any test (filter p xs)) (list_any test (filter p xs))
        ≡ ((c && b) || list_any (λ y. test y && p y) xs)
    cases rest true true = refl
    cases rest true false = rest
    cases rest false true = rest
    cases rest false false = rest

-- two tests that are true under the same conditions are equal
pub same_truth : {A : Type 0} (a b : Bool) → IsTrue a ↔ A → IsTrue b ↔ A → a ≡ b
same_truth true true left right = refl
same_truth true false left right = let bad : false ≡ true = right.1 (left.0 refl) in cc
same_truth false true left right = let bad : false ≡ true = left.1 (right.0 refl) in cc
same_truth false false left right = refl

abbrev faults_with : Bool → Bool → Bool → Bool → NodeFaults
faults_with copy unread missing outside =
    record { copy_revision = copy; unread = unread; missing = missing; outside = outside }

-- there is only one list of faults of a node
pub node_faults_once : (settings : Settings) (before : List DumpRecord) (r : DumpRecord) (m n : NodeFaults)
    → AreNodeFaultsOf settings before r m → AreNodeFaultsOf settings before r n → m ≡ n
node_faults_once settings before r m n one other =
    let copy = same_truth m.copy_revision n.copy_revision one.copy_revision other.copy_revision in
    let unread = same_truth m.unread n.unread one.unread other.unread in
    let missing = same_truth m.missing n.missing one.missing other.missing in
    let outside = same_truth m.outside n.outside one.outside other.outside in
    ap₂ (λ c u. faults_with c u m.missing m.outside) copy unread
    ∙ ap₂ (faults_with n.copy_revision n.unread) missing outside

-- the revision that a copy is from

-- the last of some elements is one of them
last_some : (x : ℕ) (xs : List ℕ) → last_or (Some x) xs ≡ None → ⊥
last_some x [] bad = cc
last_some x (y ∷ xs) bad = last_some y xs bad

none_last : (xs : List ℕ) → last_or None xs ≡ None → xs ≡ []
none_last [] none = refl
none_last (x ∷ xs) none = absurd (last_some x xs none)

-- if no element remains after a test, none passes it
pub none_passes : {X : Type 0} (p : X → Bool) (xs : List X) → filter p xs ≡ [] → list_any p xs ≡ false
none_passes p [] none = refl
none_passes p (x ∷ xs) none = by (none_passes p xs) (p x) none
  where
    by : (filter p xs ≡ [] → list_any p xs ≡ false) → (b : Bool) → cond b (x ∷ filter p xs) (filter p xs) ≡ []
        → (b || list_any p xs) ≡ false
    by rest true bad = absurd (let worse : x ∷ filter p xs ≡ [] = bad in cc)
    by rest false fine = rest fine

-- there is no image if no kept number is at most the number
none_up_to : (kept : KeptRevisions) (number : ℕ) → image kept number ≡ None
    → has_up_to number kept.numbers ≡ false
none_up_to kept number none = none_passes (λ k. nat_le k number) kept.numbers
    (none_last (filter (λ k. nat_le k number) kept.numbers) (no_last (last_kept kept number) none))
  where
    no_last : (last : Option ℕ) → option_map (new_number kept) last ≡ None → last ≡ None
    no_last None none = refl
    no_last (Some n) bad = cc

no_image : (kept : KeptRevisions) (number : ℕ) → has_up_to number kept.numbers ≡ false → image kept number ≡ None
no_image kept number none =
    ap (λ l. option_map (new_number kept) (last_or None l)) (nothing_left (λ k. nat_le k number) kept.numbers none)
  where
    nothing_left : (p : ℕ → Bool) (xs : List ℕ) → list_any p xs ≡ false → filter p xs ≡ []
    nothing_left p [] none = refl
    nothing_left p (x ∷ xs) none =
        let parts = or_parts (p x) (list_any p xs) none in
        ap (λ b. cond b (x ∷ filter p xs) (filter p xs)) parts.0 ∙ nothing_left p xs parts.1

module _ (settings : Settings) (before : List DumpRecord) (r : DumpRecord) where
  abbrev kept : KeptRevisions
  kept = kept_revisions settings (before ++ r ∷ [])

  abbrev present : ℕ
  present = present_number before

  abbrev asked : Bool
  asked = settings.renumber && is_kept_node settings r && stays_copy settings r

  copy_holds : copy_refused settings before r ≡ true → HasBadCopyRevision settings before r
  copy_holds is =
      let (number, at, missing) = by (header_number copy_revision_name r.headers) refl
      (second_true asked (is_missing_number (header_number copy_revision_name r.headers) kept.numbers present) is) in (
        first_true asked (is_missing_number (header_number copy_revision_name r.headers) kept.numbers present) is,
        number,
        at,
        missing,
      )
    where
      sides : (number : ℕ) → (not (has_up_to number kept.numbers) || nat_lt present number) ≡ true
          → (image kept number ≡ None) ⊎ (present < number)
      sides number some = elim (or_cases (not (has_up_to number kept.numbers)) (nat_lt present number) some) [
        | inl none ↦ inl (no_image kept number (not-true (has_up_to number kept.numbers) none))
        | inr above ↦ inr (grind (arith, above))
      ]

      by : (o : Option ℕ) → header_number copy_revision_name r.headers ≡ o
          → is_missing_number o kept.numbers present ≡ true
          → (number : ℕ) × (header_number copy_revision_name r.headers ≡ Some number)
          × ((image kept number ≡ None) ⊎ (present < number))
      by None at bad = cc
      by (Some number) at some = (number, at, sides number some)

  copy_known : HasBadCopyRevision settings before r → copy_refused settings before r ≡ true
  copy_known (on, number, at, missing) =
      and_from asked (is_missing_number (header_number copy_revision_name r.headers) kept.numbers present) on
      (ap (λ o. is_missing_number o kept.numbers present) at ∙ sides missing)
    where
      sides : (image kept number ≡ None) ⊎ (present < number)
          → (not (has_up_to number kept.numbers) || nat_lt present number) ≡ true
      sides (inl none) = ap (λ b. not b || nat_lt present number) (none_up_to kept number none)
      sides (inr above) = ap (λ b. not (has_up_to number kept.numbers) || b) (let e : nat_lt present number ≡ true = grind (arith, above) in e)
          ∙ or-true (not (has_up_to number kept.numbers))

  pub copy_is : IsTrue (copy_refused settings before r) ↔ HoldsOfRecord settings before r CopyRevision
  copy_is = (copy_holds, copy_known)

-- mergeinfo

module _ (settings : Settings) (before : List DumpRecord) (r : DumpRecord) (keep : is_kept_node settings r ≡ true)
    (ps : List Property) (block : HasPropertyList r ps) where
  own : (p : Property) → Contains ps p → is_mergeinfo p ≡ true → IsMergeinfoValueOf settings r (value_of p)
  own p within is = (keep, ps, block, p, within, is, refl)

  within_own : (qs : List Property) → HasPropertyList r qs → (p : Property) → Contains qs p → Contains ps p
  within_own qs other p within =
      subst (λ (l : List Property). Contains l p) (property_list_once r qs ps other block) within

  unread_there : list_any is_unread_value ps ≡ true → HasBadMergeinfo settings r
  unread_there some =
      let (p, within, so) = found is_unread_value ps some in (
        value_of p,
        own p within (first_true (is_mergeinfo p) _ so),
        λ has. let bad : true ≡ false = sym ((reads_exactly (value_of p)).1 has)
            ∙ not-true (value_reads (value_of p)) (second_true (is_mergeinfo p) _ so) in cc,
      )

  unread_back : HasBadMergeinfo settings r → list_any is_unread_value ps ≡ true
  unread_back (value, (kept, qs, other, p, within, is, same), none) =
      finds is_unread_value ps p (within_own qs other p within) (and_from (is_mergeinfo p) (not (value_reads (value_of p))) is (not_from_false (value_reads (value_of p))
      (refused (value_reads (value_of p)) refl)))
    where
      refused : (b : Bool) → value_reads (value_of p) ≡ b → value_reads (value_of p) ≡ false
      refused true is = absurd (none (subst HasMergeLines same ((reads_exactly (value_of p)).0 is)))
      refused false is = is

  missing_found : list_any (names_missing_source settings) ps ≡ true → HoldsOfRecord settings before r MergeSource
  missing_found some =
      let (p, within, so) = found (names_missing_source settings) ps some in
      let both = second_true (is_mergeinfo p) _ so in (
        value_of p,
        own p within (first_true (is_mergeinfo p) _ so),
        missing_there settings (value_of p)
            ((reads_exactly (value_of p)).0 (first_true (value_reads (value_of p)) _ both))
            (second_true (value_reads (value_of p)) _ both),
      )

  missing_known : HoldsOfRecord settings before r MergeSource → list_any (names_missing_source settings) ps ≡ true
  missing_known (value, (kept, qs, other, p, within, is, same), misses) =
      let here : HasMissingSource settings (value_of p) = subst (HasMissingSource settings) (sym same) misses in
      finds (names_missing_source settings) ps p (within_own qs other p within)
      (and_from (is_mergeinfo p) _ is (and_from (value_reads (value_of p)) _
      ((reads_exactly (value_of p)).1 (here.1, here.2)) (missing_back settings (value_of p) here)))

  -- the number with which the dump begins, and the number of the present revision
  abbrev first : ℕ
  first = begins_at (before ++ r ∷ [])

  abbrev last : ℕ
  last = present_number before

  outside_found : list_any (names_outside settings first last) ps ≡ true → HoldsOfRecord settings before r MergeRange
  outside_found some =
      let (p, within, so) = found (names_outside settings first last) ps some in
      let both = second_true (is_mergeinfo p) _ so in (
        value_of p,
        own p within (first_true (is_mergeinfo p) _ so),
        foreign_there settings (kept_revisions settings (before ++ r ∷ [])) last (value_of p)
            ((reads_exactly (value_of p)).0 (first_true (value_reads (value_of p)) _ both))
            (second_true (value_reads (value_of p)) _ both),
      )

  outside_known : HoldsOfRecord settings before r MergeRange → list_any (names_outside settings first last) ps ≡ true
  outside_known (value, (kept, qs, other, p, within, is, same), names) =
      let revisions = kept_revisions settings (before ++ r ∷ []) in
      let here : HasForeignNumber settings revisions last (value_of p)
      = subst (HasForeignNumber settings revisions last) (sym same) names in
      finds (names_outside settings first last) ps p (within_own qs other p within)
      (and_from (is_mergeinfo p) _ is (and_from (value_reads (value_of p)) _
      ((reads_exactly (value_of p)).1 (here.1, here.2)) (foreign_back settings revisions last (value_of p) here)))

  pub faults_of_kept : AreNodeFaultsOf settings before r
      (faults_read settings (copy_refused settings before r) first last ps)
  faults_of_kept = record {
    copy_revision = copy_is settings before r;
    unread = (unread_there, unread_back);
    missing = (missing_found, missing_known);
    outside = (outside_found, outside_known);
  }

-- a node that isn't kept has no faults
pub faults_of_left : (settings : Settings) (before : List DumpRecord) (r : DumpRecord)
    → is_kept_node settings r ≡ false → AreNodeFaultsOf settings before r no_node_faults
faults_of_left settings before r left = record {
  copy_revision = (
    λ bad. cc,
    λ has. let bad : true ≡ false = sym (second_true settings.renumber (is_kept_node settings r)
        (first_true (settings.renumber && is_kept_node settings r) (stays_copy settings r) has.0)) ∙ left in cc,
  );
  unread = (λ bad. cc, λ has. let bad : true ≡ false = sym has.1.0 ∙ left in cc);
  missing = (λ bad. cc, λ has. let bad : true ≡ false = sym has.1.0 ∙ left in cc);
  outside = (λ bad. cc, λ has. let bad : true ≡ false = sym has.1.0 ∙ left in cc);
}

-- a node whose properties can't be read has no faults of mergeinfo
pub faults_of_unread : (settings : Settings) (before : List DumpRecord) (r : DumpRecord) → ¬ HasPropertyBlock r
    → AreNodeFaultsOf settings before r (copy_faults (copy_refused settings before r))
faults_of_unread settings before r unread = record {
  copy_revision = copy_is settings before r;
  unread = (λ bad. cc, λ has. absurd (unread (has.1.1, has.1.2)));
  missing = (λ bad. cc, λ has. absurd (unread (has.1.1, has.1.2)));
  outside = (λ bad. cc, λ has. absurd (unread (has.1.1, has.1.2)));
}

-- so each node has a list of faults
pub node_faults_of : (settings : Settings) (before : List DumpRecord) (r : DumpRecord)
    → (m : NodeFaults) × AreNodeFaultsOf settings before r m
node_faults_of settings before r = elim (block_or_not r) [
  | inl (ps, list) ↦ by_kept ps list (is_kept_node settings r) refl
  | inr unread ↦ (copy_faults (copy_refused settings before r), faults_of_unread settings before r unread)
]
  where
    by_kept : (ps : List Property) → HasPropertyList r ps → (b : Bool) → is_kept_node settings r ≡ b
        → (m : NodeFaults) × AreNodeFaultsOf settings before r m
    by_kept ps list true keep = (
      faults_read settings (copy_refused settings before r) (begins_at (before ++ r ∷ [])) (present_number before) ps,
      faults_of_kept settings before r keep ps list,
    )
    by_kept ps list false left = (no_node_faults, faults_of_left settings before r left)

-- each node has only one list of findings
pub findings_once : FindingsAreOnce
findings_once settings before r = elim (block_or_not r) [
  | inl (ps, list) ↦ (
    findings_of settings r (Some ps) faults,
    (Some ps, faults, list, are, refl),
    λ others of. by_list ps list others of.0 of.1 of.2 of.3 of.4,
  )
  | inr unread ↦ (
    findings_of settings r None faults,
    (None, faults, unread, are, refl),
    λ others of. by_none unread others of.0 of.1 of.2 of.3 of.4,
  )
]
  where
    faults : NodeFaults
    faults = (node_faults_of settings before r).0

    are : AreNodeFaultsOf settings before r faults
    are = (node_faults_of settings before r).1

    by_list : (ps : List Property) → HasPropertyList r ps → (others : List Finding) (o : Option (List Property))
        (m : NodeFaults) → IsReadBlock r o → AreNodeFaultsOf settings before r m
        → others ≡ findings_of settings r o m → others ≡ findings_of settings r (Some ps) faults
    by_list ps list others None m unread too same = absurd (unread (ps, list))
    by_list ps list others (Some qs) m list_too too same =
        same ∙ ap₂ (λ l n. findings_of settings r (Some l) n) (property_list_once r qs ps list_too list)
        (node_faults_once settings before r m faults too are)

    by_none : ¬ HasPropertyBlock r → (others : List Finding) (o : Option (List Property)) (m : NodeFaults)
        → IsReadBlock r o → AreNodeFaultsOf settings before r m
        → others ≡ findings_of settings r o m → others ≡ findings_of settings r None faults
    by_none unread others None m none too same =
        same ∙ ap (findings_of settings r None) (node_faults_once settings before r m faults too are)
    by_none unread others (Some qs) m list too same = absurd (unread (qs, list))

-- obstacles

module _ (patched : Patching) (settings : Settings) (r : DumpRecord) (m : NodeFaults) where
  -- the obstacles of a node whose block can be read
  obstacles : (ps : List Property) → list_any is_obstacle (findings_of settings r (Some ps) m)
      ≡ (has_undefined_delta r || (not (has_known_action r) || (not (loads_as_written r ps) || false)))
  obstacles ps = any_filtered is_obstacle (λ f. is_found settings r (Some ps) m f) every_finding

  change_made : (ps : List Property) → makes_change r ≡ true → change_of patched r ps ≡ Some (node_change patched r ps)
  change_made ps is = ap (λ b. if b then Some (node_change patched r ps) else None) is

  made_where_none : (ps : List Property) → HasPropertyList r ps
      → list_any is_obstacle (findings_of settings r (Some ps) m) ≡ false → (c : Change) × MakesChange patched r c
  made_where_none ps list none =
      let all = sym (obstacles ps) ∙ none in
      let further = second_false (has_undefined_delta r) _ all in
      let last = second_false (not (has_known_action r)) _ further in
      let known = not-false (has_known_action r) (first_false (not (has_known_action r)) _ further) in
      let plain = not-false (loads_as_written r ps) (first_false (not (loads_as_written r ps)) false last) in
      let both = and_from (has_known_action r) (not (has_undefined_delta r)) known
      (not_from_false (has_undefined_delta r) (first_false (has_undefined_delta r) _ all)) in
      (node_change patched r ps, (ps, list, plain, change_made ps both))

  none_three : (a b c : Bool) → a ≡ false → b ≡ true → c ≡ true → (a || (not b || (not c || false))) ≡ false
  none_three a b c no_a is_b is_c = rw (no_a, is_b, is_c) refl

  none_where_made : (ps : List Property) → HasPropertyList r ps → (c : Change) → MakesChange patched r c
      → list_any is_obstacle (findings_of settings r (Some ps) m) ≡ false
  none_where_made ps list c (qs, other, plain, is) =
      let same : qs ≡ ps = property_list_once r qs ps other list in
      let made = (change_is patched r qs c is).0 in
      obstacles ps
      ∙ none_three (has_undefined_delta r) (has_known_action r) (loads_as_written r ps)
      (not-true (has_undefined_delta r) (second_true (has_known_action r) (not (has_undefined_delta r)) made))
      (first_true (has_known_action r) (not (has_undefined_delta r)) made)
      (ap (loads_as_written r) (sym same) ∙ plain)

-- a node in which no obstacle is found makes a change, and no other node does
pub obstacles_exact : ObstaclesAreExact
obstacles_exact patched settings r None m unread = (
  λ none. absurd
      (let bad : true ≡ false = sym (any_filtered is_obstacle (λ f. is_found settings r None m f) every_finding)
      ∙ none in cc),
  λ c makes. absurd (unread (makes.0, makes.1)),
)
obstacles_exact patched settings r (Some ps) m list =
    (made_where_none patched settings r m ps list, none_where_made patched settings r m ps list)

-- alarms

module _ (patched : Patching) (settings : Settings) (r : DumpRecord) (ps : List Property) (merge : NodeFaults) where
  abbrev source_cuts : Bool
  source_cuts = cuts_alike settings.side settings (path_of (copy_path r)) (path_of (node_path r))

  abbrev path_cuts : Bool
  path_cuts = cuts_alike settings.side settings (path_of (node_path r)) (path_of (copy_path r))

  abbrev sets_props : Bool
  sets_props = has_header property_length_name r.headers

  -- whether an alarm is found. This depends on whether the node's path is kept, it makes something, it is a copy, its
  -- source is kept, and it deletes.
  abbrev alarmed : Bool → Bool → Bool → Bool → Bool → Bool
  alarmed kept m c s d =
      (kept && (m && c) && not s && not sets_props)
      || ((kept && (m && c) && s && not source_cuts)
      || ((kept && (m && c) && s && not path_cuts)
      || ((not kept && d && is_above_prefix settings r)
      || ((not kept && (m && c) && is_above_prefix settings r) || false))))

  alarms : list_any is_alarm (findings_of settings r (Some ps) merge)
      ≡ alarmed (has_kept_path settings r) (makes r) (is_copy r) (has_kept_source settings r) (deletes r)
  alarms = any_filtered is_alarm (λ f. is_found settings r (Some ps) merge f) every_finding

  -- a new node gives no alarm
  kind_quiet : (d f : Bool) → is_quiet_kept settings (path_of (node_path r)) (property_change_of r ps)
      (if d then Some Made.NewDirectory else if f then Some Made.NewFile else None) ≡ true
  kind_quiet true f = refl
  kind_quiet false true = refl
  kind_quiet false false = refl

  kind_not_copied : (d f : Bool)
      → is_copied (if d then Some Made.NewDirectory else if f then Some Made.NewFile else None) ≡ false
  kind_not_copied true f = refl
  kind_not_copied false true = refl
  kind_not_copied false false = refl

  copy_bools : (s a b h : Bool) → (if s then a && b else is_some (if h then Some
      (if has_prop_delta r then PropertyChange.Edited ps else PropertyChange.Replaced ps) else None))
      ≡ not ((not s && not h) || ((s && not a) || ((s && not b) || (false || (false || false)))))
  copy_bools true true true h = refl
  copy_bools true true false h = refl
  copy_bools true false b h = refl
  copy_bools false a b true = refl
  copy_bools false a b false = refl

  -- a kept change
  kept_quiet : (m c : Bool) → is_quiet_kept settings (path_of (node_path r)) (property_change_of r ps)
      (if m then if c then Some (copied_from r) else made_by_kind r else None)
      ≡ not (alarmed true m c (has_kept_source settings r) (deletes r))
  kept_quiet false c = refl
  kept_quiet true false = kind_quiet _ _
  kept_quiet true true =
      ap (λ s. if s then source_cuts && path_cuts else is_some (property_change_of r ps))
      (keeps_text settings (copy_path r))
      ∙ copy_bools (has_kept_source settings r) source_cuts path_cuts sets_props

  dropped_bools : (d m u : Bool)
      → not ((d || m) && u) ≡ not (false || (false || (false || ((d && u) || ((m && u) || false)))))
  dropped_bools true true true = refl
  dropped_bools true true false = refl
  dropped_bools true false true = refl
  dropped_bools true false false = refl
  dropped_bools false true true = refl
  dropped_bools false true false = refl
  dropped_bools false false u = refl

  copied_is : (m c : Bool)
      → is_copied (if m then if c then Some (copied_from r) else made_by_kind r else None) ≡ (m && c)
  copied_is false c = refl
  copied_is true true = refl
  copied_is true false = kind_not_copied _ _

  -- a dropped change
  dropped_quiet : is_quiet_dropped settings (node_change patched r ps)
      ≡ not (alarmed false (makes r) (is_copy r) (has_kept_source settings r) (deletes r))
  dropped_quiet = ap (λ b. not ((deletes r || b) && is_above_prefix settings r)) (copied_is (makes r) (is_copy r))
      ∙ dropped_bools (deletes r) (makes r && is_copy r) (is_above_prefix settings r)

  -- the node's change is quiet exactly if no alarm is found
  node_quiet : is_quiet settings (node_change patched r ps) ≡ not (list_any is_alarm (findings_of settings r (Some ps) merge))
  node_quiet =
      ap (λ b. if b then is_quiet_kept settings (path_of (node_path r)) (property_change_of r ps) (made_of r)
      else is_quiet_dropped settings (node_change patched r ps)) (keeps_text settings (node_path r))
      ∙ (sides (has_kept_path settings r) ∙ ap not (sym alarms))
    where
      sides : (b : Bool)
          → (if b then is_quiet_kept settings (path_of (node_path r)) (property_change_of r ps) (made_of r)
          else is_quiet_dropped settings (node_change patched r ps))
          ≡ not (alarmed b (makes r) (is_copy r) (has_kept_source settings r) (deletes r))
      sides true = kept_quiet (makes r) (is_copy r)
      sides false = dropped_quiet

-- a node's change is quiet exactly if no alarm is found in the node
pub alarms_exact : AlarmsAreExact
alarms_exact patched settings r None merge c unread makes = absurd (unread (makes.0, makes.1))
alarms_exact patched settings r (Some ps) merge c list (qs, other, plain, is) =
    let same : qs ≡ ps = property_list_once r qs ps other list in
    ap (is_quiet settings) (sym (change_is patched r qs c is).1 ∙ ap (node_change patched r) same)
    ∙ node_quiet patched settings r ps merge
