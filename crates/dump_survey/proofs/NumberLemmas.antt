-- The numbers in the tally are those with which the revisions that a kept node names are compared.
use Rattle.dump_survey.proofs.Prelude.{◌≡◌, ℕ, ◌==◌, Bool, true, false, not, ◌&&◌, ◌||◌, List, [], ◌∷◌, ◌++◌, length, filter, map, Option, Some, None, if◌then◌else◌, cond, refl, sym, ap, ap₂, ◌∙◌, arith, nat_le, list_all, list_any, last_or, or-false, or_assoc, and_parts, DumpRecord, Settings, is_revision_record, is_node, is_kept_node, Group, group_of, groups, group_number, revision_number, revision_numbers, keeps_group, keeps_empty, kept_revisions, present_number, begins_at, copies_from_before, has_up_to, Present, Tally, is_up_to, AreNumbersBehind, no_tally, keeps_open, lesser, least_behind, numbers_of, revision_tally, node_tally, other_tally, tally_behind}
use Rattle.std.specs.Prelude.{unwrap_or}
use Rattle.dump_survey.specs.steps.RevisionNumbers.{reaches}
use Rattle.dump_survey.proofs.TallyLemmas.{nodes, nodes_more, nodes_none, is_single, closes, closes_none, some_left, tally_more, begins_at_is, node_begins}
use Rattle.dump_survey.proofs.TallyLemmas.{present_number as open_number}

-- the lesser of two numbers is at most a number exactly if one of the two is
lesser_up_to : (n : ℕ) (least : Option ℕ) (number : ℕ)
    → is_up_to n (Some (lesser least number)) ≡ (is_up_to n least || nat_le number n)
lesser_up_to n None number = refl
lesser_up_to n (Some least) number = by (nat_le least number) refl (nat_le least n) refl (nat_le number n) refl
  where
    by : (a : Bool) → nat_le least number ≡ a → (b : Bool) → nat_le least n ≡ b → (c : Bool) → nat_le number n ≡ c
        → nat_le (if a then least else number) n ≡ (b || c)
    by true low true is c at = is
    by true low false is true at = absurd (grind (arith, low, is, at))
    by true low false is false at = is
    by false low true is true at = at
    by false low true is false at = absurd (grind (arith, low, is, at))
    by false low false is c at = at

-- whether the present revision is kept if these nodes follow, and has a number up to this one
abbrev own_up_to : Settings → ℕ → Option Present → List DumpRecord → Bool
own_up_to settings n None ns = false
own_up_to settings n (Some p) ns = closes settings (Some p) ns && nat_le p.number n

-- whether one of the kept revisions of these groups has a number up to this one
abbrev groups_up_to : Settings → ℕ → List Group → Bool
groups_up_to settings n gs = has_up_to n (map group_number (filter (keeps_group settings) gs))

group_more : (settings : Settings) (n : ℕ) (g : Group) (gs : List Group)
    → groups_up_to settings n (g ∷ gs) ≡ ((keeps_group settings g && nat_le (group_number g) n) || groups_up_to settings n gs)
group_more settings n g gs = by (keeps_group settings g)
  where
    those : List Group
    those = filter (keeps_group settings) gs

    by : (b : Bool) → has_up_to n (map group_number (cond b (g ∷ those) those))
        ≡ ((b && nat_le (group_number g) n) || has_up_to n (map group_number those))
    by true = refl
    by false = refl

-- the least number of the kept revisions, including the present one
least_up_to : (settings : Settings) (n : ℕ) (least : Option ℕ) (p : Option Present)
    → is_up_to n (least_behind settings least p) ≡ (is_up_to n least || own_up_to settings n p [])
least_up_to settings n least None = sym (or-false (is_up_to n least))
least_up_to settings n least (Some p) =
    by (keeps_open settings (Some p))
    ∙ ap (λ b. is_up_to n least || (b && nat_le p.number n)) (sym (closes_none settings (Some p)))
  where
    by : (b : Bool) → is_up_to n (if b then Some (lesser least p.number) else least)
        ≡ (is_up_to n least || (b && nat_le p.number n))
    by true = lesser_up_to n least p.number
    by false = sym (or-false (is_up_to n least))

-- whether a kept revision has a number up to this one, by a tally and the records after it
abbrev all_up_to : Settings → ℕ → Tally → List DumpRecord → Bool
all_up_to settings n t records =
    is_up_to n t.least || (own_up_to settings n t.present (nodes records) || groups_up_to settings n (groups records))

abbrev tallied_up_to : Settings → ℕ → Tally → Bool
tallied_up_to settings n t = is_up_to n (least_behind settings t.least t.present)

node_least : (t : Tally) (kept early : Bool) (p : Option Present) → (node_tally t kept early p).least ≡ t.least
node_least t kept early None = refl
node_least t kept early (Some p) = refl

module _ (settings : Settings) (n : ℕ) (t : Tally) (r : DumpRecord) (records : List DumpRecord)
    (more : (u : Tally) → tallied_up_to settings n (tally_behind settings u records) ≡ all_up_to settings n u records) where
  -- after a record that is no node, the present revision has all its nodes
  ends_up_to : (rest : Bool) → is_node r ≡ false
      → (tallied_up_to settings n t || rest)
      ≡ (is_up_to n t.least || (own_up_to settings n t.present (nodes (r ∷ records)) || rest))
  ends_up_to rest other =
      ap (λ b. b || rest) (least_up_to settings n t.least t.present
      ∙ ap (λ ns. is_up_to n t.least || own_up_to settings n t.present ns) (sym (nodes_none r records other)))
      ∙ or_assoc (is_up_to n t.least) (own_up_to settings n t.present (nodes (r ∷ records))) rest

  up_to_revision : is_node r ≡ false
      → tallied_up_to settings n (tally_behind settings (revision_tally settings t (revision_number r)) records)
      ≡ (is_up_to n t.least || (own_up_to settings n t.present (nodes (r ∷ records))
      || groups_up_to settings n (group_of r records ∷ groups records)))
  up_to_revision other = more (revision_tally settings t (revision_number r))
      ∙ (ap (λ b. tallied_up_to settings n t || b) (sym (group_more settings n (group_of r records) (groups records)))
      ∙ ends_up_to (groups_up_to settings n (group_of r records ∷ groups records)) other)

  up_to_other : is_node r ≡ false
      → tallied_up_to settings n (tally_behind settings (other_tally settings t) records)
      ≡ (is_up_to n t.least || (own_up_to settings n t.present (nodes (r ∷ records))
      || groups_up_to settings n (groups records)))
  up_to_other other = more (other_tally settings t)
      ∙ ends_up_to (groups_up_to settings n (groups records)) other

  node_own : (p : Option Present) → is_node r ≡ true → t.present ≡ p
      → own_up_to settings n (node_tally t (is_kept_node settings r) (copies_from_before t.first r) p).present
      (nodes records) ≡ own_up_to settings n p (nodes (r ∷ records))
  node_own None node is = ap (λ q. own_up_to settings n q (nodes records)) is
  node_own (Some p) node is =
      ap₂ (λ k b. (p.number == 0 || k || keeps_empty settings.empty b) && nat_le p.number n)
      (or_assoc p.kept (is_kept_node settings r) (list_any (is_kept_node settings) (nodes records)))
      (sym (some_left (length (nodes records)) p.bare))
      ∙ ap (λ ns. own_up_to settings n (Some p) ns) (sym (nodes_more r records node))

  up_to_node : is_node r ≡ true
      → tallied_up_to settings n (tally_behind settings
      (node_tally t (is_kept_node settings r) (copies_from_before t.first r) t.present) records)
      ≡ (is_up_to n t.least || (own_up_to settings n t.present (nodes (r ∷ records))
      || groups_up_to settings n (groups records)))
  up_to_node node = more (node_tally t (is_kept_node settings r) (copies_from_before t.first r) t.present)
      ∙ ap₂ (λ l o. is_up_to n l || (o || groups_up_to settings n (groups records)))
      (node_least t (is_kept_node settings r) (copies_from_before t.first r) t.present)
      (node_own t.present node refl)

  up_to_step : (v m : Bool) → is_revision_record r ≡ v → is_node r ≡ m → not (m && v) ≡ true
      → tallied_up_to settings n (tally_behind settings (if v then revision_tally settings t (revision_number r)
      else if m then node_tally t (is_kept_node settings r) (copies_from_before t.first r) t.present
      else other_tally settings t) records)
      ≡ (is_up_to n t.least || (own_up_to settings n t.present (nodes (r ∷ records))
      || groups_up_to settings n (if v then group_of r records ∷ groups records else groups records)))
  up_to_step true true rev node single = cc
  up_to_step true false rev other single = up_to_revision other
  up_to_step false true rev node single = up_to_node node
  up_to_step false false rev other single = up_to_other other

-- the answer by the tally is the answer by the groups
up_to_is : (settings : Settings) (n : ℕ) (t : Tally) (records : List DumpRecord) → list_all is_single records ≡ true
    → tallied_up_to settings n (tally_behind settings t records) ≡ all_up_to settings n t records
up_to_is settings n t [] single =
    least_up_to settings n t.least t.present
    ∙ ap (λ b. is_up_to n t.least || b) (sym (or-false (own_up_to settings n t.present [])))
up_to_is settings n t (r ∷ records) single =
    let parts = and_parts (is_single r) (list_all is_single records) single in
    up_to_step settings n t r records (λ u. up_to_is settings n u records parts.1) (is_revision_record r) (is_node r)
    refl refl parts.0

-- the revision that a node belongs to is the last one
last_is : (settings : Settings) (t : Tally) (records : List DumpRecord) (last : Option ℕ)
    → ((n : ℕ) → open_number t.present ≡ Some n → last ≡ Some n) → (n : ℕ)
    → open_number (tally_behind settings t records).present ≡ Some n
    → last_or last (revision_numbers records) ≡ Some n
last_is settings t [] last so n is = so n is
last_is settings t (r ∷ records) last so n is =
    by (λ u other. last_is settings u records other) (is_revision_record r) (is_node r) is
  where
    of_node : (p : Option Present) → t.present ≡ p
        → open_number (node_tally t (is_kept_node settings r) (copies_from_before t.first r) p).present ≡ open_number p
    of_node None none = ap open_number none
    of_node (Some p) some = refl

    by : ((u : Tally) (other : Option ℕ) → ((m : ℕ) → open_number u.present ≡ Some m → other ≡ Some m) → (m : ℕ)
        → open_number (tally_behind settings u records).present ≡ Some m
        → last_or other (revision_numbers records) ≡ Some m) → (v m : Bool)
        → open_number (tally_behind settings (if v then revision_tally settings t (revision_number r)
        else if m then node_tally t (is_kept_node settings r) (copies_from_before t.first r) t.present
        else other_tally settings t) records).present ≡ Some n
        → last_or last (map group_number (if v then group_of r records ∷ groups records else groups records)) ≡ Some n
    by more true m at = more (revision_tally settings t (revision_number r)) (Some (revision_number r)) (λ k same. same) n at
    by more false true at =
        more (node_tally t (is_kept_node settings r) (copies_from_before t.first r) t.present) last
        (λ k same. so k (sym (of_node t.present refl) ∙ same)) n at
    by more false false at = more (other_tally settings t) last (λ k bad. absurd (let worse : None ≡ Some k = bad in cc)) n at

module _ (settings : Settings) (before : List DumpRecord) (r : DumpRecord) (revision : ℕ)
    (single : list_all is_single (before ++ r ∷ []) ≡ true) (node : is_node r ≡ true)
    (present : open_number (tally_behind settings no_tally before).present ≡ Some revision) where
  abbrev so_far : Tally
  so_far = tally_behind settings no_tally before

  abbrev last_single : is_single r ≡ true
  last_single = single_last before single
    where
      single_last : (rs : List DumpRecord) → list_all is_single (rs ++ r ∷ []) ≡ true → is_single r ≡ true
      single_last [] all = (and_parts (is_single r) true all).0
      single_last (x ∷ rs) all =
          single_last rs (and_parts (is_single x) (list_all is_single (rs ++ r ∷ [])) all).1

  no_revision : is_revision_record r ≡ false
  no_revision = by (is_revision_record r) (ap (λ b. not (b && is_revision_record r)) (sym node) ∙ last_single)
    where
      by : (b : Bool) → not b ≡ true → b ≡ false
      by true bad = cc
      by false fine = refl

  -- the tally after the node
  with_node : tally_behind settings no_tally (before ++ r ∷ [])
      ≡ node_tally so_far (is_kept_node settings r) (copies_from_before so_far.first r) so_far.present
  with_node = tally_more settings no_tally before r ∙ rw (no_revision, node) refl

  first_is : so_far.first ≡ begins_at (before ++ r ∷ [])
  first_is =
      sym (node_begins so_far (is_kept_node settings r) (copies_from_before so_far.first r) so_far.present)
      ∙ (sym (ap (λ (t : Tally). t.first) with_node) ∙ begins_at_is settings (before ++ r ∷ []))

  present_is : revision ≡ present_number before
  present_is = sym (ap (λ o. unwrap_or o 0)
      (last_is settings no_tally before None (λ n bad. absurd (let worse : None ≡ Some n = bad in cc)) revision present))

  -- a revision with a kept node is kept, so its number counts
  kept_is : is_kept_node settings r ≡ true → (number : ℕ)
      → has_up_to number (kept_revisions settings (before ++ r ∷ [])).numbers
      ≡ reaches (numbers_of so_far revision) number
  kept_is keep number =
      sym (up_to_is settings number no_tally (before ++ r ∷ []) single)
      ∙ (ap (tallied_up_to settings number) with_node ∙ by so_far.present refl present)
    where
      open_so : (p : Present) (z k : Bool) → is_up_to number (if z || (k || true) || keeps_empty settings.empty false
          then Some (lesser so_far.least p.number) else so_far.least)
          ≡ is_up_to number (Some (lesser so_far.least p.number))
      open_so p true k = refl
      open_so p false true = refl
      open_so p false false = refl

      by : (o : Option Present) → so_far.present ≡ o → open_number o ≡ Some revision
          → tallied_up_to settings number
          (node_tally so_far (is_kept_node settings r) (copies_from_before so_far.first r) o)
          ≡ reaches (numbers_of so_far revision) number
      by None none bad = absurd (let worse : None ≡ Some revision = bad in cc)
      by (Some p) some at =
          let same : p.number ≡ revision = cc in
          ap (λ b. tallied_up_to settings number (node_tally so_far b (copies_from_before so_far.first r) (Some p))) keep
          ∙ (open_so p (p.number == 0) p.kept
          ∙ (lesser_up_to number so_far.least p.number
          ∙ ap (λ m. is_up_to number so_far.least || nat_le m number) same))

  pub numbers_behind : AreNumbersBehind settings before r (numbers_of so_far revision)
  numbers_behind = record { first = first_is; present = present_is; kept = kept_is }
