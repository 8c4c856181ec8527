-- The revisions of a dump, and the revisions of what is written of it.
use Rattle.dump_history.proofs.Prelude.{◌≡◌, suc, ◌==◌, Bool, true, ◌||◌, map, MatchBool, refl, sym, ap, ◌∙◌, subst, take_while, if◌then◌else◌, list_all, eqb-true, take_while-cons, equals_itself, first_true, second_true, and_from, DumpRecord, Settings, KeptRevisions, is_revision_record, is_node, Group, groups, group_number, has_kept_node, is_bare, keeps_empty, first_number, keeps_group, kept_revisions, IsNewProperty, IsWrittenCopyNumber, Change, NewNumber, AreNewRevisions, names_none_behind, kept_from, kept_of, counts_from, names_revision, count_to_gap, HasNamingNode, HasNamingNodeBehind, Patching}
use Rattle.std.proofs.Common.{ℕ, false, List, [], ◌∷◌}
use Rattle.dump_history.proofs.again.NodeChanges.{entries_kept}
use Rattle.dump_history.proofs.again.NamingNodes.{none_named_behind}
use Rattle.dump_history.proofs.again.GapNumbers.{no_gap, gap_again}
use Rattle.dump_history.proofs.again.GroupsAgain.{AreGroupsAgain}
use Rattle.dump_history.proofs.again.GroupChanges.{AllMake, GroupsMake, empty_rule, AllHaveNodes, AreNumberedFrom, nodes_change, groups_change}
use Rattle.dump_history.proofs.again.GroupNumbers.{AllRevisions, kept_numbers, kept_numbers_are, own_number}

-- groups

all_nodes : (records : List DumpRecord) → list_all is_node (take_while is_node records) ≡ true
all_nodes [] = refl
all_nodes (r ∷ records) = cases (is_node r) refl (all_nodes records)
  where
    cases : (b : Bool) → is_node r ≡ b → list_all is_node (take_while is_node records) ≡ true
        → list_all is_node (take_while is_node (r ∷ records)) ≡ true
    cases true is more = ap (list_all is_node) (take_while-cons is_node r records
        ∙ ap (λ c. if c then r ∷ take_while is_node records else []) is)
        ∙ and_from (is_node r) (list_all is_node (take_while is_node records)) is more
    cases false is more = ap (list_all is_node) (take_while-cons is_node r records
        ∙ ap (λ c. if c then r ∷ take_while is_node records else []) is)

-- a dump's groups are revisions with nodes
pub groups_are : (records : List DumpRecord) → AllRevisions (groups records) × AllHaveNodes (groups records)
groups_are [] = (tt, tt)
groups_are (r ∷ records) = cases (is_revision_record r) refl (groups_are records)
  where
    cases : (b : Bool) → is_revision_record r ≡ b → AllRevisions (groups records) × AllHaveNodes (groups records)
        → AllRevisions (groups (r ∷ records)) × AllHaveNodes (groups (r ∷ records))
    cases true is (revs, nodes) = rw is ((is, revs), (all_nodes records, nodes))
    cases false is more = rw is more

-- the groups' numbers go up by one from a number
pub numbered_from : (n : ℕ) (gs : List Group) → counts_from n (map group_number gs) ≡ true → AreNumberedFrom n gs
numbered_from n [] counts = tt
numbered_from n (g ∷ gs) counts =
    let more = counts_from (suc n) (map group_number gs) in (
      eqb-true (group_number g) n (first_true (group_number g == n) more counts),
      numbered_from (suc n) gs (second_true (group_number g == n) more counts),
    )

-- the same in the other direction
pub counted_from : (n : ℕ) (gs : List Group) → AreNumberedFrom n gs → counts_from n (map group_number gs) ≡ true
counted_from n [] numbered = refl
counted_from n (g ∷ gs) numbered =
    and_from (group_number g == n) (counts_from (suc n) (map group_number gs))
    (ap (λ m. m == n) numbered.0 ∙ equals_itself n) (counted_from (suc n) gs numbered.1)

-- the numbers of these groups are 0 and then those of these revisions, possibly with a gap
abbrev pub CountToGap : List Group → List (List Change) → Type 0
CountToGap gs revisions = (later : List ℕ) × (map group_number gs ≡ 0 ∷ later)
    × (count_to_gap 1 later revisions ≡ true)

-- if the groups are numbered one by one, there is no gap
pub counts_without : (patched : Patching) (gs : List Group) (revisions : List (List Change)) → AreNumberedFrom 0 gs
    → GroupsMake patched gs ([] ∷ revisions) → CountToGap gs revisions
counts_without patched [] revisions numbered make = absurd make
counts_without patched (g ∷ gs) revisions numbered make = (
  map group_number gs,
  ap (λ n. n ∷ map group_number gs) numbered.0,
  no_gap patched 1 gs revisions numbered.1 make.1,
)

module _ (patched : Patching) (settings : Settings) where
  -- revision 0 is kept
  pub first_kept : (g : Group) → group_number g ≡ 0 → keeps_group settings g ≡ true
  first_kept g is = ap (λ b. b || has_kept_node settings g || keeps_empty settings.empty (is_bare g))
      (ap (λ m. m == 0) is)

  first_is : (gs : List Group) (revisions : List (List Change)) → AreNumberedFrom 0 gs
      → GroupsMake patched gs ([] ∷ revisions)
      → first_number (map group_number gs) ≡ 0
  first_is [] revisions numbered make = absurd make
  first_is (g ∷ gs) revisions numbered make = numbered.0

  numbers_are : (gs : List Group) (revisions : List (List Change)) → AllHaveNodes gs → AreNumberedFrom 0 gs
      → GroupsMake patched gs ([] ∷ revisions)
      → kept_numbers settings gs ≡ 0 ∷ kept_from settings (empty_rule settings) 1 revisions
  numbers_are [] revisions are numbered make = absurd make
  numbers_are (g ∷ gs) revisions are numbered make =
      let more = kept_numbers_are settings patched 0 gs revisions are.1 numbered.1 make.1 in
      rw (first_kept g numbered.0) (λ i. numbered.0 i ∷ more i)

  -- the kept revisions of a dump that is numbered 0, 1, 2 and so on are those of its changes
  pub kept_revisions_are : (records : List DumpRecord) (revisions : List (List Change))
      → AreNumberedFrom 0 (groups records)
      → GroupsMake patched (groups records) ([] ∷ revisions)
      → kept_revisions settings records ≡ kept_of settings (empty_rule settings) revisions
  kept_revisions_are records revisions numbered make =
      let first = first_is (groups records) revisions numbered make in
      let numbers = numbers_are (groups records) revisions (groups_are records).1 numbered make in
      λ i. record { first = first i; numbers = numbers i }

  -- if no node names a revision after the first dropped group, no change does
  pub none_named : (gs : List Group) (revisions : List (List Change)) → AllHaveNodes gs → AreNumberedFrom 0 gs
      → GroupsMake patched gs ([] ∷ revisions) → ¬ HasNamingNodeBehind settings gs
      → names_none_behind settings (empty_rule settings) names_revision revisions ≡ true
  none_named [] revisions are numbered make none = absurd make
  none_named (g ∷ gs) revisions are numbered make none =
      none_named_behind patched settings 0 gs revisions are.1 numbered.1 make.1
      (λ has. none (subst (λ b. MatchBool b (HasNamingNodeBehind settings gs) (HasNamingNode settings gs))
      (sym (first_kept g numbered.0)) has))

  module _ (kept : KeptRevisions) where
    -- what the filter leaves of these revisions, as groups that are read again
    abbrev pub LeavesRevisions : List (List Change) → List Group → Type 0
    LeavesRevisions revisions again = (written : List (List Change)) × GroupsMake patched again ([] ∷ written)
        × AreNewRevisions settings (IsNewProperty settings kept) (IsWrittenCopyNumber settings kept)
        (empty_rule settings) revisions written

    -- without renumbering, the groups that are read again may have a gap, if no revision after it is named
    pub counts_with : settings.renumber ≡ false → (IsNumber : NewNumber) (gs again : List Group)
        (revisions written : List (List Change)) → AllRevisions gs → AllHaveNodes gs → AreNumberedFrom 0 gs
        → GroupsMake patched gs ([] ∷ revisions) → AreGroupsAgain settings kept gs again
        → GroupsMake patched again ([] ∷ written)
        → AreNewRevisions settings (IsNewProperty settings kept) IsNumber (empty_rule settings) revisions written
        → names_none_behind settings (empty_rule settings) names_revision revisions ≡ true → CountToGap again written
    counts_with stays IsNumber [] again revisions written revs are numbered make this more new none = absurd make
    counts_with stays IsNumber (g ∷ gs) again revisions written revs are numbered make this more new none =
        let (h, rest, same, read, reads) = rw (first_kept g numbered.0) at this in
        let made = subst (λ (l : List Group). GroupsMake patched l ([] ∷ written)) same more in
        let own : group_number h ≡ 0 = own_number settings kept stays g h revs.0 read ∙ numbered.0 in (
          map group_number rest,
          ap (map group_number) same ∙ ap (λ n. n ∷ map group_number rest) own,
          gap_again settings kept stays patched (IsNewProperty settings kept) (entries_kept settings kept) IsNumber 0 gs
              rest revisions written revs.1 are.1 numbered.1 make.1 reads made.1 new none,
        )

    -- the groups that are read again, if the first one has the number 0 and no nodes
    pub revisions_change : (gs again : List Group) (revisions : List (List Change)) → AllHaveNodes gs
        → AreNumberedFrom 0 gs → GroupsMake patched gs ([] ∷ revisions) → AreGroupsAgain settings kept gs again
        → LeavesRevisions revisions again
    revisions_change [] again revisions are numbered make this = absurd make
    revisions_change (g ∷ gs) again revisions are numbered make this =
        let (h, rest, same, read, reads) = rw (first_kept g numbered.0) at this in
        let (none, makes, empty) = nodes_change patched settings kept g.nodes h.nodes [] are.0 read.nodes make.0 in
        let (written, others, are_new) = groups_change patched settings kept 0 gs rest revisions are.1 numbered.1
        reads make.1
        in (
          written,
          subst (λ (l : List Group). GroupsMake patched l ([] ∷ written)) (sym same)
              (subst (AllMake patched h.nodes) empty makes, others),
          are_new,
        )
