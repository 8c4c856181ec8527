-- The changes of the groups that are read again are what the filter leaves of the dump's changes.
use Rattle.dump_history.proofs.Prelude.{◌≡◌, suc, ◌==◌, Bool, true, ◌&&◌, ◌||◌, length, refl, sym, ap, ◌∙◌, subst, arith, MatchBool, AllZip, list_all, list_any, first_true, second_true, DumpRecord, Settings, keeps_path, KeptRevisions, is_node, is_kept_node, node_path, Group, group_number, has_kept_node, is_bare, keeps_empty, keeps_group, IsNewProperty, IsWrittenCopyNumber, keeps, Change, AreNewChanges, EmptyRule, keeps_revision, AreNewRevisions, keeps_text, Patching, MakesChange}
use Rattle.std.proofs.Common.{ℕ, false, List, [], ◌∷◌}
use Rattle.dump_history.proofs.again.NodeChanges.{change_path, node_makes_new_change}
use Rattle.dump_history.proofs.again.GroupsAgain.{IsAgain, AreNodesAgain, IsGroupAgain, AreGroupsAgain}

-- the nodes make these changes, in order
abbrev pub AllMake : Patching → List DumpRecord → List Change → Type 0
AllMake patched nodes changes = AllZip (MakesChange patched) nodes changes

-- the groups make these revisions, in order
abbrev pub GroupsMake : Patching → List Group → List (List Change) → Type 0
GroupsMake patched gs revisions = AllZip (λ (g : Group) changes. AllMake patched g.nodes changes) gs revisions

-- the rule of the options for revisions without a kept change
abbrev pub empty_rule : Settings → EmptyRule
empty_rule settings changes = keeps_empty settings.empty (length changes == 0)

-- a group's nodes are nodes
abbrev pub HasNodes : Group → Type 0
HasNodes g = list_all is_node g.nodes ≡ true

-- the nodes of each group are nodes
abbrev pub AllHaveNodes : List Group → Type 0
AllHaveNodes [] = Unit {0}
AllHaveNodes (g ∷ gs) = HasNodes g × AllHaveNodes gs

-- the groups' numbers are this one, the next one and so on
abbrev pub AreNumberedFrom : ℕ → List Group → Type 0
AreNumberedFrom n [] = Unit {0}
AreNumberedFrom n (g ∷ gs) = (group_number g ≡ n) × AreNumberedFrom (suc n) gs

-- a number after another number isn't 0
pub later_number : (m n : ℕ) → m ≡ suc n → (m == 0) ≡ false
later_number m n is = grind (arith, is)

module _ (patched : Patching) (settings : Settings) where
  -- a node is kept exactly if its change is
  pub kept_node : (r : DumpRecord) (c : Change) → is_node r ≡ true → MakesChange patched r c
      → is_kept_node settings r ≡ keeps settings c.path
  kept_node r c node change =
      let path = keeps_text settings (node_path r) in
      ap (λ b. b && keeps_path settings (node_path r)) node ∙ sym path
      ∙ ap (keeps settings) (sym (change_path patched r c change))

  -- a group of nodes has a kept node exactly if a change is kept
  kept_nodes : (nodes : List DumpRecord) (changes : List Change) → list_all is_node nodes ≡ true
      → AllMake patched nodes changes
      → list_any (is_kept_node settings) nodes ≡ list_any (λ (c : Change). keeps settings c.path) changes
  kept_nodes [] [] are make = refl
  kept_nodes [] (c ∷ changes) are make = absurd make
  kept_nodes (r ∷ nodes) [] are make = absurd make
  kept_nodes (r ∷ nodes) (c ∷ changes) are make =
      λ i. kept_node r c (first_true (is_node r) (list_all is_node nodes) are) make.0 i
      || kept_nodes nodes changes (second_true (is_node r) (list_all is_node nodes) are) make.1 i

  -- there are as many nodes as changes
  as_many : (nodes : List DumpRecord) (changes : List Change) → AllMake patched nodes changes
      → length nodes ≡ length changes
  as_many [] [] make = refl
  as_many [] (c ∷ changes) make = absurd make
  as_many (r ∷ nodes) [] make = absurd make
  as_many (r ∷ nodes) (c ∷ changes) make = ap suc (as_many nodes changes make.1)

  -- a group with a number above 0 is kept exactly if its revision is
  pub kept_group : (g : Group) (changes : List Change) → (group_number g == 0) ≡ false → HasNodes g
      → AllMake patched g.nodes changes → keeps_group settings g ≡ keeps_revision settings (empty_rule settings) changes
  kept_group g changes later are make =
      ap (λ b. b || has_kept_node settings g || keeps_empty settings.empty (is_bare g)) later
      ∙ (λ i. kept_nodes g.nodes changes are make i
      || keeps_empty settings.empty (as_many g.nodes changes make i == 0))

  module _ (kept : KeptRevisions) where
    -- the nodes that are read again make what the filter leaves of the nodes' changes
    pub nodes_change : (nodes again : List DumpRecord) (changes : List Change) → list_all is_node nodes ≡ true
        → AreNodesAgain settings kept nodes again → AllMake patched nodes changes
        → (written : List Change) × AllMake patched again written
        × AreNewChanges settings (IsNewProperty settings kept) (IsWrittenCopyNumber settings kept) changes written
    nodes_change [] again [] are none make =
        ([], subst (λ (l : List DumpRecord). AllMake patched l []) (sym none) tt, refl)
    nodes_change [] again (c ∷ changes) are none make = absurd make
    nodes_change (r ∷ nodes) again [] are this make = absurd make
    nodes_change (r ∷ nodes) again (c ∷ changes) are this (change, make) =
        by_kept (is_kept_node settings r) refl this
        (λ rest reads. nodes_change nodes rest changes
        (second_true (is_node r) (list_all is_node nodes) are) reads make)
      where
        node : is_node r ≡ true
        node = first_true (is_node r) (list_all is_node nodes) are

        by_kept : (b : Bool) → is_kept_node settings r ≡ b
            → MatchBool b
            ((s : DumpRecord) × (rest : List DumpRecord) × (again ≡ s ∷ rest)
            × IsAgain settings kept r s × AreNodesAgain settings kept nodes rest)
            (AreNodesAgain settings kept nodes again)
            → ((rest : List DumpRecord) → AreNodesAgain settings kept nodes rest
            → (written : List Change) × AllMake patched rest written
            × AreNewChanges settings (IsNewProperty settings kept) (IsWrittenCopyNumber settings kept) changes
            written)
            → (written : List Change) × AllMake patched again written
            × AreNewChanges settings (IsNewProperty settings kept) (IsWrittenCopyNumber settings kept)
            (c ∷ changes) written
        by_kept true keep (s, rest, same, (after, front, read), reads) later =
            let (new, makes, is_new) = node_makes_new_change patched settings kept r after front s read node c change in
            let (written, make, are_new) = later rest reads in (
              new ∷ written,
              subst (λ (l : List DumpRecord). AllMake patched l (new ∷ written)) (sym same) (makes, make),
              rw (sym (kept_node r c node change) ∙ keep) (new, written, refl, is_new, are_new),
            )
        by_kept false drop reads later =
            let (written, make, are_new) = later again reads in
            (written, make, rw (sym (kept_node r c node change) ∙ drop) are_new)

    -- the groups that are read again make what the filter leaves of the revisions
    pub groups_change : (n : ℕ) (gs again : List Group) (revisions : List (List Change)) → AllHaveNodes gs
        → AreNumberedFrom (suc n) gs → AreGroupsAgain settings kept gs again → GroupsMake patched gs revisions
        → (written : List (List Change)) × GroupsMake patched again written
        × AreNewRevisions settings (IsNewProperty settings kept) (IsWrittenCopyNumber settings kept)
        (empty_rule settings) revisions written
    groups_change n [] again [] are numbered none make =
        ([], subst (λ (l : List Group). GroupsMake patched l []) (sym none) tt, refl)
    groups_change n [] again (changes ∷ revisions) are numbered none make = absurd make
    groups_change n (g ∷ gs) again [] are numbered this make = absurd make
    groups_change n (g ∷ gs) again (changes ∷ revisions) are numbered this (first, make) =
        by_kept (keeps_group settings g) refl this
        (λ rest reads. groups_change (suc n) gs rest revisions are.1 numbered.1 reads make)
      where
        same_test : keeps_group settings g ≡ keeps_revision settings (empty_rule settings) changes
        same_test = kept_group g changes (later_number (group_number g) n numbered.0) are.0 first

        by_kept : (b : Bool) → keeps_group settings g ≡ b
            → MatchBool b
            ((h : Group) × (rest : List Group) × (again ≡ h ∷ rest) × IsGroupAgain settings kept g h
            × AreGroupsAgain settings kept gs rest)
            (AreGroupsAgain settings kept gs again)
            → ((rest : List Group) → AreGroupsAgain settings kept gs rest
            → (written : List (List Change)) × GroupsMake patched rest written
            × AreNewRevisions settings (IsNewProperty settings kept) (IsWrittenCopyNumber settings kept)
            (empty_rule settings) revisions written)
            → (written : List (List Change)) × GroupsMake patched again written
            × AreNewRevisions settings (IsNewProperty settings kept) (IsWrittenCopyNumber settings kept)
            (empty_rule settings) (changes ∷ revisions) written
        by_kept true keep (h, rest, same, read, reads) later =
            let (new, makes, are_new) = nodes_change g.nodes h.nodes changes are.0 read.nodes first in
            let (written, others, are_more) = later rest reads in (
              new ∷ written,
              subst (λ (l : List Group). GroupsMake patched l (new ∷ written)) (sym same) (makes, others),
              rw (sym same_test ∙ keep) (new, written, refl, are_new, are_more),
            )
        by_kept false drop reads later =
            let (written, others, are_more) = later again reads in
            (written, others, rw (sym same_test ∙ drop) are_more)
