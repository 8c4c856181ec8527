-- A test of nodes says whether a kept node names a revision, and so whether one after a dropped revision does.
use Rattle.dump_history.proofs.Prelude.{◌≡◌, ◌↔◌, Bool, true, ◌&&◌, ◌||◌, if◌then◌else◌, IsTrue, MatchBool, refl, ap, ap₂, ◌∙◌, inl, inr, list_any, or_cases, or_left, or_right, and_parts, and_from, DumpRecord, Settings, found, finds, is_copy, is_kept_node, is_mergeinfo, property_list_once, block_or_not, Group, groups, keeps_group, makes, SetsMergeinfo, NamesRevision, HasNamingNode, HasNamingNodeBehind, DumpFacts, dump_findings, TellsNaming, nodes_name, groups_name, groups_name_behind, DumpFindingsAreOnce}
use Rattle.std.proofs.Common.{false, List, [], ◌∷◌}
use Rattle.dump_history.proofs.survey.FindingLemmas.{same_truth}
use Rattle.dump_history.proofs.survey.UnreadTest.{unread_in}

-- whether the node sets mergeinfo
pub merge_told : (r : DumpRecord) → (b : Bool) × (IsTrue b ↔ SetsMergeinfo r)
merge_told r = elim (block_or_not r) [
  | inl (ps, list) ↦ (
    list_any is_mergeinfo ps,
    (
      λ set. (ps, list, set),
      λ (qs, other, set). ap (list_any is_mergeinfo) (property_list_once r ps qs list other) ∙ set,
    ),
  )
  | inr unread ↦ (false, (λ bad. cc, λ (ps, list, set). absurd (unread (ps, list))))
]

-- whether the node names a revision
naming_told : (r : DumpRecord) → (b : Bool) × (IsTrue b ↔ NamesRevision r)
naming_told r = let (merges, told) = merge_told r in (
  (makes r && is_copy r) || merges,
  (
    λ names. elim (or_cases (makes r && is_copy r) merges names) [
      | inl copies ↦ inl copies
      | inr set ↦ inr (told.0 set)
    ],
    λ names. elim names [
      | inl copies ↦ or_left (makes r && is_copy r) merges copies
      | inr set ↦ or_right (makes r && is_copy r) merges (told.1 set)
    ],
  ),
)

-- the same as a test of nodes
pub names_test : DumpRecord → Bool
names_test r = (naming_told r).0

pub test_tells : TellsNaming names_test
unfolding names_test naming_told
test_tells r = (naming_told r).1

module _ (settings : Settings) (names : DumpRecord → Bool) (tells : TellsNaming names) where
  names_in : (gs : List Group) → groups_name settings names gs ≡ true → HasNamingNode settings gs
  names_in gs some =
      let (g, there, so) = found (λ (h : Group). nodes_name settings names h.nodes) gs some in
      let (r, within, both) = found (λ r. is_kept_node settings r && names r) g.nodes so in
      let parts = and_parts (is_kept_node settings r) (names r) both in
      (g, r, there, within, parts.0, (tells r).0 parts.1)

  names_back : (gs : List Group) → HasNamingNode settings gs → groups_name settings names gs ≡ true
  names_back gs (g, r, there, within, kept, naming) =
      finds (λ (h : Group). nodes_name settings names h.nodes) gs g there
      (finds (λ s. is_kept_node settings s && names s) g.nodes r within
      (and_from (is_kept_node settings r) (names r) kept ((tells r).1 naming)))

  -- the test of nodes says it for groups
  pub behind_told : (gs : List Group) → IsTrue (groups_name_behind settings names gs) ↔ HasNamingNodeBehind settings gs
  behind_told [] = (λ bad. let worse : false ≡ true = bad in cc, λ none. absurd none)
  behind_told (g ∷ gs) = by_kept (behind_told gs) (keeps_group settings g)
    where
      by_kept : IsTrue (groups_name_behind settings names gs) ↔ HasNamingNodeBehind settings gs → (b : Bool)
          → IsTrue (if b then groups_name_behind settings names gs else groups_name settings names gs)
          ↔ MatchBool b (HasNamingNodeBehind settings gs) (HasNamingNode settings gs)
      by_kept later true = later
      by_kept later false = (names_in gs, names_back gs)

-- there is only one list of findings in a dump as a whole
pub dump_findings_once : DumpFindingsAreOnce
dump_findings_once settings records =
    let named = groups_name_behind settings names_test (groups records) in
    let told = behind_told settings names_test test_tells (groups records) in
    let (unread, unread_told) = unread_in records in
    let facts : DumpFacts = record { named = named; unread = unread } in (
      dump_findings settings records facts,
      (facts, record { named = told; unread = unread_told }, refl),
      λ others (other, are, same). same
          ∙ ap₂ (λ b c. dump_findings settings records (record { named = b; unread = c }))
          (same_truth other.named named are.named told) (same_truth other.unread unread are.unread unread_told),
    )
