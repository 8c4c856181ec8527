-- A change that names a revision is the change of a node that names one.
use Rattle.dump_history.proofs.Prelude.{◌≡◌, suc, Bool, true, not, ◌&&◌, None, if◌then◌else◌, cond, Contains, IsTrue, MatchBool, refl, ap, ◌∙◌, inl, inr, arith, list_all, list_any, or_cases, and_parts, and_cases, not-false, true_from_ne_false, Contains-append_right, Property, property_length_name, has_header, first_true, second_true, DumpRecord, has_prop_delta, Settings, is_copy, is_node, is_kept_node, is_mergeinfo, Group, group_number, keeps_group, keeps, Made, is_copied, PropertyChange, Change, names_kept, names_none, names_none_behind, Patching, makes, made_by_kind, made_of, copied_from, property_change_of, MakesChange, sets_mergeinfo, names_revision, NamesRevision, HasNamingNode, HasNamingNodeBehind}
use Rattle.dump_trees.specs.ComingBack.{entries_in}
use Rattle.std.proofs.Common.{ℕ, false, List, [], ◌∷◌, Some}
use Rattle.dump_history.proofs.again.NodeChanges.{node_change, change_is}
use Rattle.dump_history.proofs.again.GroupChanges.{AllMake, GroupsMake, empty_rule, AllHaveNodes, AreNumberedFrom, kept_node, kept_group, later_number}

module _ (patched : Patching) (settings : Settings) where
  -- if what a node makes is copied, the node is a copy
  copy_made : (r : DumpRecord) → is_copied (made_of r) ≡ true → (makes r && is_copy r) ≡ true
  copy_made r = cases (makes r) (is_copy r)
    where
      cases : (m c : Bool)
          → is_copied (if m then if c then Some (copied_from r) else made_by_kind r else None) ≡ true
          → (m && c) ≡ true
      cases false c copied = copied
      cases true true copied = refl
      cases true false copied = by_kind _ _ copied
        where
          by_kind : (d f : Bool)
              → is_copied (if d then Some Made.NewDirectory else if f then Some Made.NewFile else None) ≡ true
              → false ≡ true
          by_kind true f copied = copied
          by_kind false true copied = copied
          by_kind false false copied = copied

  -- the entries that the change sets are those of the node's block
  merge_set : (r : DumpRecord) (ps : List Property)
      → list_any is_mergeinfo (entries_in (property_change_of r ps)) ≡ true → list_any is_mergeinfo ps ≡ true
  merge_set r ps = cases (has_header property_length_name r.headers) (has_prop_delta r)
    where
      cases : (h d : Bool) → list_any is_mergeinfo
          (entries_in (if h then Some (if d then PropertyChange.Edited ps else PropertyChange.Replaced ps) else None))
          ≡ true → list_any is_mergeinfo ps ≡ true
      cases true true set = set
      cases true false set = set
      cases false d set = absurd (let bad : false ≡ true = set in cc)

  node_names : (r : DumpRecord) (c : Change) → MakesChange patched r c → names_revision c ≡ true → NamesRevision r
  node_names r c (ps, list, plain, is) names =
      let same = change_is patched r ps c is in
      elim (or_cases (is_copied (node_change patched r ps).made) (sets_mergeinfo (node_change patched r ps))
      (ap names_revision same.1 ∙ names)) [
        | inl copied ↦ inl (copy_made r copied)
        | inr set ↦ inr (ps, list, merge_set r ps set)
      ]

  -- kept nodes that name a revision
  abbrev NamingNode : List DumpRecord → Type 0
  NamingNode nodes = (r : DumpRecord) × Contains nodes r × IsTrue (is_kept_node settings r) × NamesRevision r

  -- a kept change of a group that names a revision is the change of a kept node that names one
  naming_node_of : (nodes : List DumpRecord) (changes : List Change) → list_all is_node nodes ≡ true
      → AllMake patched nodes changes → names_kept settings names_revision changes ≡ true → NamingNode nodes
  naming_node_of [] [] are make names = absurd (let bad : false ≡ true = names in cc)
  naming_node_of [] (c ∷ changes) are make names = absurd make
  naming_node_of (r ∷ nodes) [] are make names = absurd make
  naming_node_of (r ∷ nodes) (c ∷ changes) are make names =
      elim (or_cases (keeps settings c.path && names_revision c) (names_kept settings names_revision changes) names) [
        | inl here ↦ (let parts = and_parts (keeps settings c.path) (names_revision c) here in (
          r,
          (0, omega arith, refl),
          kept_node patched settings r c (first_true (is_node r) (list_all is_node nodes) are) make.0 ∙ parts.0,
          node_names r c make.0 parts.1,
        ))
        | inr later ↦ (let (s, within, kept, naming) = naming_node_of nodes changes
            (second_true (is_node r) (list_all is_node nodes) are) make.1 later in
            (s, Contains-append_right (r ∷ []) nodes s within, kept, naming))
      ]

  -- the same for all groups
  naming_node_of_groups : (gs : List Group) (revisions : List (List Change)) → AllHaveNodes gs → GroupsMake patched gs revisions
      → names_none settings names_revision revisions ≡ false → HasNamingNode settings gs
  naming_node_of_groups [] [] are make named = absurd (let bad : true ≡ false = named in cc)
  naming_node_of_groups [] (changes ∷ revisions) are make named = absurd make
  naming_node_of_groups (g ∷ gs) [] are make named = absurd make
  naming_node_of_groups (g ∷ gs) (changes ∷ revisions) are make named =
      elim (and_cases (not (names_kept settings names_revision changes))
      (names_none settings names_revision revisions) named) [
        | inl here ↦ (let (r, within, kept, naming) = naming_node_of g.nodes changes are.0 make.0 (not-false _ here) in
            (g, r, (0, omega arith, refl), within, kept, naming))
        | inr later ↦ (let (h, r, there, within, kept, naming) = naming_node_of_groups gs revisions are.1 make.1 later in
            (h, r, Contains-append_right (g ∷ []) gs h there, within, kept, naming))
      ]

  -- the same for the nodes after the first dropped group
  naming_node_behind : (n : ℕ) (gs : List Group) (revisions : List (List Change)) → AllHaveNodes gs
      → AreNumberedFrom (suc n) gs → GroupsMake patched gs revisions
      → names_none_behind settings (empty_rule settings) names_revision revisions ≡ false
      → HasNamingNodeBehind settings gs
  naming_node_behind n [] [] are numbered make named = absurd (let bad : true ≡ false = named in cc)
  naming_node_behind n [] (changes ∷ revisions) are numbered make named = absurd make
  naming_node_behind n (g ∷ gs) [] are numbered make named = absurd make
  naming_node_behind n (g ∷ gs) (changes ∷ revisions) are numbered make named =
      by_kept (keeps_group settings g) (ap (λ b. cond b
      (names_none_behind settings (empty_rule settings) names_revision revisions)
      (names_none settings names_revision revisions))
      (kept_group patched settings g changes (later_number (group_number g) n numbered.0) are.0 make.0) ∙ named)
      (naming_node_behind (suc n) gs revisions are.1 numbered.1 make.1)
    where
      by_kept : (b : Bool)
          → cond b (names_none_behind settings (empty_rule settings) names_revision revisions)
          (names_none settings names_revision revisions) ≡ false
          → (names_none_behind settings (empty_rule settings) names_revision revisions ≡ false
          → HasNamingNodeBehind settings gs)
          → MatchBool b (HasNamingNodeBehind settings gs) (HasNamingNode settings gs)
      by_kept true named later = later named
      by_kept false named later = naming_node_of_groups gs revisions are.1 make.1 named

  -- so if no node names a revision after the first dropped group, no change does
  pub none_named_behind : (n : ℕ) (gs : List Group) (revisions : List (List Change)) → AllHaveNodes gs
      → AreNumberedFrom (suc n) gs → GroupsMake patched gs revisions → ¬ HasNamingNodeBehind settings gs
      → names_none_behind settings (empty_rule settings) names_revision revisions ≡ true
  none_named_behind n gs revisions are numbered make none =
      true_from_ne_false _ (λ named. none (naming_node_behind n gs revisions are numbered make named))
