-- The deletes after a copy are found among the excluded paths.
use Rattle.dump_trees.proofs.Prelude.{◌≡◌, not, cond, refl, sym, ap, ◌∙◌, subst, filter, append_assoc, list_all, and_parts, and_from, not-true, not_from_false, NodePath, Settings, Tree, Change, History, keeps, below}
use Rattle.std.proofs.Common.{Bool, true, false, ◌&&◌, List, [], ◌∷◌, ◌++◌, Option, Some, None, is_some, is_none, Contains}
use Rattle.dump_trees.specs.steps.ExpansionCases.{none_is_below}
use Rattle.dump_trees.specs.Siblings.{is_within, has_node_names}
use Rattle.dump_trees.specs.Returns.{is_covered}
use Rattle.dump_trees.specs.steps.Returns.{lie_apart, named_rest, rests_below, rests_covered, IsCopyOver}
use Rattle.dump_trees.specs.Following.{Way}
use Rattle.dump_trees.specs.steps.Following.{followed}
use Rattle.dump_trees.specs.steps.Trimming.{CoverTaken}
use Rattle.dump_trees.specs.steps.DeletesBehind.{DeletesAreFound}
use Rattle.dump_trees.proofs.changes.TreeLemmas.{below_rest}
use Rattle.dump_trees.proofs.paths.SiblingLemmas.{rest_names, both_names, excluded_match}
use Rattle.dump_trees.proofs.expansions.DeletionLemmas.{below_both}
use Rattle.dump_trees.proofs.cuts.CoveredPaths.{covered_from, all_has, list_all_of, filter_there, filter_passed, filter_has, exists_above, uncovered_above, below_there, rests_there, rests_above}
use Rattle.std.proofs.lemmas.Bool.{not-false}

module _ (settings : Settings) (excluded : List NodePath) (history : History) (old : Tree) (c : Change) (source : NodePath)
    (over : IsCopyOver settings excluded history old c source) (is_apart : lie_apart excluded ≡ true)
    (kept : keeps settings c.path ≡ true) where
  abbrev tests : NodePath → Bool
  tests rest = is_some (old (source ++ rest)) && not (is_covered excluded (source ++ rest))

  abbrev found : List NodePath
  found = followed Way.ToSources excluded old c.path source

  -- what exists at a rest of the source
  named : (rest : NodePath) → is_some (old (source ++ rest)) ≡ true → has_node_names rest ≡ true
  named rest exists = rest_names source rest (over.named (source ++ rest) exists)

  keeps_path : (rest : NodePath) → is_some (old (source ++ rest)) ≡ true
      → keeps settings (c.path ++ rest) ≡ not (is_covered excluded (c.path ++ rest))
  keeps_path rest exists =
      excluded_match settings excluded (c.path ++ rest) over.excludes over.names
      (both_names c.path rest over.path (named rest exists))

  keeps_source : (rest : NodePath) → is_some (old (source ++ rest)) ≡ true
      → keeps settings (source ++ rest) ≡ not (is_covered excluded (source ++ rest))
  keeps_source rest exists =
      excluded_match settings excluded (source ++ rest) over.excludes over.names (over.named (source ++ rest) exists)

  listed : (rest : NodePath) → Contains found rest
      → (is_some (old (source ++ rest)) ≡ true) × (is_covered excluded (source ++ rest) ≡ false)
      × (is_covered excluded (c.path ++ rest) ≡ true)
  listed rest there =
      let parts = and_parts (is_some (old (source ++ rest))) (not (is_covered excluded (source ++ rest)))
      (filter_passed tests (rests_covered c.path excluded) rest there) in
      (parts.0, not-true _ parts.1, rests_there c.path excluded rest (filter_there tests (rests_covered c.path excluded) rest there))

  path_open : is_covered excluded c.path ≡ false
  path_open =
      not-true _ (sym (excluded_match settings excluded c.path over.excludes over.names over.path) ∙ kept)

  -- of the excluded paths below the path, none is at or below another one
  none_below : (paths : List NodePath) → lie_apart paths ≡ true → none_is_below (rests_below c.path paths) ≡ true
  none_below [] apart = refl
  none_below (path ∷ paths) apart = cases (below c.path path) refl (none_below paths parts.1)
    where
      parts : (list_all (λ p. not (is_within path p) && not (is_within p path)) paths ≡ true) × (lie_apart paths ≡ true)
      parts = and_parts _ (lie_apart paths) apart

      cases : (o : Option NodePath) → below c.path path ≡ o → none_is_below (rests_below c.path paths) ≡ true
          → none_is_below (named_rest o ++ rests_below c.path paths) ≡ true
      cases None at rest = rest
      cases (Some []) at rest = rest
      cases (Some (name ∷ more)) at rest =
          and_from (list_all (λ other. is_none (below (name ∷ more) other)) (rests_below c.path paths))
          (none_is_below (rests_below c.path paths))
          (list_all_of (λ other. is_none (below (name ∷ more) other)) (rests_below c.path paths)
          (λ other there.
          let both = all_has (λ p. not (is_within path p) && not (is_within p path)) paths (c.path ++ other) parts.0
          (below_there c.path paths other there) in
          let out = not-true _ (and_parts (not (is_within path (c.path ++ other))) (not (is_within (c.path ++ other) path)) both).0
          in
          none (below (name ∷ more) other)
          (sym (ap is_some (ap (λ p. below p (c.path ++ other)) (below_rest c.path path (name ∷ more) at)
          ∙ below_both c.path (name ∷ more) other)) ∙ out)))
          rest
        where
          none : (o : Option NodePath) → is_some o ≡ false → is_none o ≡ true
          none None is = refl
          none (Some found) is = absurd (let bad : true ≡ false = is in cc)

  filtered : (paths : List NodePath) → none_is_below paths ≡ true → none_is_below (filter tests paths) ≡ true
  filtered [] is = refl
  filtered (path ∷ paths) is = cases (tests path) (filtered paths parts.1)
    where
      parts : (list_all (λ other. is_none (below path other)) paths ≡ true) × (none_is_below paths ≡ true)
      parts = and_parts (list_all (λ other. is_none (below path other)) paths) (none_is_below paths) is

      cases : (b : Bool) → none_is_below (filter tests paths) ≡ true
          → none_is_below (cond b (path ∷ filter tests paths) (filter tests paths)) ≡ true
      cases false rest = rest
      cases true rest =
          and_from (list_all (λ other. is_none (below path other)) (filter tests paths)) (none_is_below (filter tests paths))
          (list_all_of (λ other. is_none (below path other)) (filter tests paths)
          (λ other there. all_has (λ o. is_none (below path o)) paths other parts.0 (filter_there tests paths other there)))
          rest

  found_apart : none_is_below found ≡ true
  found_apart =
      ap (λ b. none_is_below (filter tests (cond b ([] ∷ []) (rests_below c.path excluded)))) path_open
      ∙ filtered (rests_below c.path excluded) (none_below excluded is_apart)

  found_all : (rest : NodePath) → is_some (old (source ++ rest)) ≡ true → keeps settings (source ++ rest) ≡ true
      → keeps settings (c.path ++ rest) ≡ false → is_covered found rest ≡ true
  found_all rest exists keep left =
      let (first, more, there, same) = rests_above c.path excluded rest
      (not-false (is_covered excluded (c.path ++ rest)) (sym (keeps_path rest exists) ∙ left)) in
      subst (λ p. is_covered found p ≡ true) (sym same)
      (covered_from found first more
      (filter_has tests (rests_covered c.path excluded) first there
      (and_from (is_some (old (source ++ first))) (not (is_covered excluded (source ++ first)))
      (exists_above old over.directories (source ++ first) more
      (subst (λ p. is_some (old p) ≡ true) (ap (λ r. source ++ r) same ∙ sym (append_assoc source first more)) exists))
      (not_from_false _ (uncovered_above excluded (source ++ first) more
      (subst (λ p. is_covered excluded p ≡ false) (ap (λ r. source ++ r) same ∙ sym (append_assoc source first more))
      (not-true _ (sym (keeps_source rest exists) ∙ keep))))))))

  cover_taken : CoverTaken settings old c.path source found
  cover_taken = record {
    stand = list_all_of (λ rest. is_some (old (source ++ rest))) found (λ rest there. (listed rest there).0);
    kept = list_all_of (λ rest. keeps settings (source ++ rest)) found
        (λ rest there. let is = listed rest there in keeps_source rest is.0 ∙ not_from_false _ is.1);
    left = list_all_of (λ rest. not (keeps settings (c.path ++ rest))) found
        (λ rest there. let is = listed rest there in ap not (keeps_path rest is.0 ∙ ap not is.2));
    apart = found_apart;
    all = found_all;
  }

pub deletes_are_found : DeletesAreFound
deletes_are_found settings excluded history old c source over is_apart kept =
    cover_taken settings excluded history old c source over is_apart kept
