-- The siblings of every tree are among the names that can exist in the directories above included paths.
use Rattle.dump_trees.proofs.Prelude.{◌≡◌, ◌⊎◌, inl, inr, ◌+◌, ◌≤◌, not, ◌||◌, refl, sym, ap, ◌∙◌, subst, arith, append-nil, append_assoc, option_map, nat_le, slice_get, and_parts, or_cases, NodePath, parent_of, Node, Tree, root_alone, Made, PropertyChange, TextChange, Change, History, step, steps, is_root}
use Rattle.std.proofs.Common.{ℕ, Bool, true, false, ◌&&◌, List, [], ◌∷◌, ◌++◌, length, Option, Some, None, option_and_then, is_some, Contains, length-append}
use Rattle.std.proofs.lemmas.List.Sums.{count_by-le-length}
use Rattle.dump_trees.specs.steps.Looking.{Placed, placed_from, end_of, look}
use Rattle.dump_trees.specs.steps.Listing.{names_look}
use Rattle.dump_trees.specs.LoadCheck.{sets_props}
use Rattle.dump_trees.specs.steps.LoadCheck.{Kind, kind_of_node, kind_at, is_directory, is_file, Kinds, deletion_allowed, kind_left, making_allowed, kind_made, kinds_allow, kinds_before, source_kind, node_set, delta_applies}
use Rattle.dump_trees.specs.Siblings.{has_node_names}
use Rattle.dump_trees.specs.steps.Siblings.{is_in_cut, is_parent_above, is_sibling}
use Rattle.dump_trees.specs.Following.{Copies}
use Rattle.dump_trees.specs.steps.Following.{ExistsOnce}
use Rattle.dump_trees.specs.EverSiblings.{does_something}
use Rattle.dump_trees.specs.steps.EverSiblings.{EverSiblingsAreFound, ChangedPathsExist, CopiedPathsExist}
use Rattle.dump_trees.proofs.changes.TreeLemmas.{parent_rest}
use Rattle.dump_trees.proofs.histories.KeptNumbers.{get_before}
use Rattle.dump_trees.proofs.expansions.LookLemmas.{Runs, Begun, look_runs, runs_before, loaded_begun}
use Rattle.dump_trees.proofs.expansions.NameLemmas.{Has, names_run}
use Rattle.dump_trees.proofs.expansions.StandingLemmas.{copy_has_tree}
use Rattle.dump_trees.proofs.cuts.CheckedSteps.{left_of, made_node, kind_some, kind_of_left, kind_of_made, step_is_allowed, change_leaves}
use Rattle.dump_trees.proofs.cuts.CheckedLoads.{steps_then, pushed}
use Rattle.dump_trees.proofs.cuts.FollowLemmas.{MadeIn, change_is_made, exists_at_source}
use Rattle.dump_trees.proofs.cuts.FirstChanges.{changes_after, changes_parted, are_later}

-- finding them

pub ever_siblings_are_found : EverSiblingsAreFound
ever_siblings_are_found included siblings revisions each all front changes more rest trees parted is =
    record { each = each; all = found }
  where
    first : List (List Change)
    first = front ++ changes ∷ []

    behind : List Placed
    behind = changes_after front changes more rest

    split : placed_from 1 revisions ≡ placed_from 1 first ++ behind
    split = changes_parted front changes more rest revisions parted

    begun : (last : Tree) × (between : List Tree)
        × Begun root_alone trees last (length first) (placed_from 1 first) between
    begun = loaded_begun root_alone first trees is

    runs : Runs root_alone (placed_from 1 first ++ behind) (length first) begun.1
    runs = runs_before root_alone (placed_from 1 first) behind (length first) begun.1 begun.2.runs
        (are_later front changes more rest revisions parted)

    found : (number : ℕ) (tree : Tree) (path : NodePath) → slice_get trees number ≡ Some tree
        → is_some (tree path) ≡ true → is_sibling included path ≡ true → Contains siblings path
    found number tree path at some sibling = cases (parent_of path) refl above
      where
        above : is_parent_above included (parent_of path) ≡ true
        above = (and_parts (has_node_names path) (is_parent_above included (parent_of path))
            (and_parts (has_node_names path && is_parent_above included (parent_of path))
            (not (is_in_cut included path)) sibling).0).1

        count : ℕ
        count = end_of (placed_from 1 first) number

        there : slice_get begun.1 count ≡ Some tree
        there = begun.2.ends number tree at

        low : count ≤ length (placed_from 1 revisions)
        low =
            let few = count_by-le-length (λ (p : Placed). nat_le p.revision number) (placed_from 1 first) in
            let size = ap length split ∙ length-append (placed_from 1 first) behind in omega arith

        cases : (o : Option NodePath) → parent_of path ≡ o → is_parent_above included o ≡ true
            → Contains siblings path
        cases None none bad = absurd (let worse : false ≡ true = bad in cc)
        cases (Some parent) is_parent is_above =
            let (name, same) = parent_rest path parent is_parent in
            let below_it = subst (λ p. is_some (tree p) ≡ true) same some in
            subst (λ p. Contains siblings p) (sym same)
            (all count parent name low is_above (
              subst (λ ps. Has name (names_look ps count parent)) (sym split)
                  (names_run (placed_from 1 first ++ behind) (length first) begun.1 runs count count (omega arith) tree there
                  parent name below_it),
              ap is_some
                  (ap (λ ps. look root_alone ps count (parent ++ name ∷ [])) split
                  ∙ look_runs root_alone (placed_from 1 first ++ behind) (length first) begun.1 runs count count (omega arith) tree
                  there (parent ++ name ∷ []))
                  ∙ below_it,
            )
            (subst (λ p. is_sibling included p ≡ true) same sibling))

-- what changes do

pub file_some : (kind : Option Kind) → is_file kind ≡ true → is_some kind ≡ true
file_some None is = is
file_some (Some kind) is = refl

-- if the kinds allow a change that does something, something exists at its path, or the change makes something there
allowed_exists : (path : NodePath) (deletes : Bool) (made : Option Made) (props : Option PropertyChange)
    (text : Option TextChange) (kinds : Kinds)
    → (deletes || is_some made || sets_props props || is_some text) ≡ true
    → (deletion_allowed deletes path kinds.here
    && making_allowed made (kind_left deletes kinds.here) kinds
    && (not (sets_props props) || is_some (kind_made made (kind_left deletes kinds.here) kinds.source))
    && (not (is_some text) || is_file (kind_made made (kind_left deletes kinds.here) kinds.source))) ≡ true
    → (is_some kinds.here ≡ true) ⊎ (is_some (kind_made made (kind_left deletes kinds.here) kinds.source) ≡ true)
allowed_exists path deletes made props text kinds does allowed =
    cases deletes made does three.0 three.1 two.1 parts.1
  where
    source : Option Kind
    source = kinds.source

    left : Option Kind
    left = kind_left deletes kinds.here

    parts : ((deletion_allowed deletes path kinds.here && making_allowed made left kinds
        && (not (sets_props props) || is_some (kind_made made left source))) ≡ true)
        × ((not (is_some text) || is_file (kind_made made left source)) ≡ true)
    parts = and_parts _ _ allowed

    two : ((deletion_allowed deletes path kinds.here && making_allowed made left kinds) ≡ true)
        × ((not (sets_props props) || is_some (kind_made made left source)) ≡ true)
    two = and_parts _ _ parts.0

    three : (deletion_allowed deletes path kinds.here ≡ true) × (making_allowed made left kinds ≡ true)
    three = and_parts _ _ two.0

    implied : (a b : Bool) → a ≡ true → (not a || b) ≡ true → b ≡ true
    implied true b is holds = holds
    implied false b is holds = absurd (let bad : false ≡ true = is in cc)

    cases : (d : Bool) (m : Option Made) → (d || is_some m || sets_props props || is_some text) ≡ true
        → deletion_allowed d path kinds.here ≡ true → making_allowed m (kind_left d kinds.here) kinds ≡ true
        → (not (sets_props props) || is_some (kind_made m (kind_left d kinds.here) source)) ≡ true
        → (not (is_some text) || is_file (kind_made m (kind_left d kinds.here) source)) ≡ true
        → (is_some kinds.here ≡ true) ⊎ (is_some (kind_made m (kind_left d kinds.here) source) ≡ true)
    cases true m some may makes set filed = inl (and_parts (not (is_root path)) (is_some kinds.here) may).1
    cases false (Some Made.NewDirectory) some may makes set filed = inr refl
    cases false (Some Made.NewFile) some may makes set filed = inr refl
    cases false (Some (Made.Copied number from)) some may makes set filed =
        inr (and_parts (is_some source) (is_directory kinds.parent) makes).0
    cases false None some may makes set filed =
        elim (or_cases (sets_props props) (is_some text) some) [
          | inl sets ↦ inl (implied (sets_props props) (is_some kinds.here) sets set)
          | inr patches ↦ inl (file_some kinds.here (implied (is_some text) (is_file kinds.here) patches filed))
        ]

exists_around : (history : History) (before after : Tree) (c : Change) → does_something c ≡ true
    → step history before c ≡ Some after → (is_some (before c.path) ≡ true) ⊎ (is_some (after c.path) ≡ true)
exists_around history before after c does makes =
    elim (allowed_exists c.path c.deletes c.made c.props c.text kinds does allowed) [
      | inl here ↦ inl (sym (kind_some (before c.path)) ∙ here)
      | inr made ↦ inr (change_leaves history before after c (sym (kind_some node) ∙ (ap is_some kind ∙ made)) makes)
    ]
  where
    kinds : Kinds
    kinds = kinds_before history before c

    node : Option Node
    node = made_node history c.made (left_of c.deletes (before c.path))

    kind : option_map kind_of_node node ≡ kind_made c.made (kind_left c.deletes kinds.here) kinds.source
    kind = kind_of_made history c.made (left_of c.deletes (before c.path))
        ∙ ap (λ k. kind_made c.made k (source_kind history c.made)) (kind_of_left c.deletes (before c.path))

    allowed : kinds_allow c kinds ≡ true
    allowed =
        (and_parts (kinds_allow c kinds) (delta_applies c.text (node_set history before c))
        (sym (step_is_allowed history before c) ∙ ap is_some makes)).0

pub changed_paths_exist : ChangedPathsExist
changed_paths_exist revisions trees changes c is among there does =
    elim (exists_around (slice_get at.earlier) at.before at.after c does at.makes) [
      | inl before ↦ then_exists at.done (c ∷ at.more) at.before refl at.leads before
      | inr after ↦ then_exists (at.done ++ c ∷ []) at.more at.after (sym (append_assoc at.done (c ∷ []) at.more))
          (steps_then (slice_get at.earlier) at.last at.done (c ∷ [])
          ∙ (ap (option_and_then (λ t. steps (slice_get at.earlier) t (c ∷ []))) at.leads
          ∙ ap (option_and_then (λ t. steps (slice_get at.earlier) t [])) at.makes)) after
    ]
  where
    at : MadeIn trees revisions c
    at = change_is_made trees revisions changes c is among there

    then_exists : (done more : List Change) (tree : Tree) → at.done ++ c ∷ at.more ≡ done ++ more
        → steps (slice_get at.earlier) at.last done ≡ Some tree → is_some (tree c.path) ≡ true
        → ExistsOnce revisions c.path
    then_exists done more tree same leads some =
        let grown = pushed root_alone at.front at.earlier at.last done tree at.loads at.ends leads in
        record {
          front = at.front;
          changes = done;
          more = more;
          rest = at.rest;
          trees = at.earlier ++ tree ∷ [];
          tree = tree;
          parted = at.parted ∙ ap (λ cs. at.front ++ cs ∷ at.rest) same;
          loads = grown.loads;
          last = grown.last;
          exists = some;
        }

pub copied_paths_exist : CopiedPathsExist
copied_paths_exist revisions trees changes c number source is among there copies =
    from_tree (copy_has_tree (slice_get at.earlier) at.before at.after c number source copies at.makes)
  where
    at : MadeIn trees revisions c
    at = change_is_made trees revisions changes c is among there

    allowed : kinds_allow c (kinds_before (slice_get at.earlier) at.before c) ≡ true
    allowed =
        (and_parts (kinds_allow c (kinds_before (slice_get at.earlier) at.before c))
        (delta_applies c.text (node_set (slice_get at.earlier) at.before c))
        (sym (step_is_allowed (slice_get at.earlier) at.before c) ∙ ap is_some at.makes)).0

    from_tree : (old : Tree) × (slice_get at.earlier number ≡ Some old) → ExistsOnce revisions source
    from_tree (old, early) =
        subst (λ p. ExistsOnce revisions p) (append-nil source)
        (exists_at_source trees revisions is c.path source old copy at []
        (ap (λ p. is_some (old p)) (append-nil source) ∙ exists))
      where
        copy : Copies trees revisions c.path source old
        copy = record {
          changes = changes;
          change = c;
          number = number;
          among = among;
          there = there;
          at = refl;
          copies = copies;
          tree = ap (λ ts. slice_get ts number) at.joined ∙ get_before at.earlier at.later number old early;
        }

        kinds : Kinds
        kinds = kinds_before (slice_get at.earlier) at.before c

        makes : making_allowed c.made (kind_left c.deletes kinds.here) kinds ≡ true
        makes = (and_parts (deletion_allowed c.deletes c.path kinds.here)
            (making_allowed c.made (kind_left c.deletes kinds.here) kinds)
            (and_parts _ _ (and_parts _ _ allowed).0).0).1

        exists : is_some (old source) ≡ true
        exists =
            sym (kind_some (old source))
            ∙ (ap is_some (sym (ap (source_kind (slice_get at.earlier)) copies
            ∙ ap (option_and_then (λ (t : Tree). kind_at t source)) early))
            ∙ (and_parts (is_some kinds.source) (is_directory kinds.parent)
            (subst (λ m. making_allowed m (kind_left c.deletes kinds.here) kinds ≡ true) copies makes)).0)
