-- The trees of loaded revisions: each node is in directories, and has names of nodes if the changes' paths have.
use Rattle.dump_trees.proofs.Prelude.{◌≡◌, refl, sym, ap, ◌∙◌, subst, inl, inr, IfSome, list_all, slice_get, and_parts, NodePath, below, Node, Tree, HasDirectories, root_alone, Made, PropertyChange, TextChange, Change, History, step, steps, AllHaveDirectories, loaded, loaded_over}
use Rattle.std.proofs.Common.{ℕ, Bool, true, false, List, [], ◌∷◌, ◌++◌, Option, Some, None, option_and_then, is_some}
use Rattle.dump_trees.specs.steps.Looking.{left_by, origin_of, node_with_props, node_with_text, set_by}
use Rattle.dump_trees.specs.Siblings.{has_node_names}
use Rattle.dump_trees.specs.steps.Siblings.{HasNames, have_node_names, LoadedTreesHaveDirectories, LoadedTreesHaveNames}
use Rattle.dump_trees.proofs.paths.SiblingLemmas.{rest_names, both_names}
use Rattle.dump_trees.proofs.changes.TreeLemmas.{below_rest}
use Rattle.dump_trees.proofs.changes.RevisionLemmas.{steps_keep}
use Rattle.dump_trees.proofs.histories.HistoryLemmas.{root_directories}
use Rattle.dump_trees.proofs.histories.KeptNumbers.{get_pushed}
use Rattle.dump_trees.proofs.quiet.LeavingLemmas.{step_leaves}
use Rattle.dump_trees.proofs.expansions.StandingLemmas.{origin_in, step_has}

-- what is true of each tree

module _ (Holds : Tree → Type 0) (Plain : List Change → Type 0) (start : Holds root_alone)
    (each : (history : History) (before after : Tree) (changes : List Change)
    → ((number : ℕ) (tree : Tree) → history number ≡ Some tree → Holds tree) → Holds before → Plain changes
    → steps history before changes ≡ Some after → Holds after) where
  all_more : (trees : List Tree) (tree : Tree)
      → ((number : ℕ) (t : Tree) → slice_get trees number ≡ Some t → Holds t) → Holds tree
      → (number : ℕ) (t : Tree) → slice_get (trees ++ tree ∷ []) number ≡ Some t → Holds t
  all_more trees tree all has number t at =
      elim (get_pushed trees tree number t at) [
        | inl before ↦ all number t before
        | inr last ↦ subst Holds last.1 has
      ]

  -- whether each of these revisions is plain
  abbrev pub ArePlain : List (List Change) → Type 0
  ArePlain [] = Rattle.std.specs.Prelude.⊤
  ArePlain (changes ∷ revisions) = Plain changes × ArePlain revisions

  all_loaded : (revisions : List (List Change)) → ArePlain revisions → (older : List Tree) (youngest : Tree)
      → ((number : ℕ) (t : Tree) → slice_get older number ≡ Some t → Holds t) → Holds youngest
      → (trees : List Tree) → loaded older youngest revisions ≡ Some trees
      → (number : ℕ) (t : Tree) → slice_get trees number ≡ Some t → Holds t
  all_loaded [] plain older youngest all has trees is =
      subst (λ ts. (number : ℕ) (t : Tree) → slice_get ts number ≡ Some t → Holds t)
      (let same : older ≡ trees = (let both : Some older ≡ Some trees = is in cc) in same) all
  all_loaded (changes ∷ revisions) plain older youngest all has trees is =
      cases (all_loaded revisions plain.1) (steps (slice_get older) youngest changes) refl is
    where
      cases : ((more : List Tree) (tree : Tree)
          → ((number : ℕ) (t : Tree) → slice_get more number ≡ Some t → Holds t) → Holds tree
          → (ts : List Tree) → loaded more tree revisions ≡ Some ts
          → (number : ℕ) (t : Tree) → slice_get ts number ≡ Some t → Holds t)
          → (o : Option Tree) → steps (slice_get older) youngest changes ≡ o
          → option_and_then (λ tree. loaded (older ++ tree ∷ []) tree revisions) o ≡ Some trees
          → (number : ℕ) (t : Tree) → slice_get trees number ≡ Some t → Holds t
      cases further None at none = absurd (let bad : None ≡ Some trees = none in cc)
      cases further (Some tree) at some =
          let new = each (slice_get older) youngest tree changes all has plain.0 at in
          further (older ++ tree ∷ []) tree (all_more older tree all new) new trees some

  pub holds_of_each : (revisions : List (List Change)) → ArePlain revisions → (trees : List Tree)
      → loaded_over root_alone revisions ≡ Some trees
      → (number : ℕ) (t : Tree) → slice_get trees number ≡ Some t → Holds t
  holds_of_each revisions plain trees is =
      all_loaded revisions plain (root_alone ∷ []) root_alone (all_more [] root_alone none start) start trees is
    where
      none : (number : ℕ) (t : Tree) → slice_get [] number ≡ Some t → Holds t
      none number t at = absurd (let bad : None ≡ Some t = at in cc)

-- directories

directories_each : (history : History) (before after : Tree) (changes : List Change)
    → AllHaveDirectories history → HasDirectories before → Rattle.std.specs.Prelude.⊤
    → steps history before changes ≡ Some after → HasDirectories after
directories_each history before after changes all directories plain is =
    subst (λ o. IfSome o HasDirectories) is (steps_keep history all changes before directories)

all_plain : (revisions : List (List Change))
    → ArePlain HasDirectories (λ changes. Rattle.std.specs.Prelude.⊤) root_directories directories_each revisions
all_plain [] = tt
all_plain (changes ∷ revisions) = (tt, all_plain revisions)

-- the trees of loaded revisions have directories
pub loaded_directories : LoadedTreesHaveDirectories
loaded_directories revisions trees number tree is at =
    holds_of_each HasDirectories (λ changes. Rattle.std.specs.Prelude.⊤) root_directories directories_each revisions
    (all_plain revisions) trees is number tree at

-- names

root_names : HasNames root_alone
root_names [] some = refl
root_names (name ∷ path) some = absurd (let bad : false ≡ true = some in cc)

-- what is set at a node exists only if the node did
set_stands : (c : Change) (rest : NodePath) (node : Option Node) → is_some (set_by c rest node) ≡ true
    → is_some node ≡ true
set_stands c rest (Some node) some = refl
set_stands c (name ∷ rest) None some = some
set_stands c [] None some = cases c.text c.props some
  where
    none : (text : Option TextChange) → is_some (node_with_text text None) ≡ true → false ≡ true
    none None is = is
    none (Some text) is = is

    cases : (text : Option TextChange) (props : Option PropertyChange)
        → is_some (node_with_text text (node_with_props props None)) ≡ true → false ≡ true
    cases text None is = none text is
    cases text (Some props) is = none text is

module _ (history : History) (all : (number : ℕ) (tree : Tree) → history number ≡ Some tree → HasNames tree) where
  left_names : (deletes : Bool) (path : NodePath) (old : Option Node) → (is_some old ≡ true → has_node_names path ≡ true)
      → is_some (origin_in history old (left_by deletes)) ≡ true → has_node_names path ≡ true
  left_names true path old names some = absurd (let bad : false ≡ true = some in cc)
  left_names false path old names some = names some

  origin_names : (deletes : Bool) (made : Option Made) (top rest : NodePath) (old : Option Node)
      → has_node_names top ≡ true → (is_some old ≡ true → has_node_names (top ++ rest) ≡ true)
      → is_some (origin_in history old (origin_of deletes made rest)) ≡ true → has_node_names (top ++ rest) ≡ true
  origin_names deletes None top rest old tops names some = left_names deletes (top ++ rest) old names some
  origin_names deletes (Some Made.NewDirectory) top [] old tops names some = both_names top [] tops refl
  origin_names deletes (Some Made.NewDirectory) top (name ∷ rest) old tops names some =
      left_names deletes (top ++ name ∷ rest) old names some
  origin_names deletes (Some Made.NewFile) top [] old tops names some = both_names top [] tops refl
  origin_names deletes (Some Made.NewFile) top (name ∷ rest) old tops names some =
      left_names deletes (top ++ name ∷ rest) old names some
  origin_names deletes (Some (Made.Copied number source)) top rest old tops names some =
      both_names top rest tops (cases (history number) refl some)
    where
      cases : (o : Option Tree) → history number ≡ o
          → is_some (option_and_then (λ tree. tree (source ++ rest)) o) ≡ true → has_node_names rest ≡ true
      cases None at is = absurd (let bad : false ≡ true = is in cc)
      cases (Some tree) at is = rest_names source rest (all number tree at (source ++ rest) is)

  step_names : (before after : Tree) (c : Change) → HasNames before → has_node_names c.path ≡ true
      → step history before c ≡ Some after → HasNames after
  step_names before after c names tops is path some = cases (below c.path path) refl
    where
      cases : (o : Option NodePath) → below c.path path ≡ o → has_node_names path ≡ true
      cases None at =
          names path (ap is_some (sym (step_leaves history before after c path None at tt (λ d. refl) (λ d. refl) is))
          ∙ some)
      cases (Some rest) at =
          let same = below_rest c.path path rest at in
          subst (λ p. has_node_names p ≡ true) (sym same)
          (origin_names c.deletes c.made c.path rest (before path) tops
          (λ there. subst (λ p. has_node_names p ≡ true) same (names path there))
          (set_stands c rest (origin_in history (before path) (origin_of c.deletes c.made rest))
          (ap is_some (step_has history before after c path rest at is) ∙ some)))

  steps_names : (changes : List Change) (before after : Tree) → HasNames before
      → list_all (λ (c : Change). has_node_names c.path) changes ≡ true
      → steps history before changes ≡ Some after → HasNames after
  steps_names [] before after names tops is =
      subst (λ t. HasNames t) (let same : before ≡ after = (let both : Some before ≡ Some after = is in cc) in same) names
  steps_names (c ∷ changes) before after names tops is =
      cases (λ t has. steps_names changes t after has parts.1) (step history before c) refl is
    where
      parts : (has_node_names c.path ≡ true) × (list_all (λ (d : Change). has_node_names d.path) changes ≡ true)
      parts = and_parts (has_node_names c.path) (list_all (λ (d : Change). has_node_names d.path) changes) tops

      cases : ((t : Tree) → HasNames t → steps history t changes ≡ Some after → HasNames after)
          → (o : Option Tree) → step history before c ≡ o
          → option_and_then (λ t. steps history t changes) o ≡ Some after → HasNames after
      cases further None at none = absurd (let bad : None ≡ Some after = none in cc)
      cases further (Some t) at some = further t (step_names before t c names parts.0 at) some

names_each : (history : History) (before after : Tree) (changes : List Change)
    → ((number : ℕ) (tree : Tree) → history number ≡ Some tree → HasNames tree) → HasNames before
    → list_all (λ (c : Change). has_node_names c.path) changes ≡ true
    → steps history before changes ≡ Some after → HasNames after
names_each history before after changes all names plain is =
    steps_names history all changes before after names plain is

all_named : (revisions : List (List Change)) → have_node_names revisions ≡ true
    → ArePlain HasNames (λ changes. list_all (λ (c : Change). has_node_names c.path) changes ≡ true) root_names
    names_each revisions
all_named [] are = tt
all_named (changes ∷ revisions) are =
    let parts = and_parts (list_all (λ (c : Change). has_node_names c.path) changes) (have_node_names revisions) are in
    (parts.0, all_named revisions parts.1)

-- the trees of loaded revisions have names of nodes
pub loaded_names : LoadedTreesHaveNames
loaded_names revisions trees number tree is are at =
    holds_of_each HasNames (λ changes. list_all (λ (c : Change). has_node_names c.path) changes ≡ true) root_names
    names_each revisions (all_named revisions are) trees is number tree at
