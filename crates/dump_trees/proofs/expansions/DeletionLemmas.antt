-- Deletions that clear paths.
use Rattle.dump_trees.proofs.Prelude.{◌≡◌, cond, refl, ap, ◌∙◌, subst, inl, inr, option_map, list_all, list_any, both_ways, and_parts, and_from, or_cases, Settings, NodePath, keeps, below, parent_of, Tree, at_or_below, grafted, empty_tree, Made, History, is_directory_at, has_directory, made_in, props_set, text_set, step, Separates}
use Rattle.std.proofs.Common.{ℕ, Bool, true, false, List, [], ◌∷◌, ◌++◌, Option, Some, None, option_and_then, is_some, is_none}
use Rattle.dump_trees.specs.steps.Leading.{Leads}
use Rattle.dump_trees.specs.steps.ExpansionCases.{deletion_of}
use Rattle.dump_trees.proofs.changes.TreeLemmas.{below_rest, below_found, none_of}
use Rattle.dump_trees.proofs.expansions.LeadLemmas.{leads_nowhere, leads_one}
use Rattle.dump_trees.proofs.expansions.BranchLemmas.{below_joined, IsSameOutside, graft_outside, IsClear}

-- paths

-- each path but the root has a parent
pub parent_some : (name : List ℕ) (path : NodePath) → is_some (parent_of (name ∷ path)) ≡ true
parent_some name [] = refl
parent_some name (other ∷ path) = cases (parent_of (other ∷ path)) (parent_some other path)
  where
    cases : (o : Option NodePath) → is_some o ≡ true → is_some (option_map (λ p. name ∷ p) o) ≡ true
    cases None some = some
    cases (Some parent) some = refl

-- a path below another one has a parent
pub parent_below : (top : NodePath) (name : List ℕ) (rest : NodePath) → is_some (parent_of (top ++ name ∷ rest)) ≡ true
parent_below [] name rest = parent_some name rest
parent_below (first ∷ top) name rest = parent_some first (top ++ name ∷ rest)

-- if the parent is a directory, there is a parent
directory_parent : (tree : Tree) (o : Option NodePath) → is_directory_at tree o ≡ true → is_some o ≡ true
directory_parent tree None is = is
directory_parent tree (Some parent) is = refl

-- two paths below the same top
pub below_both : (top rest other : NodePath) → below (top ++ rest) (top ++ other) ≡ below rest other
below_both top rest other =
    below_joined top rest (top ++ other) ∙ ap (option_and_then (λ more. below rest more)) (below_found top other)

none_is : (o : Option NodePath) → is_none o ≡ true → o ≡ None
none_is None is = refl
none_is (Some rest) is = absurd (let bad : false ≡ true = is in cc)

-- trees

-- what is grafted at a path doesn't depend on what was there
pub graft_same : (top : NodePath) (new before after : Tree) → IsSameOutside top before after
    → grafted top new after ≡ grafted top new before
graft_same top new before after same = λ i. λ path. cases path (below top path) refl i
  where
    cases : (path : NodePath) (o : Option NodePath) → below top path ≡ o
        → at_or_below o new (after path) ≡ at_or_below o new (before path)
    cases path None apart = same path apart
    cases path (Some rest) at = refl

-- of two trees that are grafted at a path, the later one is there
pub graft_twice : (top : NodePath) (new other tree : Tree)
    → grafted top new (grafted top other tree) ≡ grafted top new tree
graft_twice top new other tree = graft_same top new tree (grafted top other tree) (graft_outside top other tree)

-- nothing is removed if nothing exists there
pub graft_nothing : (top : NodePath) (tree : Tree) → IsClear tree top → tree ≡ grafted top empty_tree tree
graft_nothing top tree clear = λ i. λ path. cases path (below top path) refl i
  where
    cases : (path : NodePath) (o : Option NodePath) → below top path ≡ o → tree path ≡ at_or_below o empty_tree (tree path)
    cases path None apart = refl
    cases path (Some rest) at = ap tree (below_rest top path rest at) ∙ clear rest

-- a path that is deleted is clear
pub graft_clears : (top : NodePath) (tree : Tree) → IsClear (grafted top empty_tree tree) top
graft_clears top tree rest = ap (λ o. at_or_below o empty_tree (tree (top ++ rest))) (below_found top rest)

-- one deletion

pub deletion_step : (history : History) (path : NodePath) (tree : Tree) → is_some (parent_of path) ≡ true
    → is_some (tree path) ≡ true
    → step history tree (deletion_of path) ≡ Some (grafted path empty_tree tree)
deletion_step history path tree inner stands =
    ap (λ b. option_and_then (λ t. text_set None path t)
    (option_and_then (λ t. props_set None path t)
    (option_and_then (λ t. made_in history None path t) (cond b (Some (grafted path empty_tree tree)) None))))
    (and_from (is_some (parent_of path)) (is_some (tree path)) inner stands)

-- a tree without these paths and without what is below them; the paths are given from the top on
abbrev pub without : NodePath → List NodePath → Tree → Tree
without top [] tree = tree
without top (rest ∷ rests) tree = without top rests (grafted (top ++ rest) empty_tree tree)

-- if nothing existed before, nothing exists after
pub without_none : (top : NodePath) (rests : List NodePath) (tree : Tree) (path : NodePath) → tree path ≡ None
    → without top rests tree path ≡ None
without_none top [] tree path none = none
without_none top (rest ∷ rests) tree path none =
    without_none top rests (grafted (top ++ rest) empty_tree tree) path (cases (below (top ++ rest) path))
  where
    cases : (o : Option NodePath) → at_or_below o empty_tree (tree path) ≡ None
    cases None = none
    cases (Some more) = refl

-- nothing exists at or below one of the paths
pub without_found : (top : NodePath) (rests : List NodePath) (tree : Tree) (more : NodePath)
    → list_any (λ other. is_some (below other more)) rests ≡ true → without top rests tree (top ++ more) ≡ None
without_found top [] tree more is = absurd (let bad : false ≡ true = is in cc)
without_found top (rest ∷ rests) tree more is =
    elim (or_cases (is_some (below rest more)) (list_any (λ other. is_some (below other more)) rests) is) [
      | inl here ↦ without_none top rests (grafted (top ++ rest) empty_tree tree) (top ++ more)
          (ap (λ o. at_or_below o empty_tree (tree (top ++ more))) (below_both top rest more)
          ∙ cases (below rest more) here)
      | inr there ↦ without_found top rests (grafted (top ++ rest) empty_tree tree) more there
    ]
  where
    cases : (o : Option NodePath) → is_some o ≡ true → at_or_below o empty_tree (tree (top ++ more)) ≡ None
    cases None some = absurd (let bad : false ≡ true = some in cc)
    cases (Some found) some = refl

-- what isn't at or below a deleted path still exists
pub still_stand : (top rest : NodePath) (tree : Tree) (rests : List NodePath)
    → list_all (λ other. is_none (below rest other)) rests ≡ true
    → list_all (λ other. is_some (tree (top ++ other))) rests ≡ true
    → list_all (λ other. is_some (grafted (top ++ rest) empty_tree tree (top ++ other))) rests ≡ true
still_stand top rest tree [] apart stand = refl
still_stand top rest tree (other ∷ rests) apart stand =
    let one = and_parts (is_none (below rest other)) (list_all (λ o. is_none (below rest o)) rests) apart in
    let two =
    and_parts (is_some (tree (top ++ other))) (list_all (λ o. is_some (tree (top ++ o))) rests) stand in
    and_from (is_some (grafted (top ++ rest) empty_tree tree (top ++ other)))
    (list_all (λ o. is_some (grafted (top ++ rest) empty_tree tree (top ++ o))) rests)
    (ap is_some (graft_outside (top ++ rest) empty_tree tree (top ++ other)
    (below_both top rest other ∙ none_is (below rest other) one.0)) ∙ two.0)
    (still_stand top rest tree rests one.1 two.1)

module _ (settings : Settings) (history : History) where
  -- the deletion of a kept path is separated
  pub kept_deletion : (path : NodePath) (before after : Tree) → keeps settings path ≡ true
      → Separates settings history before (deletion_of path) after
  kept_deletion path before after kept = record {
    copy = λ is number source made. absurd (let bad : None ≡ Some (Made.Copied number source) = made in cc);
    plain = λ is number source made. absurd (let bad : None ≡ Some (Made.Copied number source) = made in cc);
    dropped = λ left. absurd (both_ways (keeps settings path) left kept);
  }

  -- what exists at a path is deleted, if something does
  pub clearing_leads : (path : NodePath) (tree : Tree) (b : Bool) → is_some (tree path) ≡ b
      → has_directory tree path ≡ true → (tree path ≡ None → IsClear tree path)
      → Separates settings history tree (deletion_of path) (grafted path empty_tree tree)
      → Leads settings history tree (cond b (deletion_of path ∷ []) []) (grafted path empty_tree tree)
  clearing_leads path tree true stands some clear apart =
      leads_one settings history tree (grafted path empty_tree tree) (deletion_of path)
      (deletion_step history path tree (directory_parent tree (parent_of path) some) stands) apart
  clearing_leads path tree false stands some clear apart =
      subst (λ t. Leads settings history tree [] t) (graft_nothing path tree (clear (none_of (tree path) stands)))
      (leads_nowhere settings history tree)
