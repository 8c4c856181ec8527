-- Copies that are written out.
use Rattle.dump_trees.proofs.Prelude.{◌≡◌, cond, refl, sym, ap, ◌∙◌, subst, append-nil, option_map, Settings, NodePath, keeps, below, parent_of, Node, Tree, HasDirectories, at_or_below, grafted, at_top, put, empty_tree, Made, PropertyChange, TextChange, Change, History, has_directory, copied, deleted, made_in, new_props, new_text, with_props, with_text, props_put, props_set, text_set, step, Separates}
use Rattle.std.proofs.Common.{ℕ, Bool, true, false, ◌&&◌, List, [], ◌∷◌, ◌++◌, Option, Some, None, option_and_then, is_some}
use Rattle.dump_trees.specs.steps.Branches.{Branch, tree_of, is_distinct, HasBranch}
use Rattle.dump_trees.specs.steps.WritingOut.{WritesOut}
use Rattle.dump_trees.specs.steps.Leading.{Leads}
use Rattle.dump_trees.specs.steps.ExpansionCases.{branch_with_props, branch_with_text, branch_made, deletion_of, cleared, SeparatedExpands, KeptCopyExpands}
use Rattle.dump_trees.proofs.changes.PlainLemmas.{graft_at}
use Rattle.dump_trees.proofs.expansions.LeadLemmas.{leads_one, leads_then}
use Rattle.dump_trees.proofs.expansions.BranchLemmas.{IsSameOutside, graft_outside, same_directory, IsClear, clear_below, root_stands}
use Rattle.dump_trees.proofs.expansions.WritingLemmas.{branch_leads}
use Rattle.dump_trees.proofs.expansions.DeletionLemmas.{graft_same, graft_twice, graft_clears, kept_deletion, clearing_leads}

-- a separated change
pub separated_expands : SeparatedExpands
separated_expands settings history before c apart after at =
    leads_one settings history before after c at (apart after at)

-- what a change makes of a copied branch

-- the branch with another root
put_root : (top : NodePath) (node : Node) (old new : Branch) (tree : Tree) → tree_of new [] ≡ Some node
    → ((name : List ℕ) (rest : NodePath) → tree_of new (name ∷ rest) ≡ tree_of old (name ∷ rest))
    → put top node (grafted top (tree_of old) tree) ≡ grafted top (tree_of new) tree
put_root top node old new tree root same = λ i. λ path. cases (below top path) (tree path) i
  where
    cases : (o : Option NodePath) (was : Option Node)
        → at_top o node (at_or_below o (tree_of old) was) ≡ at_or_below o (tree_of new) was
    cases None was = refl
    cases (Some []) was = sym root
    cases (Some (name ∷ rest)) was = sym (same name rest)

module _ (top : NodePath) (tree : Tree) where
  puts_branch : (change : PropertyChange) (branch : Branch)
      → props_put change top (grafted top (tree_of branch) tree)
      ≡ Some (grafted top (tree_of (branch_with_props (Some change) branch)) tree)
  puts_branch change (Branch.Directory props inside) =
      ap (option_map (λ node. put top (with_props change node)
      (grafted top (tree_of (Branch.Directory props inside)) tree)))
      (graft_at top (tree_of (Branch.Directory props inside)) tree)
      ∙ ap Some
      (put_root top (Node.Directory (new_props change props)) (Branch.Directory props inside)
      (Branch.Directory (new_props change props) inside) tree refl (λ name rest. refl))
  puts_branch change (Branch.File props text) =
      ap (option_map (λ node. put top (with_props change node) (grafted top (tree_of (Branch.File props text)) tree)))
      (graft_at top (tree_of (Branch.File props text)) tree)
      ∙ ap Some
      (put_root top (Node.File (new_props change props) text) (Branch.File props text)
      (Branch.File (new_props change props) text) tree refl (λ name rest. refl))

  no_edit : (branch : Branch) → branch ≡ branch_with_props (Some (PropertyChange.Edited [])) branch
  no_edit (Branch.Directory props inside) = refl
  no_edit (Branch.File props text) = refl

  props_branch : (props : Option PropertyChange) (branch : Branch)
      → props_set props top (grafted top (tree_of branch) tree)
      ≡ Some (grafted top (tree_of (branch_with_props props branch)) tree)
  props_branch None branch = refl
  props_branch (Some (PropertyChange.Replaced entries)) branch = puts_branch (PropertyChange.Replaced entries) branch
  props_branch (Some (PropertyChange.Edited [])) branch =
      ap (λ b. Some (grafted top (tree_of b) tree)) (no_edit branch)
  props_branch (Some (PropertyChange.Edited (entry ∷ entries))) branch =
      puts_branch (PropertyChange.Edited (entry ∷ entries)) branch

  text_branch : (text : Option TextChange) (branch : Branch)
      → text_set text top (grafted top (tree_of branch) tree)
      ≡ option_map (λ b. grafted top (tree_of b) tree) (branch_with_text text branch)
  text_branch None branch = refl
  text_branch (Some change) (Branch.Directory props inside) =
      ap (λ o. option_map (λ node. put top node (grafted top (tree_of (Branch.Directory props inside)) tree))
      (option_and_then (λ node. with_text change node) o)) (graft_at top (tree_of (Branch.Directory props inside)) tree)
  text_branch (Some change) (Branch.File props old) =
      ap (λ o. option_map (λ node. put top node (grafted top (tree_of (Branch.File props old)) tree))
      (option_and_then (λ node. with_text change node) o)) (graft_at top (tree_of (Branch.File props old)) tree)
      ∙ cases (new_text change old)
    where
      cases : (o : Option (List ℕ))
          → option_map (λ node. put top node (grafted top (tree_of (Branch.File props old)) tree))
          (option_map (λ text. Node.File props text) o)
          ≡ option_map (λ b. grafted top (tree_of b) tree) (option_map (λ text. Branch.File props text) o)
      cases None = refl
      cases (Some text) =
          ap Some (put_root top (Node.File props text) (Branch.File props old) (Branch.File props text) tree refl
          (λ name rest. refl))

-- the names in a branch stay distinct
pub distinct_props : (props : Option PropertyChange) (branch : Branch)
    → is_distinct (branch_with_props props branch) ≡ is_distinct branch
distinct_props None branch = refl
distinct_props (Some change) (Branch.Directory props inside) = refl
distinct_props (Some change) (Branch.File props text) = refl

pub distinct_text : (text : Option TextChange) (branch made : Branch) → branch_with_text text branch ≡ Some made
    → is_distinct branch ≡ true → is_distinct made ≡ true
distinct_text None branch made is apart =
    let same : branch ≡ made = (let both : Some branch ≡ Some made = is in cc) in
    subst (λ b. is_distinct b ≡ true) same apart
distinct_text (Some change) (Branch.Directory props inside) made is apart =
    absurd (let bad : None ≡ Some made = is in cc)
distinct_text (Some change) (Branch.File props old) made is apart = cases (new_text change old) is
  where
    cases : (o : Option (List ℕ)) → option_map (λ text. Branch.File props text) o ≡ Some made
        → is_distinct made ≡ true
    cases None at = absurd (let bad : None ≡ Some made = at in cc)
    cases (Some text) at =
        let same : Branch.File props text ≡ made = (let both : Some (Branch.File props text) ≡ Some made = at in cc) in
        subst (λ b. is_distinct b ≡ true) same refl

pub distinct_made : (c : Change) (branch made : Branch) → branch_made c branch ≡ Some made → is_distinct branch ≡ true
    → is_distinct made ≡ true
distinct_made c branch made is apart =
    distinct_text c.text (branch_with_props c.props branch) made is (distinct_props c.props branch ∙ apart)

-- what a change makes of a tree from which it has deleted
abbrev further : History → Change → Option Tree → Option Tree
further history c o =
    option_and_then (λ t. text_set c.text c.path t)
    (option_and_then (λ t. props_set c.props c.path t) (option_and_then (λ t. made_in history c.made c.path t) o))

-- a copy of a place with a branch
module _ (history : History) (c : Change) (number : ℕ) (source : NodePath) (old : Tree) (branch : Branch)
    (is : c.made ≡ Some (Made.Copied number source)) (there : history number ≡ Some old)
    (stands : HasBranch old source branch) where
  copy_there : (tree : Tree) → made_in history c.made c.path tree
      ≡ cond (has_directory tree c.path) (Some (grafted c.path (tree_of branch) tree)) None
  copy_there tree =
      ap (λ m. made_in history m c.path tree) is
      ∙ (ap (option_and_then (λ from. copied source c.path tree from)) there
      ∙ (ap (λ b. cond (b && has_directory tree c.path) (Some (grafted c.path (λ rest. old (source ++ rest)) tree)) None)
      (ap is_some (sym (ap old (append-nil source)) ∙ (stands [] ∙ (root_stands branch).1)))
      ∙ λ i. cond (has_directory tree c.path) (Some (grafted c.path (λ rest. stands rest i) tree)) None))

  copy_whole : (tree : Tree) → further history c (Some tree)
      ≡ cond (has_directory tree c.path)
      (option_map (λ b. grafted c.path (tree_of b) tree) (branch_made c branch)) None
  copy_whole tree =
      ap (λ o. option_and_then (λ t. text_set c.text c.path t)
      (option_and_then (λ t. props_set c.props c.path t) o)) (copy_there tree)
      ∙ cases (has_directory tree c.path)
    where
      cases : (b : Bool) → option_and_then (λ t. text_set c.text c.path t)
          (option_and_then (λ t. props_set c.props c.path t)
          (cond b (Some (grafted c.path (tree_of branch) tree)) None))
          ≡ cond b (option_map (λ m. grafted c.path (tree_of m) tree) (branch_made c branch)) None
      cases false = refl
      cases true =
          ap (option_and_then (λ t. text_set c.text c.path t)) (props_branch c.path tree c.props branch)
          ∙ text_branch c.path tree c.text (branch_with_props c.props branch)

  -- if the change is made, it makes something of the branch
  pub copy_makes : (before after : Tree) → step history before c ≡ Some after
      → (made : Branch) × (branch_made c branch ≡ Some made)
  copy_makes before after at = cases (deleted c.deletes c.path before) at
    where
      by_made : (tree : Tree) (o : Option Branch) → branch_made c branch ≡ o → (b : Bool)
          → cond b (option_map (λ m. grafted c.path (tree_of m) tree) o) None ≡ Some after
          → (made : Branch) × (branch_made c branch ≡ Some made)
      by_made tree (Some made) makes b done = (made, makes)
      by_made tree None makes true done = absurd (let bad : None ≡ Some after = done in cc)
      by_made tree None makes false done = absurd (let bad : None ≡ Some after = done in cc)

      cases : (o : Option Tree) → further history c o ≡ Some after
          → (made : Branch) × (branch_made c branch ≡ Some made)
      cases None done = absurd (let bad : None ≡ Some after = done in cc)
      cases (Some tree) done =
          by_made tree (branch_made c branch) refl (has_directory tree c.path) (sym (copy_whole tree) ∙ done)

module _ (settings : Settings) (history : History) (before old : Tree) (c : Change) (number : ℕ) (source : NodePath)
    (branch made : Branch) (is : c.made ≡ Some (Made.Copied number source)) (there : history number ≡ Some old)
    (stands : HasBranch old source branch) (makes : branch_made c branch ≡ Some made) where
  -- the tree to which the copy leads
  copy_after : (after : Tree) → step history before c ≡ Some after
      → (has_directory before c.path ≡ true) × (grafted c.path (tree_of made) before ≡ after)
  copy_after after at = sides c.deletes at
    where
      by_directory : (tree : Tree) → IsSameOutside c.path before tree → (b : Bool) → has_directory tree c.path ≡ b
          → cond b (Some (grafted c.path (tree_of made) tree)) None ≡ Some after
          → (has_directory before c.path ≡ true) × (grafted c.path (tree_of made) before ≡ after)
      by_directory tree same false none there = absurd (let bad : None ≡ Some after = there in cc)
      by_directory tree same true some there = (
        sym (same_directory c.path before tree same) ∙ some,
        sym (graft_same c.path (tree_of made) before tree same)
            ∙ (let both : Some (grafted c.path (tree_of made) tree) ≡ Some after = there in cc),
      )

      from : (tree : Tree) → IsSameOutside c.path before tree → further history c (Some tree) ≡ Some after
          → (has_directory before c.path ≡ true) × (grafted c.path (tree_of made) before ≡ after)
      from tree same known =
          by_directory tree same (has_directory tree c.path) refl
          (sym (ap (λ o. cond (has_directory tree c.path) (option_map (λ b. grafted c.path (tree_of b) tree) o) None) makes)
          ∙ (sym (copy_whole history c number source old branch is there stands tree) ∙ known))

      by_deletion : (b : Bool) → further history c (cond b (Some (grafted c.path empty_tree before)) None) ≡ Some after
          → (has_directory before c.path ≡ true) × (grafted c.path (tree_of made) before ≡ after)
      by_deletion false there = absurd (let bad : None ≡ Some after = there in cc)
      by_deletion true there =
          from (grafted c.path empty_tree before) (graft_outside c.path empty_tree before) there

      sides : (b : Bool) → further history c (deleted b c.path before) ≡ Some after
          → (has_directory before c.path ≡ true) × (grafted c.path (tree_of made) before ≡ after)
      sides false there = from before (λ path apart. refl) there
      sides true there =
          by_deletion (is_some (parent_of c.path) && is_some (before c.path)) there

  module _ (changes : List Change) (apart : is_distinct branch ≡ true)
      (out : WritesOut settings history c.path made changes) where
    -- the path is cleared, and the branch written out there
    written_leads : (tree : Tree) (b : Bool) → is_some (tree c.path) ≡ b → has_directory tree c.path ≡ true
        → (tree c.path ≡ None → IsClear tree c.path)
        → Separates settings history tree (deletion_of c.path) (grafted c.path empty_tree tree)
        → Leads settings history tree (cond b (deletion_of c.path ∷ []) [] ++ changes)
        (grafted c.path (tree_of made) tree)
    written_leads tree b stands_there some clear cut =
        subst (λ t. Leads settings history tree (cond b (deletion_of c.path ∷ []) [] ++ changes) t)
        (graft_twice c.path (tree_of made) empty_tree tree)
        (leads_then settings history (cond b (deletion_of c.path ∷ []) []) changes tree between
        (grafted c.path (tree_of made) between)
        (clearing_leads settings history c.path tree b stands_there some clear cut)
        (branch_leads settings history made c.path changes between (distinct_made c branch made makes apart)
        (graft_clears c.path tree)
        (same_directory c.path tree between (graft_outside c.path empty_tree tree) ∙ some) out))
      where
        between : Tree
        between = grafted c.path empty_tree tree

    kept_leads : HasDirectories before → keeps settings c.path ≡ true → (after : Tree)
        → step history before c ≡ Some after
        → Leads settings history before (cleared before c.path ++ changes) after
    kept_leads directories kept after at =
        let done = copy_after after at in
        subst (λ t. Leads settings history before (cleared before c.path ++ changes) t) done.1
        (written_leads before (is_some (before c.path)) refl done.0 (clear_below before directories c.path)
        (kept_deletion settings history c.path before (grafted c.path empty_tree before) kept))

pub kept_copy : KeptCopyExpands
kept_copy settings history before old c number source branch made changes directories kept is there stands apart makes out
    after at =
    kept_leads settings history before old c number source branch made is there stands makes changes apart out directories
    kept after at
