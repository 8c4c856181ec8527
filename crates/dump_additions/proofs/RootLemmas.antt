-- What a copy leaves at its own path.
use Rattle.std.proofs.Common.{◌≡◌, ℕ, [], ◌++◌, Option, Some, None, List, option_map, option_and_then, refl, sym, ap, ◌∙◌}
use Rattle.dump_trees.specs.steps.Branches.{Branch, HasBranch, tree_of}
use Rattle.dump_trees.specs.Changes.{Change, History, Made, PropertyChange, TextChange, new_text, step}
use Rattle.dump_trees.specs.steps.ExpansionCases.{branch_made, branch_with_props, branch_with_text}
use Rattle.dump_trees.specs.steps.Looking.{node_with_props, node_with_text, origin_of, set_by}
use Rattle.dump_trees.specs.Paths.{NodePath}
use Rattle.dump_trees.specs.Trees.{Node, Tree}
use Rattle.dump_trees.proofs.changes.TreeLemmas.{below_top}
use Rattle.dump_trees.proofs.expansions.StandingLemmas.{origin_in, step_has}

-- the root of a branch with the properties that a change sets
props_root : (props : Option PropertyChange) (branch : Branch)
    → node_with_props props (tree_of branch []) ≡ tree_of (branch_with_props props branch) []
props_root None branch = refl
props_root (Some change) (Branch.Directory props inside) = refl
props_root (Some change) (Branch.File props text) = refl

-- the root of a branch with the text that a change sets
text_root : (text : Option TextChange) (branch made : Branch) → branch_with_text text branch ≡ Some made
    → node_with_text text (tree_of branch []) ≡ tree_of made []
text_root None branch made is =
    let same : branch ≡ made = (let both : Some branch ≡ Some made = is in cc) in ap (λ b. tree_of b []) same
text_root (Some change) (Branch.Directory props inside) made is = absurd (let bad : None ≡ Some made = is in cc)
text_root (Some change) (Branch.File props old) made is = cases (new_text change old) is
  where
    cases : (o : Option (List ℕ)) → option_map (λ text. Branch.File props text) o ≡ Some made
        → option_map (λ text. Node.File props text) o ≡ tree_of made []
    cases None is = absurd (let bad : None ≡ Some made = is in cc)
    cases (Some text) is =
        let same : Branch.File props text ≡ made = (let both : Some (Branch.File props text) ≡ Some made = is in cc) in
        ap (λ b. tree_of b []) same

-- the root of what the copy makes of the branch at its source
pub root_made : (history : History) (before after old : Tree) (c : Change) (number : ℕ) (source : NodePath)
    (branch made : Branch) → c.made ≡ Some (Made.Copied number source) → history number ≡ Some old
    → step history before c ≡ Some after → HasBranch old source branch → branch_made c branch ≡ Some made
    → after c.path ≡ tree_of made []
root_made history before after old c number source branch made makes there at has is =
    sym (step_has history before after c c.path [] (below_top c.path) at)
    ∙ (ap (set_by c [])
    (ap (λ m. origin_in history (before c.path) (origin_of c.deletes m [])) makes
    ∙ (ap (option_and_then (λ (tree : Tree). tree (source ++ []))) there ∙ has []))
    ∙ (ap (node_with_text c.text) (props_root c.props branch) ∙ text_root c.text (branch_with_props c.props branch) made is))
