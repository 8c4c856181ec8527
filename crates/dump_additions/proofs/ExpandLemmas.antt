-- The parts that are written in place of a copy do the same as the copy.
use Rattle.std.proofs.Common.{◌≡◌, ℕ, true, false, List, [], ◌∷◌, ◌++◌, Option, Some, None, is_some, refl, sym, ap, ◌∙◌, subst}
use Rattle.std.specs.Prelude.{if◌then◌else◌}
use Rattle.dump_text.specs.PropertyList.{Property}
use Rattle.dump_filter.specs.FilterLaws.{keep_all}
use Rattle.dump_trees.specs.steps.Branches.{Branch, Branches, HasBranch, is_distinct}
use Rattle.dump_trees.specs.Changes.{Change, History, Made, PropertyChange, edited_with}
use Rattle.dump_trees.specs.steps.ExpansionCases.{branch_made, branch_with_props, branch_with_text, deletion_of}
use Rattle.dump_trees.specs.steps.Expansions.{Expands}
use Rattle.dump_trees.specs.Paths.{NodePath}
use Rattle.dump_trees.specs.Trees.{Node, Tree}
use Rattle.dump_trees.specs.steps.Trees.{HasDirectories}
use Rattle.dump_trees.specs.steps.WritingOut.{WritesOut, directory_of}
use Rattle.dump_history.specs.steps.WrittenNodes.{replacing}
use Rattle.dump_history.proofs.expanded.ReplacingLemmas.{kept_copy_replaces}
use Rattle.dump_trees.proofs.expansions.CaseLemmas.{kept_copy}
use Rattle.dump_additions.specs.steps.WrittenParts.{IsDirectoryWritten, props_made}

-- The changes that write out what the change makes of its copy are an expansion of the change. The first of them
-- replaces what exists at the path, if something does.
pub written_expands : (history : History) (before old : Tree) (c : Change) (number : ℕ) (source : NodePath)
    (branch made : Branch) (first : Change) (changes : List Change) → HasDirectories before
    → c.made ≡ Some (Made.Copied number source) → history number ≡ Some old → HasBranch old source branch
    → is_distinct branch ≡ true → branch_made c branch ≡ Some made
    → WritesOut keep_all history c.path made (first ∷ changes) → replacing false first ≡ first
    → Expands keep_all history before c (replacing (is_some (before c.path)) first ∷ changes)
written_expands history before old c number source branch made first changes directories makes there has apart is out adds =
    cases (before c.path) refl
  where
    cases : (o : Option Node) → before c.path ≡ o
        → Expands keep_all history before c (replacing (is_some o) first ∷ changes)
    cases None at =
        subst (λ x. Expands keep_all history before c (x ∷ changes)) (sym adds)
        (subst (λ front. Expands keep_all history before c (front ++ first ∷ changes))
        (ap (λ o. if is_some o then deletion_of c.path ∷ [] else []) at)
        (kept_copy keep_all history before old c number source branch made (first ∷ changes) directories refl makes there has apart
        is out))
    cases (Some node) at =
        kept_copy_replaces keep_all history before old c number source branch made first changes directories (ap is_some at) refl
        makes there has apart is out

-- what the change makes of a directory that it copies
pub made_of : (c : Change) → c.text ≡ None → (props : List Property) (inside : Branches)
    → branch_made c (Branch.Directory props inside) ≡ Some (Branch.Directory (props_made c.props props) inside)
made_of c none props inside =
    ap (λ t. branch_with_text t (branch_with_props c.props (Branch.Directory props inside))) none
    ∙ cases c.props
  where
    cases : (change : Option PropertyChange)
        → Some (branch_with_props change (Branch.Directory props inside)) ≡ Some (Branch.Directory (props_made change props) inside)
    cases None = refl
    cases (Some change) = refl

-- the same for a directory, with what is in it
pub directory_expands : (history : History) (before old : Tree) (c : Change) (number : ℕ) (source : NodePath)
    (own : List Property) (changes : List Change) → HasDirectories before
    → c.made ≡ Some (Made.Copied number source) → history number ≡ Some old → c.text ≡ None
    → (written : IsDirectoryWritten history old c.path source own changes)
    → edited_with own [] ≡ props_made c.props written.props
    → Expands keep_all history before c (replacing (is_some (before c.path)) (directory_of c.path own) ∷ changes)
directory_expands history before old c number source own changes directories makes there none written own_is =
    written_expands history before old c number source (Branch.Directory written.props written.inside)
    (Branch.Directory (props_made c.props written.props) written.inside) (directory_of c.path own) changes directories makes there
    written.exists written.distinct (made_of c none written.props written.inside)
    (written.out (props_made c.props written.props) own_is) refl
