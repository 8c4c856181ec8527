-- The expansions of three kinds of changes: of one that is separated, of a copy to a kept path, and, if prefixes are
-- excluded, of a change at a path that isn't kept.
use Rattle.std.specs.Prelude.{◌≡◌, ℕ, Bool, true, ◌&&◌, List, [], ◌∷◌, ◌++◌, map, Option, Some, None, option_map, is_some, is_none, if◌then◌else◌, IsTrue, IsFalse}
use Rattle.std.specs.List.{list_all}
use Rattle.dump_rules.specs.declared.options.Side.TheVariants.{Exclude}
use Rattle.dump_rules.specs.Settings.{Settings}
use Rattle.dump_trees.specs.Paths.{NodePath, keeps, below}
use Rattle.dump_trees.specs.Trees.{Tree}
use Rattle.dump_trees.specs.steps.Trees.{HasDirectories}
use Rattle.dump_trees.specs.Changes.{Made, PropertyChange, TextChange, Change, History, new_props, new_text, step}
use Rattle.dump_trees.specs.Separation.{Separates}
use Rattle.dump_trees.specs.steps.Branches.{Branch, is_distinct, HasBranch}
use Rattle.dump_trees.specs.steps.WritingOut.{WritesOut}
use Rattle.dump_trees.specs.steps.Expansions.{Expands}

-- the branch, with the properties at its root that a change sets
abbrev pub branch_with_props : Option PropertyChange → Branch → Branch
branch_with_props None branch = branch
branch_with_props (Some change) (Branch.Directory old inside) = Branch.Directory (new_props change old) inside
branch_with_props (Some change) (Branch.File old text) = Branch.File (new_props change old) text

-- the branch, with the text at its root that a change sets; rejected for a directory, and if the load rejects the delta
abbrev pub branch_with_text : Option TextChange → Branch → Option Branch
branch_with_text None branch = Some branch
branch_with_text (Some change) (Branch.Directory props inside) = None
branch_with_text (Some change) (Branch.File props old) =
    option_map (λ text. Branch.File props text) (new_text change old)

-- what a change makes of the branch that it copies
abbrev pub branch_made : Change → Branch → Option Branch
branch_made c branch = branch_with_text c.text (branch_with_props c.props branch)

-- a change that only deletes
abbrev pub deletion_of : NodePath → Change
deletion_of path = record { path = path; deletes = true; made = None; props = None; text = None }

-- the deletion of what exists at the path, if something does
abbrev pub cleared : Tree → NodePath → List Change
cleared before path = if is_some (before path) then deletion_of path ∷ [] else []

-- the deletions of these rests of the top
abbrev pub deletions : NodePath → List NodePath → List Change
deletions top rests = map (λ rest. deletion_of (top ++ rest)) rests

-- whether none of these paths is at or below one before it
abbrev pub none_is_below : List NodePath → Bool
none_is_below [] = true
none_is_below (path ∷ paths) = list_all (λ other. is_none (below path other)) paths && none_is_below paths

-- a change that is separated is an expansion of itself
abbrev pub SeparatedExpands : Type 0
SeparatedExpands = (settings : Settings) (history : History) (before : Tree) (c : Change) →
    ((after : Tree) → step history before c ≡ Some after → Separates settings history before c after)
    → Expands settings history before c (c ∷ [])

-- a copy to a kept path: what exists there is deleted, and what the change makes of the branch at its source is written
-- out
abbrev pub KeptCopyExpands : Type 0
KeptCopyExpands = (settings : Settings) (history : History) (before old : Tree) (c : Change) (number : ℕ)
    (source : NodePath) (branch made : Branch) (changes : List Change) →
    HasDirectories before → IsTrue (keeps settings c.path)
    → c.made ≡ Some (Made.Copied number source) → history number ≡ Some old → HasBranch old source branch
    → IsTrue (is_distinct branch) → branch_made c branch ≡ Some made
    → WritesOut settings history c.path made changes
    → Expands settings history before c (cleared before c.path ++ changes)

-- if prefixes are excluded, each change at a path that isn't kept is an expansion of itself
abbrev pub ExcludedChangeStays : Type 0
ExcludedChangeStays = (settings : Settings) (history : History) (before : Tree) (c : Change) →
    settings.side ≡ Exclude → IsFalse (keeps settings c.path) → Expands settings history before c (c ∷ [])
