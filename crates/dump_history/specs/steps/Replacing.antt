-- A change that replaces what is at its path: what is written out in place of a copy over something may begin with one.
use Rattle.std.specs.Prelude.{◌≡◌, ℕ, Bool, List, ◌∷◌, Some, is_some, IsTrue}
use Rattle.dump_rules.specs.Settings.{Settings}
use Rattle.dump_trees.specs.Paths.{NodePath, keeps}
use Rattle.dump_trees.specs.Trees.{Tree}
use Rattle.dump_trees.specs.steps.Trees.{HasDirectories}
use Rattle.dump_trees.specs.Changes.{Made, Change, History}
use Rattle.dump_trees.specs.steps.Branches.{Branch, is_distinct, HasBranch}
use Rattle.dump_trees.specs.steps.WritingOut.{WritesOut}
use Rattle.dump_trees.specs.steps.Expansions.{Expands}
use Rattle.dump_trees.specs.steps.ExpansionCases.{branch_made}
use Rattle.dump_history.specs.steps.WrittenNodes.{replacing}

-- a copy to a kept path, made over something or by a node that replaces: what is written out in its place begins with a
-- change that replaces
abbrev pub KeptCopyReplaces : Type 0
KeptCopyReplaces = (settings : Settings) (history : History) (before old : Tree) (c : Change) (number : ℕ)
    (source : NodePath) (branch made : Branch) (first : Change) (changes : List Change) →
    HasDirectories before → IsTrue (is_some (before c.path)) → IsTrue (keeps settings c.path)
    → c.made ≡ Some (Made.Copied number source) → history number ≡ Some old → HasBranch old source branch
    → IsTrue (is_distinct branch) → branch_made c branch ≡ Some made
    → WritesOut settings history c.path made (first ∷ changes)
    → Expands settings history before c (replacing Bool.true first ∷ changes)
