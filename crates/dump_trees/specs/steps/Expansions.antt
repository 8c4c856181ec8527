-- Expanded forms: changes that are replaced by others that together have the same effect, each of which is separated.
use Rattle.std.specs.Prelude.{◌≡◌, List, [], ◌∷◌, ◌++◌, Some, slice_get}
use Rattle.dump_rules.specs.Settings.{Settings}
use Rattle.dump_trees.specs.Trees.{Tree}
use Rattle.dump_trees.specs.Changes.{Change, History, step, steps}
use Rattle.dump_trees.specs.Revisions.{loaded, AllRevisionsSeparate}
use Rattle.dump_trees.specs.steps.Leading.{Leads}

-- the changes are an expansion of the change: if it leads from this tree to another, they do too, and each of them is
-- separated
abbrev pub Expands : Settings → History → Tree → Change → List Change → Type 0
Expands settings history before c changes =
    (after : Tree) → step history before c ≡ Some after → Leads settings history before changes after

-- the changes of a revision, each replaced at its place by an expansion of it
abbrev pub AllExpand : Settings → History → Tree → List Change → List Change → Type 0
AllExpand settings history before [] expanded = expanded ≡ []
AllExpand settings history before (c ∷ changes) expanded =
    (first : List Change) × (rest : List Change) × (expanded ≡ first ++ rest) × Expands settings history before c first
    × ((after : Tree) → step history before c ≡ Some after → AllExpand settings history after changes rest)

-- the changes of each revision are replaced so
abbrev pub AllRevisionsExpand : Settings → List Tree → Tree → List (List Change) → List (List Change) → Type 0
AllRevisionsExpand settings trees youngest [] expanded = expanded ≡ []
AllRevisionsExpand settings trees youngest (changes ∷ revisions) expanded =
    (first : List Change) × (rest : List (List Change)) × (expanded ≡ first ∷ rest)
    × AllExpand settings (slice_get trees) youngest changes first
    × ((tree : Tree) → steps (slice_get trees) youngest changes ≡ Some tree
    → AllRevisionsExpand settings (trees ++ tree ∷ []) tree revisions rest)

-- if all changes of the revisions are separated, the revisions are an expansion of themselves. So none of these changes
-- needs to be replaced, and an expanded form needs no other expansion
abbrev pub SeparatedRevisionsExpand : Type 0
SeparatedRevisionsExpand = (settings : Settings) (trees : List Tree) (youngest : Tree)
    (revisions : List (List Change)) →
    AllRevisionsSeparate settings trees youngest revisions
    → AllRevisionsExpand settings trees youngest revisions revisions

-- the expanded changes of a revision lead to the same tree as its changes, and each of them is separated
abbrev pub ExpandedLead : Type 0
ExpandedLead = (settings : Settings) (history : History) (before after : Tree) (changes expanded : List Change) →
    steps history before changes ≡ Some after → AllExpand settings history before changes expanded
    → Leads settings history before expanded after

-- the expanded revisions load to the same trees, one after the other, and each of their changes is separated
abbrev pub ExpandedLoad : Type 0
ExpandedLoad = (settings : Settings) (older : List Tree) (youngest : Tree) (revisions expanded : List (List Change))
    (trees : List Tree) →
    loaded older youngest revisions ≡ Some trees → AllRevisionsExpand settings older youngest revisions expanded
    → (loaded older youngest expanded ≡ Some trees) × AllRevisionsSeparate settings older youngest expanded
