-- Revisions: how a dump whose revisions are numbered 0, 1, 2 and so on is loaded, and what the filter writes for it.
-- Revision 0 has no changes, so the lists begin with the changes of revision 1.
use Rattle.std.specs.Prelude.{◌≡◌, List, [], ◌∷◌, ◌++◌, Option, Some, option_and_then, slice_get, if◌then◌else◌, MatchBool, ⊤}
use Rattle.dump_rules.specs.Settings.{Settings}
use Rattle.dump_rules.specs.Renumbering.{KeptRevisions, image}
use Rattle.dump_trees.specs.Trees.{Tree}
use Rattle.dump_trees.specs.Changes.{Change, History, step, steps}
use Rattle.dump_trees.specs.Restriction.{NewNumber}
use Rattle.dump_trees.specs.Separation.{Separates}

-- the trees of a repository after these revisions are loaded into it; none if one is rejected. Before that it has these
-- trees, and this one is the youngest
abbrev pub loaded : List Tree → Tree → List (List Change) → Option (List Tree)
loaded trees youngest [] = Some trees
loaded trees youngest (changes ∷ revisions) =
    option_and_then (λ tree. loaded (trees ++ tree ∷ []) tree revisions) (steps (slice_get trees) youngest changes)

-- the trees of a repository whose revision 0 has this tree, after these revisions are loaded
abbrev pub loaded_over : Tree → List (List Change) → Option (List Tree)
loaded_over first revisions = loaded (first ∷ []) first revisions

-- the number that is written for a copy's revision: its image, or itself if revisions aren't renumbered
abbrev pub IsWrittenNumber : Settings → KeptRevisions → NewNumber
IsWrittenNumber settings kept = λ old new. MatchBool settings.renumber (image kept old ≡ Some new) (new ≡ old)

-- each change of a revision is separated
abbrev pub AllSeparate : Settings → History → Tree → List Change → Type 0
AllSeparate settings history before [] = ⊤
AllSeparate settings history before (c ∷ changes) = (after : Tree) → step history before c ≡ Some after →
    Separates settings history before c after × AllSeparate settings history after changes

-- each change of each revision is separated
abbrev pub AllRevisionsSeparate : Settings → List Tree → Tree → List (List Change) → Type 0
AllRevisionsSeparate settings trees youngest [] = ⊤
AllRevisionsSeparate settings trees youngest (changes ∷ revisions) =
    AllSeparate settings (slice_get trees) youngest changes
    × ((tree : Tree) → steps (slice_get trees) youngest changes ≡ Some tree
    → AllRevisionsSeparate settings (trees ++ tree ∷ []) tree revisions)
