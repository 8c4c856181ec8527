-- Quiet changes: their header lines, their properties and the prefixes alone show that they are separated, without any
-- tree. One thing isn't shown so: whether a copy of a path that isn't kept is made over something.
use Rattle.std.specs.Prelude.{◌≡◌, false, List, Some, if◌then◌else◌, IsTrue}
use Rattle.dump_rules.specs.Settings.{Settings}
use Rattle.dump_trees.specs.Trees.{Tree}
use Rattle.dump_trees.specs.Changes.{Change, History, step}
use Rattle.dump_trees.specs.Separation.{Separates}
use Rattle.dump_trees.specs.Revisions.{AllRevisionsSeparate}
use Rattle.dump_trees.specs.Quiet.{are_quiet, is_over, is_quiet, nowhere_is_over}

-- a quiet change that isn't a lost copy over something is separated
abbrev pub QuietSeparates : Type 0
QuietSeparates = (settings : Settings) (history : History) (before after : Tree) (c : Change) →
    IsTrue (is_quiet settings c) → is_over settings before c ≡ false → step history before c ≡ Some after
    → Separates settings history before c after

-- if all changes are quiet and no lost copy is made over something, all are separated
abbrev pub AllQuietSeparate : Type 0
AllQuietSeparate = (settings : Settings) (trees : List Tree) (youngest : Tree) (revisions : List (List Change)) →
    IsTrue (are_quiet settings revisions)
    → IsTrue (nowhere_is_over settings trees youngest revisions)
    → AllRevisionsSeparate settings trees youngest revisions
