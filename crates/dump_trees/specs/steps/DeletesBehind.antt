-- The deletions after a copy that is trimmed, found among the excluded paths.
use Rattle.std.specs.Prelude.{List, IsTrue}
use Rattle.dump_rules.specs.Settings.{Settings}
use Rattle.dump_trees.specs.Paths.{NodePath, keeps}
use Rattle.dump_trees.specs.Trees.{Tree}
use Rattle.dump_trees.specs.Changes.{Change, History}
use Rattle.dump_trees.specs.steps.Returns.{lie_apart, IsCopyOver}
use Rattle.dump_trees.specs.Following.{Way}
use Rattle.dump_trees.specs.steps.Following.{followed}
use Rattle.dump_trees.specs.steps.Trimming.{CoverTaken}

-- of the excluded paths below the path of a kept copy, those that exist and aren't excluded at the source cover what
-- the copy takes to paths that aren't kept
abbrev pub DeletesAreFound : Type 0
DeletesAreFound = (settings : Settings) (excluded : List NodePath) (history : History) (old : Tree) (c : Change)
    (source : NodePath) → IsCopyOver settings excluded history old c source → IsTrue (lie_apart excluded)
    → IsTrue (keeps settings c.path)
    → CoverTaken settings old c.path source (followed Way.ToSources excluded old c.path source)
