-- Changes that lead from one tree to another, each of which is separated.
use Rattle.std.specs.Prelude.{◌≡◌, List, Some}
use Rattle.dump_rules.specs.Settings.{Settings}
use Rattle.dump_trees.specs.Trees.{Tree}
use Rattle.dump_trees.specs.Changes.{Change, History, steps}
use Rattle.dump_trees.specs.Revisions.{AllSeparate}

-- the changes of a revision lead from the one tree to the other, and each is separated
pub record Leads (settings : Settings) (history : History) (before : Tree) (changes : List Change) (after : Tree)
    : Type 0 where
  pub same : steps history before changes ≡ Some after
  pub apart : AllSeparate settings history before changes
