-- Siblings of every tree, also of those within revisions: what they are, and how they are found without building trees.
use Rattle.std.specs.Prelude.{Bool, ◌||◌, is_some}
use Rattle.dump_trees.specs.Changes.{Change}
use Rattle.dump_trees.specs.LoadCheck.{sets_props}

-- what changes touch

-- whether a change does something. One that doesn't is accepted even if nothing exists at its path
abbrev pub does_something : Change → Bool
does_something c = c.deletes || is_some c.made || sets_props c.props || is_some c.text
