-- What an index says of kinds, in the form that the laws of a load check need.
use Rattle.std.specs.Prelude.{List, map, option_map}
use Rattle.dump_trees.specs.Trees.{root_alone}
use Rattle.dump_trees.specs.steps.Looking.{Placed}
use Rattle.dump_trees.specs.steps.LoadCheck.{Kind, ToldKinds, TellsKinds}
use Rattle.dump_index.specs.steps.Listed.{Listed, listed_of}
use Rattle.dump_index.specs.steps.Kinds.{kind_look}
use Rattle.dump_index.specs.steps.IndexLaws.{AreListed}
use Rattle.dump_index.specs.declared.change.NodeChange.{NodeChange}
use Rattle.dump_index.specs.declared.change.NodeKind.{NodeKind}
use Rattle.dump_index.specs.declared.change.NodeKind.TheVariants.{Directory, File}

-- the same kind, with the name that the laws use
abbrev pub kind_meant : NodeKind → Kind
kind_meant Directory = Kind.Directory
kind_meant File = Kind.File

-- the kind that an index finds at a path, after this number of changes
abbrev pub kinds_told_by : List Listed → ToldKinds
kinds_told_by listed count path = option_map kind_meant (kind_look listed count path)

-- an index says what exists
abbrev pub IndexTellsKinds : Type 0
IndexTellsKinds = (changes : List NodeChange) (placed : List Placed) → AreListed changes placed
    → TellsKinds (kinds_told_by (map listed_of changes)) root_alone placed
