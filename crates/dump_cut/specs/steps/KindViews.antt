-- Kinds as an index finds them, and as the laws of loading describe them.
use Rattle.std.specs.Prelude.{Bool, true, false, option_map}
use Rattle.dump_trees.specs.steps.LoadCheck as LoadCheck
use Rattle.dump_index.specs.steps.ToldKinds.{kind_meant}
use Rattle.dump_index.specs.declared.change.Setting.{Setting}
use Rattle.dump_index.specs.declared.change.Setting.TheVariants.{Keeps, Replaces, Edits, EditsNothing}
use Rattle.dump_cut.specs.declared.kinds.Kinds.{Kinds}

-- the kinds that were found, as these laws describe them
abbrev pub kinds_meant : Kinds → LoadCheck.Kinds
kinds_meant kinds = record {
  here = option_map kind_meant kinds.here;
  parent = option_map kind_meant kinds.parent;
  source = option_map kind_meant kinds.source;
}

-- whether something is set; then a node has to exist
abbrev pub sets_some : Setting → Bool
sets_some Keeps = false
sets_some Replaces = true
sets_some Edits = true
sets_some EditsNothing = false
