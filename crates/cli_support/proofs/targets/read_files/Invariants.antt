use Rattle.std.proofs.Common.{map, take}
use Rattle.cli_support.specs.Targets.{AreTextsOf}
use Rattle.cli_support.proofs.targets.read_files.Given as goal

abbrev pub invariant-loop-name : goal.invariant-loop-name
invariant-loop-name g l = AreTextsOf (g.F.NamedFiles.text_of l.files) (map (λ name. name.now) (take l.name-index l.names))
    (map (λ text. text.items) l.texts.items)
