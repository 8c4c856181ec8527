use Rattle.std.proofs.Common.{refl}
use Rattle.cut_cli.proofs.MapLemmas.{no_lines}
use Rattle.cut_cli.proofs.map.lines_of.Goals as goal

pub loop-fate-init : goal.loop-fate-init
loop-fate-init c = no_lines _ _ _ _ refl c.new-text.ensures.items
