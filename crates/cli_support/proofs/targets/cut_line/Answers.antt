use Rattle.std.proofs.Common.{arith, sym}
use Rattle.cli_support.proofs.TargetLemmas.{some_line}
use Rattle.cli_support.proofs.targets.cut_line.Goals as goal

pub loop-count-init : goal.loop-count-init
loop-count-init c = (omega arith, sym (some_line c.args.text.now c.requires))
