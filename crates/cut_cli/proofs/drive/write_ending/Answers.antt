use Rattle.std.proofs.Common.{rules}
use Rattle.cut_cli.proofs.DriveLemmas.{same_part}
use Rattle.cut_cli.proofs.drive.write_ending.Goals as goal

pub returns-clause-part : goal.returns-clause-part
returns-clause-part g c = same_part c.write_whole.result _ _ _ _ (search rules) c.write_whole.ensures.part
