use Rattle.std.proofs.Common.{refl}
use Rattle.cut_cli.proofs.DriveLemmas.{first_of}
use Rattle.cut_cli.proofs.drive.write_whole.Goals as goal

pub returns-in-Err-clause-part : goal.returns-in-Err-clause-part
returns-in-Err-clause-part g c = first_of _ _ _ _ _ c.in-Err.ensures.cut refl
