use Rattle.std.proofs.Common.{[], refl}
use Rattle.dump_records.proofs.cutter.Cutter.new.Goals as goal

pub invariant_of-result : goal.invariant_of-result
invariant_of-result c = ([], [], c.args.dump.now, [], refl, refl, (0, refl, refl), refl, refl, tt, refl)
