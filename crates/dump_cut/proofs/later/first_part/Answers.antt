use Rattle.std.proofs.Common.{ap, take}
use Rattle.dump_cut.proofs.later.first_part.Goals as goal

pub returns : goal.returns
returns c records has = ap (λ n. take n c.args.dump.now) (c.first_place.ensures.place records has)
