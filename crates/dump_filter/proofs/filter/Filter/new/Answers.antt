use Rattle.std.proofs.Common.{None}
use Rattle.dump_filter.proofs.knowing.FilterLemmas.{new_knows, knows_as}
use Rattle.dump_filter.proofs.filter.Filter.new.Goals as goal

pub invariant_of-result : goal.invariant_of-result
invariant_of-result c = λ active. knows_as c.args.options.now None _ _ _
    (new_knows c.args.options.now) c.new.ensures.last c.new.ensures.state
