use Rattle.std.proofs.Common.{◌≡◌, take, map, true}
use Rattle.dump_expansion.specs.steps.Given.{can_all_be_written, given_of}
use Rattle.dump_expansion.proofs.expanding.can_all_be_written.Given as goal

abbrev pub invariant-loop-stead : goal.invariant-loop-stead
invariant-loop-stead l = can_all_be_written (map given_of (take l.stead-index l.steads)) ≡ true
