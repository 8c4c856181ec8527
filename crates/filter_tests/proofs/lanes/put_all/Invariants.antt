use Rattle.std.proofs.Common.{◌≡◌}
use Rattle.dump_lanes.specs.steps.LaneViews.{sending}
use Rattle.filter_tests.proofs.lanes.put_all.Given as goal

abbrev pub invariant-loop-number : goal.invariant-loop-number
invariant-loop-number g l = (sending l.input).lane ≡ (sending l.initial.input).lane
