use Rattle.std.proofs.Common.{◌≡◌}
use Rattle.dump_lanes.specs.steps.LaneViews.{receiving}
use Rattle.filter_tests.proofs.lanes.take_all.Given as goal

abbrev pub invariant-loop-number : goal.invariant-loop-number
invariant-loop-number g l = (receiving l.output).lane ≡ (receiving l.initial.output).lane
