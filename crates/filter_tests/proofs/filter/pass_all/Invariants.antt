use Rattle.std.proofs.Common.{◌≡◌}
use Rattle.dump_filter.specs.steps.FilterState.{count_up_to, IsOfSameDump}
use Rattle.filter_tests.proofs.filter.pass_all.Given as goal

abbrev pub invariant-loop : goal.invariant-loop
invariant-loop l =
    (l.filter.settings ≡ l.options) × IsOfSameDump l.filter l.cutter.dump
    × (l.cutter.number ≡ count_up_to l.filter.last)
