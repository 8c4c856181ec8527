use Rattle.dump_lanes.proofs.Prelude.{◌≡◌, ◌+◌, ◌≤◌, [], HasRead, count_ends, marks_in}
use Rattle.crossbeam_queue.specs.Passes.{view, IsSamePass}
use Rattle.dump_lanes.proofs.pool.sequencer.take_from.Given as goal

abbrev pub invariant-loop-left : goal.invariant-loop-left
invariant-loop-left g l =
    IsSamePass l.initial.pass l.pass
    × HasRead [] (view l.initial.pass) (view l.pass)
    × (count_ends (marks_in (view l.pass).taken) + l.left ≡ count_ends
    (marks_in (view l.initial.pass).taken) + l.initial.left)
    × (l.left ≤ l.initial.left)

abbrev pub decreases-loop-left : goal.decreases-loop-left
decreases-loop-left g l = l.left
