use Rattle.std.proofs.Common.{◌≡◌, ◌||◌, ℕ, List}
use Rattle.dump_index.specs.steps.Children.{is_child_named}
use Rattle.dump_index.specs.steps.Names.{texts_of}
use Rattle.dump_cut.proofs.DirectoryLemmas.{is_front_within}
use Rattle.dump_cut.proofs.excluded.push_fronts.Given as goal

abbrev pub invariant-loop-place : goal.invariant-loop-place
invariant-loop-place l = (front : List ℕ) → is_child_named (texts_of l.fronts.items) front
    ≡ (is_child_named (texts_of l.fn.fronts.items) front || is_front_within l.place l.path front)
