use Rattle.std.proofs.Common.{map}
use Rattle.dump_cut.specs.steps.ExcludedPaths.{paths_of}
use Rattle.dump_expansion.specs.steps.Given.{given_of}
use Rattle.dump_additions.proofs.StepLemmas.{IsGoingOn}
use Rattle.dump_additions.proofs.addition.additions.Given as goal

abbrev pub invariant-loop-place : goal.invariant-loop-place
invariant-loop-place l = IsGoingOn l.table l.texts l.index (paths_of l.excluded) l.place (map given_of l.steads.items)
