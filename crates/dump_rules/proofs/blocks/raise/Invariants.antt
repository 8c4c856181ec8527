use Rattle.dump_rules.proofs.Prelude.{◌≡◌, ◌++◌, take, drop, raised_ends}
use Rattle.dump_rules.proofs.blocks.raise.Given as goal

abbrev pub invariant-loop-ends : goal.invariant-loop-ends
invariant-loop-ends l = raised_ends 0 l.initial.block ≡ take l.ends-index l.block ++ raised_ends l.highest
    (drop l.ends-index l.block)
