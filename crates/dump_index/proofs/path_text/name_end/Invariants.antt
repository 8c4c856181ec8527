use Rattle.std.proofs.Common.{◌≡◌, ◌+◌, drop}
use Rattle.dump_index.specs.steps.Below.{name_end}
use Rattle.dump_index.proofs.path_text.name_end.Given as goal

abbrev pub invariant-loop-end : goal.invariant-loop-end
invariant-loop-end l = name_end l.text ≡ l.end + name_end (drop l.end l.text)
