use Rattle.std.proofs.Common.{◌≡◌, ◌∙◌, ◌-◌, ◌<◌, ◌≤◌, arith, false, length, rules, slice_index, sym, true}
use Rattle.cli_support.specs.Targets.{is_blank}
use Rattle.cli_support.proofs.TargetLemmas.{blank_goes, other_stays}
use Rattle.cli_support.proofs.targets.before_blanks.Goals as goal

pub returns-then-not-is_blank : goal.returns-then-not-is_blank
returns-then-not-is_blank c =
    let line = c.args.line.now in
    let count = c.loop-count.count in
    let some : 0 < count = search rules in
    let bound : count ≤ length line = c.loop-count.invariant.0 in
    let other : is_blank (slice_index line (count - 1)) ≡ false = search rules in
    sym (c.loop-count.invariant.1 ∙ other_stays line count (count - 1) (omega arith) (omega arith) other)

pub loop-count-preserved : goal.loop-count-preserved
loop-count-preserved c =
    let line = c.args.line.now in
    let count = c.loop-count.count in
    let some : 0 < count = search rules in
    let bound : count ≤ length line = c.loop-count.invariant.0 in
    let is : is_blank (slice_index line (count - 1)) ≡ true = search rules in (
      omega arith,
      c.loop-count.invariant.1 ∙ blank_goes line count (count - 1) (omega arith) (omega arith) is,
    )
