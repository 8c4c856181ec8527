use Rattle.dump_rules.proofs.Prelude.{sym, ap, ◌∙◌, is_some, range_parts}
use Rattle.dump_rules.proofs.reading.ClimbLemmas.{some_agrees}
use Rattle.dump_rules.proofs.ranges.parts_agree.Goals as goal

pub returns-then-is_some : goal.returns-then-is_some
returns-then-is_some c =
    let some = c.if-is_some.true in
    some ∙ sym (some_agrees (record { inheritable = 0; starred = 0 }) (range_parts c.args.list.now)
    (ap is_some (sym c.highest_numbers.ensures) ∙ sym c.is_some.ensures ∙ some))
