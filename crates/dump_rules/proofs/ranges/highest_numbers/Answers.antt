use Rattle.std.proofs.Common.{sym, ◌∙◌}
use Rattle.dump_rules.proofs.reading.ClimbLemmas.{climb_none, climb_some, climb_last}
use Rattle.dump_rules.proofs.ranges.highest_numbers.Goals as goal

pub returns-in_default-raised_by : goal.returns-in_default-raised_by
returns-in_default-raised_by c =
    sym (c.loop-comma.invariant ∙ climb_none c.loop-comma.highest c.loop-comma.rest.now c.in-Some.comma
    (sym c.find.ensures ∙ c.in-Some.is) (sym c.raised_by.ensures ∙ c.in_default-raised_by.is))

pub loop-comma-preserved : goal.loop-comma-preserved
loop-comma-preserved c =
    c.loop-comma.invariant ∙ climb_some c.loop-comma.highest c.loop-comma.rest.now c.in-Some.comma c.in-Some-raised_by.next
    (sym c.find.ensures ∙ c.in-Some.is) (sym c.raised_by.ensures ∙ c.in-Some-raised_by.is)

pub returns : goal.returns
returns c =
    c.raised_by-2.ensures ∙ sym (c.loop-comma.invariant ∙ climb_last c.loop-comma.highest c.loop-comma.rest.now
    (sym c.find.ensures ∙ c.in_default.is))
