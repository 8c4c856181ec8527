use Rattle.std.proofs.Common.{◌∙◌, ◌<◌, ◌≤◌, subst, sym}
use Rattle.dump_cut.proofs.LaterLemmas.{count_some, count_zero, uncounted}
use Rattle.dump_cut.proofs.later.no_part_after.Goals as goal

pub returns-in_default : goal.returns-in_default
returns-in_default c records has = uncounted records (sym c.in_default.is ∙ c.count_revisions.ensures records has)

pub returns-then-count-eq0 : goal.returns-then-count-eq0
returns-then-count-eq0 c records has =
    count_zero records c.in-Some.count c.if-count-eq0.true (sym c.in-Some.is ∙ c.count_revisions.ensures records has)

pub returns-then-number-count : goal.returns-then-number-count
returns-then-number-count c records has =
    let (numbered, size) = count_some records c.in-Some.count c.if-count-eq0.false
    (sym c.in-Some.is ∙ c.count_revisions.ensures records has) in
    (numbered, subst (λ n. c.args.number < n) size c.if-number-count.true)

pub returns-else-number-count : goal.returns-else-number-count
returns-else-number-count c records has =
    let (numbered, size) = count_some records c.in-Some.count c.if-count-eq0.false
    (sym c.in-Some.is ∙ c.count_revisions.ensures records has) in
    (numbered, subst (λ n. n ≤ c.args.number) size c.if-number-count.false)
