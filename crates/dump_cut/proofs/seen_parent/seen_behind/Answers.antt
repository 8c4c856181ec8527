use Rattle.dump_cut.proofs.seen_parent.seen_behind.Goals as goal

pub returns-clause-same : goal.returns-clause-same
returns-clause-same c listed count are =
    c.seen_above.ensures.same listed count (c.seen_beside-beside.ensures listed count are)
