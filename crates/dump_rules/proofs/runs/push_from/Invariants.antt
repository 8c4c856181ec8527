use Rattle.dump_rules.proofs.Prelude.{◌≡◌, ◌++◌, map, drop, runs_text, span_range, joined_from}
use Rattle.dump_rules.proofs.runs.push_from.Given as goal

abbrev pub invariant-loop-span : goal.invariant-loop-span
invariant-loop-span l =
    l.fn.out.items ++ runs_text (joined_from (span_range l.fn.first) (map span_range l.behind))
    ≡ l.out.items ++ runs_text (joined_from (span_range l.run) (map span_range (drop l.span-index l.behind)))
