use Rattle.cut_cli.proofs.MapLemmas.{LinesSoFar}
use Rattle.cut_cli.proofs.map.lines_of.Given as goal

abbrev pub invariant-loop-fate : goal.invariant-loop-fate
invariant-loop-fate l = LinesSoFar l.after l.fates l.fate-index l.last l.text.items
