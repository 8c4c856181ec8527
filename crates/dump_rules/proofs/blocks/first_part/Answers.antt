use Rattle.std.proofs.Common.{sym, ◌∙◌}
use Rattle.dump_rules.proofs.reading.RangeLemmas.{cut_first, position_whole}
use Rattle.dump_rules.proofs.blocks.first_part.Goals as goal

pub returns-in-Some-clause-parts : goal.returns-in-Some-clause-parts
returns-in-Some-clause-parts c =
    cut_first c.in-Some.comma c.args.list.now (sym c.find.ensures ∙ c.in-Some.is)

pub returns-in-None-clause-parts : goal.returns-in-None-clause-parts
returns-in-None-clause-parts c =
    position_whole 44 c.args.list.now (sym c.find.ensures ∙ c.in-None.is)
