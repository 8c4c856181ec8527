use Rattle.dump_rules.proofs.Prelude.{◌∙◌, range_parts}
use Rattle.dump_rules.proofs.reading.BlockLemmas.{alike_contradict}
use Rattle.dump_rules.proofs.blocks.arranged_contradicts_some.Goals as goal

pub returns : goal.returns
returns c =
    c.list_contradicts_some.ensures
    ∙ alike_contradict c.args.inheritable c.args.block.now c.arrange.new.block c.arrange.ensures.same
    (range_parts c.args.list.now)
