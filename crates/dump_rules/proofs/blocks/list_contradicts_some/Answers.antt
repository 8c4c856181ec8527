use Rattle.dump_rules.proofs.Prelude.{rules, tests, any_from_yields_List, YieldsList-from_slice_split, block_contradicts, range_of}
use Rattle.dump_rules.proofs.blocks.list_contradicts_some.Goals as goal

pub returns : goal.returns
returns c =
    any_from_yields_List (λ part. block_contradicts c.args.inheritable c.args.block.now
    (range_of part)) _ _ _ c.any.ensures.ran
    (YieldsList-from_slice_split _ _ c.args.list.now c.split.ensures.rest c.split.ensures.done c.split.ensures.closure
    (λ x r q k. search (rules, tests)))
    (λ x b q k. search (rules, tests))
