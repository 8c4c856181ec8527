use Rattle.dump_rules.proofs.Prelude.{rules, tests, all_from_yields_List, YieldsList-from_slice_split, line_reads}
use Rattle.dump_rules.proofs.mergeinfo.parts_read.Goals as goal

pub returns : goal.returns
returns c =
    all_from_yields_List line_reads _ _ _ c.all.ensures.ran
    (YieldsList-from_slice_split _ _ c.args.text.now c.split.ensures.rest c.split.ensures.done c.split.ensures.closure
    (λ x r q k. search (rules, tests)))
    (λ x b q k. search (rules, tests))
