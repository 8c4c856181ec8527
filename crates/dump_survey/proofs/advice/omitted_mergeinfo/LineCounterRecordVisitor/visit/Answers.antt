use Rattle.dump_survey.proofs.Prelude.{◌+◌, ◌∙◌, ap, refl, arith, length}
use Rattle.dump_survey.proofs.OmittedLemmas.{counted_fits, counted_more}
use Rattle.dump_survey.proofs.advice.omitted_mergeinfo.LineCounterRecordVisitor.visit.Goals as goal

pub overflow_add-self : goal.overflow_add-self
overflow_add-self c =
    let (first, before, next, so_far) = c.requires in
    let fits = counted_fits first c.args.self.now before c.args.item.now c.omitted_in_record.result so_far
    c.omitted_in_record.ensures next in
    let size = ap length (c.dump-size.ensures ∙ c.block.ensures.dump) in
    omega arith

pub returns : goal.returns
returns c = λ first before next so_far.
    counted_more first c.args.self.now before c.args.item.now c.omitted_in_record.result so_far c.omitted_in_record.ensures
    (record { options = c.args.self.now.options; count = c.args.self.now.count + c.omitted_in_record.result }) refl refl
