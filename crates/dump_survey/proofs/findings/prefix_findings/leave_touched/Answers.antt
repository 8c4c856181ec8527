use Rattle.dump_survey.proofs.Prelude.{refl, record_item, is_begun_by, is_below_copy}
use Rattle.dump_survey.proofs.IdleLemmas.{both_without}
use Rattle.dump_survey.proofs.findings.prefix_findings.leave_touched.Goals as goal

pub returns-then-is_empty : goal.returns-then-is_empty
returns-then-is_empty c = λ text. rw (c.is_empty.ensures.0 c.if-is_empty.true) refl

pub returns : goal.returns
returns c =
    let r = record_item c.args.item.now in
    both_without (is_begun_by r) (is_below_copy r) c.args.idle.now c.leave_matched.new.idle c.leave_copied.new.idle
    c.leave_matched.ensures c.leave_copied.ensures
