use Rattle.dump_survey.proofs.Prelude.{refl, option_map, record_item, need_view}
use Rattle.dump_survey.proofs.NeedLemmas.{needs_more, not_pushed, pushed}
use Rattle.dump_survey.proofs.advice.copy_needs.NeedCollectorRecordVisitor.visit.Goals as goal

pub returns-in_ok-push : goal.returns-in_ok-push
returns-in_ok-push c = λ first before next so_far.
    needs_more first c.args.self.now (record { side = c.args.self.now.side; needs = c.push.new.self }) before
    (record_item c.args.item.now) (option_map need_view c.need_of.result) so_far refl c.need_of.ensures
    (pushed c.args.self.now.needs.items c.push.new.self.items c.in-Some.need c.need_of.result c.in-Some.is
    c.in_ok-push.ensures.items)

pub returns-in_default : goal.returns-in_default
returns-in_default c = λ first before next so_far.
    needs_more first c.args.self.now c.args.self.now before (record_item c.args.item.now)
    (option_map need_view c.need_of.result) so_far refl c.need_of.ensures
    (not_pushed c.args.self.now.needs.items c.need_of.result c.in_default.is)
