use Rattle.dump_survey.proofs.Prelude.{refl}
use Rattle.dump_survey.proofs.RevisionMapLemmas.{kept_more, tally_room}
use Rattle.dump_survey.proofs.report.revision_map.NumberCollectorRecordVisitor.visit.Goals as goal

pub add-requires-clause-room : goal.add-requires-clause-room
add-requires-clause-room c =
    let (first, before, next, so_far) = c.requires in
    tally_room first c.args.self.now before c.args.item.now next so_far

pub returns : goal.returns
returns c = λ first before next so_far.
    kept_more first c.args.self.now before c.args.item.now next so_far
    (record { options = c.args.self.now.options; tally = c.add.new.self; numbers = c.push_before.new.numbers }) refl
    c.in_ok-push_before.ensures c.add.ensures
