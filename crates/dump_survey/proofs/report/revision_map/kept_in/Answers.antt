use Rattle.dump_survey.proofs.RevisionMapLemmas.{all_kept_in}
use Rattle.dump_survey.proofs.report.revision_map.kept_in.Goals as goal

pub returns : goal.returns
returns c =
    let (records, ending, has, so_far) = c.in_ok-visit_records.ensures in
    all_kept_in (record { options = c.args.options; tally = c.new.result; numbers = c.new-2.result })
    c.visit_records.new.visitor c.args.dump.now records ending has so_far c.push_ended.new.numbers.items
    c.in_ok-push_ended.ensures
