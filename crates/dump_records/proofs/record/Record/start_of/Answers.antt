use Rattle.dump_records.proofs.Prelude.{ap, slice_range, ◌∙◌, block_after, record_dump}
use Rattle.dump_records.proofs.RestLemmas.{slice_join}
use Rattle.dump_records.proofs.record.Record.start_of.Goals as goal

pub returns-in-Properties-clause-rest : goal.returns-in-Properties-clause-rest
returns-in-Properties-clause-rest c =
    let r = c.args.self.now in
    rw c.in-Properties.is
    (ap (λ k. slice_range (record_dump r) k r.after) c.after.ensures
    ∙ slice_join (record_dump r) (block_after r.block) r.text_from r.after r.inside.props r.inside.text)
