use Rattle.dump_records.proofs.Prelude.{◌∙◌, md5_name}
use Rattle.dump_records.proofs.RecordLemmas.{copy_in_block}
use Rattle.dump_records.proofs.record.Record.md5.Goals as goal

pub returns-clause-lent : goal.returns-clause-lent
returns-clause-lent c =
    let r = c.args.self.now in
    copy_in_block r md5_name c.value_at.result (c.value_at.ensures ∙ r.says.md5)
