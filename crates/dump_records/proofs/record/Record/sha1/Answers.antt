use Rattle.dump_records.proofs.Prelude.{◌∙◌, sha1_name}
use Rattle.dump_records.proofs.RecordLemmas.{copy_in_block}
use Rattle.dump_records.proofs.record.Record.sha1.Goals as goal

pub returns-clause-lent : goal.returns-clause-lent
returns-clause-lent c =
    let r = c.args.self.now in
    copy_in_block r sha1_name c.value_at.result (c.value_at.ensures ∙ r.says.sha1)
