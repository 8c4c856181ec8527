use Rattle.dump_records.proofs.Prelude.{◌∙◌, copy_path_name}
use Rattle.dump_records.proofs.RecordLemmas.{copy_has}
use Rattle.dump_records.proofs.record.Record.copy_path.Goals as goal

pub returns : goal.returns
returns c = record {
  value = c.of_copy.ensures.value ∙ copy_has c.args.self.now copy_path_name (λ node none. none);
  lent = c.of_copy.ensures.lent;
}
