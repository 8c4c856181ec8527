use Rattle.dump_records.proofs.Unique as laws
use Rattle.dump_records.proofs.laws.no_record_begins_another.Goals as goal

pub returns : goal.returns
returns c = laws.no_record_begins_another
