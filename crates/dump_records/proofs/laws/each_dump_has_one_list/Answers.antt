use Rattle.dump_records.proofs.ListLaw.{each_dump_has_one_list}
use Rattle.dump_records.proofs.laws.each_dump_has_one_list.Goals as goal

pub returns : goal.returns
returns c = each_dump_has_one_list
