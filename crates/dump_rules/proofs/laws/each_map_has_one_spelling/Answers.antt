use Rattle.dump_rules.proofs.new_values.RunsLaw.{each_map_has_one_spelling}
use Rattle.dump_rules.proofs.laws.each_map_has_one_spelling.Goals as goal

pub returns : goal.returns
returns c = each_map_has_one_spelling
