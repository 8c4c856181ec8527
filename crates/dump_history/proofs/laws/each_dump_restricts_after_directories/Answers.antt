use Rattle.dump_history.proofs.restricted.DirectoryLaw.{filtered_dump_restricts_behind, quiet_dump_restricts_behind}
use Rattle.dump_history.proofs.laws.each_dump_restricts_after_directories.Goals as goal

pub returns-clause-separated : goal.returns-clause-separated
returns-clause-separated c = filtered_dump_restricts_behind

pub returns-clause-quiet : goal.returns-clause-quiet
returns-clause-quiet c = quiet_dump_restricts_behind
