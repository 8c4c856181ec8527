use Rattle.dump_history.proofs.cuts.TrimmedTexts.{trimmed_texts_are_dumps}
use Rattle.dump_history.proofs.cuts.TrimmedLaw.{trimmed_dump_loads, trimmed_dump_loads_renumbered, each_change_stays, each_branch_is_cut_alike}
use Rattle.dump_history.proofs.laws.each_trimmed_dump_loads.Goals as goal

pub returns-clause-dump : goal.returns-clause-dump
returns-clause-dump c = trimmed_texts_are_dumps

pub returns-clause-stays : goal.returns-clause-stays
returns-clause-stays c = each_change_stays

pub returns-clause-alike : goal.returns-clause-alike
returns-clause-alike c = each_branch_is_cut_alike

pub returns-clause-excluded : goal.returns-clause-excluded
returns-clause-excluded c = trimmed_dump_loads

pub returns-clause-renumbered : goal.returns-clause-renumbered
returns-clause-renumbered c = trimmed_dump_loads_renumbered
