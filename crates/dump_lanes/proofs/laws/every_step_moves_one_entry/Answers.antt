use Rattle.dump_lanes.proofs.StepMoves.{credits_move, jobs_move, dones_move, pieces, word_rises}
use Rattle.dump_lanes.proofs.laws.every_step_moves_one_entry.Goals as goal

pub returns-clause-credits : goal.returns-clause-credits
returns-clause-credits g c = credits_move

pub returns-clause-jobs : goal.returns-clause-jobs
returns-clause-jobs g c = jobs_move

pub returns-clause-dones : goal.returns-clause-dones
returns-clause-dones g c = dones_move

pub returns-clause-pieces : goal.returns-clause-pieces
returns-clause-pieces g c = pieces

pub returns-clause-word : goal.returns-clause-word
returns-clause-word g c = word_rises
