use Rattle.dump_lanes.proofs.CreditSteps as credits
use Rattle.dump_lanes.proofs.Prelude.{dones_part, sequencer_crew, jobs_part, cutter_crew}
use Rattle.dump_lanes.proofs.DoneSteps.{sequencer_apart}
use Rattle.dump_lanes.proofs.JobSteps.{cutter_apart}
use Rattle.dump_lanes.proofs.QueueSteps.{begins}
use Rattle.dump_lanes.proofs.pool.Pool.new.Goals as goal

pub ruled-requires-clause-rule : goal.ruled-requires-clause-rule
ruled-requires-clause-rule g c = begins jobs_part cutter_crew cutter_apart

pub ruled-requires-2-clause-rule : goal.ruled-requires-2-clause-rule
ruled-requires-2-clause-rule g c = begins dones_part sequencer_crew sequencer_apart

pub ruled-requires-3-clause-rule : goal.ruled-requires-3-clause-rule
ruled-requires-3-clause-rule g c = credits.begins
