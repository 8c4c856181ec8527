use Rattle.dump_pipeline.proofs.Prelude.{◌≡◌, false, worker_port, job_numbers, checked_numbers}
use Rattle.dump_pipeline.proofs.work.work.Given as goal

abbrev pub invariant-loop : goal.invariant-loop
invariant-loop g l = record {
  open_ : (worker_port l.port).closed ≡ false;
  pool : (worker_port l.port).pool ≡ (worker_port l.initial.port).pool;
  index : (worker_port l.port).index ≡ (worker_port l.initial.port).index;
  numbers : checked_numbers (worker_port l.port).given ≡ job_numbers (worker_port l.port).taken;
}
