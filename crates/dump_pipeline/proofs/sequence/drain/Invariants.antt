use Rattle.dump_pipeline.proofs.Prelude.{◌≡◌, ℕ, List, ◌++◌, done_port, checked_numbers}
use Rattle.dump_pipeline.proofs.sequence.drain.Given as goal

abbrev pub invariant-loop : goal.invariant-loop
invariant-loop g l = record {
  pool : (done_port l.port).pool ≡ (done_port l.initial.port).pool;
  more : (more : List ℕ) × (checked_numbers (done_port l.port).taken ≡ checked_numbers
      (done_port l.initial.port).taken ++ more);
}
