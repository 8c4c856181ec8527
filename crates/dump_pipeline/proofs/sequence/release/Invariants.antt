use Rattle.dump_pipeline.proofs.Prelude.{◌≡◌, sending}
use Rattle.dump_pipeline.proofs.sequence.release.Given as goal

abbrev pub invariant-loop : goal.invariant-loop
invariant-loop g l = record {
  same : l.waiting ≡ l.initial.waiting;
  unput : sending l.to ≡ sending l.initial.to;
}
