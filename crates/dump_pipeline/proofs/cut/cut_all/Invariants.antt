use Rattle.dump_pipeline.proofs.Prelude.{◌≡◌, job_port, HasPut}
use Rattle.dump_pipeline.proofs.cut.cut_all.Given as goal

abbrev pub invariant-loop : goal.invariant-loop
invariant-loop g l = record {
  put : HasPut l.number (job_port l.initial.port) (job_port l.port);
  seat : l.seat ≡ record l.initial.seat { seen = l.seat.seen };
  cutter : l.cutter ≡ record { dump = g.D.Run.dump; number = l.number };
}
