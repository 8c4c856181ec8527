use Rattle.dump_pipeline.proofs.Prelude.{◌≡◌, ◌-◌, length, Progress}
use Rattle.dump_pipeline.proofs.plain.run_plain.Given as goal

abbrev pub invariant-loop-record : goal.invariant-loop-record
invariant-loop-record g l = record {
  progress : Progress l.options l.dump l.cutter l.filter (g.S.Sink.taken l.initial.sink)
      (g.S.Sink.taken l.sink) l.written;
  failures : g.S.Sink.failure_count l.sink ≡ g.S.Sink.failure_count l.initial.sink;
  through : g.S.Sink.through l.sink ≡ g.S.Sink.through l.initial.sink;
}

abbrev pub decreases-loop-record : goal.decreases-loop-record
decreases-loop-record g l = length l.dump - l.cutter.number
