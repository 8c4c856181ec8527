use Rattle.dump_pipeline.proofs.Prelude.{◌≡◌, length, receiving, credit_port, text_of, HasReceived, CountsFailed}
use Rattle.dump_pipeline.proofs.write.write.Given as goal

abbrev pub invariant-loop : goal.invariant-loop
invariant-loop g l = record {
  pool : (credit_port l.port).pool ≡ (credit_port l.initial.port).pool;
  window : (credit_port l.port).window ≡ (credit_port l.initial.port).window;
  back : (credit_port l.port).back ≡ length (receiving l.from).taken;
  lane : (receiving l.from).lane ≡ (receiving l.initial.from).lane;
  seat : l.seat ≡ record l.initial.seat { raised = l.failed };
  text : HasReceived l.failed (text_of (receiving l.from).taken) (g.S.Sink.taken l.initial.sink)
      (g.S.Sink.taken l.sink) l.count;
  failures : CountsFailed l.failed (g.S.Sink.failure_count l.initial.sink) (g.S.Sink.failure_count l.sink);
  through : g.S.Sink.through l.sink ≡ g.S.Sink.through l.initial.sink;
}
