use Rattle.dump_pipeline.proofs.Prelude.{◌≡◌, sym, ap, ◌∙◌, subst, refl, Some, Err, FaultKind, Cut, Record, record_dump, record_item, record_number, CutStep, Accepts, Refuses, RunLeaves}
use Rattle.dump_pipeline.specs.declared.answer.Answer.TheVariants as answers
use Rattle.dump_pipeline.proofs.RunLemmas.{begun, finished, broken, refused, no_memory, sink_failed, stepped, smaller}
use Rattle.dump_pipeline.proofs.plain.run_plain.Goals as goal

pub loop-record-init : goal.loop-record-init
loop-record-init g c = record {
  progress = begun c.args.options.now c.args.dump.now c.new-cutter.result c.new-filter.result
      (g.S.Sink.taken c.args.sink.now) c.new-cutter.ensures c.new-filter.ensures;
  failures = refl;
  through = refl;
}

pub returns-in-Finished-clause-answer : goal.returns-in-Finished-clause-answer
returns-in-Finished-clause-answer g c =
    let step = subst (λ (x : Cut). CutStep c.loop-record.cutter x c.next.new.self) c.in-Finished.is c.next.ensures in
    finished c.args.options.now c.args.dump.now c.loop-record.cutter c.loop-record.filter
    (g.S.Sink.taken c.args.sink.now) (g.S.Sink.taken c.loop-record.sink)
    c.loop-record.written c.loop-record.invariant.progress
    (g.S.Sink.taken c.write_end.new.sink) c.write_end.result step.0 c.write_end.ensures.answer

pub returns-in-Fault-clause-answer : goal.returns-in-Fault-clause-answer
returns-in-Fault-clause-answer g c =
    let step = subst (λ (x : Cut). CutStep c.loop-record.cutter x c.next.new.self) c.in-Fault.is c.next.ensures in
    broken c.args.options.now c.args.dump.now c.loop-record.cutter c.loop-record.filter (g.S.Sink.taken c.args.sink.now)
    (g.S.Sink.taken c.loop-record.sink)
    c.loop-record.written c.loop-record.invariant.progress c.in-Fault.kind c.in-Fault.place c.expected-number.result step.0 c.expected-number.ensures

pub returns-in-Err-Rule-clause-answer : goal.returns-in-Err-Rule-clause-answer
returns-in-Err-Rule-clause-answer g c =
    let step = subst (λ (x : Cut). CutStep c.loop-record.cutter x c.next.new.self) c.in-Item.is c.next.ensures in
    subst (λ (k : FaultKind). RunLeaves c.args.options.now c.args.dump.now (g.S.Sink.taken c.args.sink.now)
    (g.S.Sink.taken c.loop-record.sink) (answers.Fault k c.number.result c.place.result))
    (sym c.in-Err-Rule.kind-is)
    (refused c.args.options.now c.args.dump.now c.loop-record.cutter c.loop-record.filter
    (g.S.Sink.taken c.args.sink.now) (g.S.Sink.taken c.loop-record.sink)
    c.loop-record.written c.loop-record.invariant.progress
    (record_item c.in-Item.record) c.in-Err-Rule.kind c.place.result c.number.result step.2
    (subst (λ (r : Record). Refuses c.loop-record.filter (record_item r) c.in-Err-Rule.kind) c.of.ensures.item
    ((c.step.ensures.rule c.in-Err-Rule.kind).0 (c.in-Err-Rule.is ∙ ap Err c.in-Err-Rule.field-0-is)).1)
    (c.number.ensures ∙ step.1) c.place.ensures)

pub returns-in-Err-Memory-clause-answer : goal.returns-in-Err-Memory-clause-answer
returns-in-Err-Memory-clause-answer g c =
    no_memory c.args.options.now c.args.dump.now c.loop-record.cutter c.loop-record.filter
    (g.S.Sink.taken c.args.sink.now) (g.S.Sink.taken c.loop-record.sink)
    c.loop-record.written c.loop-record.invariant.progress

pub returns-in-Err-clause-answer : goal.returns-in-Err-clause-answer
returns-in-Err-clause-answer g c =
    let step = subst (λ (x : Cut). CutStep c.loop-record.cutter x c.next.new.self) c.in-Item.is c.next.ensures in
    sink_failed c.args.options.now c.args.dump.now c.loop-record.cutter c.loop-record.filter
    (g.S.Sink.taken c.args.sink.now) (g.S.Sink.taken c.loop-record.sink)
    c.loop-record.written c.loop-record.invariant.progress (record_item c.in-Item.record) c.in-Ok.piece
    (g.S.Sink.taken c.send.new.sink) c.in-Err.written step.2
    (subst (λ (r : Record). Accepts c.loop-record.filter
    (record_item r) c.in-Ok.piece) c.of.ensures.item c.in-Ok.ensures.piece) c.in-Err.ensures.cut

pub loop-record-preserved : goal.loop-record-preserved
loop-record-preserved g c =
    let step = subst
    (λ (x : Cut). CutStep c.loop-record.cutter x c.next.new.self) c.in-Item.is c.next.ensures in record {
      progress = stepped c.args.options.now c.args.dump.now c.loop-record.cutter c.loop-record.filter
          (g.S.Sink.taken c.args.sink.now) (g.S.Sink.taken c.loop-record.sink)
          c.loop-record.written c.loop-record.invariant.progress c.in-Item.record c.next.new.self c.step.new.self c.in-Ok.piece (g.S.Sink.taken c.send.new.sink) c.in-Ok-send.count
          step (subst (λ (r : Record). Accepts c.loop-record.filter
          (record_item r) c.in-Ok.piece) c.of.ensures.item c.in-Ok.ensures.piece)
          (subst (λ (r : Record). c.step.new.self ≡ record c.loop-record.filter {
            last = Some (record { dump = record_dump r; number = record_number r });
          }) c.of.ensures.item c.in-Ok.ensures.accepted)
          c.in-Ok-send.ensures.sent;
      failures = c.in-Ok-send.ensures.no_failure ∙ c.loop-record.invariant.failures;
      through = c.send.ensures.through ∙ c.loop-record.invariant.through;
    }

pub loop-record-smaller : goal.loop-record-smaller
loop-record-smaller g c =
    let step = subst (λ (x : Cut). CutStep c.loop-record.cutter x c.next.new.self) c.in-Item.is c.next.ensures in
    smaller c.args.options.now c.args.dump.now c.loop-record.cutter c.loop-record.filter
    (g.S.Sink.taken c.args.sink.now) (g.S.Sink.taken c.loop-record.sink)
    c.loop-record.written c.loop-record.invariant.progress c.in-Item.record c.next.new.self step
