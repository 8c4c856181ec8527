use Rattle.dump_pipeline.proofs.Prelude.{◌∙◌, ◌+◌, ◌++◌, ap, sym, subst, refl, Err, FaultKind, Record, record_number, done_record, FilterState, HasFiltered, IsEndOf}
use Rattle.dump_pipeline.specs.declared.stage.End.TheVariants as ends
use Rattle.dump_pipeline.proofs.Released.{steps, record_fault, memory, record_is}
use Rattle.dump_pipeline.proofs.sequence.filter_record.Goals as goal

pub returns-in-Ok-clause-piece : goal.returns-in-Ok-clause-piece
returns-in-Ok-clause-piece g c =
    let r : Record = done_record c.args.done in λ text h.
    subst (λ (f : FilterState). HasFiltered g.D.Run.settings g.D.Run.dump f (record_number r + 1)
    (text ++ c.in-Ok.piece)) (sym c.in-Ok.ensures.accepted)
    (steps g.D.Run.settings g.D.Run.dump c.args.filter.now
    (record_number r) text c.in-Ok.piece r h c.requires.dump refl
    (record_is g.D.Run.dump r c.requires.dump) c.in-Ok.ensures.piece)

pub returns-in-Err-Rule-clause-end : goal.returns-in-Err-Rule-clause-end
returns-in-Err-Rule-clause-end g c =
    let kind = c.in-Err-Rule.kind in λ text h.
    subst (λ (k : FaultKind). IsEndOf g.D.Run.settings g.D.Run.dump (ends.Fault k c.number.result c.place.result) text)
    (sym c.in-Err-Rule.kind-is)
    (record_fault g.D.Run.settings g.D.Run.dump c.args.filter.now c.number.result c.place.result text
    (done_record c.args.done) c.item-record.result kind
    c.requires.dump c.item-record.ensures c.number.ensures c.place.ensures
    ((c.step.ensures.rule kind).0 (c.in-Err-Rule.is ∙ ap Err c.in-Err-Rule.field-0-is)).1 h)

pub returns-in-Err-Memory-clause-end : goal.returns-in-Err-Memory-clause-end
returns-in-Err-Memory-clause-end g c = λ text h.
    memory g.D.Run.settings g.D.Run.dump c.args.filter.now (record_number (done_record c.args.done)) text h
