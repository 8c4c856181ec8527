use Rattle.dump_pipeline.specs.declared.stage.End.TheVariants as ends
use Rattle.dump_pipeline.proofs.Released.{memory, ended_with_nothing, last_fault, last_end}
use Rattle.dump_pipeline.proofs.sequence.filter_end.Goals as goal

pub returns-in-Some : goal.returns-in-Some
returns-in-Some g c = record {
  text = λ text h.
      ended_with_nothing g.D.Run.settings g.D.Run.dump
      (ends.Fault c.in-Some.kind c.args.number c.in-Some.place) text c.new.result c.new.ensures
      (last_fault g.D.Run.settings g.D.Run.dump c.args.filter c.args.number c.in-Some.place text c.in-Some.kind c.args.last c.in-Some.is c.requires.ends h);
}

pub returns-in-Ok : goal.returns-in-Ok
returns-in-Ok g c = record {
  text = λ text h.
      last_end g.D.Run.settings g.D.Run.dump c.args.filter c.args.number text c.in-Ok.piece c.in-Ok.report c.args.last c.in_default.is c.requires.ends h
      c.in-Ok.ensures.piece c.in-Ok.ensures.report;
}

pub returns-in-Err : goal.returns-in-Err
returns-in-Err g c = record {
  text = λ text h.
      ended_with_nothing g.D.Run.settings g.D.Run.dump ends.Memory text c.new-in-Err.result c.new-in-Err.ensures
      (memory g.D.Run.settings g.D.Run.dump c.args.filter c.args.number text h);
}
