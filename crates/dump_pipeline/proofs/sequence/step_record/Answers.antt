use Rattle.dump_pipeline.proofs.Prelude.{◌+◌, ◌++◌, subst, sym, record_number, done_record, Stage, HasReleased}
use Rattle.dump_pipeline.proofs.Released.{ended_with_nothing}
use Rattle.dump_pipeline.proofs.sequence.step_record.Goals as goal

pub returns-in-Ended : goal.returns-in-Ended
returns-in-Ended g c =
    let number = record_number (done_record c.args.done) in record {
      text = λ text h.
          subst (λ (s : Stage). HasReleased g.D.Run.settings g.D.Run.dump s (number + 1) (text ++ c.new.result))
          (sym c.in-Ended.is)
          (ended_with_nothing g.D.Run.settings g.D.Run.dump c.in-Ended.field-0 text c.new.result c.new.ensures
          (subst (λ (s : Stage). HasReleased g.D.Run.settings g.D.Run.dump s number text) c.in-Ended.is h));
    }

pub returns-in-Ok : goal.returns-in-Ok
returns-in-Ok g c = record {
  text = λ text h. c.in-Ok.ensures.piece text
      (subst (λ (s : Stage). HasReleased g.D.Run.settings g.D.Run.dump s (record_number (done_record c.args.done)) text)
      c.in-Going.is h);
}

pub returns : goal.returns
returns g c = record {
  text = λ text h.
      ended_with_nothing g.D.Run.settings g.D.Run.dump c.in-Err.end text c.new-2.result c.new-2.ensures
      (c.in-Err.ensures.end text
      (subst (λ (s : Stage). HasReleased g.D.Run.settings g.D.Run.dump s (record_number (done_record c.args.done)) text)
      c.in-Going.is h));
}
