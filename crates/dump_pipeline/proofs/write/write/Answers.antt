use Rattle.dump_pipeline.proofs.Prelude.{rules, ℕ, List, ap, sym, subst, ◌∙◌, length, Receiving, receiving, WriterSide, credit_port, NumberedPiece, text_of, HasReceived}
use Rattle.dump_pipeline.proofs.Steps.{len_push, text_more}
use Rattle.dump_pipeline.proofs.write.write.Goals as goal

pub loop-preserved-in-Item : goal.loop-preserved-in-Item
loop-preserved-in-Item g c =
    let old : List NumberedPiece = (receiving c.loop.from).taken in
    let next : NumberedPiece = c.in-Item.next in
    let took = ap (λ (x : Receiving NumberedPiece). x.taken) c.in-Item.ensures.1 in
    record {
      pool = search rules;
      window = search rules;
      back = len_push (credit_port c.loop.port).back (credit_port c.back.new.self).back old next
          (ap (λ (x : WriterSide). x.back) c.back.ensures) c.loop.invariant.back
          ∙ sym (ap (λ (l : List NumberedPiece). length l) took);
      lane = search rules;
      seat = search rules;
      text = subst (λ (t : List ℕ). HasReceived c.write_one.result.0 t (g.S.Sink.taken c.args.sink.now)
          (g.S.Sink.taken c.write_one.new.sink) c.write_one.result.1)
          (sym (ap text_of took ∙ text_more old next))
          (c.write_one.ensures.text (text_of old) (g.S.Sink.taken c.args.sink.now) c.loop.invariant.text);
      failures = search rules;
      through = search rules;
    }
