use Rattle.dump_pipeline.proofs.Prelude.{◌∙◌, ℕ, Bool, List, length, sym, ap, subst, Sending, sending, done_port, slot_places, Checked, Job, NumberedPiece, SequencerEnds, HasSequenced}
use Rattle.dump_pipeline.proofs.Steps.{sequenced_more}
use Rattle.dump_pipeline.proofs.sequence.sequence.Goals as goal
use Rattle.dump_pipeline.proofs.sequence.sequence.Goals.{then-stray, else-stray}

pub returns : goal.returns
returns g c =
    let E : Type 0 = Checked g.row.D.Denot g.D.Run in
    let Ends : Type 0 = SequencerEnds (Job g.row.D.Denot g.D.Run) E NumberedPiece in
    let first = c.release_all-end.ensures in
    let new : Ends = c.release_all-end.new.ends in
    let w : ℕ = length (slot_places c.args.ends.slots) in
    let Has : List E → List NumberedPiece → Type 0 = λ taken put. HasSequenced g.D.Run.settings g.D.Run.dump w taken put
    c.release_all-end.result.0 c.release_all-end.result.1 in
    let Sequenced : Ends → Type 0 = λ ends. Has (done_port ends.port).taken (sending ends.to).put in
    let sequenced : Sequenced c.if-stray.ends = elim c.if-stray.branch [
      | then-stray s ↦ subst Sequenced (sym s.ends-is) (subst
          (λ (b : Bool). HasSequenced g.D.Run.settings g.D.Run.dump w (done_port s.drain.new.port).taken
          (sending new.to).put c.release_all-end.result.0 b) (sym s.if-stray.true)
          (sequenced_more g.D.Run.settings g.D.Run.dump w (done_port new.port).taken (done_port s.drain.new.port).taken
          (sending new.to).put c.release_all-end.result.0 c.release_all-end.result.1 s.if-stray.true first.sequenced
          s.drain.ensures.more))
      | else-stray s ↦ subst Sequenced (sym s.ends-is) first.sequenced
    ] in
    record {
      pool = elim c.if-stray.branch [
        | then-stray s ↦ ap (λ (ends : Ends). (done_port ends.port).pool) s.ends-is ∙ s.drain.ensures.pool ∙ first.pool
        | else-stray s ↦ ap (λ (ends : Ends). (done_port ends.port).pool) s.ends-is ∙ first.pool
      ];
      ended = elim c.if-stray.branch [
        | then-stray s ↦ ap (λ (ends : Ends). (done_port ends.port).ended) s.ends-is ∙ s.drain.ensures.ended
        | else-stray s ↦ ap (λ (ends : Ends). (done_port ends.port).ended) s.ends-is ∙ first.ended s.if-stray.false
      ];
      lane = ap (λ (s : Sending NumberedPiece). s.lane) c.close.ensures ∙ elim c.if-stray.branch [
        | then-stray s ↦ ap (λ (ends : Ends). (sending ends.to).lane) s.ends-is ∙ first.lane
        | else-stray s ↦ ap (λ (ends : Ends). (sending ends.to).lane) s.ends-is ∙ first.lane
      ];
      seat = elim c.if-stray.branch [
        | then-stray s ↦ ap (λ (ends : Ends). ends.seat) s.ends-is ∙ first.seat
        | else-stray s ↦ ap (λ (ends : Ends). ends.seat) s.ends-is ∙ first.seat
      ];
      sequenced = subst (λ (s : Sending NumberedPiece). Has (done_port c.if-stray.ends.port).taken s.put)
          (sym c.close.ensures) sequenced;
    }
