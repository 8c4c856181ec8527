use Rattle.dump_pipeline.proofs.Prelude.{rules, refl, sym, ap, arith, subst, ◌≡◌, ◌∙◌, ◌++◌, ◌∷◌, [], ℕ, List, length, true, false, Sending, sending, done_port, slot_places, Checked, NumberedPiece, LaneIn, checked_number, piece_numbers, text_of, HasReleased, HasSequenced}
use Rattle.dump_pipeline.proofs.Released.{begins_with}
use Rattle.dump_pipeline.proofs.Steps.{row_first, sequenced_so, text_released, count_released, numbers_released, ended_so, numbers_at_first}
use Rattle.dump_pipeline.proofs.sequence.release_all.Goals as goal

pub loop-init : goal.loop-init
loop-init g c = record {
  pool = refl;
  lane = refl;
  seat = search rules;
  text = begins_with g.D.Run.settings c.args.options.now g.D.Run.dump c.new.result
      (sending c.args.ends.now.to).put c.requires.options c.new.ensures c.requires.fresh.nothing_put;
  numbered = numbers_at_first (sending c.args.ends.now.to).put c.requires.fresh.nothing_put;
  count = ap (λ (l : List NumberedPiece). length l) c.requires.fresh.nothing_put;
  row = row_first (done_port c.args.ends.now.port).taken
      (slot_places c.args.ends.now.slots) c.requires.fresh.nothing_taken c.requires.fresh.empty;
}

pub loop-preserved-in-Later : goal.loop-preserved-in-Later
loop-preserved-in-Later g c =
    let places = slot_places c.args.ends.now.slots in
    record {
      pool = c.find_next.ensures.pool ∙ c.loop.invariant.pool;
      lane = ap (λ (to : LaneIn NumberedPiece). (sending to).lane) c.find_next.ensures.lane ∙ c.loop.invariant.lane;
      seat = c.find_next.ensures.seat ∙ c.loop.invariant.seat;
      text = subst (λ (to : LaneIn NumberedPiece). HasReleased g.D.Run.settings g.D.Run.dump c.loop.stage c.loop.next (text_of (sending to).put))
          (sym c.find_next.ensures.lane) c.loop.invariant.text;
      numbered = ap (λ (to : LaneIn NumberedPiece). piece_numbers (sending to).put) c.find_next.ensures.lane
          ∙ c.loop.invariant.numbered;
      count = ap (λ (to : LaneIn NumberedPiece). length (sending to).put) c.find_next.ensures.lane ∙ c.loop.invariant.count;
      row = c.in-Later.ensures.found (length places) c.loop.invariant.row;
    }

pub returns-in-Stray-clause-sequenced : goal.returns-in-Stray-clause-sequenced
returns-in-Stray-clause-sequenced g c =
    let E : Type 0 = Checked g.row.D.Denot g.D.Run in
    let w : ℕ = length (slot_places c.args.ends.now.slots) in
    let taken : List E = (done_port c.find_next.new.ends.port).taken in
    subst
    (λ (to : LaneIn NumberedPiece). HasSequenced g.D.Run.settings g.D.Run.dump w taken (sending to).put c.end.result true)
    (sym c.find_next.ensures.lane)
    (sequenced_so g.D.Run.settings g.D.Run.dump w c.loop.next taken (sending c.loop.ends.to).put c.end.result true
    (ended_so g.D.Run.settings g.D.Run.dump c.loop.stage c.end.result c.loop.next
    (text_of (sending c.loop.ends.to).put) c.end.ensures c.loop.invariant.text)
    c.loop.invariant.numbered c.loop.invariant.count (c.in-Stray.ensures.found w c.loop.invariant.row))

pub returns-in-NoMore-clause-sequenced : goal.returns-in-NoMore-clause-sequenced
returns-in-NoMore-clause-sequenced g c =
    let E : Type 0 = Checked g.row.D.Denot g.D.Run in
    let w : ℕ = length (slot_places c.args.ends.now.slots) in
    let taken : List E = (done_port c.find_next.new.ends.port).taken in
    subst
    (λ (to : LaneIn NumberedPiece). HasSequenced g.D.Run.settings g.D.Run.dump w taken (sending to).put c.end-in-NoMore.result false)
    (sym c.find_next.ensures.lane)
    (sequenced_so g.D.Run.settings g.D.Run.dump w c.loop.next taken (sending c.loop.ends.to).put c.end-in-NoMore.result
    false
    (ended_so g.D.Run.settings g.D.Run.dump c.loop.stage c.end-in-NoMore.result c.loop.next
    (text_of (sending c.loop.ends.to).put) c.end-in-NoMore.ensures c.loop.invariant.text)
    c.loop.invariant.numbered c.loop.invariant.count (c.in-NoMore.ensures.found w c.loop.invariant.row).0)

pub returns-in-NoMore-clause-ended : goal.returns-in-NoMore-clause-ended
returns-in-NoMore-clause-ended g c = λ _.
    (c.in-NoMore.ensures.found (length (slot_places c.args.ends.now.slots)) c.loop.invariant.row).1

pub step-piece-requires-clause-released : goal.step-piece-requires-clause-released
step-piece-requires-clause-released g c =
    let found = c.in-Next.ensures.found (length (slot_places c.args.ends.now.slots)) c.loop.invariant.row in (
      text_of (sending c.loop.ends.to).put,
      subst (λ (n : ℕ). HasReleased g.D.Run.settings g.D.Run.dump c.loop.stage n (text_of (sending c.loop.ends.to).put))
          (sym found.0) c.loop.invariant.text,
    )

pub overflow_add-next : goal.overflow_add-next
overflow_add-next g c =
    let found = c.in-Next.ensures.found (length (slot_places c.args.ends.now.slots)) c.loop.invariant.row in
    let counted = found.1 in omega arith

pub loop-preserved : goal.loop-preserved
loop-preserved g c =
    let w : ℕ = length (slot_places c.args.ends.now.slots) in
    let next : ℕ = c.loop.next in
    let found = c.in-Next.ensures.found w c.loop.invariant.row in
    let released = subst
    (λ (to : LaneIn NumberedPiece). sending c.release.new.to ≡ record (sending to) { put = (sending to).put ++ c.step-piece.result ∷ [] })
    c.find_next.ensures.lane c.release.ensures in
    record {
      pool = c.find_next.ensures.pool ∙ c.loop.invariant.pool;
      lane = ap (λ (x : Sending NumberedPiece). x.lane) released ∙ c.loop.invariant.lane;
      seat = search rules;
      text = text_released g.D.Run.settings g.D.Run.dump c.step-piece.new.stage next (checked_number c.in-Next.checked)
          (sending c.loop.ends.to) (sending c.release.new.to) c.step-piece.result released found.0
          (c.step-piece.ensures.text (text_of (sending c.loop.ends.to).put)
          (subst (λ (n : ℕ). HasReleased g.D.Run.settings g.D.Run.dump c.loop.stage n (text_of (sending c.loop.ends.to).put))
          (sym found.0) c.loop.invariant.text));
      numbered = numbers_released next (sending c.loop.ends.to) (sending c.release.new.to) c.step-piece.result
          released (c.step-piece.ensures.number ∙ found.0) c.loop.invariant.numbered;
      count = count_released next (sending c.loop.ends.to) (sending c.release.new.to) c.step-piece.result released
          c.loop.invariant.count;
      row = found.2;
    }
