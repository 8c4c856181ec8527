use Rattle.dump_pipeline.proofs.Prelude.{◌≡◌, length, first_numbers, Row, sending, done_port, slot_places, checked_number, checked_numbers, piece_numbers, text_of, HasReleased, is_failure, stage_end}
use Rattle.dump_pipeline.proofs.sequence.release_all.Given as goal

abbrev pub invariant-loop : goal.invariant-loop
invariant-loop g l = record {
  pool : (done_port l.ends.port).pool ≡ (done_port l.initial.ends.port).pool;
  lane : (sending l.ends.to).lane ≡ (sending l.initial.ends.to).lane;
  seat : l.ends.seat ≡ record l.initial.ends.seat { raised = is_failure (stage_end l.stage) };
  text : HasReleased g.D.Run.settings g.D.Run.dump l.stage l.next (text_of (sending l.ends.to).put);
  numbered : piece_numbers (sending l.ends.to).put ≡ first_numbers l.next;
  count : length (sending l.ends.to).put ≡ l.next;
  row : Row checked_number (length (slot_places l.initial.ends.slots)) l.next (checked_numbers (done_port l.ends.port).taken)
      (slot_places l.ends.slots);
}
