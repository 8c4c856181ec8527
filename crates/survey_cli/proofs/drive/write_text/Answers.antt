use Rattle.dump_writer.specs.steps.SinkStates.{lent_taken}
use Rattle.survey_cli.proofs.DriveLemmas.{at_err, front_broke_off, map_broke_off, text_written}
use Rattle.survey_cli.proofs.drive.write_text.Goals as goal

pub returns-in_err-found-clause-part : goal.returns-in_err-found-clause-part
returns-in_err-found-clause-part g c =
    at_err c.from_residual.result (front_broke_off c.args.call.now c.args.dump.now (lent_taken c.args.sink.now)
    (lent_taken c.write_front.new.sink) c.in_err-found.ensures.part)

pub returns-in_err-write_asked_map-clause-part : goal.returns-in_err-write_asked_map-clause-part
returns-in_err-write_asked_map-clause-part g c =
    at_err c.from_residual-in_err-write_asked_map.result (map_broke_off c.args.call.now c.args.dump.now
    (lent_taken c.args.sink.now) (lent_taken c.write_front.new.sink) (lent_taken c.write_asked_map.new.sink)
    c.in_ok-found.found c.in_ok-found.ensures.whole c.in_err-write_asked_map.ensures.part)

pub returns-clause-whole : goal.returns-clause-whole
returns-clause-whole g c =
    text_written c.args.call.now c.args.dump.now (lent_taken c.args.sink.now) (lent_taken c.write_front.new.sink)
    (lent_taken c.write_asked_map.new.sink) c.in_ok-found.found c.in_ok-found.ensures.whole
    c.in_ok-write_asked_map.ensures.whole
