use Rattle.dump_writer.specs.steps.SinkStates.{lent_taken}
use Rattle.survey_cli.proofs.DriveLemmas.{at_err, lines_broke_off, survey_broke_off, whole_written}
use Rattle.survey_cli.proofs.drive.write_front.Goals as goal

pub returns-in_err-found-clause-part : goal.returns-in_err-found-clause-part
returns-in_err-found-clause-part g c =
    at_err c.from_residual.result (survey_broke_off c.args.options.now c.args.dump.now
    (lent_taken c.args.sink.now) (lent_taken c.write_survey.new.sink) c.in_err-found.ensures.part)

pub returns-in_err-write_advice-clause-part : goal.returns-in_err-write_advice-clause-part
returns-in_err-write_advice-clause-part g c =
    at_err c.from_residual-in_err-write_advice.result (lines_broke_off c.args.options.now c.args.dump.now
    (lent_taken c.args.sink.now) (lent_taken c.write_survey.new.sink) (lent_taken c.write_advice.new.sink)
    c.in_ok-found.found c.in_ok-found.ensures.whole c.in_err-write_advice.ensures.part)

pub returns-clause-whole : goal.returns-clause-whole
returns-clause-whole g c =
    whole_written c.args.options.now c.args.dump.now (lent_taken c.args.sink.now) (lent_taken c.write_survey.new.sink)
    (lent_taken c.write_advice.new.sink) c.in_ok-found.found c.in_ok-found.ensures.whole
    c.in_ok-write_advice.ensures.whole
