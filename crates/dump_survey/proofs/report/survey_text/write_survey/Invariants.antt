use Rattle.std.proofs.Common.{◌≡◌, ◌-◌, length}
use Rattle.dump_survey.proofs.WritingLemmas.{HasWritten}
use Rattle.dump_survey.proofs.report.survey_text.write_survey.Given as goal

abbrev pub invariant-loop-surveyor : goal.invariant-loop-surveyor
invariant-loop-surveyor g l = record {
  written : HasWritten l.options l.dump l.surveyor (g.S.Sink.taken l.initial.sink) (g.S.Sink.taken l.sink) l.found l.count l.counts;
  failures : g.S.Sink.failure_count l.sink ≡ g.S.Sink.failure_count l.initial.sink;
  through : g.S.Sink.through l.sink ≡ g.S.Sink.through l.initial.sink;
}

abbrev pub decreases-loop-surveyor : goal.decreases-loop-surveyor
decreases-loop-surveyor g l = length l.dump - l.surveyor.number
