use Rattle.dump_survey.proofs.Prelude.{◌∙◌, false, not, ◌==◌, List, [], ℕ, Counts, length, map, refl, subst, sym, ap, arith, rules, Appends, HasFailedSince, Step, prefix_view, SurveyStep, Surveying, TakesPart}
use Rattle.dump_survey.proofs.SurveyLemmas.{node_nearer, other_nearer, prefixes_reported}
use Rattle.dump_survey.proofs.WritingLemmas.{at_err, no_error, broken_in_end, broken_in_node, broken_off, node_written, nothing_written, other_written, silent_written, whole_written}
use Rattle.dump_survey.proofs.report.survey_text.write_survey.Goals as goal
use Rattle.dump_survey.proofs.report.survey_text.write_survey.Goals.{then-is_any+in_ok-lines-in-Node+in_ok-found-in-Node, else-is_any}

pub returns-in_err-surveyor-clause-part : goal.returns-in_err-surveyor-clause-part
returns-in_err-surveyor-clause-part g c =
    let taken = g.S.Sink.taken c.args.sink.now in
    let none : Counts = record { times = [] } in
    let start : Surveying = record { dump = c.args.dump.now; settings = c.args.options.now; number = 0 } in
    at_err c.from_residual.result (broken_off c.args.options.now c.args.dump.now start start taken taken
    taken false 0 none (nothing_written c.args.options.now c.args.dump.now start taken none refl (λ f. refl)))

pub loop-surveyor-init : goal.loop-surveyor-init
loop-surveyor-init g c = record {
  written = nothing_written c.args.options.now c.args.dump.now c.in_ok-surveyor.surveyor
      (g.S.Sink.taken c.args.sink.now) c.new-counts.result c.in_ok-surveyor.ensures c.new-counts.ensures;
  failures = refl;
  through = refl;
}

pub returns-in_err-node-clause-part : goal.returns-in_err-node-clause-part
returns-in_err-node-clause-part g c =
    at_err c.from_residual-in_err-node.result (broken_off c.args.options.now c.args.dump.now c.loop-surveyor.surveyor
    c.loop-surveyor.surveyor (g.S.Sink.taken c.args.sink.now) (g.S.Sink.taken c.loop-surveyor.sink)
    (g.S.Sink.taken c.loop-surveyor.sink) c.loop-surveyor.found c.loop-surveyor.count c.loop-surveyor.counts c.loop-surveyor.invariant.written)

pub returns-in_err-lines-in-Node-clause-part : goal.returns-in_err-lines-in-Node-clause-part
returns-in_err-lines-in-Node-clause-part g c =
    at_err c.from_residual-in_err-lines-in-Node.result (broken_off c.args.options.now c.args.dump.now
    c.loop-surveyor.surveyor c.loop-surveyor.surveyor (g.S.Sink.taken c.args.sink.now)
    (g.S.Sink.taken c.loop-surveyor.sink) (g.S.Sink.taken c.loop-surveyor.sink) c.loop-surveyor.found
    c.loop-surveyor.count c.loop-surveyor.counts c.loop-surveyor.invariant.written)

pub returns-in_err-found-in-Node-clause-part : goal.returns-in_err-found-in-Node-clause-part
returns-in_err-found-in-Node-clause-part g c =
    let step = subst (λ (s : Step). SurveyStep c.loop-surveyor.surveyor s c.next.new.self) c.in-Node.is c.in_ok-node.ensures in
    at_err c.from_residual-in_err-found-in-Node.result (broken_in_node c.args.options.now c.args.dump.now
    c.loop-surveyor.surveyor c.next.new.self (g.S.Sink.taken c.args.sink.now) (g.S.Sink.taken c.loop-surveyor.sink)
    (g.S.Sink.taken c.write_lines.new.sink) c.loop-surveyor.found c.loop-surveyor.count c.loop-surveyor.counts
    c.loop-surveyor.invariant.written c.in-Node.node step
    (subst (TakesPart (g.S.Sink.taken c.loop-surveyor.sink) (g.S.Sink.taken c.write_lines.new.sink))
    c.in_ok-lines-in-Node.ensures c.in_err-found-in-Node.ensures.part))

pub returns-in_err-found-in-Node-clause-failed : goal.returns-in_err-found-in-Node-clause-failed
returns-in_err-found-in-Node-clause-failed g c = λ is.
    subst (λ (n : ℕ). HasFailedSince n (g.S.Sink.failure_count c.write_lines.new.sink))
    c.loop-surveyor.invariant.failures (c.in_err-found-in-Node.ensures.failed (search rules))

pub loop-surveyor-smaller-in-Node : goal.loop-surveyor-smaller-in-Node
loop-surveyor-smaller-in-Node g c =
    let step = subst (λ (s : Step). SurveyStep c.loop-surveyor.surveyor s c.next.new.self) c.in-Node.is c.in_ok-node.ensures in
    let written = c.loop-surveyor.invariant.written in
    let near = node_nearer c.args.options.now c.args.dump.now c.loop-surveyor.surveyor c.next.new.self written.reported
    written.have c.in-Node.node step in
    omega (arith, near.0, near.1)

pub loop-surveyor-preserved-in-Node : goal.loop-surveyor-preserved-in-Node
loop-surveyor-preserved-in-Node g c =
    let step = subst (λ (s : Step). SurveyStep c.loop-surveyor.surveyor s c.next.new.self) c.in-Node.is c.in_ok-node.ensures in
    elim c.if-is_any.branch [
      | then-is_any+in_ok-lines-in-Node+in_ok-found-in-Node w ↦ rw (w.sink-is, w.found-is, w.counts-is) record {
        written = node_written c.args.options.now c.args.dump.now c.loop-surveyor.surveyor c.next.new.self
            (g.S.Sink.taken c.args.sink.now) (g.S.Sink.taken c.loop-surveyor.sink) (g.S.Sink.taken w.write_lines.new.sink)
            c.loop-surveyor.found c.loop-surveyor.count c.loop-surveyor.counts c.loop-surveyor.invariant.written
            c.in-Node.node w.in_ok-found-in-Node.field-0 w.with-counts.result step
            (subst (Appends (g.S.Sink.taken c.loop-surveyor.sink) (g.S.Sink.taken w.write_lines.new.sink))
            w.in_ok-lines-in-Node.ensures w.in_ok-found-in-Node.ensures.whole)
            (w.in_ok-found-in-Node.ensures.some
            ∙ ap (λ (l : List ℕ). not (length l == 0)) w.in_ok-lines-in-Node.ensures) w.with-counts.ensures;
        failures = w.in_ok-found-in-Node.ensures.no_failure no_error ∙ c.loop-surveyor.invariant.failures;
        through = w.write_lines.ensures.through ∙ c.loop-surveyor.invariant.through;
      }
      | else-is_any w ↦ rw (w.sink-is, w.found-is, w.counts-is) record {
        written = silent_written c.args.options.now c.args.dump.now c.loop-surveyor.surveyor c.next.new.self
            (g.S.Sink.taken c.args.sink.now) (g.S.Sink.taken c.loop-surveyor.sink) c.loop-surveyor.found
            c.loop-surveyor.count c.loop-surveyor.counts c.loop-surveyor.invariant.written c.in-Node.node step
            (sym c.is_any.ensures ∙ w.if-is_any.false);
        failures = c.loop-surveyor.invariant.failures;
        through = c.loop-surveyor.invariant.through;
      }
    ]

pub overflow_add-count-in-Other : goal.overflow_add-count-in-Other
overflow_add-count-in-Other g c =
    let step = subst (λ (s : Step). SurveyStep c.loop-surveyor.surveyor s c.next.new.self) c.in-Other.is c.in_ok-node.ensures in
    let written = c.loop-surveyor.invariant.written in
    let near = other_nearer c.args.options.now c.args.dump.now c.loop-surveyor.surveyor c.next.new.self written.reported
    written.have step in
    grind (arith, near.0, near.1, written.counted)

pub loop-surveyor-smaller : goal.loop-surveyor-smaller
loop-surveyor-smaller g c =
    let step = subst (λ (s : Step). SurveyStep c.loop-surveyor.surveyor s c.next.new.self) c.in-Other.is c.in_ok-node.ensures in
    let written = c.loop-surveyor.invariant.written in
    let near = other_nearer c.args.options.now c.args.dump.now c.loop-surveyor.surveyor c.next.new.self written.reported
    written.have step in
    omega (arith, near.0, near.1)

pub loop-surveyor-preserved : goal.loop-surveyor-preserved
loop-surveyor-preserved g c =
    let step = subst (λ (s : Step). SurveyStep c.loop-surveyor.surveyor s c.next.new.self) c.in-Other.is c.in_ok-node.ensures in record {
      written = other_written c.args.options.now c.args.dump.now c.loop-surveyor.surveyor c.next.new.self
          (g.S.Sink.taken c.args.sink.now) (g.S.Sink.taken c.loop-surveyor.sink) (g.S.Sink.taken c.loop-surveyor.sink)
          c.loop-surveyor.found c.loop-surveyor.count c.loop-surveyor.counts c.loop-surveyor.invariant.written step;
      failures = c.loop-surveyor.invariant.failures;
      through = c.loop-surveyor.invariant.through;
    }

pub returns-in_err-prefixes-in-Finished-clause-part : goal.returns-in_err-prefixes-in-Finished-clause-part
returns-in_err-prefixes-in-Finished-clause-part g c =
    at_err c.from_residual-in_err-prefixes-in-Finished.result (broken_off c.args.options.now c.args.dump.now
    c.loop-surveyor.surveyor c.loop-surveyor.surveyor (g.S.Sink.taken c.args.sink.now)
    (g.S.Sink.taken c.loop-surveyor.sink) (g.S.Sink.taken c.loop-surveyor.sink) c.loop-surveyor.found
    c.loop-surveyor.count c.loop-surveyor.counts c.loop-surveyor.invariant.written)

pub returns-in_err-lines-in-Finished-clause-part : goal.returns-in_err-lines-in-Finished-clause-part
returns-in_err-lines-in-Finished-clause-part g c =
    at_err c.from_residual-in_err-lines-in-Finished.result (broken_off c.args.options.now c.args.dump.now
    c.loop-surveyor.surveyor c.loop-surveyor.surveyor (g.S.Sink.taken c.args.sink.now)
    (g.S.Sink.taken c.loop-surveyor.sink) (g.S.Sink.taken c.loop-surveyor.sink) c.loop-surveyor.found
    c.loop-surveyor.count c.loop-surveyor.counts c.loop-surveyor.invariant.written)

pub returns-in_err-found-in-Finished-clause-part : goal.returns-in_err-found-in-Finished-clause-part
returns-in_err-found-in-Finished-clause-part g c =
    let step = subst
    (λ (s : Step). SurveyStep c.loop-surveyor.surveyor s c.next.new.self) c.in-Finished.is c.in_ok-node.ensures in
    at_err c.from_residual-in_err-found-in-Finished.result (broken_in_end c.args.options.now c.args.dump.now
    c.loop-surveyor.surveyor c.next.new.self (g.S.Sink.taken c.args.sink.now) (g.S.Sink.taken c.loop-surveyor.sink)
    (g.S.Sink.taken c.write_lines-in-Finished.new.sink) c.loop-surveyor.found c.loop-surveyor.count c.loop-surveyor.counts
    c.loop-surveyor.invariant.written c.in-Finished.end step (map prefix_view c.deref.result.now)
    (ap (map prefix_view) c.deref.ensures.value
    ∙ prefixes_reported c.args.options.now c.args.dump.now c.loop-surveyor.surveyor c.next.new.self
    c.loop-surveyor.invariant.written.reported c.loop-surveyor.invariant.written.have c.in-Finished.end
    (map prefix_view c.in_ok-prefixes-in-Finished.prefixes.items) step c.in_ok-prefixes-in-Finished.ensures)
    c.in_ok-lines-in-Finished.lines.items
    c.in_ok-lines-in-Finished.ensures c.in_err-found-in-Finished.ensures.part)

pub returns-in_err-found-in-Finished-clause-failed : goal.returns-in_err-found-in-Finished-clause-failed
returns-in_err-found-in-Finished-clause-failed g c = λ is.
    subst (λ (n : ℕ). HasFailedSince n (g.S.Sink.failure_count c.write_lines-in-Finished.new.sink))
    c.loop-surveyor.invariant.failures (c.in_err-found-in-Finished.ensures.failed (search rules))

pub returns-in-Finished-clause-whole : goal.returns-in-Finished-clause-whole
returns-in-Finished-clause-whole g c =
    let step = subst
    (λ (s : Step). SurveyStep c.loop-surveyor.surveyor s c.next.new.self) c.in-Finished.is c.in_ok-node.ensures in
    whole_written c.args.options.now c.args.dump.now c.loop-surveyor.surveyor c.next.new.self
    (g.S.Sink.taken c.args.sink.now) (g.S.Sink.taken c.loop-surveyor.sink)
    (g.S.Sink.taken c.write_lines-in-Finished.new.sink) c.loop-surveyor.found c.loop-surveyor.count c.loop-surveyor.counts
    c.loop-surveyor.invariant.written c.in-Finished.end step (map prefix_view c.deref.result.now)
    (ap (map prefix_view) c.deref.ensures.value
    ∙ prefixes_reported c.args.options.now c.args.dump.now c.loop-surveyor.surveyor c.next.new.self
    c.loop-surveyor.invariant.written.reported c.loop-surveyor.invariant.written.have c.in-Finished.end
    (map prefix_view c.in_ok-prefixes-in-Finished.prefixes.items) step c.in_ok-prefixes-in-Finished.ensures)
    c.in_ok-lines-in-Finished.lines.items
    c.in_ok-lines-in-Finished.ensures c.in_ok-found-in-Finished.field-0 c.in_ok-found-in-Finished.ensures.whole
    c.in_ok-found-in-Finished.ensures.some
