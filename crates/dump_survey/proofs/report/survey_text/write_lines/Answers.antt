use Rattle.dump_survey.proofs.Prelude.{◌≡◌, ◌++◌, ◌∙◌, take, drop, ap, sym, subst, Appends}
use Rattle.std.proofs.lemmas.List.{take-append-drop}
use Rattle.dump_survey.proofs.report.survey_text.write_lines.Goals as goal

pub returns-clause-part : goal.returns-clause-part
returns-clause-part g c =
    let cut = c.in-Err.ensures.cut in
    let text : c.push.new.self ≡ c.args.lines.items =
    c.in_ok-push.ensures.ok ∙ ap (λ l. l ++ c.args.lines.items) c.new-piece.ensures in (
      take cut.0 c.args.lines.items,
      (drop cut.0 c.args.lines.items, sym (take-append-drop cut.0 c.args.lines.items)),
      subst (λ t. Appends (g.S.Sink.taken c.args.sink.now) (g.S.Sink.taken c.write_piece.new.sink) (take cut.0 t))
          text cut.2,
    )
