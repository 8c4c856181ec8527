use Rattle.survey_cli.proofs.Prelude.{◌≡◌, rules, IfSome, Arrives}
use Rattle.survey_cli.proofs.DriveLemmas.{surveys_input}
use Rattle.survey_cli.proofs.drive.survey_input.Goals as goal

pub returns : goal.returns
returns g c =
    let old = g.W.Write.contents c.args.writer.now in
    let new = g.W.Write.contents c.writer-1.given.0 in
    let whole : IfSome (g.R.Read.remaining c.args.reader.now) (λ left. c.as_slice.result.now ≡ left) = search rules in
    let arrives : Arrives c.args.call.now c.as_slice.result.now old new c.survey_and_flush-answer.result =
    search rules in
    surveys_input c.args.call.now (g.R.Read.remaining c.args.reader.now) c.as_slice.result.now old new
    c.survey_and_flush-answer.result c.tell.result whole arrives c.tell.ensures
