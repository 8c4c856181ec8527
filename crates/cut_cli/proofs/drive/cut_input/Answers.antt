use Rattle.std.proofs.Common.{◌≡◌, IfSome, rules}
use Rattle.cut_cli.specs.steps.Words.{cut_meaning}
use Rattle.cut_cli.proofs.CutLemmas.{input_cut}
use Rattle.cut_cli.proofs.drive.cut_input.Goals as goal

pub returns-in-Ok : goal.returns-in-Ok
returns-in-Ok g c =
    let input = g.R.Read.remaining c.args.reader.now in
    let whole : IfSome input (λ left. c.as_slice.result.now ≡ left) = search rules in
    input_cut (cut_meaning c.args.call.now) input c.as_slice.result.now _ _ _ _ c.cut.result whole c.cut.ensures
