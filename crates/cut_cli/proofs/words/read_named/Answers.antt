use Rattle.std.proofs.Common.{List, map}
use Rattle.clap.specs.Words.{Text, app_of}
use Rattle.cli_support.proofs.LineLemmas.{refusal_reads, simple_of_free}
use Rattle.cut_cli.proofs.words.read_named.Goals as goal

pub returns-in-Ok-clause-read : goal.returns-in-Ok-clause-read
returns-in-Ok-clause-read g c free =
    (c.in-Ok.ensures.kinds free, (c.in-Ok.ensures.matches (simple_of_free (app_of c.args.command) free)).0)

pub returns-in-Err-clause-read : goal.returns-in-Err-clause-read
returns-in-Err-clause-read g c free =
    let line : List Text = map (λ w. w.now) c.args.line.now in
    refusal_reads (app_of c.args.command) line c.in-Err.error c.refusal.result (c.in-Err.ensures.kinds free)
    c.refusal.ensures.memory c.refusal.ensures.either
