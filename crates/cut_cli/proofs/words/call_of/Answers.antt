use Rattle.std.proofs.Common.{◌≡◌, ◌∙◌, List, Some, Ok, Err, ap, drop, map, subst, sym}
use Rattle.std.specs.Borrow.{Bor}
use Rattle.clap.specs.Words.{Text, is_simple_and_free}
use Rattle.cli_support.proofs.LineLemmas.{line_answers, refusal_answers}
use Rattle.cli_support.specs.Arguments.{meaning_in, side_in}
use Rattle.cli_support.specs.steps.LineReading.{ReadsLine}
use Rattle.cut_cli.specs.CommandLine.{cut_command}
use Rattle.cut_cli.specs.Words.{cut_of_side}
use Rattle.cut_cli.specs.steps.Words.{TellsCut, cut_meaning}
use Rattle.cut_cli.proofs.CommandLemmas.{filled, free}
use Rattle.cut_cli.proofs.words.call_of.Goals as goal

pub read_call-requires : goal.read_call-requires
read_call-requires g c = filled c.in-Ok.command c.in-Ok-read_named.matches c.in-Ok.ensures c.in-Ok-read_named.ensures.parsed

pub returns-in-Ok-read_named : goal.returns-in-Ok-read_named
returns-in-Ok-read_named g c =
    let line : List Text = map (λ w. w.now) c.in-Some.line.now in
    let behind : drop 1 (map (λ w. w.now) c.args.words.now) ≡ line =
    ap (λ (ws : List (Bor Text)). drop 1 (map (λ w. w.now) ws)) c.in-Some.ensures.cases.0 in
    let named : side_in line ≡ Some c.in-Some-side_in.side = sym c.side_in.ensures ∙ c.in-Some-side_in.is in
    let reads : ReadsLine cut_command line (Ok c.in-Ok-read_named.matches) =
    subst (ReadsLine cut_command line) c.in-Ok-read_named.is
    (subst (λ a. ReadsLine a line c.read_named.result) c.in-Ok.ensures
    (c.read_named.ensures.read (ap is_simple_and_free c.in-Ok.ensures ∙ free))) in
    subst (λ l. TellsCut (meaning_in cut_command cut_of_side l) c.read_call.result) (sym behind)
    (line_answers cut_command cut_of_side cut_meaning line c.in-Some-side_in.side named c.in-Ok-read_named.matches
    c.read_call.result reads c.read_call.ensures)

pub returns-in-Err : goal.returns-in-Err
returns-in-Err g c =
    let line : List Text = map (λ w. w.now) c.in-Some.line.now in
    let behind : drop 1 (map (λ w. w.now) c.args.words.now) ≡ line =
    ap (λ (ws : List (Bor Text)). drop 1 (map (λ w. w.now) ws)) c.in-Some.ensures.cases.0 in
    let named : side_in line ≡ Some c.in-Some-side_in.side = sym c.side_in.ensures ∙ c.in-Some-side_in.is in
    let reads : ReadsLine cut_command line (Err c.in-Err.usage) =
    subst (ReadsLine cut_command line) c.in-Err.is
    (subst (λ a. ReadsLine a line c.read_named.result) c.in-Ok.ensures
    (c.read_named.ensures.read (ap is_simple_and_free c.in-Ok.ensures ∙ free))) in
    subst (λ l. TellsCut (meaning_in cut_command cut_of_side l) (Err c.in-Err.usage)) (sym behind)
    (refusal_answers cut_command cut_of_side cut_meaning line c.in-Some-side_in.side named c.in-Err.usage reads)
