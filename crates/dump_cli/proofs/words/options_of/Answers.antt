use Rattle.dump_cli.proofs.Prelude.{◌≡◌, ◌∙◌, AnswersTo, Bor, Err, FilterCall, List, Ok, Words, ap, drop, map, subst, sym}
use Rattle.clap.specs.Words.{Text}
use Rattle.cli_support.specs.Arguments.{Answers}
use Rattle.cli_support.specs.FilterCalls.{filter_call_of}
use Rattle.cli_support.specs.FilterCommand.{filter_command}
use Rattle.cli_support.specs.steps.LineReading.{is_line_of, is_line_taken_by}
use Rattle.dump_cli.proofs.WordLemmas.{rejected_alike}
use Rattle.dump_cli.proofs.words.options_of.Goals as goal

pub returns-in-Ok-clause-meaning : goal.returns-in-Ok-clause-meaning
returns-in-Ok-clause-meaning c =
    let line : List Text = map (λ w. w.now) c.in-Some.line.now in
    let behind : drop 1 (map (λ w. w.now) c.args.words.now) ≡ line =
    ap (λ (ws : List (Bor Text)). drop 1 (map (λ w. w.now) ws)) c.in-Some.ensures.cases.0 in
    ap filter_call_of behind
    ∙ subst (Answers (λ (call : FilterCall). call) (filter_call_of line)) c.in-Ok.is c.read_filter_call.ensures.meaning
    ∙ ap Ok (sym c.order_of.ensures)

pub returns-in-Err-clause-meaning : goal.returns-in-Err-clause-meaning
returns-in-Err-clause-meaning c =
    let line : List Text = map (λ w. w.now) c.in-Some.line.now in
    let behind : drop 1 (map (λ w. w.now) c.args.words.now) ≡ line =
    ap (λ (ws : List (Bor Text)). drop 1 (map (λ w. w.now) ws)) c.in-Some.ensures.cases.0 in
    subst (λ l. AnswersTo (filter_call_of l) (Err c.in-Err.usage)) (sym behind)
    (rejected_alike (filter_call_of line) c.in-Err.usage
    (subst (Answers (λ (call : FilterCall). call) (filter_call_of line)) c.in-Err.is c.read_filter_call.ensures.meaning))

pub returns-in-Err-clause-lawful : goal.returns-in-Err-clause-lawful
returns-in-Err-clause-lawful c lawful is =
    let line : List Text = map (λ w. w.now) c.in-Some.line.now in
    let behind : drop 1 (map (λ w. w.now) c.args.words.now) ≡ line =
    ap (λ (ws : List (Bor Text)). drop 1 (map (λ w. w.now) ws)) c.in-Some.ensures.cases.0 in
    let words : c.in-Err.usage ≡ Words = cc in
    c.read_filter_call.ensures.lawful (ap (is_line_of filter_command) (sym behind) ∙ lawful) (c.in-Err.is ∙ ap Err words)

pub returns-in-Err-clause-takes : goal.returns-in-Err-clause-takes
returns-in-Err-clause-takes c taken is =
    let line : List Text = map (λ w. w.now) c.in-Some.line.now in
    let behind : drop 1 (map (λ w. w.now) c.args.words.now) ≡ line =
    ap (λ (ws : List (Bor Text)). drop 1 (map (λ w. w.now) ws)) c.in-Some.ensures.cases.0 in
    let words : c.in-Err.usage ≡ Words = cc in
    c.read_filter_call.ensures.takes (ap (is_line_taken_by filter_command) (sym behind) ∙ taken) (c.in-Err.is ∙ ap Err words)
