use Rattle.cli_support.proofs.Prelude.{◌≡◌, ◌∙◌, ap, map, subst, sym, List, Some, Ok, Err, call_of_side, filter_command, side_in, ReadsLine, Words}
use Rattle.clap.specs.Words.{takes, Text, found_of, is_simple_and_free, rows_of}
use Rattle.cli_support.proofs.FilterLemmas.{filled, free, never_words}
use Rattle.cli_support.proofs.LineLemmas.{lawful_is_read, line_answers, refusal_answers, second_holds}
use Rattle.cli_support.proofs.filter_call.read_filter_call.Goals as goal

pub read_call-requires : goal.read_call-requires
read_call-requires c = filled c.in-Ok.command c.in-Ok-read_line.matches c.in-Ok.ensures c.in-Ok-read_line.ensures.parsed

pub returns-in-Ok-read_line-clause-meaning : goal.returns-in-Ok-read_line-clause-meaning
returns-in-Ok-read_line-clause-meaning c =
    let line : List Text = map (λ w. w.now) c.args.line.now in
    let named : side_in line ≡ Some c.in-Some.side = sym c.side_in.ensures ∙ c.in-Some.is in
    let reads : ReadsLine filter_command line (Ok c.in-Ok-read_line.matches) =
    subst (ReadsLine filter_command line) c.in-Ok-read_line.is
    (subst (λ a. ReadsLine a line c.read_line.result) c.in-Ok.ensures
    (c.read_line.ensures.read (ap is_simple_and_free c.in-Ok.ensures ∙ free))) in
    line_answers filter_command call_of_side (λ call. call) line c.in-Some.side named c.in-Ok-read_line.matches
    c.read_call.result reads c.read_call.ensures.meaning

pub returns-in-Ok-read_line-clause-lawful : goal.returns-in-Ok-read_line-clause-lawful
returns-in-Ok-read_line-clause-lawful c lawful is =
    never_words c.in-Some.side (rows_of (found_of c.in-Ok-read_line.matches)) c.read_call.result
    c.read_call.ensures.meaning is

pub returns-in-Ok-read_line-clause-takes : goal.returns-in-Ok-read_line-clause-takes
returns-in-Ok-read_line-clause-takes c taken is =
    never_words c.in-Some.side (rows_of (found_of c.in-Ok-read_line.matches)) c.read_call.result
    c.read_call.ensures.meaning is

pub returns-in-Err-clause-meaning : goal.returns-in-Err-clause-meaning
returns-in-Err-clause-meaning c =
    let line : List Text = map (λ w. w.now) c.args.line.now in
    let named : side_in line ≡ Some c.in-Some.side = sym c.side_in.ensures ∙ c.in-Some.is in
    let reads : ReadsLine filter_command line (Err c.in-Err.usage) =
    subst (ReadsLine filter_command line) c.in-Err.is
    (subst (λ a. ReadsLine a line c.read_line.result) c.in-Ok.ensures
    (c.read_line.ensures.read (ap is_simple_and_free c.in-Ok.ensures ∙ free))) in
    refusal_answers filter_command call_of_side (λ call. call) line c.in-Some.side named c.in-Err.usage reads

pub returns-in-Err-clause-lawful : goal.returns-in-Err-clause-lawful
returns-in-Err-clause-lawful c lawful is =
    let line : List Text = map (λ w. w.now) c.args.line.now in
    let reads : ReadsLine filter_command line (Err c.in-Err.usage) =
    subst (ReadsLine filter_command line) c.in-Err.is
    (subst (λ a. ReadsLine a line c.read_line.result) c.in-Ok.ensures
    (c.read_line.ensures.read (ap is_simple_and_free c.in-Ok.ensures ∙ free))) in
    let words : c.in-Err.usage ≡ Words = cc in
    lawful_is_read filter_command line c.in-Err.usage reads (second_holds _ _ lawful) words

pub returns-in-Err-clause-takes : goal.returns-in-Err-clause-takes
returns-in-Err-clause-takes c taken is =
    let line : List Text = map (λ w. w.now) c.args.line.now in
    let words : c.read_line.result ≡ Err Words = cc in
    c.read_line.ensures.takes (ap (λ a. takes a line) c.in-Ok.ensures ∙ second_holds _ _ taken) words
