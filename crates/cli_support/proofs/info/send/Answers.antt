use Rattle.std.proofs.Common.{◌≡◌, List, [], ℕ, rules, subst}
use Rattle.std.specs.Io.KnownBytes.{GrowsBy, append_known}
use Rattle.dump_writer.specs.steps.SinkStates.{lent_taken}
use Rattle.cli_support.proofs.OutputLemmas.{sent_some, some_sent}
use Rattle.cli_support.proofs.info.send.Goals as goal
use Rattle.dump_writer.specs.SinkWords.{TakesPart}

pub returns-clause-part : goal.returns-clause-part
returns-clause-part g c =
    let first = c.args.sink.now in
    let after = c.write_piece.new.sink in
    let last = c.finish.new.sink in
    let sent : TakesPart (lent_taken first) (lent_taken after) c.args.text.now =
    sent_some (lent_taken first) (lent_taken after) _ c.args.text.now (λ e. e.written) c.write_piece.result
    c.write_piece.ensures.whole c.write_piece.ensures.cut (search rules) in
    let some : TakesPart (append_known first.out.taken []) (lent_taken after) c.args.text.now =
    subst (λ (w : List ℕ). TakesPart (append_known first.out.taken w) (lent_taken after) c.args.text.now)
    c.requires.waiting sent in
    let start : last.out.start ≡ first.out.taken = search rules in
    let grown : GrowsBy first.out.taken last.out.taken c.in-Err.field-0 =
    subst (λ s. GrowsBy s last.out.taken c.in-Err.field-0) start c.in-Err.ensures.counted.1 in
    some_sent first.out.taken (lent_taken after) last c.args.text.now c.in-Err.field-0 some c.finish.ensures.taken grown
