use Rattle.std.proofs.Common.{◌≡◌, ◌++◌, [], rules, sym}
use Rattle.std.proofs.lemmas.List.{append-nil}
use Rattle.dump_pipeline.specs.declared.answer.Answer.TheVariants.{Clean}
use Rattle.dump_writer.specs.steps.SinkStates.{lent_taken}
use Rattle.cut_cli.proofs.DriveLemmas.{moved_part, moved_whole, told_after}
use Rattle.cut_cli.proofs.memory.send_piece.Goals as goal

pub returns-clause-sent : goal.returns-clause-sent
returns-clause-sent g c =
    let first = c.args.sink.now in
    let piece = c.args.piece.now in
    let written = lent_taken c.write_whole-ending.new.sink in
    let last = c.flush_after.new.sink in
    let start : last.out.start ≡ first.out.taken = search rules in
    let same = sym (append-nil piece) in
    told_after (Clean c.args.report) piece first.out.taken written last c.flush_after.ensures.taken start
    c.write_whole-ending.result c.flush_after.result
    (moved_whole c.write_whole-ending.result first.out.taken written first.waiting piece (piece ++ []) c.requires.waiting same
    c.write_whole-ending.ensures.whole)
    (moved_part c.write_whole-ending.result first.out.taken written first.waiting piece (piece ++ []) c.requires.waiting same
    c.write_whole-ending.ensures.part)
    c.flush_after.ensures.told
