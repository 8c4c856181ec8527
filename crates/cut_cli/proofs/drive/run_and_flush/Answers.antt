use Rattle.std.proofs.Common.{◌≡◌, List, [], ℕ, rules, subst}
use Rattle.std.specs.Io.KnownBytes.{append_known}
use Rattle.dump_pipeline.specs.RunAnswer.{RunLeaves}
use Rattle.dump_writer.specs.steps.SinkStates.{lent_taken}
use Rattle.cut_cli.proofs.DriveLemmas.{ran_and_told}
use Rattle.cut_cli.proofs.drive.run_and_flush.Goals as goal

pub returns-clause-ran : goal.returns-clause-ran
returns-clause-ran g c =
    let first = c.args.sink.now in
    let run = c.run-answer.new.sink in
    let ended = c.write_ending-ending.new.sink in
    let last = c.flush_after.new.sink in
    let ran : RunLeaves c.args.options.now c.args.dump.now (append_known first.out.taken []) (lent_taken run)
    c.run-answer.result =
    subst (λ (w : List ℕ). RunLeaves c.args.options.now c.args.dump.now (append_known first.out.taken w)
    (lent_taken run) c.run-answer.result)
    c.requires.waiting c.run-answer.ensures.answer in
    let start : last.out.start ≡ first.out.taken = search rules in
    ran_and_told c.args.options.now c.args.dump.now c.run-answer.result first.out.taken (lent_taken run)
    (lent_taken ended) last ran c.flush_after.ensures.taken start c.write_ending-ending.result c.flush_after.result
    c.write_ending-ending.ensures.whole c.write_ending-ending.ensures.part c.flush_after.ensures.told
