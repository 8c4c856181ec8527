use Rattle.std.proofs.Common.{◌≡◌, [], Some, inl, refl, rules}
use Rattle.dump_pipeline.specs.RunAnswer.{RunLeaves}
use Rattle.dump_writer.specs.steps.SinkStates.{lent_taken}
use Rattle.cut_cli.specs.Sent.{stop_line_of}
use Rattle.cut_cli.proofs.DriveLemmas.{in_memory, moved_part, moved_whole, nothing_kept, ran_and_sent, told_after}
use Rattle.cut_cli.proofs.memory.run_in_memory.Goals as goal

pub returns-in-Clean-clause-ran : goal.returns-in-Clean-clause-ran
returns-in-Clean-clause-ran g c =
    let ran : RunLeaves c.args.options.now c.args.dump.now (Some []) (Some c.taken.result.now) c.run-answer.result =
    search rules in
    ran_and_sent c.args.deletes.now c.args.after c.taken.result.now c.in-Clean.report c.args.sink.now.out.taken
    c.send_cut.new.sink.out.taken c.send_cut.result c.args.options.now c.args.dump.now c.run-answer.result c.requires.asked ran
    c.in-Clean.is c.send_cut.ensures.sent

pub returns-in-Fault-clause-ran : goal.returns-in-Fault-clause-ran
returns-in-Fault-clause-ran g c =
    let first = c.args.sink.now in
    let answer = c.run-answer.result in
    let filtered = c.run-answer.new.sink.taken in
    let ended = lent_taken c.write_ending-ending.new.sink in
    let last = c.flush_after.new.sink in
    let ran : RunLeaves c.args.options.now c.args.dump.now (Some []) (Some filtered) answer = search rules in
    let start : last.out.start ≡ first.out.taken = search rules in
    let line = stop_line_of answer in
    inl (record {
      answer = answer;
      sent = [];
      answered = in_memory c.args.options.now c.args.deletes.now c.args.after c.args.dump.now filtered [] answer c.requires.asked
          ran (nothing_kept c.args.deletes.now c.args.after filtered answer c.in-Fault.kind c.in-Fault.number c.in-Fault.place
          c.in-Fault.is);
      arrived = told_after answer [] first.out.taken ended last c.flush_after.ensures.taken start
          c.write_ending-ending.result c.flush_after.result
          (moved_whole c.write_ending-ending.result first.out.taken ended first.waiting line line c.requires.waiting refl
          c.write_ending-ending.ensures.whole)
          (moved_part c.write_ending-ending.result first.out.taken ended first.waiting line line c.requires.waiting refl
          c.write_ending-ending.ensures.part)
          c.flush_after.ensures.told;
    })
