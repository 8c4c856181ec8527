use Rattle.dump_cli.proofs.Prelude.{◌≡◌, List, [], ℕ, rules, subst, append_known, lent_taken, RunLeaves}
use Rattle.dump_cli.proofs.DriveLemmas.{ran_and_told}
use Rattle.dump_cli.proofs.drive.run_and_flush.Goals as goal

pub returns-clause-ran : goal.returns-clause-ran
returns-clause-ran g c =
    let first = c.args.sink.now in
    let behind = c.run-answer.new.sink in
    let last = c.flush_behind.new.sink in
    let ran : RunLeaves c.args.options.now c.args.dump.now (append_known first.out.taken [])
    (lent_taken behind) c.run-answer.result =
    subst (λ (w : List ℕ). RunLeaves c.args.options.now c.args.dump.now (append_known first.out.taken w)
    (lent_taken behind) c.run-answer.result)
    c.requires.waiting c.run-answer.ensures.answer in
    let start : last.out.start ≡ first.out.taken = search rules in
    ran_and_told c.args.options.now c.args.dump.now c.run-answer.result c.flush_behind.result first.out.taken
    (lent_taken behind) last ran c.flush_behind.ensures.taken start c.flush_behind.ensures.told

pub returns-clause-sink : goal.returns-clause-sink
returns-clause-sink g c = c.flush_behind.ensures.sink c.args.sink.now.out.failures c.run-answer.ensures.sink
