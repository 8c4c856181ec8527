use Rattle.std.proofs.Common.{inl, sym, ◌∙◌}
use Rattle.cut_cli.proofs.DriveLemmas.{ran_plain}
use Rattle.cut_cli.proofs.drive.run_cut.Goals as goal

pub returns-clause-ran : goal.returns-clause-ran
returns-clause-ran g c =
    inl (ran_plain c.args.ready.now.options c.args.ready.now.deletes c.args.call.now.after c.args.dump.now
    c.args.sink.now.out.taken c.run_and_flush.new.sink.out.taken c.run_and_flush.result
    (sym c.is_kept_back.ensures ∙ c.if-is_kept_back.false) c.run_and_flush.ensures.ran)
