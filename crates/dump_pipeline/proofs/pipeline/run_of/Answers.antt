use Rattle.std.proofs.Common.{rules, refl}
use Rattle.dump_pipeline.specs.declared.answer.Failure.TheVariants as failures
use Rattle.dump_pipeline.proofs.Joined.{nothing_written}
use Rattle.dump_pipeline.proofs.pipeline.run_of.Goals as goal

pub returns-in_default-clause-ran : goal.returns-in_default-clause-ran
returns-in_default-clause-ran g c = record {
  leaves = nothing_written g.D.Run.settings g.D.Run.dump (g.S.Sink.taken c.args.sink.now) failures.Memory;
  sink = refl;
  threads = search rules;
}
