use Rattle.dump_writer.proofs.SinkLemmas.{GrowsBy-more}
use Rattle.dump_writer.proofs.counted.write_counted.Goals as goal

pub returns-in-Ok-clause-grown : goal.returns-in-Ok-clause-grown
returns-in-Ok-clause-grown g c =
    λ start grown. GrowsBy-more start (g.W.Write.contents c.args.writer.now)
    (g.W.Write.contents c.write.new.self) _ _ _ _ c.in-Ok.ensures.bound c.saturating_add-counts.ensures grown c.in-Ok.ensures.bytes
