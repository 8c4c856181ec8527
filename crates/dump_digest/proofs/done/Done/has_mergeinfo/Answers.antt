use Rattle.dump_digest.proofs.done.Done.has_mergeinfo.Goals as goal

pub returns : goal.returns
returns c kept ok ps block = (c.args.self.now.judged.said kept ok ps block).found
