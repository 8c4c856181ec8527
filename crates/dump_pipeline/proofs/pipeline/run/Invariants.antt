use Rattle.dump_pipeline.proofs.pipeline.run.Given as goal

abbrev pub ghosts-run_of : goal.ghosts-run_of
ghosts-run_of g a = record { dump = a.task.dump.now; settings = a.task.options.now }
