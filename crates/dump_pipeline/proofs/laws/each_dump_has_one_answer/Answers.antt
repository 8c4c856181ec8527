use Rattle.dump_pipeline.proofs.OneAnswer.{each_dump_has_one_answer}
use Rattle.dump_pipeline.proofs.laws.each_dump_has_one_answer.Goals as goal

pub returns : goal.returns
returns c = each_dump_has_one_answer
