use Rattle.dump_survey.proofs.SilentLemmas.{silent_text_leaves_digests}
use Rattle.dump_survey.proofs.laws.each_silent_survey_leaves_digests.Goals as goal

pub returns : goal.returns
returns c = silent_text_leaves_digests
