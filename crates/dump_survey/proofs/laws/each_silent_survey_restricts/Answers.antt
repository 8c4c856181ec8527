use Rattle.dump_survey.proofs.SilentLemmas.{silent_restricts, silent_text_restricts}
use Rattle.dump_survey.proofs.laws.each_silent_survey_restricts.Goals as goal

pub returns-clause-survey : goal.returns-clause-survey
returns-clause-survey c = silent_restricts

pub returns-clause-text : goal.returns-clause-text
returns-clause-text c = silent_text_restricts
