use Rattle.dump_history.proofs.survey.SurveyLemmas.{surveyed_dump, surveyed_front}
use Rattle.dump_history.proofs.laws.each_surveyed_dump_restricts.Goals as goal

pub returns-clause-whole : goal.returns-clause-whole
returns-clause-whole c = surveyed_dump

pub returns-clause-front : goal.returns-clause-front
returns-clause-front c = surveyed_front
