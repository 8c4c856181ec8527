use Rattle.dump_survey.proofs.OnceLemmas.{revision_map_is_once, survey_text_is_once}
use Rattle.dump_survey.proofs.laws.each_dump_has_one_survey.Goals as goal

pub returns-clause-text : goal.returns-clause-text
returns-clause-text c = survey_text_is_once

pub returns-clause-map : goal.returns-clause-map
returns-clause-map c = revision_map_is_once
