use Rattle.survey_cli.proofs.MapLemmas.{reads_as_filter, reads_map_anywhere}
use Rattle.survey_cli.proofs.laws.each_call_is_read_as_by_the_filter.Goals as goal

pub returns-clause-alone : goal.returns-clause-alone
returns-clause-alone c = reads_as_filter

pub returns-clause-map : goal.returns-clause-map
returns-clause-map c = reads_map_anywhere
