use Rattle.dump_survey.proofs.RowLemmas.{kind_of_dump_finding, words_of_dump_finding}
use Rattle.dump_survey.proofs.report.finding_rows.dump_row.Goals as goal

pub returns-clause-words : goal.returns-clause-words
returns-clause-words c = words_of_dump_finding c.dump_rows.result.now _ c.dump_rows.ensures c.args.finding

pub returns-clause-kind : goal.returns-clause-kind
returns-clause-kind c = kind_of_dump_finding c.dump_rows.result.now _ c.dump_rows.ensures c.args.finding
