use Rattle.dump_survey.proofs.RowLemmas.{kind_of_finding, source_of_finding, words_of_finding}
use Rattle.dump_survey.proofs.report.finding_rows.node_row.Goals as goal

pub returns-clause-words : goal.returns-clause-words
returns-clause-words c = words_of_finding c.node_rows.result.now _ c.node_rows.ensures c.args.finding

pub returns-clause-source : goal.returns-clause-source
returns-clause-source c = source_of_finding c.node_rows.result.now _ c.node_rows.ensures c.args.finding

pub returns-clause-kind : goal.returns-clause-kind
returns-clause-kind c = kind_of_finding c.node_rows.result.now _ c.node_rows.ensures c.args.finding
