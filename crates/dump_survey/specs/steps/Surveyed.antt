-- A node as a surveyor returns it.
use Rattle.std.specs.Prelude.{List, map}
use Rattle.dump_records.specs.steps.RecordViews.{record_item, record_number}
use Rattle.dump_survey.specs.declared.findings.reported.SurveyedNode.{SurveyedNode}
use Rattle.dump_survey.specs.steps.Found.{found_prefix, listed}
use Rattle.dump_survey.specs.Reported.{NodeReport, report_with_prefix}
use Rattle.dump_history.specs.declared.findings.Finding.{Finding}

-- the report of a finding in the node
abbrev pub reported_of_finding : SurveyedNode → Finding → NodeReport
reported_of_finding node finding =
    report_with_prefix (found_prefix node.found finding) (record_number node.item) node.revision (record_item node.item) finding

-- all reports of findings in the node
abbrev pub reported_of_node : SurveyedNode → List NodeReport
reported_of_node node = map (reported_of_finding node) (listed node.found)
