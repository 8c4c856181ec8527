use Rattle.dump_history.proofs.survey.FindingLemmas.{findings_once, obstacles_exact, alarms_exact}
use Rattle.dump_history.proofs.survey.NamingTest.{dump_findings_once}
use Rattle.dump_history.proofs.laws.each_finding_is_exact.Goals as goal

pub returns-clause-once : goal.returns-clause-once
returns-clause-once c = findings_once

pub returns-clause-obstacles : goal.returns-clause-obstacles
returns-clause-obstacles c = obstacles_exact

pub returns-clause-alarms : goal.returns-clause-alarms
returns-clause-alarms c = alarms_exact

pub returns-clause-whole : goal.returns-clause-whole
returns-clause-whole c = dump_findings_once
