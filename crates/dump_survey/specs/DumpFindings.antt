-- The findings in a dump as a whole, as the program represents them.
use Rattle.std.specs.Prelude.{Bool, List, filter}
use Rattle.dump_history.specs.Findings.{every_dump_finding}
use Rattle.dump_survey.specs.declared.findings.tally.DumpFindings.{DumpFindings}
use Rattle.dump_history.specs.declared.findings.DumpFinding.{DumpFinding}
use Rattle.dump_history.specs.declared.findings.DumpFinding.TheVariants as dump_wide

-- whether this finding is one of them
abbrev pub has_dump_finding : DumpFindings → DumpFinding → Bool
has_dump_finding found dump_wide.NoRevision = found.no_revision
has_dump_finding found dump_wide.OtherNumbers = found.other_numbers
has_dump_finding found dump_wide.NumberFalls = found.number_falls
has_dump_finding found dump_wide.UnreadRevision = found.unread_revision
has_dump_finding found dump_wide.NodeInFirst = found.node_in_first
has_dump_finding found dump_wide.SourceBefore = found.source_before
has_dump_finding found dump_wide.NodeOutside = found.node_outside
has_dump_finding found dump_wide.NumbersLeft = found.numbers_left

-- the findings, in order
abbrev pub listed_findings : DumpFindings → List DumpFinding
listed_findings found = filter (λ f. has_dump_finding found f) every_dump_finding
