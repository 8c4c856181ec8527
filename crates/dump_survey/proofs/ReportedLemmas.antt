-- What is reported of a node, finding by finding.
use Rattle.dump_survey.proofs.Prelude.{List, map, filter, Finding, Found, has_found, NodeReport}

-- the reports of those of the findings that are found
abbrev pub reported_left : (Finding → NodeReport) → Found → List Finding → List NodeReport
reported_left report found left = map report (filter (λ f. has_found found f) left)
