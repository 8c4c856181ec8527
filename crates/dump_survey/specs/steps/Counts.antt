-- How often each kind of finding was reported, as the program counts it.
use Rattle.std.specs.Prelude.{◌≡◌, ℕ, ◌+◌, slice_index_or, if◌then◌else◌}
use Rattle.dump_survey.specs.declared.report.counts.Counts.{Counts}
use Rattle.dump_survey.specs.declared.findings.node.Found.{Found}
use Rattle.dump_history.specs.Findings.{finding_place}
use Rattle.dump_survey.specs.steps.Found.{has_found}
use Rattle.dump_history.specs.declared.findings.Finding.{Finding}

-- how often this finding was reported
abbrev pub count_in : Counts → Finding → ℕ
count_in counts f = slice_index_or counts.times (finding_place f) 0

-- the new counts are the old ones after one more node
abbrev pub AreWithNode : Counts → Found → Counts → Type 0
AreWithNode old found new = (f : Finding) →
    count_in new f ≡ (if has_found found f then count_in old f + 1 else count_in old f)
