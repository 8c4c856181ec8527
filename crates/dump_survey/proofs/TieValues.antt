-- Examples of what the laws of a silent survey rest on; the checker computes and proves them.
use Rattle.dump_survey.proofs.Prelude.{◌≡◌, true, false, List, [], ◌∷◌, None, refl, codes, filter, every_finding, Finding, NodeReport}
use Rattle.dump_text.specs.declared.fault.FaultKind.{FaultKind}
use Rattle.dump_text.specs.declared.fault.FaultKind.TheVariants as faults
use Rattle.dump_history.specs.Findings.{is_alarm, is_obstacle}
use Rattle.dump_history.specs.declared.findings.Finding.TheVariants as findings
use Rattle.dump_survey.specs.SurveyTies.{is_digest_fault, none_reported, tells_cut}

-- all faults
abbrev every_fault : List FaultKind
every_fault =
    faults.HeaderCut
    ∷ faults.Header
    ∷ faults.Kind
    ∷ faults.Version
    ∷ faults.Number
    ∷ faults.Lengths
    ∷ faults.ContentCut
    ∷ faults.Order
    ∷ faults.Props
    ∷ faults.Md5
    ∷ faults.Sha1
    ∷ faults.CopySource
    ∷ faults.CopyRevision
    ∷ faults.MergeInfo
    ∷ faults.MergeSource
    ∷ faults.MergeRange ∷ []

-- the two that are about digests
about_digests : filter is_digest_fault every_fault ≡ faults.Md5 ∷ faults.Sha1 ∷ []
about_digests = refl

-- the two findings that are reported with a prefix
with_a_prefix : filter tells_cut every_finding ≡ findings.CopyLoses ∷ findings.CopyLetsIn ∷ []
with_a_prefix = refl

abbrev report : Finding → NodeReport
report finding = record {
  finding = finding;
  number = 4;
  place = 90;
  revision = 2;
  path = codes "a";
  copy_path = [];
  copy_revision = 0;
  prefix = None;
}

-- a finding that is neither an obstacle nor an alarm
abbrev stops : List NodeReport
stops = report findings.NoWholeFile ∷ report findings.UnreadMergeinfo ∷ []

no_obstacle : none_reported is_obstacle stops ≡ true
no_obstacle = refl

no_alarm : none_reported is_alarm stops ≡ true
no_alarm = refl

an_obstacle : none_reported is_obstacle (report findings.NoWholeFile ∷ report findings.Delta ∷ []) ≡ false
an_obstacle = refl

an_alarm : none_reported is_alarm (report findings.IncludedStays ∷ stops) ≡ false
an_alarm = refl

nothing : none_reported is_alarm [] ≡ true
nothing = refl
