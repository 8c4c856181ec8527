-- The findings in a node, as the program represents them.
use Rattle.std.specs.Prelude.{◌≡◌, ℕ, Bool, not, List, [], Option, None, is_none, is_some, option_copied, unwrap_or, filter, IsTrue}
use Rattle.dump_text.specs.PropertyList.{Property}
use Rattle.dump_records.specs.RecordText.{DumpRecord}
use Rattle.dump_rules.specs.Settings.{Settings}
use Rattle.dump_history.specs.RecordChanges.{has_known_action, has_undefined_delta, loads_as_written}
use Rattle.dump_history.specs.Findings.{every_finding, NodeFaults, AreNodeFaultsOf, is_found, IsReadBlock, lacks_source}
use Rattle.dump_history.specs.steps.NodeReading.{no_node_faults}
use Rattle.dump_survey.specs.CuttingPrefix.{cutting_prefix}
use Rattle.dump_survey.specs.declared.findings.node.Found.{Found}
use Rattle.dump_survey.specs.declared.findings.node.Obstacles.{Obstacles}
use Rattle.dump_survey.specs.declared.findings.node.Losses.{Losses}
use Rattle.dump_survey.specs.declared.findings.revision_numbers.Numbers.{Numbers}
use Rattle.dump_survey.specs.declared.findings.refused.Refused.{Refused}
use Rattle.dump_survey.specs.steps.RevisionNumbers.{AreNumbersBehind}
use Rattle.dump_history.specs.declared.findings.Finding.{Finding}
use Rattle.dump_history.specs.declared.findings.Finding.TheVariants as findings

-- whether this finding is one of them
abbrev pub has_found : Found → Finding → Bool
has_found found findings.UnreadBlock = found.obstacles.unread_block
has_found found findings.Delta = found.obstacles.delta
has_found found findings.UnknownAction = found.obstacles.unknown_action
has_found found findings.TextReadDifferently = found.obstacles.text_read_differently
has_found found findings.NoWholeFile = found.losses.no_whole_file
has_found found findings.MissingCopyRevision = found.refused.copy_revision
has_found found findings.UnreadMergeinfo = found.refused.unread
has_found found findings.MissingMergeSource = found.refused.missing
has_found found findings.MissingMergeRevision = found.refused.outside
has_found found findings.PropertiesLost = found.losses.properties_lost
has_found found findings.CopyLoses = is_some found.losses.copy_loses
has_found found findings.CopyLetsIn = is_some found.losses.copy_lets_in
has_found found findings.IncludedStays = found.losses.included_stays
has_found found findings.IncludedMissing = found.losses.included_missing
has_found found findings.TextComesIn = found.losses.text_comes_in

-- the prefix that is reported with this finding, if there is one
abbrev pub found_prefix : Found → Finding → Option (List ℕ)
found_prefix found findings.CopyLoses = option_copied found.losses.copy_loses
found_prefix found findings.CopyLetsIn = option_copied found.losses.copy_lets_in
found_prefix found _ = None

-- the faults that the filter finds in a node
abbrev pub node_faults : Refused → NodeFaults
node_faults f =
    record { copy_revision = f.copy_revision; unread = f.unread; missing = f.missing; outside = f.outside }

-- with these numbers, these are the node's faults, whatever comes before the node
abbrev pub AreFaultsBy : Settings → Numbers → DumpRecord → NodeFaults → Type 0
AreFaultsBy settings numbers r m = (before : List DumpRecord) → AreNumbersBehind settings before r numbers →
    AreNodeFaultsOf settings before r m

-- with these numbers, these are exactly the findings in the node, with the prefixes that cut
abbrev pub IsFoundIn : Settings → Numbers → DumpRecord → Found → Type 0
IsFoundIn settings numbers r found = AreFaultsBy settings numbers r (node_faults found.refused)
    × ((ps : Option (List Property)) → IsReadBlock r ps → (finding : Finding)
    → has_found found finding ≡ is_found settings r ps (node_faults found.refused) finding)
    × ((finding : Finding) → IsTrue (has_found found finding)
    → found_prefix found finding ≡ cutting_prefix settings r finding)

-- these are the obstacles of the node, which has these properties
pub record AreObstaclesOf (r : DumpRecord) (ps : Option (List Property)) (o : Obstacles) : Type 0 where
  pub unread_block : o.unread_block ≡ is_none ps
  pub delta : o.delta ≡ has_undefined_delta r
  pub unknown_action : o.unknown_action ≡ not (has_known_action r)
  pub text_read_differently : o.text_read_differently ≡ not (loads_as_written r (unwrap_or ps []))

-- these are the losses of the node, with the prefixes that cut; the node's properties don't matter
pub record AreLossesOf (settings : Settings) (r : DumpRecord) (l : Losses) : Type 0 where
  pub no_whole_file : l.no_whole_file ≡ lacks_source settings r
  pub properties_lost : l.properties_lost ≡ is_found settings r None no_node_faults findings.PropertiesLost
  pub copy_loses : is_some l.copy_loses ≡ is_found settings r None no_node_faults findings.CopyLoses
  pub loses_by : IsTrue (is_some l.copy_loses)
      → option_copied l.copy_loses ≡ cutting_prefix settings r findings.CopyLoses
  pub copy_lets_in : is_some l.copy_lets_in ≡ is_found settings r None no_node_faults findings.CopyLetsIn
  pub lets_in_by : IsTrue (is_some l.copy_lets_in)
      → option_copied l.copy_lets_in ≡ cutting_prefix settings r findings.CopyLetsIn
  pub included_stays : l.included_stays ≡ is_found settings r None no_node_faults findings.IncludedStays
  pub included_missing : l.included_missing ≡ is_found settings r None no_node_faults findings.IncludedMissing
  pub text_comes_in : l.text_comes_in ≡ is_found settings r None no_node_faults findings.TextComesIn

-- the findings, in order
abbrev pub listed : Found → List Finding
listed found = filter (λ f. has_found found f) every_finding
