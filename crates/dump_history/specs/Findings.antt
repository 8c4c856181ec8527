-- What a survey finds in a dump before it is filtered: where the loaded repository may not be the one that is meant. A
-- program can find all of it in one pass, node by node, by header lines, properties and prefixes alone; it needs no
-- text of a file and no tree. So a finding may be harmless: there may be no node at the path of a prefix.
use Rattle.std.specs.Prelude.{◌≡◌, ◌↔◌, ℕ, Bool, true, false, not, ◌&&◌, ◌==◌, List, [], ◌∷◌, length, filter, nat_lt, Option, Some, None, unwrap_or, is_none, Contains, IsTrue}
use Rattle.std.specs.List.{list_any}
use Rattle.dump_text.specs.declared.fault.FaultKind.TheVariants.{CopyRevision, MergeInfo, MergeSource, MergeRange}
use Rattle.dump_text.specs.Names.{property_length_name}
use Rattle.dump_text.specs.HeaderLine.{has_header}
use Rattle.dump_text.specs.PropertyList.{Property}
use Rattle.dump_records.specs.RecordText.{DumpRecord}
use Rattle.dump_rules.specs.declared.options.Side.{Side}
use Rattle.dump_rules.specs.declared.options.Side.TheVariants.{Include, Exclude}
use Rattle.dump_rules.specs.Settings.{Settings, keeps_path}
use Rattle.dump_digest.specs.RecordParts.{is_copy, is_revision_record, node_path, has_lost_source, HasPropertyList, HasPropertyBlock}
use Rattle.dump_filter.specs.Groups.{Group, groups, revision_numbers, first_number, is_bare}
use Rattle.dump_filter.specs.NewHeaders.{is_whole_file, becomes_plain}
use Rattle.dump_filter.specs.RecordFaults.{HoldsOfRecord}
use Rattle.dump_trees.specs.Paths.{path_of}
use Rattle.dump_trees.specs.Restriction.{is_above_some}
use Rattle.dump_trees.specs.Quiet.{cuts_alike}
use Rattle.dump_history.specs.RecordChanges.{copy_path, copy_revision, deletes, makes, has_known_action, has_undefined_delta, loads_as_written}
use Rattle.dump_history.specs.DumpChanges.{counts_from, has_ordered_nodes}
use Rattle.dump_history.specs.NumberGaps.{go_up, NamesRevisionBehind}
use Rattle.dump_history.specs.declared.findings.Finding.{Finding}
use Rattle.dump_history.specs.declared.findings.DumpFinding.{DumpFinding}
use Rattle.dump_history.specs.declared.findings.Finding.TheVariants as findings
use Rattle.dump_history.specs.declared.findings.DumpFinding.TheVariants as dump_wide

-- what can be found in a node, in order
abbrev pub every_finding : List Finding
every_finding = findings.UnreadBlock ∷ findings.Delta ∷ findings.UnknownAction ∷ findings.TextReadDifferently
    ∷ findings.NoWholeFile ∷ findings.MissingCopyRevision ∷ findings.UnreadMergeinfo ∷ findings.MissingMergeSource
    ∷ findings.MissingMergeRevision ∷ findings.PropertiesLost ∷ findings.CopyLoses ∷ findings.CopyLetsIn
    ∷ findings.IncludedStays ∷ findings.IncludedMissing ∷ findings.TextComesIn ∷ []

-- the index of a finding in that list
abbrev pub finding_place : Finding → ℕ
finding_place findings.UnreadBlock = 0
finding_place findings.Delta = 1
finding_place findings.UnknownAction = 2
finding_place findings.TextReadDifferently = 3
finding_place findings.NoWholeFile = 4
finding_place findings.MissingCopyRevision = 5
finding_place findings.UnreadMergeinfo = 6
finding_place findings.MissingMergeSource = 7
finding_place findings.MissingMergeRevision = 8
finding_place findings.PropertiesLost = 9
finding_place findings.CopyLoses = 10
finding_place findings.CopyLetsIn = 11
finding_place findings.IncludedStays = 12
finding_place findings.IncludedMissing = 13
finding_place findings.TextComesIn = 14

-- whether the node's path is kept
abbrev pub has_kept_path : Settings → DumpRecord → Bool
has_kept_path settings r = keeps_path settings (node_path r)

-- whether the filter stops at the node because its copy source is excluded: it is a kept copy, and no whole file
abbrev pub lacks_source : Settings → DumpRecord → Bool
lacks_source settings r = has_kept_path settings r && has_lost_source settings r && not (is_whole_file r)

-- whether the path that the node is copied from is kept
abbrev pub has_kept_source : Settings → DumpRecord → Bool
has_kept_source settings r = keeps_path settings (copy_path r)

-- whether the node makes a copy; under the actions that make nothing a copy source doesn't count
abbrev pub makes_copy : DumpRecord → Bool
makes_copy r = makes r && is_copy r

-- whether a prefix cuts below the one path what is kept below the other
abbrev pub cuts : Settings → List ℕ → List ℕ → Bool
cuts settings path other = not (cuts_alike settings.side settings (path_of path) (path_of other))

-- whether a prefix is below the node's path, if prefixes are included
abbrev pub is_above_prefix : Settings → DumpRecord → Bool
is_above_prefix settings r = is_above_some settings.side settings.prefixes (path_of (node_path r))

-- whether prefixes are excluded
abbrev pub is_exclude : Side → Bool
is_exclude Include = false
is_exclude Exclude = true

-- which of these faults the filter has for the node: its copy's revision has no new number; and of its mergeinfo a
-- value can't be read, or names a path that isn't kept, or a revision outside of the dump
pub record NodeFaults : Type 0 where
  pub copy_revision : Bool
  pub unread : Bool
  pub missing : Bool
  pub outside : Bool

-- these are the node's faults, by the filter's rules for a record after these
pub record AreNodeFaultsOf (settings : Settings) (before : List DumpRecord) (r : DumpRecord)
    (faults : NodeFaults) : Type 0 where
  pub copy_revision : IsTrue faults.copy_revision ↔ HoldsOfRecord settings before r CopyRevision
  pub unread : IsTrue faults.unread ↔ HoldsOfRecord settings before r MergeInfo
  pub missing : IsTrue faults.missing ↔ HoldsOfRecord settings before r MergeSource
  pub outside : IsTrue faults.outside ↔ HoldsOfRecord settings before r MergeRange

-- whether this is found in the node; the properties are those of its block, none if that can't be read, and the faults
-- those of the node
abbrev pub is_found : Settings → DumpRecord → Option (List Property) → NodeFaults → Finding → Bool
is_found settings r ps faults findings.UnreadBlock = is_none ps
is_found settings r ps faults findings.Delta = has_undefined_delta r
is_found settings r ps faults findings.UnknownAction = not (has_known_action r)
is_found settings r ps faults findings.TextReadDifferently = not (loads_as_written r (unwrap_or ps []))
is_found settings r ps faults findings.NoWholeFile = lacks_source settings r
is_found settings r ps faults findings.MissingCopyRevision = faults.copy_revision
is_found settings r ps faults findings.UnreadMergeinfo = faults.unread
is_found settings r ps faults findings.MissingMergeSource = faults.missing
is_found settings r ps faults findings.MissingMergeRevision = faults.outside
is_found settings r ps faults findings.PropertiesLost =
    has_kept_path settings r && makes_copy r && not (has_kept_source settings r)
    && not (has_header property_length_name r.headers)
is_found settings r ps faults findings.CopyLoses =
    has_kept_path settings r && makes_copy r && has_kept_source settings r && cuts settings (copy_path r) (node_path r)
is_found settings r ps faults findings.CopyLetsIn =
    has_kept_path settings r && makes_copy r && has_kept_source settings r && cuts settings (node_path r) (copy_path r)
is_found settings r ps faults findings.IncludedStays =
    not (has_kept_path settings r) && deletes r && is_above_prefix settings r
is_found settings r ps faults findings.IncludedMissing =
    not (has_kept_path settings r) && makes_copy r && is_above_prefix settings r
is_found settings r ps faults findings.TextComesIn =
    is_exclude settings.side && has_kept_path settings r && makes r && becomes_plain settings r

-- what is found in the node, in order
abbrev pub findings_of : Settings → DumpRecord → Option (List Property) → NodeFaults → List Finding
findings_of settings r ps faults = filter (λ f. is_found settings r ps faults f) every_finding

-- these are the node's properties; none if its block can't be read
abbrev pub IsReadBlock : DumpRecord → Option (List Property) → Type 0
IsReadBlock r None = ¬ HasPropertyBlock r
IsReadBlock r (Some ps) = HasPropertyList r ps

-- this is what is found in the node that follows these records
abbrev pub AreFindingsOf : Settings → List DumpRecord → DumpRecord → List Finding → Type 0
AreFindingsOf settings before r found = (ps : Option (List Property)) × (faults : NodeFaults)
    × IsReadBlock r ps × AreNodeFaultsOf settings before r faults × (found ≡ findings_of settings r ps faults)

-- whether a node with the finding makes no change that the definitions describe
abbrev pub is_obstacle : Finding → Bool
is_obstacle findings.UnreadBlock = true
is_obstacle findings.Delta = true
is_obstacle findings.UnknownAction = true
is_obstacle findings.TextReadDifferently = true
is_obstacle _ = false

-- whether the finding is an alarm: the filter's cut may not separate the node's change
abbrev pub is_alarm : Finding → Bool
is_alarm findings.PropertiesLost = true
is_alarm findings.CopyLoses = true
is_alarm findings.CopyLetsIn = true
is_alarm findings.IncludedStays = true
is_alarm findings.IncludedMissing = true
is_alarm _ = false

-- what can be found in a dump as a whole, in order
abbrev pub every_dump_finding : List DumpFinding
every_dump_finding =
    dump_wide.NoRevision ∷ dump_wide.OtherNumbers ∷ dump_wide.NumberFalls ∷ dump_wide.UnreadRevision
    ∷ dump_wide.NodeInFirst ∷ dump_wide.SourceBefore ∷ dump_wide.NodeOutside ∷ dump_wide.NumbersLeft ∷ []

-- whether each of the numbers is above the one before
abbrev pub rise : List ℕ → Bool
rise [] = true
rise (n ∷ numbers) = go_up n numbers

-- the record is a revision whose properties can't be read
abbrev pub IsUnreadRevision : DumpRecord → Type 0
IsUnreadRevision r = IsTrue (is_revision_record r) × ¬ HasPropertyBlock r

-- one of the records is
abbrev pub HasUnreadRevision : List DumpRecord → Type 0
HasUnreadRevision records = (r : DumpRecord) × Contains records r × IsUnreadRevision r

-- whether the first group, if there is one, has a node
abbrev pub first_has_node : List Group → Bool
first_has_node [] = false
first_has_node (g ∷ gs) = not (is_bare g)

-- the number of the dump's first revision, or 0 if there is none
abbrev pub begins_at : List DumpRecord → ℕ
begins_at records = first_number (revision_numbers records)

-- whether the node makes a copy from a revision before this one
abbrev pub copies_from_before : ℕ → DumpRecord → Bool
copies_from_before first r = makes_copy r && nat_lt (copy_revision r) first

-- whether a node of these groups does
abbrev pub has_source_before : ℕ → List Group → Bool
has_source_before first gs = list_any (λ (g : Group). list_any (copies_from_before first) g.nodes) gs

-- what a dump has: whether a kept node after the first dropped revision names a revision, and whether the properties of
-- a revision can't be read
pub record DumpFacts : Type 0 where
  pub named : Bool
  pub unread : Bool

-- these are the facts of the dump with these records
pub record AreDumpFactsOf (settings : Settings) (records : List DumpRecord) (facts : DumpFacts) : Type 0 where
  pub named : IsTrue facts.named ↔ NamesRevisionBehind settings records
  pub unread : IsTrue facts.unread ↔ HasUnreadRevision records

-- whether this is found in the dump with these records, which has these facts
abbrev pub is_found_in_dump : Settings → List DumpRecord → DumpFacts → DumpFinding → Bool
is_found_in_dump settings records facts dump_wide.NoRevision = length (groups records) == 0
is_found_in_dump settings records facts dump_wide.OtherNumbers =
    not (counts_from (begins_at records) (revision_numbers records))
is_found_in_dump settings records facts dump_wide.NumberFalls = not (rise (revision_numbers records))
is_found_in_dump settings records facts dump_wide.UnreadRevision = facts.unread
is_found_in_dump settings records facts dump_wide.NodeInFirst =
    begins_at records == 0 && first_has_node (groups records)
is_found_in_dump settings records facts dump_wide.SourceBefore =
    has_source_before (begins_at records) (groups records)
is_found_in_dump settings records facts dump_wide.NodeOutside = not (has_ordered_nodes Bool.false records)
is_found_in_dump settings records facts dump_wide.NumbersLeft = not settings.renumber && facts.named

-- what is found in the dump, in order
abbrev pub dump_findings : Settings → List DumpRecord → DumpFacts → List DumpFinding
dump_findings settings records facts = filter (λ f. is_found_in_dump settings records facts f) every_dump_finding

-- this is what is found in the dump as a whole
abbrev pub AreDumpFindingsOf : Settings → List DumpRecord → List DumpFinding → Type 0
AreDumpFindingsOf settings records found = (facts : DumpFacts) × AreDumpFactsOf settings records facts
    × (found ≡ dump_findings settings records facts)
