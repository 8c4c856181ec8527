-- Which revisions of a dump the filter keeps.
use Rattle.std.specs.Prelude.{List, map}
use Rattle.dump_records.specs.RecordText.{DumpRecord}
use Rattle.dump_rules.specs.Settings.{Settings}
use Rattle.dump_filter.specs.Groups.{Group, group_number, groups, keeps_group}
use Rattle.dump_cut.specs.declared.fates.RevisionFate.{RevisionFate}

-- the number of a group's revision, and whether the filter keeps it
abbrev pub fate_of_group : Settings → Group → RevisionFate
fate_of_group settings g = record { number = group_number g; stays = keeps_group settings g }

-- the same of each revision, in order
abbrev pub fates_of_groups : Settings → List DumpRecord → List RevisionFate
fates_of_groups settings records = map (fate_of_group settings) (groups records)
