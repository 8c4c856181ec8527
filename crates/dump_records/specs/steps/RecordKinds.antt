-- The kind of a record.
use Rattle.std.specs.Prelude.{List, if◌then◌else◌}
use Rattle.dump_text.specs.Names.{version_name, uuid_name, revision_name}
use Rattle.dump_text.specs.HeaderLine.{Header, has_header}
use Rattle.dump_records.specs.declared.kind.RecordKind.{RecordKind}
use Rattle.dump_records.specs.declared.kind.RecordKind.TheVariants.{Version, Uuid, Revision, Node}

-- the kind of record, by the header name that says it
abbrev pub kind_of : List Header → RecordKind
kind_of headers =
    if has_header version_name headers then Version
    else if has_header uuid_name headers then Uuid
    else if has_header revision_name headers then Revision
    else Node
