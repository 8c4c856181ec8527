-- The kind of a record with the values that only this kind has, as its header lines say them.
use Rattle.std.specs.Prelude.{◌≡◌, ℕ, Bool, true, false, List, Option, Some, None, ◌&&◌}
use Rattle.dump_text.specs.Names.{version_name, uuid_name, revision_name, path_name, copy_path_name}
use Rattle.dump_text.specs.HeaderLine.{Header, has_header, header_value}
use Rattle.dump_text.specs.steps.ValuePlaces.{value_at}
use Rattle.dump_records.specs.declared.kind.KindParts.{KindParts}
use Rattle.dump_records.specs.declared.kind.KindParts.TheVariants.{Version, Uuid, Revision, Node, Copy}
use Rattle.dump_records.specs.HeaderRules.{header_number}

-- the number of a version record
abbrev pub version_in : KindParts → Option ℕ
version_in (Version number) = Some number
version_in Uuid = None
version_in (Revision number) = None
version_in (Node path) = None
version_in (Copy path) = None

-- the number of a revision
abbrev pub revision_in : KindParts → Option ℕ
revision_in (Version number) = None
revision_in Uuid = None
revision_in (Revision number) = Some number
revision_in (Node path) = None
revision_in (Copy path) = None

-- the path of a node in the dump
abbrev pub path_in : List ℕ → KindParts → Option (List ℕ)
path_in dump (Version number) = None
path_in dump Uuid = None
path_in dump (Revision number) = None
path_in dump (Node path) = value_at dump path
path_in dump (Copy path) = value_at dump path

-- whether a node is copied
abbrev pub is_copied_node : KindParts → Bool
is_copied_node (Version number) = false
is_copied_node Uuid = false
is_copied_node (Revision number) = false
is_copied_node (Node path) = false
is_copied_node (Copy path) = true

-- whether a record is a version record, a UUID record, or a revision
abbrev pub is_version : KindParts → Bool
is_version (Version number) = true
is_version Uuid = false
is_version (Revision number) = false
is_version (Node path) = false
is_version (Copy path) = false

abbrev pub is_uuid : KindParts → Bool
is_uuid (Version number) = false
is_uuid Uuid = true
is_uuid (Revision number) = false
is_uuid (Node path) = false
is_uuid (Copy path) = false

abbrev pub is_revision : KindParts → Bool
is_revision (Version number) = false
is_revision Uuid = false
is_revision (Revision number) = true
is_revision (Node path) = false
is_revision (Copy path) = false

-- the parts are what the lines say, and their places are in the dump
pub record IsKindOf (dump : List ℕ) (headers : List Header) (parts : KindParts) : Type 0 where
  pub version : is_version parts ≡ has_header version_name headers
  pub uuid : is_uuid parts ≡ has_header uuid_name headers
  pub revision : is_revision parts ≡ has_header revision_name headers
  pub version_number : version_in parts ≡ header_number version_name headers
  pub number : revision_in parts ≡ header_number revision_name headers
  pub path : path_in dump parts ≡ header_value path_name headers
  pub copied : is_copied_node parts ≡ (has_header path_name headers && has_header copy_path_name headers)
