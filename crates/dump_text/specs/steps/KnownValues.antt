-- The known names as the program lists them, and their values in a list of header lines.
use Rattle.std.specs.Prelude.{◌==◌, ℕ, Bool, not, ◌&&◌, List, [], ◌∷◌, length, filter, Option, slice_index_or, bytes_eq, find}
use Rattle.std.specs.List.{position_or_len}
use Rattle.dump_text.specs.declared.names.HeaderName.{HeaderName}
use Rattle.dump_text.specs.declared.names.HeaderName.TheVariants.{FormatVersion, Uuid, RevisionNumber, NodePath, PropContentLength, TextContentLength, ContentLength, NodeCopyfromRev, NodeCopyfromPath, TextCopySourceMd5, TextCopySourceSha1, NodeKind, NodeAction, TextContentMd5, TextContentSha1, TextDelta, PropDelta}
use Rattle.dump_text.specs.Names.{version_name, uuid_name, revision_name, path_name, node_kind_name, action_name, copy_revision_name, copy_path_name, property_length_name, text_length_name, content_length_name, md5_name, sha1_name, copy_md5_name, copy_sha1_name, text_delta_name, prop_delta_name}
use Rattle.dump_text.specs.HeaderLine.{Header, has_header, header_value}
use Rattle.dump_text.specs.steps.Scanning.{is_known}
use Rattle.dump_text.specs.steps.ValuePlaces.{no_span, IsSpanOf}
use Rattle.dump_text.specs.declared.value_place.ValueSpan.{ValueSpan}

-- the bytes of a name
abbrev pub name_text : HeaderName → List ℕ
name_text FormatVersion = version_name
name_text Uuid = uuid_name
name_text RevisionNumber = revision_name
name_text NodePath = path_name
name_text PropContentLength = property_length_name
name_text TextContentLength = text_length_name
name_text ContentLength = content_length_name
name_text NodeCopyfromRev = copy_revision_name
name_text NodeCopyfromPath = copy_path_name
name_text TextCopySourceMd5 = copy_md5_name
name_text TextCopySourceSha1 = copy_sha1_name
name_text NodeKind = node_kind_name
name_text NodeAction = action_name
name_text TextContentMd5 = md5_name
name_text TextContentSha1 = sha1_name
name_text TextDelta = text_delta_name
name_text PropDelta = prop_delta_name

-- the known names in their order
abbrev pub all_names : List HeaderName
all_names =
    FormatVersion ∷ Uuid ∷ RevisionNumber ∷ NodePath ∷ PropContentLength ∷ TextContentLength ∷
    ContentLength ∷ NodeCopyfromRev ∷ NodeCopyfromPath ∷ TextCopySourceMd5 ∷ TextCopySourceSha1 ∷ NodeKind ∷
    NodeAction ∷ TextContentMd5 ∷ TextContentSha1 ∷ TextDelta ∷ PropDelta ∷ []

-- the names of this length
abbrev pub names_of_length : ℕ → List HeaderName
names_of_length n = filter (λ name. length (name_text name) == n) all_names

-- the name with these bytes, if it is known
abbrev pub known_name : List ℕ → Option HeaderName
known_name bytes = find (λ name. bytes_eq bytes (name_text name)) all_names

-- the index of a name in this list
abbrev pub name_place : HeaderName → ℕ
name_place name = position_or_len (λ other. bytes_eq (name_text other) (name_text name)) all_names

-- the span that is stored for a name
abbrev pub noted_span : List ValueSpan → HeaderName → ValueSpan
noted_span spans name = slice_index_or spans (name_place name) no_span

-- the span of each name gives its value in these lines, in the dump
abbrev pub AreValues : List ℕ → List Header → List ValueSpan → Type 0
AreValues dump headers spans =
    (name : HeaderName) → IsSpanOf dump (noted_span spans name) (header_value (name_text name) headers)

-- whether a line of this name may follow these lines
abbrev pub may_follow : List Header → List ℕ → Bool
may_follow headers name = not (is_known name && has_header name headers)
