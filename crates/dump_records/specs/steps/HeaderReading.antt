-- What is read from the header lines of a record.
use Rattle.std.specs.Prelude.{◌≡◌, ◌<◌, ◌+◌, ◌==◌, ◌^◌, ℕ, Bool, true, ◌&&◌, ◌||◌, List, [], Option, Some, None, bytes_eq, codes, unwrap_or}
use Rattle.dump_text.specs.declared.headers.Headers.{Headers}
use Rattle.dump_text.specs.Number.{spelled_number}
use Rattle.dump_text.specs.Names.{version_name, revision_name, copy_revision_name, property_length_name, text_length_name, content_length_name, node_kind_name, md5_name, sha1_name, text_delta_name, prop_delta_name}
use Rattle.dump_text.specs.HeaderLine.{Header, has_header, header_value}
use Rattle.dump_text.specs.steps.ValuePlaces.{value_at}
use Rattle.dump_text.specs.steps.Views.{block_dump, block_headers}
use Rattle.dump_text.specs.steps.HeadersViews.{headers_block}
use Rattle.dump_records.specs.declared.header.Numbers.{Numbers}
use Rattle.dump_records.specs.declared.header.RecordHeader.{RecordHeader}
use Rattle.dump_records.specs.HeaderRules.{header_number, says_true, property_length, text_length}
use Rattle.dump_records.specs.steps.KindReading.{IsKindOf}

-- the lines of a block with its values
abbrev pub lines_of : Headers → List Header
lines_of headers = block_headers (headers_block headers)

-- the dump that contains them
abbrev pub dump_of : Headers → List ℕ
dump_of headers = block_dump (headers_block headers)

-- whether the digits, if they are a number, are the shortest spelling of it
abbrev pub are_spelled : Option (List ℕ) → Option ℕ → Bool
are_spelled (Some digits) (Some n) = bytes_eq digits (spelled_number n)
are_spelled (Some digits) None = true
are_spelled None n = true

-- the same of the header with this name, if there is one
abbrev pub is_spelled : List ℕ → List Header → Bool
is_spelled name headers = are_spelled (header_value name headers) (header_number name headers)

-- the same of each number except the version
abbrev pub are_numbers_shortest : List Header → Bool
are_numbers_shortest headers =
    is_spelled revision_name headers && is_spelled copy_revision_name headers && is_spelled property_length_name headers
    && is_spelled text_length_name headers && is_spelled content_length_name headers

-- the numbers are those of the lines, and the lengths are small
pub record AreNumbers (headers : List Header) (numbers : Numbers) : Type 0 where
  pub version : numbers.version ≡ header_number version_name headers
  pub revision : numbers.revision ≡ header_number revision_name headers
  pub copy_revision : numbers.copy_revision ≡ header_number copy_revision_name headers
  pub props : numbers.props ≡ header_number property_length_name headers
  pub text : numbers.text ≡ header_number text_length_name headers
  pub content : numbers.content ≡ header_number content_length_name headers
  pub props_small : property_length headers < 10 ^ 18
  pub text_small : text_length headers < 10 ^ 18
  pub shortest : numbers.are_shortest ≡ are_numbers_shortest headers

-- whether the filter writes the lines unchanged if it keeps their numbers and lengths
abbrev pub are_written : List Header → Bool
are_written headers =
    are_numbers_shortest headers
    && (has_header content_length_name headers || property_length headers + text_length headers == 0)

-- the header says what the lines say, whose values are in the dump
pub record IsHeaderOf (dump : List ℕ) (headers : List Header) (h : RecordHeader) : Type 0 where
  pub kind : IsKindOf dump headers h.parts
  pub file : h.is_file ≡ bytes_eq (unwrap_or (header_value node_kind_name headers) []) (codes "file")
  pub props : h.has_props ≡ has_header property_length_name headers
  pub text : h.has_text ≡ has_header text_length_name headers
  pub content : h.has_content ≡ has_header content_length_name headers
  pub md5 : value_at dump h.md5 ≡ header_value md5_name headers
  pub sha1 : value_at dump h.sha1 ≡ header_value sha1_name headers
  pub text_delta : h.text_delta ≡ says_true text_delta_name headers
  pub prop_delta : h.prop_delta ≡ says_true prop_delta_name headers
  pub written : h.is_written ≡ are_written headers
