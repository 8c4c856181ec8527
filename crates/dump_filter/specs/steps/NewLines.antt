-- The lines of a block with new numbers, as a whole and line by line.
use Rattle.std.specs.Prelude.{◌≡◌, ℕ, ◌+◌, Bool, false, not, ◌==◌, List, [], ◌∷◌, ◌++◌, length, map, filter, Option, Some, None, bytes_eq, if◌then◌else◌}
use Rattle.std.specs.List.{list_any}
use Rattle.dump_text.specs.Number.{spelled_number}
use Rattle.dump_text.specs.Names.{revision_name, copy_revision_name, copy_names, property_length_name, text_length_name, content_length_name}
use Rattle.dump_text.specs.HeaderLine.{Header, has_header, with_header_value}
use Rattle.dump_text.specs.HeaderBlock.{block_text}
use Rattle.dump_records.specs.HeaderRules.{header_number}
use Rattle.dump_filter.specs.NewHeaders.{with_length}
use Rattle.dump_filter.specs.steps.OwnText.{copied_headers}
use Rattle.dump_filter.specs.declared.copies.CopyChange.{CopyChange}
use Rattle.dump_filter.specs.declared.copies.CopyChange.TheVariants.{Same, Renumbered, Dropped}
use Rattle.dump_filter.specs.declared.new_lines.Changes.{Changes}

-- the new value of `Node-copyfrom-rev`, if it gets one
abbrev pub copy_number : CopyChange → Option ℕ
copy_number Same = None
copy_number (Renumbered n) = Some n
copy_number Dropped = None

-- whether a line of this name is part of a copy source
abbrev pub is_copy_line : List ℕ → Bool
is_copy_line name = list_any (bytes_eq name) copy_names

-- whether the line of this name is removed
abbrev pub is_dropped : CopyChange → List ℕ → Bool
is_dropped Same name = false
is_dropped (Renumbered n) name = false
is_dropped Dropped name = is_copy_line name

-- the lines that aren't removed
abbrev pub lines_that_stay : CopyChange → List Header → List Header
lines_that_stay copy headers = filter (λ h. not (is_dropped copy h.name)) headers

-- the new number for the line of this name, if it gets one
abbrev pub number_for : Changes → List ℕ → Option ℕ
number_for c name =
    if bytes_eq name revision_name then c.revision
    else if bytes_eq name copy_revision_name then copy_number c.copy
    else if bytes_eq name property_length_name then Some c.props
    else if bytes_eq name text_length_name then Some c.text
    else if bytes_eq name content_length_name then Some c.content
    else None

-- the line with this name and number
abbrev pub numbered : List ℕ → ℕ → Header
numbered name n = record { name = name; value = spelled_number n }

-- a line with a new number, if it gets one
abbrev pub with_number : Header → Option ℕ → Header
with_number h None = h
with_number h (Some n) = numbered h.name n

-- a line as it is written
abbrev pub renewed : Changes → Header → Header
renewed c h = with_number h (number_for c h.name)

-- the old lines as they are written
abbrev pub renewed_lines : Changes → List Header → List Header
renewed_lines c headers = map (renewed c) (lines_that_stay c.copy headers)

-- a line that is added if the block has none with this name and the number isn't 0
abbrev pub added : List ℕ → ℕ → List Header → List Header
added name n headers = if has_header name headers then [] else if n == 0 then [] else numbered name n ∷ []

-- the copy source in these lines is unchanged
abbrev pub StaysCopied : CopyChange → List Header → Type 0
StaysCopied Same headers = Unit
StaysCopied (Renumbered n) headers = header_number copy_revision_name headers ≡ Some n
StaysCopied Dropped headers = ⊥

-- the lengths are those of these properties and this text
pub record AreLengths (props text : List ℕ) (c : Changes) : Type 0 where
  pub props_is : c.props ≡ length props
  pub text_is : c.text ≡ length text
  pub content_is : c.content ≡ length props + length text

-- the lines, with this number as the value of the line of this name, if there is a number
abbrev pub put_all : List ℕ → Option ℕ → List Header → List Header
put_all name None headers = headers
put_all name (Some n) headers = with_header_value name (spelled_number n) headers

-- the lines that are written for a block
abbrev pub new_headers : Changes → List Header → List Header
new_headers c headers =
    with_length content_length_name c.content
    (with_header_value text_length_name (spelled_number c.text)
    (with_length property_length_name c.props
    (put_all revision_name c.revision (copied_headers c.copy headers))))

-- a record as it is written: these lines, its properties and its text
abbrev pub new_record : Changes → List Header → List ℕ → List ℕ → List ℕ
new_record c headers props text = block_text (new_headers c headers) ++ props ++ text
