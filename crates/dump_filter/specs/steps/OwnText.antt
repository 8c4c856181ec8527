-- What is written for one record alone.
use Rattle.std.specs.Prelude.{ℕ, Bool, false, List, ◌++◌, codes}
use Rattle.dump_text.specs.Number.{spelled_number}
use Rattle.dump_text.specs.Names.{revision_name, copy_revision_name}
use Rattle.dump_text.specs.HeaderLine.{Header, with_header_value}
use Rattle.dump_text.specs.PropertyList.{Property}
use Rattle.dump_records.specs.RecordText.{DumpRecord}
use Rattle.dump_filter.specs.NewHeaders.{without_copy_headers}
use Rattle.dump_filter.specs.NewContent.{revision_properties, new_block}
use Rattle.dump_filter.specs.RecordOutput.{whole_text}
use Rattle.dump_filter.specs.declared.copies.CopyChange.{CopyChange}
use Rattle.dump_filter.specs.declared.copies.CopyChange.TheVariants.{Same, Renumbered, Dropped}

-- the lines of a node with its new copy source
abbrev pub copied_headers : CopyChange → List Header → List Header
copied_headers Same headers = headers
copied_headers (Renumbered n) headers = with_header_value copy_revision_name (spelled_number n) headers
copied_headers Dropped headers = without_copy_headers headers

-- a revision with these properties and its new number, padded or not
abbrev pub revision_own : DumpRecord → ℕ → Bool → List Property → List ℕ
revision_own r number padded ps =
    whole_text (with_header_value revision_name (spelled_number number) r.headers)
    (new_block padded r (revision_properties padded ps)) r.text
    ++ codes "\n"

-- a node with these properties and its new copy source
abbrev pub node_own : DumpRecord → CopyChange → List Property → List ℕ
node_own r copy ps = whole_text (copied_headers copy r.headers) (new_block false r ps) r.text ++ codes "\n\n"
