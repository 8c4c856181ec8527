-- The texts of records, as their own lines tell them.
use Rattle.std.specs.Prelude.{ℕ, List, [], map, Option, None}
use Rattle.dump_text.specs.HeaderLine.{header_value}
use Rattle.dump_text.specs.Names.{md5_name, sha1_name}
use Rattle.dump_records.specs.RecordText.{DumpRecord}

-- a text, and the digests that are given for it
pub record ToldText : Type 0 where
  pub text : List ℕ
  pub md5 : Option (List ℕ)
  pub sha1 : Option (List ℕ)

-- the text of a record, with the digests that its own lines give
abbrev pub told_text : DumpRecord → ToldText
told_text r = record {
  text = r.text;
  md5 = header_value md5_name r.headers;
  sha1 = header_value sha1_name r.headers;
}

-- the texts of records
abbrev pub record_texts : List DumpRecord → List ToldText
record_texts records = map told_text records

-- the text of a file if no change sets one
abbrev pub no_text : ToldText
no_text = record { text = []; md5 = None; sha1 = None }
