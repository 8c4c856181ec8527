-- What the checks find, part by part.
use Rattle.std.specs.Prelude.{◌≢◌, ℕ, Bool, ◌&&◌, ◌||◌, not, List, Option, is_some, IsTrue, Ok}
use Rattle.std.specs.List.{list_all}
use Rattle.std.specs.Option.{ForSome}
use Rattle.dump_text.specs.Names.{md5_name, sha1_name}
use Rattle.dump_text.specs.HeaderLine.{has_header}
use Rattle.dump_text.specs.PropertyList.{Property}
use Rattle.dump_records.specs.RecordText.{DumpRecord}
use Rattle.dump_rules.specs.steps.ReadMergeinfo.{value_reads}
use Rattle.dump_digest.specs.RecordParts.{has_whole_text, is_mergeinfo, value_of}
use Rattle.dump_digest.specs.ContentFaults.{DiffersFromDigest}
use Rattle.md5.specs.Md5.{md5}
use Rattle.sha1.specs.Sha1.{sha1}
use Rattle.hex.specs.Hex.{decode_sized}

-- there are digits, and they aren't those of this digest
abbrev pub TellsOther : Option (List ℕ) → ℕ → List ℕ → Type 0
TellsOther told size digest = IsTrue (is_some told) × ForSome told (λ digits. decode_sized digits size ≢ Ok digest)

-- there are digits, and they aren't those of the text's MD5 digest
abbrev pub TellsOtherMd5 : Option (List ℕ) → List ℕ → Type 0
TellsOtherMd5 told text = TellsOther told 16 (md5 text)

-- the same of its SHA-1 digest
abbrev pub TellsOtherSha1 : Option (List ℕ) → List ℕ → Type 0
TellsOtherSha1 told text = TellsOther told 20 (sha1 text)

-- the record has a text that is no delta, and the digest in its header is another one
abbrev pub HasOtherDigest : List ℕ → DumpRecord → ℕ → List ℕ → Type 0
HasOtherDigest name r size digest = IsTrue (has_whole_text r) × DiffersFromDigest name r size digest

-- whether the record has a text that is no delta, and a header with a digest of it
abbrev pub is_told_text : DumpRecord → Bool
is_told_text r = has_whole_text r && (has_header md5_name r.headers || has_header sha1_name r.headers)

-- whether the property isn't named svn:mergeinfo, or its value is mergeinfo
abbrev pub property_reads : Property → Bool
property_reads p = not (is_mergeinfo p) || value_reads (value_of p)

-- the same of each property
abbrev pub properties_read : List Property → Bool
properties_read ps = list_all property_reads ps
