-- What is found by reading the entries of a property block.
use Rattle.std.specs.Prelude.{◌≡◌, ◌↔◌, ℕ, List, IsTrue}
use Rattle.dump_text.specs.declared.props.Scan.{Scan}
use Rattle.dump_text.specs.PropertyList.{Property, AreEntries, has_deletes}
use Rattle.dump_text.specs.steps.PropertyScan.{HasEntries, IsWritten}

-- the text is entries and their end line, and the scan says what they are like
pub record IsScanOf (text : List ℕ) (scan : Scan) : Type 0 where
  pub entries : HasEntries text
  pub spelled : IsTrue scan.spelled ↔ IsWritten text
  pub deletes : (ps : List Property) → AreEntries text ps → scan.deletes ≡ has_deletes ps
