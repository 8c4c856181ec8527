-- The result of reading the header lines of a block.
use Rattle.std.specs.Prelude.{◌≡◌, ℕ, ◌<◌, ◌^◌, List, IsTrue, IsFalse, if◌then◌else◌}
use Rattle.dump_text.specs.declared.fault.FaultKind.{FaultKind}
use Rattle.dump_text.specs.declared.fault.FaultKind.TheVariants as faults
use Rattle.dump_text.specs.HeaderLine.{Header}
use Rattle.dump_records.specs.HeaderRules.{property_length, text_length, has_bad_kind, has_bad_version, has_bad_number}
use Rattle.dump_records.specs.RecordText.{is_lawful}
use Rattle.dump_records.specs.declared.header.Lengths.{Lengths}

-- the lines break no rule, and these are their lengths
pub record LengthsOf (number : ℕ) (headers : List Header) (found : Lengths) : Type 0 where
  pub lawful : IsTrue (is_lawful number headers)
  pub props_is : found.props ≡ property_length headers
  pub text_is : found.text ≡ text_length headers
  pub props_small : found.props < 10 ^ 18
  pub text_small : found.text < 10 ^ 18

-- the first rule that the lines break, if they break one
abbrev pub header_fault : ℕ → List Header → FaultKind
header_fault number headers =
    if has_bad_kind headers then faults.Kind
    else if has_bad_version number headers then faults.Version
    else if has_bad_number headers then faults.Number
    else faults.Lengths

-- the lines break a rule, and this is the first one
abbrev pub IsUnlawful : ℕ → List Header → FaultKind → Type 0
IsUnlawful number headers kind = IsFalse (is_lawful number headers) × (kind ≡ header_fault number headers)
