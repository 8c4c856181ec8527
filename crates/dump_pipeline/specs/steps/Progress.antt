-- What a run has done so far.
use Rattle.std.specs.Prelude.{◌≡◌, ℕ, true, false, List, length, Option}
use Rattle.std.specs.Io.KnownBytes.{Appends}
use Rattle.dump_records.specs.RecordText.{DumpRecord}
use Rattle.dump_records.specs.steps.CutterState.{CutterState}
use Rattle.dump_records.specs.DumpText.{BeginsWithRecords}
use Rattle.dump_rules.specs.Settings.{Settings}
use Rattle.dump_writer.specs.SinkWords.{capped}
use Rattle.dump_filter.specs.steps.FilterState.{FilterState, count_up_to, AreAccepted, IsOfSameDump}
use Rattle.dump_filter.specs.RecordFaults.{AreFaultFree}
use Rattle.dump_filter.specs.Written.{IsWrittenText}

-- a run has taken these records so far, found no fault in them, and written their text
pub record Progress (settings : Settings) (dump : List ℕ) (cutter : CutterState) (filter : FilterState)
    (old new : Option (List ℕ)) (written : ℕ) : Type 0 where
  pub before : List DumpRecord
  pub begins : BeginsWithRecords dump before
  pub count : length before ≡ cutter.number
  pub cut : cutter.dump ≡ dump
  pub settings_is : filter.settings ≡ settings
  pub active : filter.active ≡ true
  pub accepted : AreAccepted filter before
  pub same_dump : IsOfSameDump filter dump
  pub next : count_up_to filter.last ≡ cutter.number
  pub free : AreFaultFree settings before
  pub text : List ℕ
  pub out : IsWrittenText settings false before text
  pub appended : Appends old new text
  pub sized : written ≡ capped (length text)
