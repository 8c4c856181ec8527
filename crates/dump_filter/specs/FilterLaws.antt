-- Laws of what the filter writes.
use Rattle.std.specs.Prelude.{◌≡◌, ℕ, ◌+◌, ◌<◌, ◌^◌, Bool, true, false, List, [], ◌∷◌, ◌++◌, length, IsTrue}
use Rattle.dump_writer.specs.SinkWords.{IsPrefixOf}
use Rattle.dump_records.specs.RecordText.{DumpRecord}
use Rattle.dump_records.specs.DumpText.{BeginsWithRecords}
use Rattle.dump_rules.specs.declared.options.Side.TheVariants.{Include}
use Rattle.dump_rules.specs.Settings.{Settings}
use Rattle.dump_rules.specs.PlainSettings.{plain_settings}
use Rattle.dump_filter.specs.Groups.{kept_revisions}
use Rattle.dump_filter.specs.RecordFaults.{AreFaultFree}
use Rattle.dump_filter.specs.RecordOutput.{IsWrittenBlock}
use Rattle.dump_filter.specs.Written.{is_written, IsWrittenText}
use Rattle.dump_filter.specs.WholeText.{IsCleanText}

-- what is written of the first records of a dump, while more may follow, begins what is written of them and more, if
-- none of them has a fault
abbrev pub WrittenOnlyGrows : Type 0
WrittenOnlyGrows = (settings : Settings) (ended : Bool) (dump : List ℕ) (records more : List DumpRecord)
    (old new : List ℕ) →
    BeginsWithRecords dump (records ++ more)
    → AreFaultFree settings (records ++ more)
    → IsWrittenText settings false records old
    → IsWrittenText settings ended (records ++ more) new
    → IsPrefixOf old new

-- each length that is written can be read again
abbrev pub LengthsFit : Settings → List DumpRecord → Type 0
LengthsFit settings records = (before after : List DumpRecord) (r : DumpRecord) (block : List ℕ) →
    records ≡ before ++ r ∷ after
    → IsTrue (is_written settings true r after)
    → IsWrittenBlock settings (kept_revisions settings records) r after block
    → length block + length r.text < 10 ^ 18

-- the options that keep everything: include the root
abbrev pub keep_all : Settings
keep_all = plain_settings Include ((47 ∷ []) ∷ [])

-- what the filter writes of a clean dump is a clean dump, which it leaves as it is if it keeps everything
abbrev pub KeepsItsOwnText : Type 0
KeepsItsOwnText = (settings : Settings) (dump text : List ℕ) (records : List DumpRecord) →
    IsCleanText settings dump records text
    → LengthsFit settings records
    → (again : List DumpRecord) × IsCleanText keep_all text again text
