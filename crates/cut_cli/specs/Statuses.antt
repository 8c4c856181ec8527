-- What the other statuses of svndumpcut say of its output, and what the file of the map received.
use Rattle.std.specs.Prelude.{◌≡◌, ◌⊎◌, ℕ, List, ◌++◌, Option, Some, None, Result, Ok, true, false}
use Rattle.std.specs.Io.KnownBytes.{Appends, Keeps}
use Rattle.clap.specs.Words.{Text}
use Rattle.dump_filter.specs.declared.state.Report.{Report}
use Rattle.dump_rules.specs.Settings.{Settings}
use Rattle.dump_pipeline.specs.declared.answer.Answer.{Answer}
use Rattle.dump_pipeline.specs.declared.answer.Answer.TheVariants.{Clean}
use Rattle.cli_support.specs.Info.{Prints}
use Rattle.cli_support.specs.NamedOutputs.{Replaces}
use Rattle.cli_support.specs.declared.info.Info.{Info}
use Rattle.cli_support.specs.declared.usage.Usage.{Usage}
use Rattle.cut_cli.specs.Sent.{IsSent, stop_line_of}
use Rattle.cut_cli.specs.RevisionMap.{IsMapOfCut}
use Rattle.cut_cli.specs.Texts.{info_text}
use Rattle.cut_cli.specs.Words.{CutMeaning}
use Rattle.dump_writer.specs.SinkWords.{TakesPart}

-- with status 2 or 3 nothing is written, and nothing by a trial, if it is known what the reader had left
abbrev pub NothingIsWritten : Option Info → Result CutMeaning Usage → Option (List ℕ) → (old new : Option (List ℕ)) → ℕ → Type 0
NothingIsWritten info meaning input old new status = (dump : List ℕ) → info ≡ None → input ≡ Some dump →
    ((status ≡ 2) ⊎ (status ≡ 3) ⊎ ((m : CutMeaning) × (meaning ≡ Ok m) × (m.dry_run ≡ true))) → Keeps old new

-- what a run of the filter with some options sends of what it read, and the last line of a fault: the writer took a first part of
-- that, perhaps all. With deletes after its nodes, or a later part, it is sent only if the filter found no fault
pub record TakesPartOfRun (old new : Option (List ℕ)) : Type 0 where
  pub settings : Settings
  pub deletes : Option (List (List (List ℕ)))
  pub after : Option ℕ
  pub read : List ℕ
  pub sent : List ℕ
  pub answer : Answer
  pub is_sent : IsSent settings deletes after read sent answer
  pub taken : TakesPart old new (sent ++ stop_line_of answer)

-- with status 1 nothing is written, or such a part
abbrev pub PartIsWritten : Option Info → Option (List ℕ) → (old new : Option (List ℕ)) → ℕ → Type 0
PartIsWritten info input old new status = (dump : List ℕ) → info ≡ None → input ≡ Some dump → status ≡ 1 →
    Keeps old new ⊎ TakesPartOfRun old new

-- what was written with status 0 is what a run without a fault sends, and the file has the map of that run, or of its later
-- revisions, and nothing else
pub record HasMapOfRun (m : CutMeaning) (old new map_old map_new : Option (List ℕ)) : Type 0 where
  pub settings : Settings
  pub deletes : Option (List (List (List ℕ)))
  pub read : List ℕ
  pub sent : List ℕ
  pub report : Report
  pub map : List ℕ
  pub is_sent : IsSent settings deletes m.after read sent (Clean report)
  pub arrived : Appends old new sent
  pub is_map : IsMapOfCut m.after settings read map
  pub written : Replaces map_old map_new map

-- the map that a call asks for
abbrev pub MapIsWritten : Option Info → Result CutMeaning Usage → Option (List ℕ) → (old new map_old map_new : Option (List ℕ)) → ℕ
    → Type 0
MapIsWritten info meaning input old new map_old map_new status = (m : CutMeaning) (dump : List ℕ) (name : Text) →
    info ≡ None → meaning ≡ Ok m → input ≡ Some dump → status ≡ 0 → m.dry_run ≡ false → m.map_name ≡ Some name
    → HasMapOfRun m old new map_old map_new

-- arguments that ask for a text get it, and the file of the map stays as it is
abbrev pub TextIsPrinted : Option Info → (old new map_old map_new : Option (List ℕ)) → ℕ → Type 0
TextIsPrinted asked old new map_old map_new status = (info : Info) → asked ≡ Some info →
    Prints 1 (info_text info) old new status × Keeps map_old map_new
