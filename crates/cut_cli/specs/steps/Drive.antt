-- What the program does with its arguments and its input.
use Rattle.std.specs.Prelude.{◌≡◌, ◌⊎◌, ℕ, List, [], ◌++◌, ◌==◌, Bool, true, false, is_some, Option, None, Some, Result, Ok, Err, IfSome, MatchBool, if◌then◌else◌}
use Rattle.std.specs.Io.KnownBytes.{Appends, GrowsBy, Keeps}
use Rattle.clap.specs.Walk.{is_empty}
use Rattle.clap.specs.Words.{Text}
use Rattle.dump_records.specs.DumpText.{Ending, HasRecords}
use Rattle.dump_records.specs.RecordText.{DumpRecord}
use Rattle.dump_rules.specs.Settings.{Settings}
use Rattle.dump_filter.specs.WholeText.{IsCleanText}
use Rattle.dump_pipeline.specs.declared.answer.Answer.{Answer}
use Rattle.dump_pipeline.specs.declared.answer.Answer.TheVariants.{Clean, Fault, Failed}
use Rattle.dump_pipeline.specs.declared.answer.Failure.{Failure}
use Rattle.cli_support.specs.Arguments.{refusal_status}
use Rattle.cli_support.specs.NamedOutputs.{Replaces}
use Rattle.cli_support.specs.Targets.{AreTextsOf}
use Rattle.cli_support.specs.declared.usage.Usage.{Usage}
use Rattle.dump_changes.specs.steps.ListedDumps.{are_numbered}
use Rattle.cut_cli.specs.Sent.{IsTrimmedIf, IsSent, stop_line_of}
use Rattle.cut_cli.specs.steps.Cuts.{HasPartIf, IsCutText, IsReadyFor, WouldComeBack, WouldDiffer, text_read}
use Rattle.cut_cli.specs.RevisionMap.{IsMapOfCut}
use Rattle.cut_cli.specs.steps.RevisionMap.{TakesPartOfMap}
use Rattle.cut_cli.specs.Words.{CutMeaning, with_texts_of}
use Rattle.cut_cli.specs.steps.Words.{TellsCut, asked_map, cut_meaning}
use Rattle.cut_cli.specs.declared.examine.Obstacle.{Obstacle}
use Rattle.cut_cli.specs.declared.examine.Obstacle.TheVariants as obstacles
use Rattle.cut_cli.specs.declared.words.Call.{Call}
use Rattle.dump_writer.specs.SinkWords.{TakesPart}

abbrev pub cut_status : Answer → ℕ
cut_status (Clean _) = 0
cut_status (Fault _ _ _) = 1
cut_status (Failed _ _) = 1

abbrev pub obstacle_status : Obstacle → ℕ
obstacle_status (obstacles.Unread _) = 1
obstacle_status (obstacles.Rejected _) = 1
obstacle_status obstacles.ComesBack = 3
obstacle_status obstacles.CutsOtherwise = 3
obstacle_status obstacles.Missing = 3
obstacle_status obstacles.EndsElsewhere = 1
obstacle_status (obstacles.OddDelete _) = 1
obstacle_status (obstacles.NotAdded _) = 1
obstacle_status (obstacles.NoPart _) = 1

-- the output broke off, and the answer is the failure with the count of the bytes that the writer took
pub record BreaksOffCut (old new : Option (List ℕ)) (sent : List ℕ) (told : Answer) : Type 0 where
  pub failure : Failure
  pub written : ℕ
  pub part : TakesPart old new sent
  pub counted : GrowsBy old new written
  pub told_is : told ≡ Failed failure written

-- these bytes were sent, with the last line of a fault: all of them reached the writer, and the answer is told; or the output broke
-- off
abbrev pub ArrivesOrBreaksOff : List ℕ → Answer → Option (List ℕ) → Option (List ℕ) → Answer → Type 0
ArrivesOrBreaksOff sent answer old new told = (Appends old new (sent ++ stop_line_of answer) × (told ≡ answer))
    ⊎ BreaksOffCut old new (sent ++ stop_line_of answer) told

-- a run on the input gave an answer, and bytes were sent
pub record RanCut (settings : Settings) (deletes : Option (List (List (List ℕ)))) (after : Option ℕ) (dump : List ℕ)
    (old new : Option (List ℕ)) (told : Answer) : Type 0 where
  pub answer : Answer
  pub sent : List ℕ
  pub answered : IsSent settings deletes after dump sent answer
  pub arrived : ArrivesOrBreaksOff sent answer old new told

-- the dump is filtered, or no memory was left for that
abbrev pub WritesCut : Settings → Option (List (List (List ℕ))) → Option ℕ → List ℕ → Option (List ℕ) → Option (List ℕ) → ℕ
    → Type 0
WritesCut settings deletes after dump old new status =
    ((told : Answer) × RanCut settings deletes after dump old new told × (status ≡ cut_status told))
    ⊎ (Keeps old new × (status ≡ 1))

-- a map is written whole, or a first part of it
abbrev pub WritesMap : Option ℕ → Settings → List ℕ → Option (List ℕ) → Option (List ℕ) → Bool → Type 0
WritesMap after settings dump old new true = (text : List ℕ) × IsMapOfCut after settings dump text × Appends old new text
WritesMap after settings dump old new false = TakesPartOfMap after settings dump old new

-- the same of a map that is asked for; one that isn't can't fail
abbrev pub EndsMap : Option Text → Option ℕ → Settings → List ℕ → Option (List ℕ) → Option (List ℕ) → Bool → Type 0
EndsMap None after settings dump old new whole = Keeps old new × (whole ≡ true)
EndsMap (Some name) after settings dump old new whole = WritesMap after settings dump old new whole

-- behind a whole cut the map is written, and the status is 1 where that failed; behind any other none is, and the status
-- stays
abbrev pub FollowsCut : Option Text → Option ℕ → Settings → List ℕ → Option (List ℕ) → Option (List ℕ) → (cut status : ℕ)
    → Type 0
FollowsCut asked after settings dump old new cut status = MatchBool (cut == 0)
    ((whole : Bool) × EndsMap asked after settings dump old new whole × (status ≡ (if whole then 0 else 1)))
    (Keeps old new × (status ≡ cut))

-- the dump is filtered, with a status, and the map follows
abbrev pub WritesBoth : Option Text → Settings → Option (List (List (List ℕ))) → Option ℕ → List ℕ
    → (old new map_old map_new : Option (List ℕ)) → ℕ → Type 0
WritesBoth asked settings deletes after dump old new map_old map_new status = (cut : ℕ)
    × WritesCut settings deletes after dump old new cut × FollowsCut asked after settings dump map_old map_new cut status

-- the same where the call is for a trial: the writer receives nothing
abbrev pub WritesIfAsked : CutMeaning → Settings → Option (List (List (List ℕ))) → List ℕ
    → (old new map_old map_new : Option (List ℕ)) → ℕ → Type 0
WritesIfAsked m settings deletes dump old new map_old map_new status = MatchBool m.dry_run
    (WritesBoth (asked_map m) settings deletes m.after dump None None map_old map_new status × Keeps old new)
    (WritesBoth (asked_map m) settings deletes m.after dump old new map_old map_new status)

-- if the revisions of the dump are numbered 0, 1, 2 and so on: what the filter writes of what it reads, with these deletes, is the
-- cut of the dump
abbrev pub CleanTextsAreCuts : CutMeaning → Option (List ℕ) → Settings → Option (List (List (List ℕ))) → List ℕ → Type 0
CleanTextsAreCuts m expansion settings deletes dump =
    (records again : List DumpRecord) (filtered text : List ℕ) →
    HasRecords dump records Ending.Whole → are_numbered records ≡ true
    → IsCleanText settings (text_read expansion dump) again filtered → IsTrimmedIf deletes filtered text
    → IsCutText m expansion settings dump text

-- nothing is written: with status 1, or with status 3 for one of three reasons
abbrev pub EndsUnwritten : CutMeaning → List ℕ → ℕ → Type 0
EndsUnwritten m dump status = (status ≡ 1)
    ⊎ ((status ≡ 3) × (WouldComeBack m dump ⊎ (WouldDiffer m dump ⊎ (m.allow_missing ≡ false))))

-- a dump is cut; or nothing is written
abbrev pub CutsDump : CutMeaning → List ℕ → (old new map_old map_new : Option (List ℕ)) → ℕ → Type 0
CutsDump m dump old new map_old map_new status =
    ((expansion : Option (List ℕ)) × (settings : Settings) × (deletes : Option (List (List (List ℕ))))
    × HasPartIf m.after dump × IsReadyFor m dump expansion settings deletes
    × CleanTextsAreCuts m expansion settings deletes dump
    × WritesIfAsked m settings deletes (text_read expansion dump) old new map_old map_new status)
    ⊎ (EndsUnwritten m dump status × Keeps old new × Keeps map_old map_new)

-- the input is cut; or it wasn't read, and nothing is written
abbrev pub CutsInput : CutMeaning → Option (List ℕ) → (old new map_old map_new : Option (List ℕ)) → ℕ → Type 0
CutsInput m input old new map_old map_new status = IfSome input (λ dump. CutsDump m dump old new map_old map_new status)
    ⊎ (Keeps old new × Keeps map_old map_new × (status ≡ 1))

-- the file of a map that is asked for is created, or emptied
abbrev pub BeginsMap : Option Text → Option (List ℕ) → Option (List ℕ) → Type 0
BeginsMap None old new = Keeps old new
BeginsMap (Some name) old new = Replaces old new []

-- the file of the map is created, and then the input is cut; or a map is asked for whose file can't be created, and nothing is
-- written
abbrev pub AnswersCall : CutMeaning → Option (List ℕ) → (old new map_old map_new : Option (List ℕ)) → ℕ → Type 0
AnswersCall m input old new map_old map_new status =
    ((begun : Option (List ℕ)) × BeginsMap (asked_map m) map_old begun × CutsInput m input old new begun map_new status)
    ⊎ ((is_some (asked_map m) ≡ true) × Keeps old new × Keeps map_old map_new × (status ≡ 1))

-- a call without a prefix is refused, and others are answered
abbrev pub AnswersWhole : CutMeaning → Option (List ℕ) → (old new map_old map_new : Option (List ℕ)) → ℕ → Type 0
AnswersWhole m input old new map_old map_new status = MatchBool (is_empty m.prefixes)
    (Keeps old new × Keeps map_old map_new × (status ≡ 2)) (AnswersCall m input old new map_old map_new status)

-- the files of a call are read, and it is answered with the prefixes in them too; or one wasn't read, or no memory was left
abbrev pub ReadsTargets : (Text → Option (List ℕ)) → CutMeaning → Option (List ℕ)
    → (old new map_old map_new : Option (List ℕ)) → ℕ → Type 0
ReadsTargets text_of m input old new map_old map_new status =
    ((texts : List (List ℕ)) × AreTextsOf text_of m.targets texts
    × AnswersWhole (with_texts_of m texts) input old new map_old map_new status)
    ⊎ (Keeps old new × Keeps map_old map_new × (status ≡ 1))

-- arguments that ask for nothing are refused
abbrev pub ObeysCut : (Text → Option (List ℕ)) → Result Call Usage → Option (List ℕ)
    → (old new map_old map_new : Option (List ℕ)) → ℕ → Type 0
ObeysCut text_of (Err usage) input old new map_old map_new status =
    Keeps old new × Keeps map_old map_new × (status ≡ refusal_status 1 usage)
ObeysCut text_of (Ok call) input old new map_old map_new status =
    ReadsTargets text_of (cut_meaning call) input old new map_old map_new status

-- arguments of this meaning have an answer, and it is obeyed
abbrev pub DrivesCut : (Text → Option (List ℕ)) → Result CutMeaning Usage → Option (List ℕ)
    → (old new map_old map_new : Option (List ℕ)) → ℕ → Type 0
DrivesCut text_of meaning input old new map_old map_new status = (answer : Result Call Usage) × TellsCut meaning answer
    × ObeysCut text_of answer input old new map_old map_new status
