-- What each thread of a run returns.
use Rattle.std.specs.Prelude.{◌≡◌, ℕ, ◌+◌, ◌<◌, ◌≤◌, ◌^◌, Bool, true, false, List, [], ◌∷◌, ◌++◌, length, replicate, Option, Some, None, MatchBool, ⊤}
use Rattle.std.specs.Io.KnownBytes.{Appends}
use Rattle.dump_records.specs.DumpText.{Ending}
use Rattle.dump_records.specs.steps.CutRecords.{EndsAfter}
use Rattle.dump_rules.specs.Settings.{Settings}
use Rattle.dump_writer.specs.SinkWords.{capped, IsPrefixOf, HasFailedSince}
use Rattle.dump_filter.specs.steps.FilterState.{FilterState}
use Rattle.dump_lanes.specs.Arrivals.{first_numbers, Clash, IsWaiting}
use Rattle.dump_lanes.specs.declared.pool.worker.WorkerPort.{WorkerPort}
use Rattle.dump_lanes.specs.steps.ArrivalRows.{Row}
use Rattle.dump_lanes.specs.steps.LaneViews.{sending, sent}
use Rattle.dump_lanes.specs.steps.PortSides.{CutterSide, SequencerSide, WorkerSide, IsDone}
use Rattle.dump_lanes.specs.steps.PortViews.{job_port, worker_port, done_port}
use Rattle.dump_lanes.specs.steps.SlotViews.{slot_places}
use Rattle.dump_pipeline.specs.declared.cut.CutterEnds.{CutterEnds}
use Rattle.dump_pipeline.specs.declared.sequence.SequencerEnds.{SequencerEnds}
use Rattle.dump_pipeline.specs.declared.sequence.Found.{Found}
use Rattle.dump_pipeline.specs.declared.sequence.Found.TheVariants as found
use Rattle.dump_pipeline.specs.declared.sequence.Sequenced.{Sequenced}
use Rattle.dump_pipeline.specs.declared.stops.Words.{Words}
use Rattle.dump_pipeline.specs.declared.answer.Answer.{Answer}
use Rattle.dump_pipeline.specs.declared.answer.Answer.TheVariants as answers
use Rattle.dump_pipeline.specs.declared.answer.Failure.TheVariants as failures
use Rattle.dump_pipeline.specs.declared.message.Run.{Ghosts}
use Rattle.dump_pipeline.specs.declared.message.Job.{Job}
use Rattle.dump_pipeline.specs.declared.message.Checked.{Checked}
use Rattle.dump_pipeline.specs.declared.message.NumberedPiece.{NumberedPiece}
use Rattle.dump_pipeline.specs.declared.stage.End.{End}
use Rattle.dump_pipeline.specs.declared.stage.End.TheVariants as ends
use Rattle.dump_pipeline.specs.declared.stage.Stage.{Stage}
use Rattle.dump_pipeline.specs.declared.stage.Stage.TheVariants.{Going, Ended}
use Rattle.dump_pipeline.specs.FilterAnswer.{IsFilterAnswer}
use Rattle.dump_pipeline.specs.steps.Messages.{job_numbers, checked_number, checked_numbers, piece_numbers, text_of}
use Rattle.dump_pipeline.specs.steps.Progress.{Progress}
use Rattle.dump_pipeline.specs.RunAnswer.{IsFilterPrefix, RunLeaves, SinkFailsOnly, ThreadsFailFirst}

module _ {D : Type 0} {run : Ghosts D} where
  -- the ends of a cutter before it starts, with these words
  pub record IsFreshCutter (words : Words) (ends : CutterEnds (Job D run) (Checked D run)) : Type 0 where
    pub open_ : (job_port ends.port).marks ≡ 0
    pub nothing_put : (job_port ends.port).put ≡ []
    pub this_stop : ends.seat.word ≡ words.stop
    pub this_shut : ends.shut.word ≡ words.shut

  -- a worker's port before the worker starts
  pub record IsFreshWorker (port : WorkerPort (Job D run) (Checked D run)) : Type 0 where
    pub open_ : (worker_port port).closed ≡ false
    pub nothing_taken : (worker_port port).taken ≡ []
    pub nothing_given : (worker_port port).given ≡ []

  -- the ends of a sequencer before it starts, with these words
  pub record IsFreshSequencer (words : Words) (ends : SequencerEnds (Job D run) (Checked D run) NumberedPiece) : Type 0 where
    pub nothing_taken : (done_port ends.port).taken ≡ []
    pub nothing_put : (sending ends.to).put ≡ []
    pub empty : slot_places ends.slots ≡ replicate (length (slot_places ends.slots)) None
    pub this_stop : ends.seat.word ≡ words.stop
    pub unraised : ends.seat.raised ≡ false

-- a cutter's port after it has put the first `count` items, each with a credit
pub record HasPut {D : Type 0} {run : Ghosts D} (count : ℕ) (old new : CutterSide (Job D run)) : Type 0 where
  pub pool : new.pool ≡ old.pool
  pub workers : new.workers ≡ old.workers
  pub open_ : new.marks ≡ 0
  pub numbers : job_numbers new.put ≡ first_numbers count
  pub credits : count ≤ new.drawn

-- what the cutter has put at its end: the first `count` items, and unless it saw the stop, all the dump's records and
-- the last word
pub record HasCut {D : Type 0} {run : Ghosts D} (dump : List ℕ) (new : CutterSide (Job D run))
    (seen : Bool) : Type 0 where
  pub count : ℕ
  pub numbers : job_numbers new.put ≡ first_numbers count
  pub credits : count ≤ new.drawn
  pub whole : seen ≡ false → (total : ℕ) × (ending : Ending) × EndsAfter dump total ending × (count ≡ total + 1)

-- the ends that the cutter returns: it has closed its port, and has cut the dump unless it was told before to cut
-- nothing
pub record HasCutFrom {D : Type 0} {run : Ghosts D} (dump : List ℕ)
    (old new : CutterEnds (Job D run) (Checked D run)) : Type 0 where
  pub pool : (job_port new.port).pool ≡ (job_port old.port).pool
  pub workers : (job_port new.port).workers ≡ (job_port old.port).workers
  pub closed : (job_port new.port).marks ≡ (job_port old.port).workers
  pub cut : new.shut.seen ≡ false → HasCut dump (job_port new.port) new.seat.seen
  pub seat : new.seat ≡ record old.seat { seen = new.seat.seen }
  pub shut : new.shut ≡ record old.shut { seen = new.shut.seen }

-- what a worker returns: it has ended, and has given one checked item for each job that it took, with the same number
pub record HasWorked {D : Type 0} {run : Ghosts D} (worker : WorkerSide (Job D run) (Checked D run)) : Type 0 where
  pub done : IsDone worker
  pub numbers : checked_numbers worker.given ≡ job_numbers worker.taken

-- the port that a worker gets and the one that it returns
pub record HasWorkedFrom {D : Type 0} {run : Ghosts D} (old new : WorkerPort (Job D run) (Checked D run)) : Type 0 where
  pub pool : (worker_port new).pool ≡ (worker_port old).pool
  pub index : (worker_port new).index ≡ (worker_port old).index
  pub worked : HasWorked (worker_port new)

-- how the sequencer ended, if it did
abbrev pub stage_end : Stage → Option End
stage_end (Going filter) = None
stage_end (Ended end) = Some end

-- it ended with a fault or a failure of its own
abbrev pub is_failure : Option End → Bool
is_failure None = false
is_failure (Some (ends.Clean report)) = false
is_failure (Some (ends.Fault which number place)) = true
is_failure (Some ends.Memory) = true

-- the answer of a run whose sequencer ended in this way, if the sink took all
abbrev pub end_answer : End → ℕ → Answer
end_answer (ends.Clean report) count = answers.Clean report
end_answer (ends.Fault which number place) count = answers.Fault which number place
end_answer ends.Memory count = answers.Failed failures.Memory count

-- the text that was released, if the sequencer ended in this way
abbrev pub IsEndOf : Settings → List ℕ → End → List ℕ → Type 0
IsEndOf settings dump (ends.Clean report) text = IsFilterAnswer settings dump text (answers.Clean report)
IsEndOf settings dump (ends.Fault kind number place) text = IsFilterAnswer settings dump text
    (answers.Fault kind number place)
IsEndOf settings dump ends.Memory text = IsFilterPrefix settings dump text

-- this filter has taken `next` records, and this is their text
abbrev pub HasFiltered : Settings → List ℕ → FilterState → ℕ → List ℕ → Type 0
HasFiltered settings dump filter next text =
    Progress settings dump (record { dump = dump; number = next }) filter (Some []) (Some text) (capped (length text))

-- the text that was released so far
abbrev pub HasReleased : Settings → List ℕ → Stage → ℕ → List ℕ → Type 0
HasReleased settings dump (Going filter) next text = HasFiltered settings dump filter next text
HasReleased settings dump (Ended end) next text = IsEndOf settings dump end text

-- the text that was released when the sequencer ended
abbrev pub HasEndedWith : Settings → List ℕ → Option End → ℕ → List ℕ → Type 0
HasEndedWith settings dump None next text = (filter : FilterState) × HasFiltered settings dump filter next text
HasEndedWith settings dump (Some end) next text = IsEndOf settings dump end text

-- what the sequencer has found for the next item, with the items that it took and the row with `window` slots
abbrev pub HasFound : {D : Type 0} {run : Ghosts D} → ℕ → ℕ → SequencerSide (Checked D run)
    → List (Option (Checked D run)) → Found (Checked D run) → Type 0
HasFound window next side places (found.Next checked) =
    (checked_number checked ≡ next) × (next + 1 < 2 ^ 64)
    × Row checked_number window (next + 1) (checked_numbers side.taken) places
HasFound window next side places found.Later = Row checked_number window next (checked_numbers side.taken) places
HasFound window next side places found.Stray = Clash window next (checked_numbers side.taken)
HasFound window next side places found.NoMore = IsWaiting next (checked_numbers side.taken) × (side.ended ≡ true)

-- if it has found a later item, it took one
abbrev pub HasTaken : {D : Type 0} {run : Ghosts D} → SequencerSide (Checked D run) → SequencerSide (Checked D run)
    → Found (Checked D run) → Type 0
HasTaken old new (found.Next checked) = ⊤
HasTaken {D} {run} old new found.Later = (item : Checked D run) × (new.taken ≡ old.taken ++ item ∷ [])
HasTaken old new found.Stray = ⊤
HasTaken old new found.NoMore = ⊤

-- what the sequencer returns: pieces with the first numbers, their text, and what it found in the slots
pub record HasSequenced {D : Type 0} {run : Ghosts D} (settings : Settings) (dump : List ℕ) (window : ℕ)
    (taken : List (Checked D run)) (put : List NumberedPiece) (end : Option End) (stray : Bool) : Type 0 where
  pub text : HasEndedWith settings dump end (length put) (text_of put)
  pub numbered : piece_numbers put ≡ first_numbers (length put)
  pub order : MatchBool stray (Clash window (length put) (checked_numbers taken))
      (IsWaiting (length put) (checked_numbers taken))

-- the same of the value that it returns, with a row of `window` slots
abbrev pub IsSequenced : {D : Type 0} {run : Ghosts D} → Settings → List ℕ → ℕ
    → Sequenced (Job D run) (Checked D run) NumberedPiece → Type 0
IsSequenced settings dump window given =
    HasSequenced settings dump window (done_port given.port).taken (sent given.sent).put given.end given.stray

-- the same of its ends before and after it worked, with how it ended and whether an item wasn't where it should be
abbrev pub EndsAreSequenced : {D : Type 0} {run : Ghosts D} → Settings → List ℕ
    → SequencerEnds (Job D run) (Checked D run) NumberedPiece → SequencerEnds (Job D run) (Checked D run) NumberedPiece
    → Option End × Bool → Type 0
EndsAreSequenced settings dump old new (end, stray) =
    HasSequenced settings dump (length (slot_places old.slots)) (done_port new.port).taken (sending new.to).put end
    stray

-- what the sequencer returns for its ends: it has taken all items, and has raised the stop if it failed
pub record HasSequencedFrom {D : Type 0} {run : Ghosts D} (settings : Settings) (dump : List ℕ)
    (ends : SequencerEnds (Job D run) (Checked D run) NumberedPiece) (given : Sequenced (Job D run) (Checked D run) NumberedPiece) : Type 0 where
  pub pool : (done_port given.port).pool ≡ (done_port ends.port).pool
  pub ended : (done_port given.port).ended ≡ true
  pub lane : (sent given.sent).lane ≡ (sending ends.to).lane
  pub seat : given.seat ≡ record ends.seat { raised = is_failure given.end }
  pub sequenced : IsSequenced settings dump (length (slot_places ends.slots)) given

-- the bytes that the sink received of the pieces that the writer took: all, or the first ones if it failed; and their
-- count
pub record HasReceived (failed : Bool) (text : List ℕ) (old new : Option (List ℕ)) (written : ℕ) : Type 0 where
  pub received : List ℕ
  pub appended : Appends old new received
  pub part : MatchBool failed (IsPrefixOf received text) (received ≡ text)
  pub sized : written ≡ capped (length received)

-- the sink's count of failures is larger if it failed, and otherwise unchanged
abbrev pub CountsFailed : Bool → ℕ → ℕ → Type 0
CountsFailed failed old new = MatchBool failed (HasFailedSince old new) (new ≡ old)

-- the result of a run: what its sink holds, how its count of failures changed, and the answer
pub record HasRun {S : Type 0} (settings : Settings) (dump : List ℕ) (taken : S → Option (List ℕ)) (failures : S → ℕ)
    (old new : S) (answer : Answer) : Type 0 where
  pub leaves : RunLeaves settings dump (taken old) (taken new) answer
  pub sink : SinkFailsOnly (failures old) (failures new) answer
  pub threads : ThreadsFailFirst answer
