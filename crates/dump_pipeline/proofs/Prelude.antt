-- The words of std, of the definitions and of the lemmas below, for the proofs of this crate.
pub use Rattle.std.proofs.Common.{All, Bool, Err, IsNone, List, MatchBool, None, Ok, Option, Result, Some, [], ap, append_assoc, arith, codes, drop, false, inl, inr, length, lit<, lit≤, map, refl, replicate, rules, subst, suc, sum_by, sym, take, true, vec_capacity, vec_len, ℕ, ◌++◌, ◌+◌, ◌-◌, ◌<◌, ◌^◌, ◌||◌, ◌∙◌, ◌∷◌, ◌≡◌, ◌≢◌, ◌≤◌, ◌⊎◌, ⊎_elim}
pub use Rattle.std.proofs.KnownBytes.{Appends-nil, Appends-trans}
pub use Rattle.std.proofs.Math.Logic.{∥∥₁_elim}
pub use Rattle.std.proofs.Props.{props}
pub use Rattle.std.proofs.lemmas.Bool.{cases_Bool, false≢true, or_cases, or_left}
pub use Rattle.std.proofs.lemmas.Grind.{flat_map-append}
pub use Rattle.std.proofs.lemmas.Iterator.Adapters.{YieldsList-from_vec}
pub use Rattle.std.proofs.lemmas.Iterator.Consumers.{YieldsList-end}
pub use Rattle.std.proofs.lemmas.List.{append-nil, length-replicate, length-take, length-take-le, map-append, same_from_push, take-append-drop}
pub use Rattle.std.specs.Coded.{Coded-set, coded_ℕ}
pub use Rattle.std.specs.Io.KnownBytes.{Appends}
pub use Rattle.std.specs.List.{range_with_len}
pub use Rattle.std.specs.Option.{ForSome}
pub use Rattle.std.specs.Result.{ForErr}
pub use Rattle.dump_digest.specs.steps.DoneViews.{done_record}
pub use Rattle.dump_filter.proofs.Values.{clean, padding, version, version_text}
pub use Rattle.dump_filter.proofs.knowing.Answered.{AllLawful, Outcome, Reached, all_lawful, follow, lawful_behind, lawful_front, reach, reached_none, reached_written}
pub use Rattle.dump_filter.proofs.knowing.Answered.Outcome.{Ends, Stops}
pub use Rattle.dump_filter.proofs.knowing.FilterLemmas.{begins_none, free_more, free_none}
pub use Rattle.dump_filter.proofs.knowing.OnceLemmas.{outputs_once}
pub use Rattle.dump_filter.specs.Counts.{report_of}
pub use Rattle.dump_filter.specs.Groups.{kept_revisions}
pub use Rattle.dump_filter.specs.RecordFaults.{AreFaultFree, HoldsOfRecord, IsRecordFault}
pub use Rattle.dump_filter.specs.WholeText.{IsCleanText}
pub use Rattle.dump_filter.specs.Written.{IsWrittenText}
pub use Rattle.dump_filter.specs.steps.FilterState.{Accepts, AreAccepted, FilterState, Finishes, Refuses, Seen, count_up_to, first_state}
pub use Rattle.dump_lanes.proofs.Arrivals.{arrived_more, empty_row, next_is_missing, no_clash, none_waits, passed_on, released_more, same_row, still_clash, taken_place, wrong_item}
pub use Rattle.dump_lanes.proofs.FreshPorts.{none_given, none_taken, workers_count}
pub use Rattle.dump_lanes.proofs.PortsTogether.{all_then, fresh_workers, length_of_map, map_of_all, none_closed, same_ports}
pub use Rattle.dump_lanes.proofs.core.Weights.{range_next}
pub use Rattle.dump_lanes.specs.Arrivals.{Clash, IsWaiting, WeighsSame, first_numbers}
pub use Rattle.dump_lanes.specs.steps.ArrivalRows.{Row}
pub use Rattle.dump_lanes.specs.steps.LaneEnds.{Receiving, Sending}
pub use Rattle.dump_lanes.specs.steps.LaneViews.{receiving, sending, sent}
pub use Rattle.dump_lanes.specs.steps.PortSides.{AreWorkersOf, CutterSide, IsDone, PoolName, PoolState, SequencerSide, WorkerSide, WriterSide, all_given, all_taken, new_worker}
pub use Rattle.dump_lanes.specs.steps.PortViews.{credit_port, done_port, job_port, pool_state, worker_port}
pub use Rattle.dump_lanes.specs.steps.SlotRow.{slot_item, with_slot_item}
pub use Rattle.dump_lanes.specs.steps.SlotViews.{slot_places}
pub use Rattle.dump_lanes.specs.steps.StopSeats.{Seat, SeesOnlyRaised, joined_seat}
pub use Rattle.dump_pipeline.specs.FilterAnswer.{HasFirstFault, IsFilterAnswer}
pub use Rattle.dump_pipeline.specs.RunAnswer.{IsFilterPrefix, IsRunAnswer, RunLeaves, SinkFailsOnly, ThreadsFailFirst}
pub use Rattle.dump_pipeline.specs.RunLaws.{EachDumpHasOneAnswer}
pub use Rattle.dump_pipeline.specs.steps.Endings.{ending_of}
pub use Rattle.dump_pipeline.specs.steps.Messages.{checked_number, checked_numbers, job_number, job_numbers, piece_numbers, text_of}
pub use Rattle.dump_pipeline.specs.steps.Parts.{CountsFailed, HasCut, HasEndedWith, HasFiltered, HasFound, HasTaken, HasPut, HasReceived, HasReleased, HasSequenced, HasWorked, IsEndOf, end_answer, is_failure, stage_end}
pub use Rattle.dump_pipeline.specs.steps.PlanRange.{IsInRange}
pub use Rattle.dump_pipeline.specs.steps.Progress.{Progress}
pub use Rattle.dump_pipeline.specs.steps.Sending.{EndsRun, Sends, StopsShort}
pub use Rattle.dump_records.proofs.CutLemmas.{count_fits}
pub use Rattle.dump_records.proofs.ListLaw.{each_dump_has_one_list}
pub use Rattle.dump_records.proofs.PartLemmas.{no_block}
pub use Rattle.dump_records.proofs.Prefixes.{begins_once, begins_prefix, is_front, one_more, whole_front, whole_list, within}
pub use Rattle.dump_records.proofs.Unique.{least_once, records_once}
pub use Rattle.dump_records.specs.DumpText.{BeginsWithRecords, Ending, HasRecords}
pub use Rattle.dump_records.specs.RecordText.{DumpRecord}
pub use Rattle.dump_records.specs.steps.CutRecords.{EndsAfter, IsRecordOf}
pub use Rattle.dump_records.specs.steps.CutterState.{CutterState}
pub use Rattle.dump_records.specs.steps.RecordViews.{CutStep, record_dump, record_item, record_number}
pub use Rattle.dump_rules.specs.Settings.{Settings}
pub use Rattle.dump_text.proofs.Unique.{block_some}
pub use Rattle.dump_text.specs.FaultTable.{NoFault}
pub use Rattle.dump_writer.specs.SinkWords.{IsPrefixOf, capped}
pub use Rattle.dump_writer.specs.steps.ChunkBytes.{bytes_of_chunks}
pub use Rattle.dump_filter.specs.declared.state.Report.{Report}
pub use Rattle.dump_lanes.specs.declared.ends.LaneIn.{LaneIn}
pub use Rattle.dump_lanes.specs.declared.pool.cutter.JobPort.{JobPort}
pub use Rattle.dump_lanes.specs.declared.pool.worker.WorkerPort.{WorkerPort}
pub use Rattle.dump_lanes.specs.declared.pool.writer.CreditPort.{CreditPort}
pub use Rattle.dump_pipeline.specs.declared.answer.Answer.{Answer}
pub use Rattle.dump_pipeline.specs.declared.answer.Answer.TheVariants.{Clean, Failed, Fault}
pub use Rattle.dump_pipeline.specs.declared.answer.Failure.{Failure}
pub use Rattle.dump_pipeline.specs.declared.cut.CutterEnds.{CutterEnds}
pub use Rattle.dump_pipeline.specs.declared.message.Checked.{Checked}
pub use Rattle.dump_pipeline.specs.declared.message.Job.{Job}
pub use Rattle.dump_pipeline.specs.declared.message.LastWord.{LastWord}
pub use Rattle.dump_pipeline.specs.declared.message.NumberedPiece.{NumberedPiece}
pub use Rattle.dump_pipeline.specs.declared.message.Run.{Ghosts}
pub use Rattle.dump_pipeline.specs.declared.sequence.SequencerEnds.{SequencerEnds}
pub use Rattle.dump_pipeline.specs.declared.stage.End.{End}
pub use Rattle.dump_pipeline.specs.declared.stage.Stage.{Stage}
pub use Rattle.dump_pipeline.specs.declared.stage.Stage.TheVariants.{Ended, Going}
pub use Rattle.dump_records.specs.declared.cutter.Cut.{Cut}
pub use Rattle.dump_records.specs.declared.record.Record.{Record}
pub use Rattle.dump_text.specs.declared.fault.FaultKind.{FaultKind}
