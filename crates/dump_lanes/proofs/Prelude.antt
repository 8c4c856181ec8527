-- The words of std, of the definitions and of the lemmas below, for the proofs of this crate.
pub use Rattle.std.specs.Prelude.{unwrap_or}
pub use Rattle.std.proofs.Common.{All, Bool, Contains, Err, List, MatchResult, None, Ok, Option, Result, Some, [], add-one, ap, append_assoc, arith, cond, count_by, drop, false, filter, find, flat_map, get_or, if◌then◌else◌, inl, inr, is_some, length, map, map-id, nat_lt, option_map, option_to_list, refl, replicate, rules, set, slice_index, slice_set, subst, suc, sum_by, sym, true, true≢false, vec_capacity, vec_len, zero, ℕ, ⊎_elim, ◌%◌, ◌&&◌, ◌*◌, ◌++◌, ◌+◌, ◌-◌, ◌/◌, ◌<◌, ◌==◌, ◌||◌, ◌∙◌, ◌∷◌, ◌≡◌, ◌≢◌, ◌≤◌, ◌⊎◌}
pub use Rattle.std.proofs.lemmas.Bool.{and_cases, and_from, and_left, and_parts, and_right, cases_Bool, cases_eq, cases_lt, false_from_ne_true, le-ltb, lt-ltb, ltb-false, ltb-true, not-false, not-true, not_from_false, not_from_true, or_cases, or_left, or_right}
pub use Rattle.std.proofs.lemmas.Iterator.Adapters.{YieldsList-from_vec}
pub use Rattle.std.proofs.lemmas.Iterator.Consumers.{YieldsList-end, YieldsList-turn}
pub use Rattle.std.proofs.lemmas.List.{get_or_default, length-append, length-replicate, length_push, map-append, set-get_or}
pub use Rattle.std.proofs.lemmas.List.Elements.{filter-append}
pub use Rattle.std.proofs.lemmas.List.FromFn.{get_or-map-range_with_len, get_or-range_with_len, length-map-range_with_len, length-range_with_len, map-range_with_len_more}
pub use Rattle.std.proofs.lemmas.List.Sums.{sum_by-append, sum_by-cons, sum_by-set, sum_by_push}
pub use Rattle.std.proofs.lemmas.Option.{none-some}
pub use Rattle.std.specs.Arc.{arc_value}
pub use Rattle.std.specs.List.{concat, list_any, range_with_len}
pub use Rattle.std.specs.Result.{is_ok}
pub use Rattle.dump_lanes.specs.Arrivals.{Clash, IsWaiting, Lacks, WeighsSame, first_numbers}
pub use Rattle.dump_lanes.specs.Arrivals.Clash.{Taken, Wrong}
pub use Rattle.dump_lanes.specs.CreditRule.{CreditStep}
pub use Rattle.dump_lanes.specs.DoneRule.{dones_part}
pub use Rattle.dump_lanes.specs.JobRule.{jobs_part}
pub use Rattle.dump_lanes.specs.LaneRule.{lane_part}
pub use Rattle.dump_lanes.specs.PartSteps.{Part, all_put, event_of}
pub use Rattle.dump_lanes.specs.PoolEvents.{Event, IsRun, after_event, arrived, has_next, is_enabled, written_next}
pub use Rattle.dump_lanes.specs.PoolFacts.{EveryRunIsSound, IsSound, count_in_flight, times}
pub use Rattle.dump_lanes.specs.PoolMoves.{ClosedKeepsNobody, IsAllDone, IsReached, NoDeadEnd, OnlyDoneStandsStill, StandsStill, all_moves, is_move, next_move}
pub use Rattle.dump_lanes.specs.PoolParts.{IsSameFor, LeavesOthers, PartsAllow, SharesEvent, Thread, credits_allow, credits_share, cutter_puts, dones_share, jobs_allow, jobs_share, lane_allow, lane_share, sequencer_puts, stop_share, thread_of, worker_puts}
pub use Rattle.dump_lanes.specs.PoolProgress.{AreNextMoves, EveryMoveCounts, EveryRunCanEnd, FindsPlace, HasRoom, NeverFull, NoEndlessWay, count_move, marks_in_hands, most_moves, moves_left, progress}
pub use Rattle.dump_lanes.specs.PoolSettling.{AfterAStop, EndedCutsNothing, IdleEventsSettle, is_signal, looks_before_draws}
pub use Rattle.dump_lanes.specs.PoolWorld.{Entry, PoolSize, World, all_items, hand_of, items_in_hands, items_on_the_way, items_released, opening, slot_of}
pub use Rattle.dump_lanes.specs.RunSteps.{CreditsAt, DonesAt, EveryRunMakesSteps, JobsAt, LaneAt, MakesSteps, WordAt, events_of, events_on, last_first, on_dones}
pub use Rattle.dump_lanes.specs.StepMoves.{CreditsMoveOne, DonesMoveOne, JobsMoveOne, Joins, Leaves, PiecesMoveOne, WordOnlyRises}
pub use Rattle.dump_lanes.specs.StopRule.{is_event}
pub use Rattle.dump_lanes.specs.steps.ArrivalRows.{Row, held}
pub use Rattle.dump_lanes.specs.steps.CreditQueue.{IsCreditQueue, after_back, after_draw, after_first, back_in, back_step, cutter_purse, draw_step, drawn_in, first_purse, joined_purse, spent_purse, writer_purse}
pub use Rattle.dump_lanes.specs.steps.DoneQueue.{IsDoneQueue, arrive_step, give_step, sequencer_crew}
pub use Rattle.dump_lanes.specs.steps.JobQueue.{IsJobQueue, after_ends, after_job, cutter_crew}
pub use Rattle.dump_lanes.specs.steps.LaneEnds.{IsWholeAtEnd, LaneEnd}
pub use Rattle.dump_lanes.specs.steps.LaneMarks.{AreItemsThen, IsPutting, IsTaking, mark_if}
pub use Rattle.dump_lanes.specs.steps.LaneQueue.{IsInOrder, item_step, item_steps, receiver_first, sender_crew}
pub use Rattle.dump_lanes.specs.steps.LaneViews.{ComesAgain, lane_of, receiving, receiving_of, sending, sending_of, told}
pub use Rattle.dump_lanes.specs.steps.OwnSteps.{Knows, is_thread, steps_of}
pub use Rattle.dump_lanes.specs.steps.PoolNames.{name_of, state_of}
pub use Rattle.dump_lanes.specs.steps.PoolPasses.{EndsLast, HasRead, IsCutting, IsGiving, IsSequencing, IsWorking, count_ends, marks_in}
pub use Rattle.dump_lanes.specs.steps.PortSides.{AreWorkersOf, CutterSide, IsDone, PoolName, PoolState, WorkerSide, all_given, new_cutter, new_worker}
pub use Rattle.dump_lanes.specs.steps.PortViews.{HasDonesOf, HasJobsOf, HasTakenIn, done_steps, job_port, steps_by, worker_port}
pub use Rattle.dump_lanes.specs.steps.QueueRule.{Crew, IsQueueOf, May, after_fork, after_join, after_put, after_take, following, leading}
pub use Rattle.dump_lanes.specs.steps.SlotRow.{slot_item, with_slot_item}
pub use Rattle.dump_lanes.specs.steps.StopMarks.{HasChecked, HasLooked, IsStop, SeesOwn, SomeRaised, after_look, after_raise, joined_marks, left_half, right_half, word_of}
pub use Rattle.dump_lanes.specs.steps.StopSeats.{Seat}
pub use Rattle.dump_lanes.specs.declared.ends.Told.{Told}
pub use Rattle.dump_lanes.specs.declared.ends.Told.TheVariants.{Ended, MayCome, SenderGone}
pub use Rattle.dump_lanes.specs.declared.passes.TheConstants.{PARTS}
pub use Rattle.dump_lanes.specs.declared.passes.View.{View}
pub use Rattle.dump_lanes.specs.declared.pool.credits.Purse.{Purse}
pub use Rattle.dump_lanes.specs.declared.pool.dones.Note.{Note}
pub use Rattle.dump_lanes.specs.declared.pool.queues.Queues.{Queues}
pub use Rattle.dump_lanes.specs.declared.pool.worker.WorkerPort.{WorkerPort}
pub use Rattle.dump_lanes.specs.declared.protocol.Mark.{Mark}
pub use Rattle.dump_lanes.specs.declared.protocol.Mark.TheVariants.{End, Item}
pub use Rattle.dump_lanes.specs.declared.steps.Move.{Move}
pub use Rattle.dump_lanes.specs.declared.steps.Step.{Step}
pub use Rattle.dump_lanes.specs.declared.stop.protocol.Marks.{Marks}
pub use Rattle.dump_lanes.specs.declared.stop.protocol.WordStep.{WordStep}
