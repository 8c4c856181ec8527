-- The moves of a pool: the events that carry it to its end. In each state before the end one thread can make one.
use Rattle.std.specs.Prelude.{◌≡◌, ◌⊎◌, ℕ, ◌<◌, Bool, true, false, List, [], ◌∷◌, ◌++◌, map, find, None, unwrap_or, slice_index_or, IsTrue}
use Rattle.std.specs.List.{range_with_len}
use Rattle.dump_lanes.specs.PoolWorld.{PoolSize, World, opening, hand_of}
use Rattle.dump_lanes.specs.PoolEvents.{Event, is_enabled, IsRun}
use Rattle.dump_lanes.specs.PoolParts.{Thread, thread_of}

-- whether an event is a move; the others note a failure, raise the stop, look at it, or close the cutter
abbrev pub is_move : Event → Bool
is_move Event.Draw = true
is_move (Event.Cut last) = true
is_move Event.CutMark = true
is_move (Event.Take worker) = true
is_move (Event.Put worker) = true
is_move Event.Arrive = true
is_move Event.SequencerNotes = false
is_move Event.WriterNotes = false
is_move Event.Release = true
is_move Event.Write = true
is_move Event.Give = true
is_move Event.SequencerRaises = false
is_move Event.WriterRaises = false
is_move Event.Look = false
is_move Event.Shut = false

-- the moves of a pool, the writer's first and the cutter's last, which cuts its last item where it cuts one
abbrev pub all_moves : PoolSize → List Event
all_moves size =
    (Event.Give ∷ Event.Write ∷ Event.Arrive ∷ Event.Release ∷ [])
    ++ map Event.Put (range_with_len 0 size.workers)
    ++ map Event.Take (range_with_len 0 size.workers)
    ++ (Event.CutMark ∷ Event.Cut true ∷ Event.Draw ∷ [])

-- the first move that may be made, and a draw where none may
abbrev pub next_move : PoolSize → World → Event
next_move size w = unwrap_or (find (is_enabled size w) (all_moves size)) Event.Draw

-- the thread that can make it
abbrev pub who_moves : PoolSize → World → Thread
who_moves size w = thread_of (next_move size w)

-- the cutter has ended, each worker's mark has arrived, and each item that is cut is finished
pub record IsAllDone (size : PoolSize) (w : World) : Type 0 where
  pub cutter : IsTrue w.cutter_ended
  pub marks : w.marks_arrived ≡ size.workers
  pub items : w.finished ≡ range_with_len 0 w.cut

-- a run leads to the state, in a pool with at least one worker and room for at least one item
pub record IsReached (size : PoolSize) (w : World) : Type 0 where
  pub some_worker : 0 < size.workers
  pub some_slot : 0 < size.window
  pub events : List Event
  pub run : IsRun size events (opening size) w

-- no move may be made
abbrev pub StandsStill : PoolSize → World → Type 0
StandsStill size w = (event : Event) → IsTrue (is_move event) → is_enabled size w event ≡ false

-- a thread can make a move
abbrev pub CanMove : PoolSize → World → Thread → Type 0
CanMove size w thread =
    (event : Event) × IsTrue (is_move event) × IsTrue (is_enabled size w event) × (thread_of event ≡ thread)

-- in each state that a run reaches all is done, or the thread that the state names can make a move: the next one
pub record NoDeadEnd : Type 0 where
  pub who : (size : PoolSize) (w : World) → IsReached size w → IsAllDone size w ⊎ CanMove size w (who_moves size w)
  pub next : (size : PoolSize) (w : World) → IsReached size w →
      IsAllDone size w ⊎ (IsTrue (is_move (next_move size w)) × IsTrue (is_enabled size w (next_move size w)))

-- a pool stands still where all is done, and nowhere else
pub record OnlyDoneStandsStill : Type 0 where
  pub done : (size : PoolSize) (w : World) → IsReached size w → StandsStill size w → IsAllDone size w
  pub still : (size : PoolSize) (w : World) → IsReached size w → IsAllDone size w → StandsStill size w

-- once all end marks are put, a worker with nothing in hand that hasn't its own may take an entry: it waits for nobody
abbrev pub ClosedKeepsNobody : Type 0
ClosedKeepsNobody = (size : PoolSize) (w : World) (worker : ℕ) → IsReached size w → w.marks_put ≡ size.workers →
    worker < size.workers → hand_of w worker ≡ None → slice_index_or w.marks_taken worker false ≡ false →
    IsTrue (is_enabled size w (Event.Take worker))
