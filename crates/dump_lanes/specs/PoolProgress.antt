-- How far a pool has come: the moves that lie behind a state, and the most that a run can make.
use Rattle.std.specs.Prelude.{◌≡◌, ℕ, ◌+◌, ◌-◌, ◌*◌, ◌<◌, ◌≤◌, List, [], ◌∷◌, length, count_by, Option, option_to_list, IsTrue, if◌then◌else◌}
use Rattle.std.specs.List.{concat}
use Rattle.dump_lanes.specs.PoolWorld.{PoolSize, Entry, World, opening, items_of, items_in_hands}
use Rattle.dump_lanes.specs.PoolEvents.{Event, is_enabled, after_event, IsRun}
use Rattle.dump_lanes.specs.PoolMoves.{is_move, next_move, IsAllDone, IsReached}

-- how many end marks are among entries
abbrev pub marks : List Entry → ℕ
marks [] = 0
marks (Entry.Item number ∷ entries) = marks entries
marks (Entry.Mark ∷ entries) = 1 + marks entries

-- how many end marks the workers have in hand
abbrev pub marks_in_hands : List (Option Entry) → ℕ
marks_in_hands [] = 0
marks_in_hands (hand ∷ hands) = marks (option_to_list hand) + marks_in_hands hands

-- the moves that lie behind the items of a state, by their places: 2 behind one in the jobs, and 8 behind one finished
abbrev pub item_moves : World → ℕ
item_moves w =
    2 * length (items_of w.jobs) + 3 * length (items_in_hands w.hands) + 4 * length (items_of w.dones)
    + 5 * length (concat w.slots) + 6 * length w.lane + 7 * length (option_to_list w.writing) + 8 * length w.finished

-- the moves that lie behind its end marks: 1 behind one in the jobs, and 4 behind one that has arrived
abbrev pub mark_moves : World → ℕ
mark_moves w = marks w.jobs + 2 * marks_in_hands w.hands + 3 * marks w.dones + 4 * w.marks_arrived

-- the moves that lie behind a state, with the one behind a credit that is held
abbrev pub progress : World → ℕ
progress w = item_moves w + mark_moves w + (if w.holds_credit then 1 else 0)

-- the most moves that can lie behind a state with this many items cut
abbrev pub most_moves : ℕ → PoolSize → ℕ
most_moves cut size = 8 * cut + 4 * size.workers + 1

-- the moves that are left at most, where no more than this many items are cut
abbrev pub moves_left : ℕ → PoolSize → World → ℕ
moves_left cut size w = most_moves cut size - progress w

-- one for a move
abbrev pub count_move : Event → ℕ
count_move event = if is_move event then 1 else 0

-- the moves of a run are counted by the state that it leads to
pub record EveryMoveCounts : Type 0 where
  pub of_run : (size : PoolSize) (events : List Event) (w : World) → 0 < size.workers → 0 < size.window →
      IsRun size events (opening size) w → count_by is_move events ≡ progress w
  pub of_event : (size : PoolSize) (w : World) (event : Event) → IsReached size w → IsTrue (is_enabled size w event) →
      progress (after_event size w event) ≡ progress w + count_move event

-- no run goes on without an end, but by cutting: each move takes one from the moves that are left
pub record NoEndlessWay : Type 0 where
  pub within : (size : PoolSize) (w : World) → IsReached size w → progress w ≤ most_moves w.cut size
  pub most : (size : PoolSize) (events : List Event) (w : World) (cut : ℕ) → 0 < size.workers → 0 < size.window →
      IsRun size events (opening size) w → w.cut ≤ cut → count_by is_move events ≤ most_moves cut size
  pub falls : (size : PoolSize) (w : World) (event : Event) (cut : ℕ) → IsReached size w →
      IsTrue (is_enabled size w event) → (after_event size w event).cut ≤ cut →
      moves_left cut size w ≡ moves_left cut size (after_event size w event) + count_move event

-- each event is the next move in its state
abbrev pub AreNextMoves : PoolSize → World → List Event → Type 0
AreNextMoves size w [] = Unit {0}
AreNextMoves size w (event ∷ events) =
    (event ≡ next_move size w) × AreNextMoves size (after_event size w event) events

-- the next moves in turn lead to the end; there are no more of them than are left where one more item is cut
pub record ComesToEnd (size : PoolSize) (w : World) : Type 0 where
  pub events : List Event
  pub new : World
  pub next : AreNextMoves size w events
  pub run : IsRun size events w new
  pub few : length events ≤ moves_left (w.cut + 1) size w
  pub done : IsAllDone size new

-- from each state that a run reaches
abbrev pub EveryRunCanEnd : Type 0
EveryRunCanEnd = (size : PoolSize) (w : World) → IsReached size w → ComesToEnd size w

-- no queue holds more than there is room for
pub record HasRoom (size : PoolSize) (w : World) : Type 0 where
  pub jobs : length w.jobs ≤ size.window + size.workers
  pub dones : length w.dones ≤ size.window + size.workers
  pub lane : length w.lane ≤ size.window
  pub credits : w.credits ≤ size.window

-- the queue that an event puts into has a place for it
abbrev pub FindsPlace : PoolSize → World → Event → Type 0
FindsPlace size w (Event.Cut last) = length w.jobs < size.window + size.workers
FindsPlace size w Event.CutMark = length w.jobs < size.window + size.workers
FindsPlace size w (Event.Put worker) = length w.dones < size.window + size.workers
FindsPlace size w Event.Release = length w.lane < size.window
FindsPlace size w Event.Give = w.credits < size.window
FindsPlace size w event = Unit {0}

-- in each state that a run reaches, and so for each put that may come there
pub record NeverFull : Type 0 where
  pub room : (size : PoolSize) (w : World) → IsReached size w → HasRoom size w
  pub place : (size : PoolSize) (w : World) (event : Event) → IsReached size w →
      IsTrue (is_enabled size w event) → FindsPlace size w event
