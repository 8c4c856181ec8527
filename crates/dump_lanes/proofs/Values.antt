-- Worked runs of the pool's core and of five wrong forms of it, computed by the kernel: each wrong form breaks a law.
use Rattle.dump_lanes.proofs.Prelude.{◌≡◌, ℕ, ◌+◌, ◌-◌, ◌==◌, Bool, true, false, ◌&&◌, cond, nat_lt, List, [], ◌∷◌, ◌++◌, length, count_by, Option, Some, None, option_map, option_to_list, refl, list_any, PoolSize, Entry, World, opening, Event, is_enabled, after_event, is_move, all_moves, next_move, progress, most_moves, looks_before_draws}
use Rattle.std.proofs.Common.{not}

-- a form of the core: which events may happen, and what they lead to
record Core : Type 0 where
  allows : PoolSize → World → Event → Bool
  leads : PoolSize → World → Event → World

abbrev right : Core
right = record { allows = is_enabled; leads = after_event }

-- where a list of events leads to, if each of them may happen
abbrev play : Core → PoolSize → World → List Event → Option World
play core size w [] = Some w
play core size w (event ∷ events) =
    cond (core.allows size w event) (play core size (core.leads size w event) events) None

-- whether no move may be made there
abbrev stands_still : Core → PoolSize → World → Bool
stands_still core size w = not (list_any (core.allows size w) (all_moves size))

-- whether all is done there
abbrev is_all_done : PoolSize → World → Bool
is_all_done size w = w.cutter_ended && (w.marks_arrived == size.workers) && (length w.finished == w.cut)

abbrev size_of : ℕ → ℕ → PoolSize
size_of workers window = record { workers = workers; window = window }

abbrev still_after : Core → PoolSize → List Event → Option Bool
still_after core size events = option_map (stands_still core size) (play core size (opening size) events)

abbrev done_after : Core → PoolSize → List Event → Option Bool
done_after core size events = option_map (is_all_done size) (play core size (opening size) events)

abbrev next_after : Core → PoolSize → List Event → Option Event
next_after core size events = option_map (next_move size) (play core size (opening size) events)

-- an item on its way through the pool, by the first worker
abbrev way : List Event
way = Event.Take 0 ∷ Event.Put 0 ∷ Event.Arrive ∷ Event.Release ∷ Event.Write ∷ Event.Give ∷ []

-- a mark on its way by a worker
abbrev mark_way : ℕ → List Event
mark_way worker = Event.Take worker ∷ Event.Put worker ∷ Event.Arrive ∷ []

-- one item through a pool of two workers

abbrev one_item : List Event
one_item = Event.Draw ∷ Event.Cut true ∷ Event.CutMark ∷ [] ++ way ++ mark_way 0

goes_on : next_after right (size_of 2 1) one_item ≡ Some Event.CutMark
goes_on = refl

ends : done_after right (size_of 2 1) (one_item ++ Event.CutMark ∷ [] ++ mark_way 1) ≡ Some true
ends = refl

ends_still : still_after right (size_of 2 1) (one_item ++ Event.CutMark ∷ [] ++ mark_way 1) ≡ Some true
ends_still = refl

-- the bound on moves is reached if the cutter is closed with a credit in hand

abbrev shut_with_a_credit : List Event
shut_with_a_credit = Event.Draw ∷ Event.Shut ∷ Event.CutMark ∷ [] ++ mark_way 0

most_are_made : count_by is_move shut_with_a_credit ≡ most_moves 0 (size_of 1 1)
most_are_made = refl

most_are_behind : option_map progress (play right (size_of 1 1) (opening (size_of 1 1)) shut_with_a_credit) ≡ Some 5
most_are_behind = refl

-- after a stop one more item is cut; two would be cut if a look after the draw also counted for the next draw

abbrev cut_after : PoolSize → List Event → Option ℕ
cut_after size events = option_map (λ (w : World). w.cut) (play right size (opening size) events)

abbrev look_draw : List Event
look_draw = Event.Look ∷ Event.Draw ∷ []

abbrev first_arrives : List Event
first_arrives =
    look_draw ++ (Event.Cut false ∷ Event.Take 0 ∷ Event.Put 0 ∷ Event.Arrive ∷ []) ++ look_draw ++ (Event.Look ∷ [])

abbrev stopped : List Event
stopped = first_arrives ++ (Event.SequencerNotes ∷ Event.SequencerRaises ∷ [])

abbrev one_more_cut : List Event
one_more_cut = stopped ++ (Event.Cut false ∷ Event.Look ∷ [])

abbrev two_more_cut : List Event
two_more_cut = stopped ++ (Event.Cut false ∷ Event.Draw ∷ Event.Cut false ∷ Event.Look ∷ [])

one_before : cut_after (size_of 1 3) stopped ≡ Some 1
one_before = refl

two_in_all : cut_after (size_of 1 3) one_more_cut ≡ Some 2
two_in_all = refl

looks_each_time : looks_before_draws false one_more_cut ≡ true
looks_each_time = refl

three_in_all : cut_after (size_of 1 3) two_more_cut ≡ Some 3
three_in_all = refl

forgets_to_look : looks_before_draws false two_more_cut ≡ false
forgets_to_look = refl

-- no mark for one of the workers: it waits for ever

abbrev with_a_mark_too_few : PoolSize → World → Event → Bool
with_a_mark_too_few size w Event.CutMark = w.cutter_ended && nat_lt w.marks_put (size.workers - 1)
with_a_mark_too_few size w event = is_enabled size w event

abbrev a_mark_too_few : Core
a_mark_too_few = record { allows = with_a_mark_too_few; leads = after_event }

worker_waits : still_after a_mark_too_few (size_of 2 1) one_item ≡ Some true
worker_waits = refl

worker_waits_undone : done_after a_mark_too_few (size_of 2 1) one_item ≡ Some false
worker_waits_undone = refl

-- a writer that doesn't give the credit back: the cutter waits for ever

abbrev first_item : List Event
first_item = Event.Draw ∷ Event.Cut false ∷ [] ++ way

abbrev keeping_the_credit : PoolSize → World → Event → World
keeping_the_credit size w Event.Give = record w { finished = w.finished ++ option_to_list w.writing; writing = None }
keeping_the_credit size w event = after_event size w event

abbrev a_credit_kept : Core
a_credit_kept = record { allows = is_enabled; leads = keeping_the_credit }

cutter_goes_on : next_after right (size_of 1 1) first_item ≡ Some Event.Draw
cutter_goes_on = refl

cutter_waits : still_after a_credit_kept (size_of 1 1) first_item ≡ Some true
cutter_waits = refl

cutter_waits_undone : done_after a_credit_kept (size_of 1 1) first_item ≡ Some false
cutter_waits_undone = refl

-- one slot less than there are credits: two items share it

abbrev with_a_credit_more : PoolSize → World
with_a_credit_more size = record (opening size) { credits = size.window + 1 }

abbrev draw_cut : List Event
draw_cut = Event.Draw ∷ Event.Cut false ∷ []

abbrev take_put : List Event
take_put = Event.Take 0 ∷ Event.Put 0 ∷ []

abbrev two_items : List Event
two_items = draw_cut ++ draw_cut ++ take_put ++ take_put ++ (Event.Arrive ∷ Event.Arrive ∷ [])

abbrev slots_after : PoolSize → World → Option (List (List ℕ))
slots_after size w = option_map (λ (v : World). v.slots) (play right size w two_items)

no_second_draw : slots_after (size_of 1 1) (opening (size_of 1 1)) ≡ None
no_second_draw = refl

own_slots : slots_after (size_of 1 2) (opening (size_of 1 2)) ≡ Some ((0 ∷ []) ∷ (1 ∷ []) ∷ [])
own_slots = refl

shared_slot : slots_after (size_of 1 1) (with_a_credit_more (size_of 1 1)) ≡ Some ((0 ∷ 1 ∷ []) ∷ [])
shared_slot = refl

-- the credit comes back as a done arrives, before its item is released: two items share a slot

abbrev one_arrives : List Event
one_arrives = draw_cut ++ take_put ++ (Event.Arrive ∷ [])

abbrev two_arrive : List Event
two_arrive = one_arrives ++ one_arrives

abbrev giving_at_arrival : PoolSize → World → Event → World
giving_at_arrival size w Event.Arrive = let v = after_event size w Event.Arrive in record v { credits = v.credits + 1 }
giving_at_arrival size w event = after_event size w event

abbrev a_credit_at_arrival : Core
a_credit_at_arrival = record { allows = is_enabled; leads = giving_at_arrival }

abbrev slots_by : Core → PoolSize → List Event → Option (List (List ℕ))
slots_by core size events = option_map (λ (v : World). v.slots) (play core size (opening size) events)

no_second_way : slots_by right (size_of 1 1) two_arrive ≡ None
no_second_way = refl

slot_of_two : slots_by a_credit_at_arrival (size_of 1 1) two_arrive ≡ Some ((0 ∷ 1 ∷ []) ∷ [])
slot_of_two = refl

-- items are released in the order in which they arrive: the second is written first

abbrev second_arrives_first : List Event
second_arrives_first =
    draw_cut ++ draw_cut
    ++ (Event.Take 0 ∷ Event.Take 1 ∷ Event.Put 1 ∷ Event.Put 0 ∷ Event.Arrive ∷ Event.Arrive ∷ [])

abbrev releasing_at_arrival : PoolSize → World → List Entry → World
releasing_at_arrival size w (Entry.Item number ∷ rest) =
    record w { dones = rest; lane = w.lane ++ number ∷ []; released = w.released + 1 }
releasing_at_arrival size w entries = after_event size w Event.Arrive

abbrev leading_by_arrival : PoolSize → World → Event → World
leading_by_arrival size w Event.Arrive = releasing_at_arrival size w w.dones
leading_by_arrival size w event = after_event size w event

abbrev order_of_arrival : Core
order_of_arrival = record { allows = is_enabled; leads = leading_by_arrival }

abbrev lane_by : Core → PoolSize → List Event → Option (List ℕ)
lane_by core size events = option_map (λ (v : World). v.lane) (play core size (opening size) events)

released_in_order :
    lane_by right (size_of 2 2) (second_arrives_first ++ (Event.Release ∷ Event.Release ∷ [])) ≡ Some (0 ∷ 1 ∷ [])
released_in_order = refl

released_as_they_arrive : lane_by order_of_arrival (size_of 2 2) second_arrives_first ≡ Some (1 ∷ 0 ∷ [])
released_as_they_arrive = refl
