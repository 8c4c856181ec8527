-- What each shared part of a state is after an event.
use Rattle.dump_lanes.proofs.Prelude.{ℕ, refl, List, [], ◌∷◌, PoolSize, Entry, World, Event, SharesEvent}

-- where the first entry of a queue is taken, by cases on what the queue holds
take_shares : (size : PoolSize) (w : World) (worker : ℕ) (jobs : List Entry)
    → SharesEvent size (record w { jobs = jobs }) (Event.Take worker)
take_shares size w worker [] = record { credits = refl; jobs = refl; dones = refl; lane = refl; stop = refl }
take_shares size w worker (Entry.Item n ∷ rest) =
    record { credits = refl; jobs = refl; dones = refl; lane = refl; stop = refl }
take_shares size w worker (Entry.Mark ∷ rest) =
    record { credits = refl; jobs = refl; dones = refl; lane = refl; stop = refl }

arrive_shares : (size : PoolSize) (w : World) (dones : List Entry)
    → SharesEvent size (record w { dones = dones }) Event.Arrive
arrive_shares size w [] = record { credits = refl; jobs = refl; dones = refl; lane = refl; stop = refl }
arrive_shares size w (Entry.Item n ∷ rest) =
    record { credits = refl; jobs = refl; dones = refl; lane = refl; stop = refl }
arrive_shares size w (Entry.Mark ∷ rest) =
    record { credits = refl; jobs = refl; dones = refl; lane = refl; stop = refl }

write_shares : (size : PoolSize) (w : World) (lane : List ℕ) → SharesEvent size (record w { lane = lane }) Event.Write
write_shares size w [] = record { credits = refl; jobs = refl; dones = refl; lane = refl; stop = refl }
write_shares size w (n ∷ rest) = record { credits = refl; jobs = refl; dones = refl; lane = refl; stop = refl }

-- each shared part of a state after an event is its share of it
pub shares : (size : PoolSize) (w : World) (event : Event) → SharesEvent size w event
shares size w (Event.Take worker) = take_shares size w worker w.jobs
shares size w Event.Arrive = arrive_shares size w w.dones
shares size w Event.Write = write_shares size w w.lane
shares size w event = record { credits = refl; jobs = refl; dones = refl; lane = refl; stop = refl }
