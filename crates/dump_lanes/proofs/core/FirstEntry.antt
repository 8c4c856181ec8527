-- What holds of a state after an event that takes the first entry of a queue, by cases on that entry.
use Rattle.dump_lanes.proofs.Prelude.{ℕ, List, [], ◌∷◌, PoolSize, Entry, World, arrived, written_next}
use Rattle.dump_lanes.specs.PoolEvents.{taken_by}

module _ (P : World → Type 0) (size : PoolSize) (w : World) where
  -- after a worker took a job, where there was none, an item or an end mark
  pub by_job : (k : ℕ) (jobs : List Entry) → P w
      → ((n : ℕ) (rest : List Entry) → P (taken_by w k (Entry.Item n ∷ rest)))
      → ((rest : List Entry) → P (taken_by w k (Entry.Mark ∷ rest))) → P (taken_by w k jobs)
  by_job k [] none item mark = none
  by_job k (Entry.Item n ∷ rest) none item mark = item n rest
  by_job k (Entry.Mark ∷ rest) none item mark = mark rest

  -- after the sequencer took a done
  pub by_done : (dones : List Entry) → P w → ((n : ℕ) (rest : List Entry) → P (arrived size w (Entry.Item n ∷ rest)))
      → ((rest : List Entry) → P (arrived size w (Entry.Mark ∷ rest))) → P (arrived size w dones)
  by_done [] none item mark = none
  by_done (Entry.Item n ∷ rest) none item mark = item n rest
  by_done (Entry.Mark ∷ rest) none item mark = mark rest

  -- after the writer took a piece
  pub by_piece : (lane : List ℕ) → P w → ((n : ℕ) (rest : List ℕ) → P (written_next w (n ∷ rest)))
      → P (written_next w lane)
  by_piece [] none piece = none
  by_piece (n ∷ rest) none piece = piece n rest
