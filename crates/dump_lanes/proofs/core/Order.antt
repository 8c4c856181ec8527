-- What was released is the first items in order, after each event.
use Rattle.dump_lanes.proofs.Prelude.{◌≡◌, ℕ, nat_lt, List, [], ◌∷◌, ◌++◌, length, Option, None, option_to_list, sym, refl, ap, ◌∙◌, append_assoc, range_with_len, and_parts, PoolSize, World, opening, items_released, Event, is_enabled, after_event, written_next}
use Rattle.std.proofs.Common.{IsTrue, append-nil}
use Rattle.dump_lanes.proofs.core.FirstEntry.{by_job, by_done}
use Rattle.dump_lanes.proofs.core.Places.{is_none_from}
use Rattle.dump_lanes.proofs.core.Weights.{range_next}

-- what was released is the first items in order
abbrev pub IsInOrder : World → Type 0
IsInOrder w = items_released w ≡ range_with_len 0 w.released

write_ordered : (w : World) (lane : List ℕ) → w.writing ≡ None → IsInOrder (record w { lane = lane })
    → IsInOrder (written_next (record w { lane = lane }) lane)
write_ordered w [] free h = h
write_ordered w (n ∷ rest) free h =
    append_assoc w.finished (n ∷ []) rest
    ∙ (sym (ap (λ (l : List ℕ). l ++ n ∷ rest) (append-nil w.finished))
    ∙ (sym (ap (λ (o : Option ℕ). (w.finished ++ option_to_list o) ++ n ∷ rest) free) ∙ h))

-- after an event that may happen what was released is the first items in order
pub order_kept : (size : PoolSize) (w : World) (event : Event) → IsTrue (is_enabled size w event)
    → IsInOrder w → IsInOrder (after_event size w event)
order_kept size w (Event.Take k) e h = by_job IsInOrder size w k w.jobs h (λ n rest. h) (λ rest. h)
order_kept size w Event.Arrive e h = by_done IsInOrder size w w.dones h (λ n rest. h) (λ rest. h)
order_kept size w Event.Release e h =
    sym (append_assoc (w.finished ++ option_to_list w.writing) w.lane (w.released ∷ []))
    ∙ (ap (λ (l : List ℕ). l ++ w.released ∷ []) h ∙ sym (range_next w.released))
order_kept size w Event.Write e h =
    write_ordered w w.lane (is_none_from w.writing (and_parts (nat_lt 0 (length w.lane)) _ e).1) h
order_kept size w Event.Give e h =
    ap (λ (l : List ℕ). l ++ w.lane) (append-nil (w.finished ++ option_to_list w.writing)) ∙ h
order_kept size w event e h = h

-- at first nothing was released
pub order_first : (size : PoolSize) → IsInOrder (opening size)
order_first size = refl
