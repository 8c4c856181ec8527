-- What contracts say of a credit.
use Rattle.std.specs.Prelude.{◌≡◌, Bool, true, false}
use Rattle.atomic_table.specs.Seated.{TableId}
use Rattle.crossbeam_queue.specs.Passes.{Pass, view}
use Rattle.dump_lanes.specs.declared.pool.credits.Purse.{Purse}
use Rattle.dump_lanes.specs.declared.pool.credits.Token.{Token}
use Rattle.dump_lanes.specs.declared.pool.drawing.Credit.{Credit}
use Rattle.dump_lanes.specs.declared.pool.drawing.Drawn.{Drawn}
use Rattle.dump_lanes.specs.declared.pool.drawing.Drawn.TheVariants as draws
use Rattle.dump_lanes.specs.steps.CreditQueue.{after_draw}

-- the queue of credits of the pool to which a credit belongs
abbrev pub credit_pool : Credit → TableId
credit_pool c = c.drawn_by.value.table_id

-- whether the result is the stop
abbrev pub is_stop : Drawn → Bool
is_stop (draws.Credit credit) = false
is_stop draws.Stop = true

-- one call that asks for a credit, and the pass before and after it
abbrev pub HasDrawn : Pass Token Purse → Drawn → Pass Token Purse → Type 0
HasDrawn old (draws.Credit credit) new = (credit_pool credit ≡ old.table_id)
    × (view new ≡ after_draw (view old))
HasDrawn old draws.Stop new = view new ≡ view old
