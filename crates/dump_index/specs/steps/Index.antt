-- What is true of the changes and the orders of an index.
use Rattle.std.specs.Prelude.{◌≡◌, true, ℕ, List, map}
use Rattle.dump_index.specs.steps.Listed.{listed_of}
use Rattle.dump_index.specs.steps.InOrder.{are_in_order}
use Rattle.dump_index.specs.declared.change.NodeChange.{NodeChange}
use Rattle.dump_index.specs.declared.order.Effect.TheVariants.{Shaping, Moving, Props, Texts}
use Rattle.dump_index.specs.steps.Keys.{IsOrder}

-- each order has the keys of all changes of its effect, and the changes are in order
pub record IsChangeIndex (changes : List NodeChange) (shaping moving props texts : List ℕ) : Type 0 where
  pub shapes : IsOrder Shaping (map listed_of changes) shaping
  pub moves : IsOrder Moving (map listed_of changes) moving
  pub sets_props : IsOrder Props (map listed_of changes) props
  pub sets_texts : IsOrder Texts (map listed_of changes) texts
  pub ordered : are_in_order 0 changes ≡ true
