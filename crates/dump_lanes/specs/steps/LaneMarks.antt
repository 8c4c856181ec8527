-- The items among the marks that a pass has put or taken.
use Rattle.std.specs.Prelude.{◌≡◌, ◌+◌, Bool, true, false, List, [], ◌∷◌, ◌++◌, map}
use Rattle.dump_lanes.specs.declared.passes.TheConstants.{PARTS}
use Rattle.dump_lanes.specs.declared.ends.Told.{Told}
use Rattle.dump_lanes.specs.declared.ends.Told.TheVariants.{MayCome, Ended, SenderGone}
use Rattle.dump_lanes.specs.declared.passes.View.{View}
use Rattle.dump_lanes.specs.declared.protocol.Mark.{Mark}
use Rattle.dump_lanes.specs.declared.protocol.Mark.TheVariants.{Item, End}

module _ {T : Type 0} where
  -- the items among the marks
  abbrev pub items_of : List (Mark T) → List T
  items_of [] = []
  items_of (Item x ∷ marks) = x ∷ items_of marks
  items_of (End ∷ marks) = items_of marks

  -- the marks are items, and then these
  abbrev pub AreItemsThen : List (Mark T) → List (Mark T) → Type 0
  AreItemsThen last marks = marks ≡ map Item (items_of marks) ++ last

  -- a pass that may put, and has put items and then these marks
  pub record IsPutting (last : List (Mark T)) (v : View (Mark T)) : Type 0 where
    pub leads : v.leads ≡ true
    pub parts : v.parts + 1 ≡ PARTS
    pub nothing_taken : v.taken ≡ []
    pub marks : AreItemsThen last v.put

  -- a pass that may take, and has taken items and then these marks
  pub record IsTaking (last : List (Mark T)) (v : View (Mark T)) : Type 0 where
    pub follows : v.leads ≡ false
    pub from : v.from ≡ 0
    pub parts : v.parts ≡ 1
    pub nothing_put : v.put ≡ []
    pub marks : AreItemsThen last v.taken

  -- the end mark, if it was put
  abbrev pub mark_if : Bool → List (Mark T)
  mark_if true = End ∷ []
  mark_if false = []

  -- the end mark, if it was taken
  abbrev pub mark_of : Told → List (Mark T)
  mark_of MayCome = []
  mark_of Ended = End ∷ []
  mark_of SenderGone = []
