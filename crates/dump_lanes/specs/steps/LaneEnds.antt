-- A lane: items from one thread to another, in order, up to an end mark.
use Rattle.std.specs.Prelude.{◌≡◌, List, ⊤}
use Rattle.atomic_table.specs.Seated.{TableId}
use Rattle.atomic_table.specs.declared.badge.Badge.{Badge}
use Rattle.crossbeam_channel.specs.declared.flavors.array.Key.{Key}
use Rattle.dump_lanes.specs.declared.protocol.Mark.{Mark}

-- the identity of a lane: no two channels have the same
pub record LaneName (T : Type 0) : Type 0 where
  pub table : TableId
  pub key : Badge (Key (Mark T))

-- what the receiver has found: items may come, the end mark came, or the sender was dropped without one
pub data LaneEnd : Type 0 where
  MayCome : LaneEnd
  Ended : LaneEnd
  SenderGone : LaneEnd

-- the sending end, before or after its close: the lane, and the items that were put
pub record Sending (T : Type 0) : Type 0 where
  pub lane : LaneName T
  pub put : List T

-- the receiving end: the lane, the items that were taken, and what the end has found
pub record Receiving (T : Type 0) : Type 0 where
  pub lane : LaneName T
  pub taken : List T
  pub told : LaneEnd

-- after the end mark, what was taken is all that was put
abbrev pub IsWholeAtEnd : {T : Type 0} → LaneEnd → List T → List T → Type 0
IsWholeAtEnd LaneEnd.MayCome put taken = ⊤
IsWholeAtEnd LaneEnd.Ended put taken = taken ≡ put
IsWholeAtEnd LaneEnd.SenderGone put taken = ⊤
