-- What contracts say of a lane's ends.
use Rattle.std.specs.Prelude.{◌≡◌, ◌≢◌, ℕ, Bool, true, List, [], ◌∷◌, ◌++◌}
use Rattle.std.specs.Result.{is_ok}
use Rattle.crossbeam_channel.specs.Claims.{Pass, view}
use Rattle.crossbeam_channel.specs.Ends.{sends_on, ruled_capacity}
use Rattle.dump_lanes.specs.declared.ends.LaneIn.{LaneIn}
use Rattle.dump_lanes.specs.declared.ends.Sent.{Sent}
use Rattle.dump_lanes.specs.declared.ends.LaneOut.{LaneOut}
use Rattle.dump_lanes.specs.declared.ends.Taken.{Taken}
use Rattle.dump_lanes.specs.declared.ends.Taken.TheVariants as takes
use Rattle.dump_lanes.specs.declared.ends.Told.{Told}
use Rattle.dump_lanes.specs.declared.ends.Told.TheVariants as tells
use Rattle.dump_lanes.specs.declared.passes.View.{View}
use Rattle.dump_lanes.specs.declared.protocol.Mark.{Mark}
use Rattle.dump_lanes.specs.declared.steps.Step.{Step}
use Rattle.dump_lanes.specs.steps.LaneEnds.{LaneName, LaneEnd, Sending, Receiving, IsWholeAtEnd}
use Rattle.dump_lanes.specs.steps.LaneMarks.{items_of}
use Rattle.dump_lanes.specs.LaneRule.{lane_part}
use Rattle.dump_lanes.specs.steps.LaneQueue.{item_steps}
use Rattle.dump_lanes.specs.PoolParts.{Thread}
use Rattle.dump_lanes.specs.PartSteps.{AreSteps, all_put, all_taken}
use Rattle.dump_lanes.specs.steps.OwnSteps.{steps_of}

-- what the receiver has found
abbrev pub told : Told → LaneEnd
told tells.MayCome = LaneEnd.MayCome
told tells.Ended = LaneEnd.Ended
told tells.SenderGone = LaneEnd.SenderGone

module _ {T : Type 0} where
  -- the lane to which a pass belongs
  abbrev pub lane_of : Pass (Mark T) (View (Mark T)) → LaneName T
  lane_of pass = record { table = pass.table_id; key = pass.me.0.of }

  -- what the pass of a sending end says
  abbrev pub sending_of : Pass (Mark T) (View (Mark T)) → Sending T
  sending_of pass = record { lane = lane_of pass; put = items_of (view pass).put }

  -- what the pass of a receiving end says, with what the end has found
  abbrev pub receiving_of : Pass (Mark T) (View (Mark T)) → Told → Receiving T
  receiving_of pass end = record { lane = lane_of pass; taken = items_of (view pass).taken; told = told end }

  -- the sending end
  abbrev pub sending : LaneIn T → Sending T
  sending l = sending_of l.pass

  -- a sending end after its close
  abbrev pub sent : Sent T → Sending T
  sent l = sending_of l.pass

  -- how many marks the lane has room for
  abbrev pub places : LaneIn T → ℕ
  places l = ruled_capacity (sends_on l.sender)

  -- whether a sending end put its mark at its close
  abbrev pub is_marked : Sent T → Bool
  is_marked l = is_ok l.marked

  -- the receiving end
  abbrev pub receiving : LaneOut T → Receiving T
  receiving l = receiving_of l.pass l.told

module _ {T : Type 0} (end : LaneOut T) (other : Sent T) where
  -- the two ends made exactly the steps of one history of the lane, which leads to the items that are left
  pub record HaveLaneSteps : Type 0 where
    pub happened : List (Step T)
    pub left : List T
    pub steps : AreSteps lane_part happened left
    pub each : (thread : Thread) → steps_of thread
        (item_steps ((view end.pass).steps ++ (view other.pass).steps)) ≡ steps_of thread happened
    pub put_is : (sent other).put ≡ all_put lane_part happened
    pub taken_is : (receiving end).taken ≡ all_taken lane_part happened

  -- what was taken is a prefix of what was put, and all of it after the end mark; and the receiver found the end mark
  -- only if it was put
  pub record Settles : Type 0 where
    pub in_order : (rest : List T) × ((sent other).put ≡ (receiving end).taken ++ rest)
    pub whole : IsWholeAtEnd (receiving end).told (sent other).put (receiving end).taken
    pub told : (receiving end).told ≡ LaneEnd.Ended → is_marked other ≡ true
    pub steps : HaveLaneSteps

-- once the end has been found, each call returns the same
abbrev pub ComesAgain : LaneEnd → LaneEnd → Type 0
ComesAgain old new = (old ≢ LaneEnd.MayCome) → old ≡ new

-- one call of the receiver: it takes one more item, or finds the end; after an end it returns the same again
abbrev pub TakeStep : {T : Type 0} → Receiving T → Taken T → Receiving T → Type 0
TakeStep old (takes.Item value) new =
    (old.told ≡ LaneEnd.MayCome) × (new ≡ record old { taken = old.taken ++ value ∷ [] })
TakeStep old takes.Closed new =
    (new ≡ record old { told = LaneEnd.Ended }) × ComesAgain old.told LaneEnd.Ended
TakeStep old takes.Lost new =
    (new ≡ record old { told = LaneEnd.SenderGone }) × ComesAgain old.told LaneEnd.SenderGone
