use Rattle.dump_lanes.proofs.Prelude.{ap, arith, Ended, SenderGone, View, Mark, told}
use Rattle.crossbeam_channel.specs.Ends.{receives_on}
use Rattle.dump_lanes.specs.steps.LaneMarks.{items_of}
use Rattle.dump_lanes.proofs.LaneSteps.{same_receiving, ends_as, take_item, take_end, still_takes, ends, nothing_told}
use Rattle.dump_lanes.proofs.ends.LaneOut.take.Goals as goal

pub returns-in-Ended : goal.returns-in-Ended
returns-in-Ended g c = let is = ap told c.in-Ended.is in (ends_as c.args.self.now.pass _ _ is, λ _. is)

pub returns-in-SenderGone : goal.returns-in-SenderGone
returns-in-SenderGone g c = let is = ap told c.in-SenderGone.is in (ends_as c.args.self.now.pass _ _ is, λ _. is)

pub receive-requires-clause-follows : goal.receive-requires-clause-follows
receive-requires-clause-follows g c =
    let takes = c.args.self.now.takes in
    (takes.follows, (let e = takes.parts in omega arith), takes.from)

pub invariant_of-self : goal.invariant_of-self
invariant_of-self g c =
    let step = rw c.in-Ok-Item.field-0-is at c.in-Ok-Item.ensures in
    record { seated = c.receive.ensures.seated; takes = still_takes _ _ c.in-Ok-Item.item c.args.self.now.told c.in-MayCome.is c.args.self.now.takes step.taken }

pub invariant_of-self-in-Ok-End : goal.invariant_of-self-in-Ok-End
invariant_of-self-in-Ok-End g c =
    let step = rw c.in-Ok-End.field-0-is at c.in-Ok-End.ensures in
    record { seated = c.receive.ensures.seated; takes = ends _ _ c.args.self.now.told c.in-MayCome.is c.args.self.now.takes step.taken }

pub returns-in-Ok-Item : goal.returns-in-Ok-Item
returns-in-Ok-Item g c =
    let step = rw c.in-Ok-Item.field-0-is at c.in-Ok-Item.ensures in
    let more = take_item _ _ c.in-Ok-Item.item step.taken in (
      ap told c.in-MayCome.is,
      same_receiving
          (receives_on c.args.self.now.receiver) c.receive.new.pass c.args.self.now.pass c.args.self.now.told _ c.receive.ensures.seated c.args.self.now.seated more,
    )

pub returns-in-Ok-End : goal.returns-in-Ok-End
returns-in-Ok-End g c =
    let step = rw c.in-Ok-End.field-0-is at c.in-Ok-End.ensures in
    let same = take_end _ _ step.taken in (
      same_receiving
          (receives_on c.args.self.now.receiver) c.receive.new.pass c.args.self.now.pass Ended _ c.receive.ensures.seated c.args.self.now.seated same,
      nothing_told _ _ c.in-MayCome.is,
    )

pub returns-in-Err : goal.returns-in-Err
returns-in-Err g c =
    let same = ap (λ (l : View (Mark g.row.T.Denot)). items_of l.taken) c.in-Err.ensures.same in (
      same_receiving
          (receives_on c.args.self.now.receiver) c.receive.new.pass c.args.self.now.pass SenderGone _ c.receive.ensures.seated c.args.self.now.seated same,
      nothing_told _ _ c.in-MayCome.is,
    )
