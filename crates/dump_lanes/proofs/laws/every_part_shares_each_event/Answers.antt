use Rattle.dump_lanes.proofs.EventParts.{leaves, allows}
use Rattle.dump_lanes.proofs.EventShares.{shares}
use Rattle.dump_lanes.proofs.laws.every_part_shares_each_event.Goals as goal

pub returns-clause-shares : goal.returns-clause-shares
returns-clause-shares c = shares

pub returns-clause-own : goal.returns-clause-own
returns-clause-own c = leaves

pub returns-clause-allows : goal.returns-clause-allows
returns-clause-allows c = allows
