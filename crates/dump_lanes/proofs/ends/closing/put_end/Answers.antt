use Rattle.dump_lanes.proofs.Prelude.{ap, subst, sym, [], View, Mark, IsPutting}
use Rattle.crossbeam_channel.specs.Ends.{sends_on}
use Rattle.dump_lanes.specs.steps.LaneMarks.{items_of}
use Rattle.dump_lanes.proofs.LaneSteps.{same_sending, closes, close_keeps}
use Rattle.dump_lanes.proofs.Moves.{sends}
use Rattle.dump_lanes.proofs.ends.closing.put_end.Goals as goal

pub send_as-requires-clause-rule : goal.send_as-requires-clause-rule
send_as-requires-clause-rule g c = (sends _ _ _ _ c.requires.puts.leads, λ items views h at. tt)

pub returns-in-Ok-clause-puts : goal.returns-in-Ok-clause-puts
returns-in-Ok-clause-puts g c = closes _ _ c.requires.puts c.in-Ok.ensures.rule

pub returns-in-Ok-clause-same : goal.returns-in-Ok-clause-same
returns-in-Ok-clause-same g c =
    same_sending
    (sends_on c.args.sender.now) c.send_as.new.pass c.args.pass.now _ c.send_as.ensures.channel.0 c.requires.seated
    (close_keeps _ _ c.in-Ok.ensures.rule)

pub returns-clause-puts : goal.returns-clause-puts
returns-clause-puts g c = subst (IsPutting []) (sym c.in-Err.ensures.rule.1) c.requires.puts

pub returns-clause-same : goal.returns-clause-same
returns-clause-same g c =
    let same = ap (λ (l : View (Mark g.row.T.Denot)). items_of l.put) c.in-Err.ensures.rule.1 in
    same_sending
    (sends_on c.args.sender.now) c.send_as.new.pass c.args.pass.now _ c.send_as.ensures.channel.0 c.requires.seated same
