use Rattle.dump_lanes.proofs.Prelude.{◌≡◌, Item}
use Rattle.crossbeam_channel.specs.Ends.{sends_on}
use Rattle.crossbeam_channel.specs.Err.{send_message}
use Rattle.dump_lanes.proofs.LaneSteps.{same_sending, put_item, still_puts}
use Rattle.dump_lanes.proofs.Moves.{sends}
use Rattle.dump_lanes.proofs.ends.LaneIn.put.Goals as goal

pub send_as-requires-clause-rule : goal.send_as-requires-clause-rule
send_as-requires-clause-rule g c = (sends _ _ _ _ c.args.self.now.puts.leads, λ items views h at. tt)

pub invariant_of-self-clause-puts : goal.invariant_of-self-clause-puts
invariant_of-self-clause-puts g c =
    still_puts c.send_as.result _ _ c.args.value
    (λ e. send_message e ≡ Item c.args.value) c.args.self.now.puts c.send_as.ensures.rule

pub returns-in-Ok-clause-ok : goal.returns-in-Ok-clause-ok
returns-in-Ok-clause-ok g c =
    let more = put_item _ _ c.args.value c.in-Ok.ensures.rule in
    same_sending
    (sends_on c.args.self.now.sender) c.send_as.new.pass c.args.self.now.pass _ c.send_as.ensures.channel.0 c.args.self.now.seated more
