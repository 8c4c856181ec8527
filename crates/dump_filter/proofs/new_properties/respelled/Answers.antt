use Rattle.dump_filter.proofs.Prelude.{◌<◌, ◌^◌, length, props_bytes}
use Rattle.dump_filter.proofs.written.PropertyOutput.{own_spelling}
use Rattle.dump_filter.proofs.new_properties.respelled.Goals as goal

pub returns-then-spelled : goal.returns-then-spelled
returns-then-spelled c ps is =
    let small : length (props_bytes c.args.props.now) < 2 ^ 64 = search in
    own_spelling (props_bytes c.args.props.now) small (c.spelled.ensures.0 c.if-spelled.true) ps is
