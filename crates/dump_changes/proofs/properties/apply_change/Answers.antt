use Rattle.dump_changes.proofs.Prelude.{map}
use Rattle.std.proofs.lemmas.Result.{on_ok_weaker}
use Rattle.dump_changes.specs.steps.ChangedProperties.{as_property}
use Rattle.dump_changes.proofs.PropertyLemmas.{changed_by, no_block, own_block}
use Rattle.dump_changes.proofs.properties.apply_change.Goals as goal

pub returns-in-Some : goal.returns-in-Some
returns-in-Some c =
    on_ok_weaker c.apply_block.result (λ made patched records r change blocks at makes says.
    changed_by patched r change makes c.args.change.now.props says (map as_property c.args.props.now.items)
    (map as_property c.apply_block.new.props.items) (λ ps block has.
    made r ps (own_block c.args.table.now records c.args.change.now.record_number r c.in-Some.block.now c.in-Some.ensures blocks at)
    block has))
    c.apply_block.ensures

pub returns-in-None : goal.returns-in-None
returns-in-None c = λ patched records r change blocks at makes says.
    absurd (no_block c.args.table.now records c.args.change.now.record_number r c.in-None.ensures blocks at)
