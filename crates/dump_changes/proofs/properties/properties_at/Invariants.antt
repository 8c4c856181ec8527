use Rattle.std.proofs.Common.{map, take}
use Rattle.dump_changes.specs.steps.ChangedProperties.{as_property}
use Rattle.dump_changes.proofs.PropertyLemmas.{AreSetAt}
use Rattle.dump_changes.proofs.properties.properties_at.Given as goal

abbrev pub invariant-loop-place : goal.invariant-loop-place
invariant-loop-place l = AreSetAt l.table l.index (take l.place-index l.place-items) (map as_property l.props.items)
