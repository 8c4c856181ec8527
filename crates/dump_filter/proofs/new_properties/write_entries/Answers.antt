use Rattle.dump_text.specs.steps.PropertyViews.{entry_property}
use Rattle.dump_filter.proofs.written.PropertyOutput.{next_left, none_left}
use Rattle.dump_filter.proofs.new_properties.write_entries.Goals as goal

pub loop-entry-preserved : goal.loop-entry-preserved
loop-entry-preserved c =
    let (front, cut, one) = c.in-Some.ensures.steps in (
      tt,
      tt,
      next_left _ _ _ _ _
          (entry_property c.in-Some.entry) front c.loop-entry.invariant.2 cut one c.in_ok-push_entry.ensures,
    )

pub returns : goal.returns
returns c = none_left _ _ _ _ c.loop-entry.invariant.2 c.in_default.ensures.steps.0 c.in_ok-push_block_end.ensures
