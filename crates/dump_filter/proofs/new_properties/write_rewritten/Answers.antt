use Rattle.dump_filter.proofs.Prelude.{sym, subst, props_bytes, entry_property, untruncated, HasGoodMergeinfo}
use Rattle.dump_filter.proofs.written.PropertyOutput.{none_rewritten, next_rewritten, all_rewritten, left_lines, entry_lines}
use Rattle.dump_filter.proofs.new_properties.write_rewritten.Goals as goal

pub loop-entry-init : goal.loop-entry-init
loop-entry-init c = (
  tt,
  tt,
  none_rewritten c.args.options.now c.args.kept.now
      (props_bytes c.args.props.now) _ _ c.new-out.ensures.items c.entries-entries.ensures.lent,
  subst HasGoodMergeinfo (sym c.entries-entries.ensures.lent) c.requires,
)

pub push_rewritten-requires : goal.push_rewritten-requires
push_rewritten-requires c =
    let (front, cut, one) = c.in-Some.ensures.steps in
    entry_lines _ _ front (entry_property c.in-Some.entry) c.loop-entry.invariant.3
    (untruncated _ c.loop-entry.entries.reads) cut one

pub loop-entry-preserved : goal.loop-entry-preserved
loop-entry-preserved c =
    let (front, cut, one) = c.in-Some.ensures.steps in
    let (new, is, pushed) = c.in_ok-push_rewritten.ensures in (
      tt,
      tt,
      next_rewritten c.args.options.now c.args.kept.now _ _ _ _ _
          (entry_property c.in-Some.entry) front c.loop-entry.invariant.2 cut one new is pushed,
      left_lines _ _ front (entry_property c.in-Some.entry) c.loop-entry.invariant.3 cut one,
    )

pub returns : goal.returns
returns c = all_rewritten c.args.options.now c.args.kept.now _ _ _ _ c.loop-entry.invariant.2 c.in_default.ensures.steps.0 c.in_ok-push_block_end.ensures
