use Rattle.std.proofs.Common.{[], arith, map, subst, sym}
use Rattle.dump_records.specs.declared.cutter.Cut.{Cut}
use Rattle.dump_records.specs.steps.RecordViews.{CutStep, record_item}
use Rattle.dump_trees.specs.Paths.{names_of}
use Rattle.dump_cut.specs.steps.MergePaths.{AddsPaths}
use Rattle.dump_records.proofs.CutterLemmas.{none_read, read_more, read_nearer}
use Rattle.dump_cut.proofs.MergePathLemmas.{IsInRecords, all_read, merge_paths_named, no_records, none_added, record_added}
use Rattle.dump_cut.proofs.mergeinfo_paths.merge_paths.Goals as goal

pub loop-item-init : goal.loop-item-init
loop-item-init c = (
  none_read c.args.dump.now c.new-cutter.result c.new-cutter.ensures,
  subst (λ keys. AddsPaths [] (map (λ path. names_of path.items) keys) (IsInRecords [])) (sym c.new-paths.ensures.empty)
      (none_added [] (IsInRecords []) no_records),
)

pub loop-item-smaller : goal.loop-item-smaller
loop-item-smaller c =
    let step = subst (λ (x : Cut). CutStep c.loop-item.cutter x c.next.new.self) c.in-Item.is c.next.ensures in
    let near = read_nearer c.args.dump.now c.loop-item.cutter c.next.new.self c.loop-item.invariant.0 c.in-Item.item step in
    omega (arith, near.0, near.1)

pub loop-item-preserved : goal.loop-item-preserved
loop-item-preserved c =
    let step = subst (λ (x : Cut). CutStep c.loop-item.cutter x c.next.new.self) c.in-Item.is c.next.ensures in (
      read_more c.args.dump.now c.loop-item.cutter c.next.new.self c.loop-item.invariant.0 c.in-Item.item step,
      record_added [] (map (λ path. names_of path.items) c.loop-item.paths.keys) (map (λ path. names_of path.items) c.add_record.new.paths.keys)
          c.loop-item.invariant.0.before (record_item c.in-Item.item) c.loop-item.invariant.1 c.in_ok-add_record.ensures,
    )

pub returns-clause-paths : goal.returns-clause-paths
returns-clause-paths c =
    all_read c.args.dump.now c.loop-item.cutter c.next.new.self (map (λ path. names_of path.items) c.loop-item.paths.keys)
    c.loop-item.invariant.0 c.loop-item.invariant.1 c.next.result c.next.ensures c.in_default.not-Item

pub returns-clause-named : goal.returns-clause-named
returns-clause-named c =
    merge_paths_named c.args.dump.now (map (λ path. names_of path.items) c.loop-item.paths.keys)
    (all_read c.args.dump.now c.loop-item.cutter c.next.new.self (map (λ path. names_of path.items) c.loop-item.paths.keys)
    c.loop-item.invariant.0 c.loop-item.invariant.1 c.next.result c.next.ensures c.in_default.not-Item)
