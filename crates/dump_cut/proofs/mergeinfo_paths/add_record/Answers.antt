use Rattle.std.proofs.Common.{map}
use Rattle.dump_records.specs.steps.RecordViews.{record_item}
use Rattle.dump_trees.specs.Paths.{names_of}
use Rattle.dump_cut.proofs.MergePathLemmas.{read_adds, unread_adds}
use Rattle.dump_cut.proofs.mergeinfo_paths.add_record.Goals as goal

pub returns-in_ok-add_properties : goal.returns-in_ok-add_properties
returns-in_ok-add_properties c =
    read_adds (map (λ path. names_of path.items) c.args.paths.now.keys) (map (λ path. names_of path.items) c.add_properties.new.paths.keys)
    (record_item c.args.item.now) c.in-Some.props c.properties_of.result c.properties_of.ensures.found c.in-Some.is
    c.in-Some.ensures.bytes c.in_ok-add_properties.ensures

pub returns-in_default : goal.returns-in_default
returns-in_default c =
    unread_adds (map (λ path. names_of path.items) c.args.paths.now.keys) (record_item c.args.item.now) c.properties_of.result
    c.properties_of.ensures.found c.in_default.is
