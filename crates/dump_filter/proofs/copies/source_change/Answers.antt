use Rattle.dump_filter.specs.steps.State.{view_group}
use Rattle.dump_filter.proofs.written.CopyLemmas.{present_there}
use Rattle.dump_filter.proofs.copies.source_change.Goals as goal

pub node_revision-requires : goal.node_revision-requires
node_revision-requires c =
    present_there c.args.state.now.revisions (view_group c.args.state.now.group) c.requires.kept c.requires.taken
