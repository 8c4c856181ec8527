use Rattle.dump_filter.proofs.Prelude.{sym, ◌∙◌, record_item, done_record, view_group, view_state}
use Rattle.dump_filter.proofs.written.CopyLemmas.{present_there}
use Rattle.dump_filter.proofs.answer.DecisionLemmas.{node_fate_is}
use Rattle.dump_filter.proofs.decide.node_fate.Goals as goal

pub node_revision-present-requires : goal.node_revision-present-requires
node_revision-present-requires c =
    present_there c.args.state.now.revisions (view_group c.args.state.now.group) c.requires.kept c.requires.taken

pub returns-in-Some : goal.returns-in-Some
returns-in-Some c ps list =
    node_fate_is (view_state c.args.state.now) (record_item (done_record c.args.done.now)) _ ps c.requires.options
    c.requires.node c.first.ensures.first c.node_revision-present.ensures
    (sym c.copy_change.ensures ∙ c.in_ok-copy.was) (λ keep. sym c.in-Some.is ∙ c.merge_fault.ensures keep ps list)

pub returns-in-None : goal.returns-in-None
returns-in-None c ps list =
    node_fate_is (view_state c.args.state.now) (record_item (done_record c.args.done.now)) _ ps c.requires.options
    c.requires.node c.first.ensures.first c.node_revision-present.ensures
    (sym c.copy_change.ensures ∙ c.in_ok-copy.was) (λ keep. sym c.in-None.is ∙ c.merge_fault.ensures keep ps list)
