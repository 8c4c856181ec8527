use Rattle.dump_filter.proofs.Prelude.{ap, subst, record_item, KeptRevisions, done_record, State, IsOwnNode}
use Rattle.dump_filter.proofs.state.State.keep_node.Goals as goal

pub returns-clause-piece : goal.returns-clause-piece
returns-clause-piece c =
    let (own, pushed, is) = c.in_ok-push_node.ensures in
    let kept = ap (λ (s : State). s.revisions.kept) c.in_ok-piece.ensures.state in (
      c.in_ok-piece.piece,
      own,
      pushed,
      c.in_ok-piece.ensures.piece,
      subst (λ (k : KeptRevisions). IsOwnNode c.args.options.now k
          (record_item (done_record c.args.done.now)) c.args.copy own) kept
          is,
    )
