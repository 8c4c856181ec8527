use Rattle.dump_filter.proofs.Prelude.{Bool, sym, ap, subst, ◌∙◌, record_item, done_record, PresentGroup, view_group, IsOwnRevision, IsEndText}
use Rattle.std.proofs.Common.{IfOk}
use Rattle.std.proofs.lemmas.Result.{IfOk-weaker}
use Rattle.dump_filter.proofs.state.State.end_group.Goals as goal

pub returns-then-stays-clause-piece : goal.returns-then-stays-clause-piece
returns-then-stays-clause-piece c =
    let options = c.args.options.now in
    let kept = c.args.self.now.revisions.kept in
    let r = record_item (done_record c.in-Pending.pending.revision) in
    let stay = sym c.stays.ensures ∙ c.if-stays.true in
    subst (λ (group : PresentGroup). IfOk c.write_pending.result (λ piece. IsEndText options kept group piece))
    (sym (ap view_group (sym c.replace.ensures.value ∙ c.in-Pending.is)))
    (IfOk-weaker c.write_pending.result _ _ (λ piece text. rw stay
    (subst (λ (padded : Bool). IsOwnRevision options kept r padded piece) c.pads.ensures text))
    c.write_pending.ensures.piece)
