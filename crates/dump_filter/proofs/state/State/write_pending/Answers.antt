use Rattle.dump_filter.proofs.Prelude.{ℕ, List, ◌++◌, ap, ◌∙◌, record_item, done_record, revision_own}
use Rattle.dump_filter.proofs.state.State.write_pending.Goals as goal

pub returns-clause-piece : goal.returns-clause-piece
returns-clause-piece c ps block =
    let own = λ (number : ℕ). revision_own (record_item (done_record c.args.pending.now.revision)) number c.args.padded ps in
    c.in_ok-push_revision.ensures ps block
    ∙ ap (λ (front : List ℕ). front ++ own c.next_number-number.result) c.new-piece.ensures
    ∙ ap own c.next_number-number.ensures
