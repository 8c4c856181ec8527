use Rattle.dump_filter.proofs.Prelude.{◌≡◌, ℕ, Option, ap, subst, ◌∙◌, ◌++◌, Vec, block_text, record_item, made_or, new_headers}
use Rattle.std.proofs.lemmas.Result.{on_ok_weaker}
use Rattle.dump_filter.proofs.written.OutputLemmas.{lines_out}
use Rattle.dump_filter.proofs.output.push_record.Goals as goal
use Rattle.dump_filter.proofs.output.push_record.Goals.{in-Some+in_ok-push-in-Some, in-None-2+in_ok-push-in-None-2}

pub returns : goal.returns
returns c =
    let r = record_item c.args.item.now in
    let lines = block_text (new_headers c.args.changes.now r.headers) in
    let old = c.args.piece.now in
    let IsWritten = λ (made : Option (Vec ℕ)). made_or made (block_text r.headers) ≡ lines in
    let before : c.match-branch-2.piece ≡ old ++ lines = elim c.match-branch-2.branch [
      | in-Some+in_ok-push-in-Some w ↦ w.piece-is ∙ w.in_ok-push-in-Some.ensures.ok
          ∙ ap (λ t. old ++ t) (subst IsWritten w.in-Some.is c.in_ok-block.ensures)
      | in-None-2+in_ok-push-in-None-2 w ↦ w.piece-is ∙ w.in_ok-push-in-None-2.ensures.ok
          ∙ ap (λ t. old ++ t) (w.bytes.ensures ∙ ap block_text w.block.ensures.lines
          ∙ subst IsWritten w.in-None.is c.in_ok-block.ensures)
    ] in
    on_ok_weaker c.push_content.result (λ pushed.
    lines_out old lines (made_or c.args.props r.props) r.text c.args.end.now _ _ before pushed)
    c.push_content.ensures
