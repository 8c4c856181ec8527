use Rattle.dump_filter.proofs.Prelude.{ap, ◌∙◌, arith, record_item, revision_number, view_pending}
use Rattle.dump_filter.proofs.written.CopyLemmas.{next_fits}
use Rattle.dump_filter.proofs.revisions.Revisions.next_number.Goals as goal

pub next_new_number-requires : goal.next_new_number-requires
next_new_number-requires c =
    let fits = next_fits c.args.self.now (view_pending c.args.pending.now) c.requires in
    let at = c.revision_number-number.ensures ∙ ap (λ r. revision_number (record_item r)) c.item.ensures in
    let small = c.revision_number-number.type_inv in
    omega (arith, fits, at, small)
