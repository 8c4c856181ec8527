use Rattle.dump_filter.proofs.Prelude.{Some, ap, sym, ◌∙◌, subst, arith, record_item, image, revision_number, view_pending, view_group, front_kept, AreKept}
use Rattle.dump_filter.proofs.written.CopyLemmas.{next_fits, image_at_pending, image_before_pending}
use Rattle.dump_filter.proofs.revisions.Revisions.image.Goals as goal

pub next_new_number-requires : goal.next_new_number-requires
next_new_number-requires c =
    let up = subst (AreKept c.args.self.now) (ap view_group c.in-Pending.is) c.requires in
    let fits = next_fits c.args.self.now (view_pending c.in-Pending.pending) up in
    let at = c.revision_number.ensures ∙ ap (λ r. revision_number (record_item r)) c.item.ensures in
    let small = c.revision_number.type_inv in
    omega (arith, fits, at, small)

pub returns-then-revision_number-number : goal.returns-then-revision_number-number
returns-then-revision_number-number c =
    let is = ap view_group c.in-Pending.is in
    let up = subst (AreKept c.args.self.now) is c.requires in
    let at = c.revision_number.ensures ∙ ap (λ r. revision_number (record_item r)) c.item.ensures in
    let low = c.if-revision_number-number.true in
    ap Some c.next_new_number.ensures
    ∙ sym (image_at_pending c.args.self.now (view_pending c.in-Pending.pending) c.args.number up
    (omega (arith, at, low)))
    ∙ ap (λ g. image (front_kept c.args.self.now.kept g) c.args.number) (sym is)

pub returns-else-revision_number-number : goal.returns-else-revision_number-number
returns-else-revision_number-number c =
    let is = ap view_group c.in-Pending.is in
    let at = c.revision_number.ensures ∙ ap (λ r. revision_number (record_item r)) c.item.ensures in
    let above = c.if-revision_number-number.false in
    c.reach.ensures
    ∙ sym (image_before_pending c.args.self.now.kept (view_pending c.in-Pending.pending) c.args.number
    (omega (arith, at, above)))
    ∙ ap (λ g. image (front_kept c.args.self.now.kept g) c.args.number) (sym is)
