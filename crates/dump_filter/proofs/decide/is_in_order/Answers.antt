use Rattle.dump_filter.proofs.Prelude.{ap, sym, ◌∙◌, refl, rises}
use Rattle.dump_filter.proofs.groups.KindLemmas.{found_kind}
use Rattle.dump_filter.proofs.decide.is_in_order.Goals as goal

pub returns-in-Revision : goal.returns-in-Revision
returns-in-Revision c =
    let kind = found_kind {item = c.args.item.now} refl (sym c.kind.ensures ∙ c.in-Revision.is) in
    c.rises.ensures ∙ ap (rises c.args.state.now.revisions.present) c.revision_number.ensures
    ∙ sym (rw (kind.0, kind.1) refl)
