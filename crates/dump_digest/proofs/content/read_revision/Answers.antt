use Rattle.dump_digest.proofs.Prelude.{◌&&◌, ◌||◌, sym, ap, ◌∙◌, record_item, is_kept_node}
use Rattle.dump_digest.proofs.VerdictLemmas.{other_verdict, asked}
use Rattle.dump_digest.proofs.SaidLemmas.{content_of_other}
use Rattle.dump_digest.proofs.content.read_revision.Goals as goal

pub returns : goal.returns
returns c settings other =
    let r = record_item c.args.item.now in
    let found = c.properties_of-props.result in
    let read = c.properties_of-props.ensures in
    content_of_other settings r _ c.reading_of.result other
    (other_verdict settings r c.is_some.result other
    (asked r c.is_some.result found c.requires c.is_some.ensures read.found))
    (c.reading_of.ensures.found ∙ sym c.is_some.ensures
    ∙ ap (λ b. (b || is_kept_node settings r) && c.is_some.result) (sym c.requires))
    (c.reading_of.ensures.reading r.props read.bytes)
