use Rattle.dump_digest.proofs.Prelude.{ap, sym, ◌∙◌, is_some, record_item}
use Rattle.dump_digest.proofs.KeptLemmas.{revision_told}
use Rattle.dump_digest.proofs.content.read_content.Goals as goal

pub read_revision-requires : goal.read_revision-requires
read_revision-requires c =
    let item = c.args.item.now in
    sym (revision_told (record_item item) item.number item.stands.lawful) ∙ ap is_some (sym c.revision.ensures)
    ∙ sym c.is_some.ensures ∙ c.if-is_some.true

pub returns-else-is_some : goal.returns-else-is_some
returns-else-is_some c =
    let item = c.args.item.now in
    let none = sym (revision_told (record_item item) item.number item.stands.lawful)
    ∙ ap is_some (sym c.revision.ensures)
    ∙ sym c.is_some.ensures ∙ c.if-is_some.false in
    let other = sym c.is_kept.ensures ∙ c.if-is_kept.false in
    c.read_nothing.ensures c.args.options.now (record_item item) none other
