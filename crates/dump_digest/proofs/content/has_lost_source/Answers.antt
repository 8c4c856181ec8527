use Rattle.dump_digest.proofs.Prelude.{not, ap, sym, refl, ◌∙◌, record_item}
use Rattle.dump_digest.proofs.KeptLemmas.{lost_some, lost_none}
use Rattle.dump_digest.proofs.content.has_lost_source.Goals as goal

pub returns-in-Some : goal.returns-in-Some
returns-in-Some c =
    let r = record_item c.args.item.now in
    let value = sym (c.in-Some.ensures.value ∙ rw c.requires refl) in
    ap not c.keeps.ensures ∙ lost_some c.args.options.now r c.in-Some.path.now value

pub returns-in-None : goal.returns-in-None
returns-in-None c =
    let r = record_item c.args.item.now in
    lost_none c.args.options.now r (sym (c.in-None.ensures.value ∙ rw c.requires refl))
