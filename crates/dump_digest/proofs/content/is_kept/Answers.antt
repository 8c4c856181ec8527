use Rattle.dump_digest.proofs.Prelude.{sym, ◌∙◌, record_item}
use Rattle.dump_digest.proofs.KeptLemmas.{kept_some, kept_none}
use Rattle.dump_digest.proofs.content.is_kept.Goals as goal

pub returns-in-Some : goal.returns-in-Some
returns-in-Some c =
    c.keeps.ensures ∙ kept_some c.args.options.now (record_item c.args.item.now) c.in-Some.path.now
    (sym c.in-Some.ensures.value)

pub returns-in-None : goal.returns-in-None
returns-in-None c = kept_none c.args.options.now (record_item c.args.item.now) (sym c.in-None.ensures.value)
