use Rattle.dump_survey.proofs.Prelude.{◌≡◌, true, false, refl, record_item}
use Rattle.dump_survey.proofs.MergeinfoLemmas.{merges_read, merges_unread}
use Rattle.dump_survey.proofs.findings.named_revisions.sets_mergeinfo.Goals as goal

pub returns-in-Some : goal.returns-in-Some
returns-in-Some c =
    merges_read (record_item c.args.item.now) c.in-Some.props c.has_mergeinfo.result (c.in-Some.ensures.found.0 refl)
    c.in-Some.ensures.bytes c.has_mergeinfo.ensures

pub returns-in-None : goal.returns-in-None
returns-in-None c =
    merges_unread (record_item c.args.item.now)
    (λ has. let bad : false ≡ true = c.in-None.ensures.found.1 has in cc)
