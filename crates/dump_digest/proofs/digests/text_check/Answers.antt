use Rattle.dump_digest.proofs.Prelude.{◌↔◌, subst, List, ℕ, IsFalse, md5_name, sha1_name, record_item, TellsOther}
use Rattle.std.specs.Option.{option_copied}
use Rattle.dump_digest.proofs.DigestLemmas.{text_there, digest_told, text_told}
use Rattle.md5.specs.Md5.{md5}
use Rattle.sha1.specs.Sha1.{sha1}
use Rattle.dump_digest.proofs.digests.text_check.Goals as goal

pub returns-clause-md5 : goal.returns-clause-md5
returns-clause-md5 c =
    let r = record_item c.args.item.now in
    let there = text_there r c.in-Some.text.now c.in-Some.ensures in
    digest_told md5_name r 16 (md5 r.text) c.md5_ok.result (option_copied c.md5-md5.result) there.0
    c.md5-md5.ensures.value
    (subst (λ (t : List ℕ). IsFalse c.md5_ok.result ↔ TellsOther (option_copied c.md5-md5.result) 16 (md5 t))
    there.1 c.md5_ok.ensures)

pub returns-clause-sha1 : goal.returns-clause-sha1
returns-clause-sha1 c =
    let r = record_item c.args.item.now in
    let there = text_there r c.in-Some.text.now c.in-Some.ensures in
    digest_told sha1_name r 20 (sha1 r.text) c.sha1_ok.result (option_copied c.sha1-sha1.result) there.0
    c.sha1-sha1.ensures.value
    (subst (λ (t : List ℕ). IsFalse c.sha1_ok.result ↔ TellsOther (option_copied c.sha1-sha1.result) 20 (sha1 t))
    there.1 c.sha1_ok.ensures)

pub returns-clause-checked : goal.returns-clause-checked
returns-clause-checked c =
    let r = record_item c.args.item.now in
    text_told r c.is_told.result c.md5-md5.result c.sha1-sha1.result
    (text_there r c.in-Some.text.now c.in-Some.ensures).0
    c.md5-md5.ensures.value
    c.sha1-sha1.ensures.value
    c.is_told.ensures
