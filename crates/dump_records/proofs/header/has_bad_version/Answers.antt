use Rattle.dump_records.proofs.Prelude.{◌≡◌, ◌==◌, not, false, sym, ◌∙◌, refl, ne_eqb, is_read_version, lines_of}
use Rattle.dump_records.proofs.HeaderLemmas.{bad_version_is}
use Rattle.dump_records.proofs.header.has_bad_version.Goals as goal

pub returns-then-version-ne2 : goal.returns-then-version-ne2
returns-then-version-ne2 c =
    let version = c.in-Some.version in
    let other : (version == 2) ≡ false = ne_eqb version 2 c.if-version-ne2.true in
    let read : not (version == 3) ≡ not (is_read_version version) = rw other refl in
    read ∙ sym (bad_version_is c.args.number version (lines_of c.args.headers.now)
    (sym c.requires.version ∙ c.in-Some.is))

pub returns-else-version-ne2 : goal.returns-else-version-ne2
returns-else-version-ne2 c =
    let version = c.in-Some.version in
    let is : version ≡ 2 = c.if-version-ne2.false in
    let read : not (version == 2) ≡ not (is_read_version version) = rw is refl in
    read ∙ sym (bad_version_is c.args.number version (lines_of c.args.headers.now)
    (sym c.requires.version ∙ c.in-Some.is))
