use Rattle.dump_records.proofs.Prelude.{ℕ, ◌<◌, ◌^◌, ap, sym, ◌∙◌, is_some, subst, Option, IfSome, lines_of}
use Rattle.dump_records.proofs.HeaderLemmas.{version_there, version_small}
use Rattle.dump_records.proofs.header.read_header.Goals as goal

pub parts_of-parts-requires-clause-version : goal.parts_of-parts-requires-clause-version
parts_of-parts-requires-clause-version c =
    ap is_some c.numbers_of-numbers.ensures.version
    ∙ version_there c.args.number (lines_of c.args.headers.now)
    (sym c.has_bad_version.ensures ∙ c.if-has_bad_version.false)

pub parts_of-parts-requires-clause-few : goal.parts_of-parts-requires-clause-few
parts_of-parts-requires-clause-few c =
    subst (λ (n : Option ℕ). IfSome n (λ n. n < 2 ^ 8)) (sym c.numbers_of-numbers.ensures.version)
    (version_small c.args.number (lines_of c.args.headers.now)
    (sym c.has_bad_version.ensures ∙ c.if-has_bad_version.false))
