use Rattle.dump_records.proofs.Prelude.{sym, ap, ◌∙◌, unwrap_or, lines_of}
use Rattle.dump_records.proofs.HeaderLemmas.{bad_sum_is}
use Rattle.dump_records.proofs.header.has_bad_sum.Goals as goal

pub returns-in-Some : goal.returns-in-Some
returns-in-Some c =
    let lengths = c.lengths_of-lengths.ensures in
    sym (bad_sum_is (lines_of c.args.headers.now) c.in-Some.content _ _
    (sym c.requires.numbers.content ∙ c.in-Some.is)
    (lengths.props ∙ ap (λ n. unwrap_or n 0) c.requires.numbers.props)
    (lengths.text ∙ ap (λ n. unwrap_or n 0) c.requires.numbers.text))
