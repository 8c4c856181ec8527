use Rattle.cli_support.proofs.Prelude.{◌≡◌, ◌∙◌, ◌≤◌, subst, ParsesUnsigned, ExplainsUnsignedError, HasUnsignedDigitsIfOk}
use Rattle.clap.specs.Words.{found_of}
use Rattle.cli_support.proofs.WordLemmas.{number_is}
use Rattle.cli_support.proofs.line.read_number.Goals as goal

pub unreachable-requires : goal.unreachable-requires
unreachable-requires c =
    let is = number_is _ (λ bs r. ParsesUnsigned 64 10 bs r × ExplainsUnsignedError 10 bs r
    × HasUnsignedDigitsIfOk bs r) (found_of c.args.matches.now) c.args.name.now c.requires.0 c.get_one.result
    (λ u x g. g.0) c.requires.1 c.get_one.ensures.value in
    c.in_default.not-Some is.0 is.1

pub returns-clause-value : goal.returns-clause-value
returns-clause-value c =
    let is = number_is _ (λ bs r. ParsesUnsigned 64 10 bs r × ExplainsUnsignedError 10 bs r
    × HasUnsignedDigitsIfOk bs r) (found_of c.args.matches.now) c.args.name.now c.requires.0 c.get_one.result
    (λ u x g. g.0) c.requires.1 c.get_one.ensures.value in
    let same : c.in-Some.number ≡ is.0 = cc in
    same ∙ is.2

pub returns-clause-range : goal.returns-clause-range
returns-clause-range c most number =
    let is = number_is _ (λ bs r. ParsesUnsigned 64 10 bs r × ExplainsUnsignedError 10 bs r
    × HasUnsignedDigitsIfOk bs r) (found_of c.args.matches.now) c.args.name.now most c.get_one.result
    (λ u x g. g.0) number c.get_one.ensures.value in
    let same : is.0 ≡ c.in-Some.number = cc in
    (subst (λ n. 1 ≤ n) same is.3, subst (λ n. n ≤ most) same is.4)
