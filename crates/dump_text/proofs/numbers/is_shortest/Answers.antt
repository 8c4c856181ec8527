use Rattle.dump_text.proofs.Prelude.{◌≡◌, ◌∙◌, length, nat_lt, arith, sym, true, nat_tests}
use Rattle.dump_text.proofs.SpellingLemmas.{no_zero_leads, first_tells}
use Rattle.dump_text.proofs.numbers.is_shortest.Goals as goal

pub returns-then-digits-lt2-clause-spelled : goal.returns-then-digits-lt2-clause-spelled
returns-then-digits-lt2-clause-spelled c = λ n e.
    let few = c.if-digits-lt2.true in
    let is : nat_lt (length c.args.digits.now) 2 ≡ true = grind (arith, nat_tests, few) in
    is ∙ sym (no_zero_leads c.args.digits.now n e (λ _. few))

pub returns-else-digits-lt2-clause-spelled : goal.returns-else-digits-lt2-clause-spelled
returns-else-digits-lt2-clause-spelled c = λ n e. let more = c.if-digits-lt2.false in first_tells c.args.digits.now n e (omega arith)
