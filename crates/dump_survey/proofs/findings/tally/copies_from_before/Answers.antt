use Rattle.dump_survey.proofs.Prelude.{◌≡◌, false, ◌&&◌, sym, ap, ◌∙◌, arith, and-false, nat_tests, record_item, makes_copy}
use Rattle.std.specs.Prelude.{nat_lt}
use Rattle.dump_survey.proofs.findings.tally.copies_from_before.Goals as goal

pub returns-else-copy_revision_of-first : goal.returns-else-copy_revision_of-first
returns-else-copy_revision_of-first c =
    let r = record_item c.args.item.now in
    let late : nat_lt c.copy_revision_of.result c.args.first ≡ false = grind (arith, nat_tests) in
    late ∙ sym (ap (λ b. makes_copy r && b) (ap (λ n. nat_lt n c.args.first) (sym c.copy_revision_of.ensures) ∙ late)
    ∙ and-false (makes_copy r))
