use Rattle.dump_survey.proofs.Prelude.{arith, AreWithin}
use Rattle.dump_survey.proofs.LeavingLemmas.{among_within}
use Rattle.dump_survey.proofs.findings.prefix_set.PrefixSet.near.Goals as goal

pub returns-clause-reach : goal.returns-clause-reach
returns-clause-reach c = λ text n among fits low.
    let within : AreWithin c.self.inside.longest c.args.self.now = rw (← c.self.view_is) c.self.invariant in
    let short = among_within c.self.inside.longest c.args.self.now text within among in
    omega arith
