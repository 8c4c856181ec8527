use Rattle.std.proofs.Common.{◌≡◌, map, rules, subst}
use Rattle.dump_cut.specs.steps.ExcludedPaths.{paths_of}
use Rattle.dump_expansion.specs.steps.GivenSteads.{IsExpandedBy}
use Rattle.dump_expansion.specs.steps.Given.{given_of}
use Rattle.cut_cli.proofs.ExamineLemmas.{added}
use Rattle.cut_cli.proofs.expansion.with_additions.Goals as goal

pub returns-in-Ok : goal.returns-in-Ok
returns-in-Ok c =
    let same : c.deref.result.now ≡ c.in-Ok.steads.items = search rules in
    added c.args.dump.now c.args.index.now (paths_of c.args.excluded.now) _ _ c.requires.taken.0 c.in_ok-table.ensures
    c.in_ok-texts.ensures (map given_of c.in-Ok.steads.items) c.in_ok-text-in-Ok.text.items
    (rw c.in-Ok.is at c.in_ok-steads.ensures)
    (subst (λ ss. IsExpandedBy (map given_of ss) c.args.dump.now c.in_ok-text-in-Ok.text.items) same
    c.in_ok-text-in-Ok.ensures.records)
