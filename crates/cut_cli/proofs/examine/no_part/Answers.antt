use Rattle.std.proofs.Common.{subst, sym}
use Rattle.cut_cli.specs.steps.Cuts.{HasPartIf}
use Rattle.dump_cut.specs.steps.LaterParts.{IsWhyNoPart}
use Rattle.cut_cli.proofs.examine.no_part.Goals as goal

pub returns-in-Some : goal.returns-in-Some
returns-in-Some c records has none =
    subst (λ after. HasPartIf after c.args.dump.now) (sym c.in-Some.is)
    (records, has, subst (IsWhyNoPart c.in-Some.number records) none (c.no_part_after.ensures records has))

pub returns-in-None : goal.returns-in-None
returns-in-None c records has none = subst (λ after. HasPartIf after c.args.dump.now) (sym c.in-None.is) tt
