use Rattle.cut_cli.proofs.ExamineLemmas.{of_each}
use Rattle.cut_cli.proofs.examine.examine_front.Goals as goal

pub returns-clause-part : goal.returns-clause-part
returns-clause-part g c =
    let are = c.requires.front c.in_default-stop.is in
    of_each c.examine_changes.result (c.no_part.ensures are.records are.whole c.in_default-no_part.is)
