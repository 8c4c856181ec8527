use Rattle.cut_cli.specs.steps.Words.{cut_meaning}
use Rattle.cut_cli.proofs.ExamineLemmas.{odd_delete}
use Rattle.cut_cli.proofs.examine.prepare_expanded.Goals as goal

pub returns-in-Err-found : goal.returns-in-Err-found
returns-in-Err-found g c = λ side returns.
    odd_delete (cut_meaning c.args.call.now) c.args.dump.now c.in-Err-found.obstacle
    (rw c.in-Err-found.is at c.in_ok-found.ensures)
