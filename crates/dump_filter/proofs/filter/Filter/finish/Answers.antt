use Rattle.dump_filter.proofs.Prelude.{ap, ◌∙◌, State}
use Rattle.dump_filter.proofs.knowing.FilterLemmas.{holds, finishes, reports}
use Rattle.dump_filter.proofs.filter.Filter.finish.Goals as goal

pub returns-clause-piece : goal.returns-clause-piece
returns-clause-piece c =
    let h = holds c.self.inside c.args.self c.self.invariant c.self.view_is c.if-not-self.false in
    finishes h c.in-Ok.piece c.in-Ok.ensures.piece

pub returns-clause-report : goal.returns-clause-report
returns-clause-report c records accepted =
    let h = holds c.self.inside c.args.self c.self.invariant c.self.view_is c.if-not-self.false in
    ap (λ (s : State). s.report) c.in-Ok.ensures.state ∙ reports h records accepted
