use Rattle.std.proofs.Common.{◌≡◌, ◌<◌, ◌^◌, length, rules, subst, sym, arith}
use Rattle.cut_cli.specs.Sent.{IsTrimmedIf}
use Rattle.cut_cli.proofs.DriveLemmas.{cut_sent}
use Rattle.cut_cli.proofs.memory.send_cut.Goals as goal

pub returns-clause-sent : goal.returns-clause-sent
returns-clause-sent g c =
    let filtered = c.args.filtered.now in
    let same : c.taken.result.now ≡ c.in-Ok.piece = search rules in
    let trims : IsTrimmedIf c.args.deletes.now filtered c.in-Ok.piece =
    subst (λ d. IsTrimmedIf d filtered c.in-Ok.piece) (sym c.in-Some.is) c.in-Ok.ensures in
    let few = c.if-filtered-gt-LONGEST.false in
    let short : length filtered < 10 ^ 18 = omega (arith, few) in
    cut_sent c.args.deletes.now c.args.after filtered c.args.report c.args.sink.now.out.taken c.send_part-2.new.sink.out.taken
    c.send_part-2.result c.taken.result.now short
    (subst (λ t. IsTrimmedIf c.args.deletes.now filtered t) (sym same) trims) c.send_part-2.ensures.sent
