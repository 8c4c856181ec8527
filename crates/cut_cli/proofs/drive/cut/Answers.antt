use Rattle.std.proofs.Common.{◌≡◌, rules, subst, sym}
use Rattle.cut_cli.specs.steps.Cuts.{HasPartIf, IsReadyFor}
use Rattle.cut_cli.specs.steps.Drive.{CutsDump}
use Rattle.cut_cli.specs.steps.Words.{cut_meaning}
use Rattle.cut_cli.specs.steps.Examined.{expansion_text}
use Rattle.cut_cli.proofs.CutLemmas.{has_no_memory, stops_at, tries_cut, writes_cut}
use Rattle.cut_cli.proofs.drive.cut.Goals as goal

pub returns-in-Ok-Ok : goal.returns-in-Ok-Ok
returns-in-Ok-Ok g c =
    let old = g.W.Write.contents c.args.writer.now in
    let r = c.in-Ok-Ok.ready in
    let part : HasPartIf c.args.call.now.after c.args.dump.now = rw c.in-Ok-Ok.field-0-is at c.in-Ok-Ok.ensures.part in
    let ready : IsReadyFor (cut_meaning c.args.call.now) c.args.dump.now (expansion_text r.expansion) r.options r.deletes =
    rw c.in-Ok-Ok.field-0-is at c.in-Ok-Ok.ensures.examined in
    tries_cut (cut_meaning c.args.call.now) c.args.dump.now (expansion_text r.expansion) r.options r.deletes old old _ _
    c.write_cut.result part ready c.if-call.true c.write_cut.ensures

pub returns-in-Ok-Ok-2 : goal.returns-in-Ok-Ok-2
returns-in-Ok-Ok-2 g c =
    let r = c.in-Ok-Ok.ready in
    let part : HasPartIf c.args.call.now.after c.args.dump.now = rw c.in-Ok-Ok.field-0-is at c.in-Ok-Ok.ensures.part in
    let ready : IsReadyFor (cut_meaning c.args.call.now) c.args.dump.now (expansion_text r.expansion) r.options r.deletes =
    rw c.in-Ok-Ok.field-0-is at c.in-Ok-Ok.ensures.examined in
    writes_cut (cut_meaning c.args.call.now) c.args.dump.now (expansion_text r.expansion) r.options r.deletes _ _ _ _
    c.write_cut-in-Ok-Ok-2.result part ready c.if-call.false c.write_cut-in-Ok-Ok-2.ensures

pub returns-in-Ok-Err : goal.returns-in-Ok-Err
returns-in-Ok-Err g c =
    let m = cut_meaning c.args.call.now in
    let old = g.W.Write.contents c.args.writer.now in
    let map_old = g.M.Write.contents c.args.map_file.now in
    subst (CutsDump m c.args.dump.now old old map_old map_old) (sym c.obstacle_status.ensures)
    (stops_at m c.args.dump.now old map_old c.in-Ok-Err.obstacle (rw c.in-Ok-Err.field-0-is at c.in-Ok-Err.ensures.examined))

pub returns-in-Err : goal.returns-in-Err
returns-in-Err g c =
    let old = g.W.Write.contents c.args.writer.now in
    let map_old = g.M.Write.contents c.args.map_file.now in
    let failed : c.fail.result ≡ 1 = search rules in
    subst (CutsDump (cut_meaning c.args.call.now) c.args.dump.now old old map_old map_old) (sym failed)
    (has_no_memory (cut_meaning c.args.call.now) c.args.dump.now old map_old)
