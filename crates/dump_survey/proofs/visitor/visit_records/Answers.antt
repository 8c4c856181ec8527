use Rattle.dump_survey.proofs.Prelude.{refl, subst, Cut, CutStep}
use Rattle.dump_survey.proofs.VisitLemmas.{all_visited, comes_nearer, next_visit, none_visited, visited_more}
use Rattle.dump_survey.proofs.visitor.visit_records.Goals as goal

pub loop-item-init : goal.loop-item-init
loop-item-init g c = none_visited g.V.RecordVisitor.has_visited c.args.dump.now c.new-cutter.result c.args.visitor.now
    c.new-cutter.ensures c.requires

pub visit-requires : goal.visit-requires
visit-requires g c κs =
    let step = subst (λ (x : Cut). CutStep c.loop-item.cutter x c.next.new.self) c.in-Item.is c.next.ensures in (
      (refl, tt),
      next_visit g.V.RecordVisitor.has_visited c.args.dump.now c.loop-item.cutter c.args.visitor.now c.loop-item.visitor
          c.loop-item.invariant c.next.new.self c.in-Item.item step,
    )

pub loop-item-smaller : goal.loop-item-smaller
loop-item-smaller g c =
    let step = subst (λ (x : Cut). CutStep c.loop-item.cutter x c.next.new.self) c.in-Item.is c.next.ensures in
    comes_nearer g.V.RecordVisitor.has_visited c.args.dump.now c.loop-item.cutter c.args.visitor.now c.loop-item.visitor
    c.loop-item.invariant c.next.new.self c.in-Item.item step

pub loop-item-preserved : goal.loop-item-preserved
loop-item-preserved g c =
    let step = subst (λ (x : Cut). CutStep c.loop-item.cutter x c.next.new.self) c.in-Item.is c.next.ensures in
    visited_more g.V.RecordVisitor.has_visited c.args.dump.now c.loop-item.cutter c.args.visitor.now c.loop-item.visitor
    c.loop-item.invariant c.next.new.self c.in-Item.item step c.visit.new.self c.in_ok-visit.ensures

pub returns : goal.returns
returns g c =
    all_visited g.V.RecordVisitor.has_visited c.args.dump.now c.loop-item.cutter c.args.visitor.now c.loop-item.visitor
    c.loop-item.invariant c.next.result c.next.new.self c.next.ensures c.in_default.not-Item
