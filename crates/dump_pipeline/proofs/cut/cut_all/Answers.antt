use Rattle.dump_pipeline.proofs.Prelude.{rules, ◌≡◌, ◌∙◌, ◌+◌, ◌≤◌, ℕ, sym, ap, subst, length, arith, job_port, Ending, record_number, CutStep, Cut, HasPut}
use Rattle.dump_pipeline.proofs.Steps.{put_more, all_put, ends_within, cut_number, cut_next, cut_end}
use Rattle.dump_pipeline.proofs.cut.cut_all.Goals as goal

pub loop-preserved : goal.loop-preserved
loop-preserved g c =
    let step = subst
    (λ (x : Cut). CutStep c.loop.cutter x c.next-in-loop.new.self) c.in-Item.is c.next-in-loop.ensures in
    let at : record_number c.in-Item.record ≡ c.loop.number =
    cut_number c.loop.cutter c.next-in-loop.new.self g.D.Run.dump c.loop.number c.in-Item.record c.loop.invariant.cutter step in
    let count : c.number-number.result ≡ c.loop.number = c.number-number.ensures ∙ at in
    record {
      put = subst (λ (n : ℕ). HasPut (n + 1) (job_port c.args.port.now) (job_port c.put.new.self)) (sym count)
          (put_more c.loop.number (job_port c.args.port.now) (job_port c.loop.port) (job_port c.draw.new.port)
          (job_port c.put.new.self) c.item.result
          c.loop.invariant.put c.draw.ensures.port c.in-Some-draw.ensures.drawn c.put.ensures (c.item.ensures ∙ at));
      seat = search rules;
      cutter = subst (λ (n : ℕ). c.next-in-loop.new.self ≡ record { dump = g.D.Run.dump; number = n + 1 }) (sym count)
          (cut_next c.loop.cutter c.next-in-loop.new.self g.D.Run.dump c.loop.number c.in-Item.record c.loop.invariant.cutter step);
    }

pub last-requires-clause-few : goal.last-requires-clause-few
last-requires-clause-few g c =
    let step = subst
    (λ (x : Cut). CutStep c.loop.cutter x c.next-in-loop.new.self) c.in-Finished.is c.next-in-loop.ensures in
    let most : c.loop.number ≤ length g.D.Run.dump = ends_within g.D.Run.dump c.loop.number Ending.Whole
    (cut_end c.loop.cutter g.D.Run.dump c.loop.number Ending.Whole c.loop.invariant.cutter step.0) in
    let bytes = c.count_bytes.ensures in
    let same = ap length c.requires.dump in
    omega (arith, most, bytes.0, bytes.1, same)

pub returns-in-Finished-clause-cut : goal.returns-in-Finished-clause-cut
returns-in-Finished-clause-cut g c =
    let step = subst
    (λ (x : Cut). CutStep c.loop.cutter x c.next-in-loop.new.self) c.in-Finished.is c.next-in-loop.ensures in
    all_put g.D.Run.dump c.loop.number Ending.Whole (job_port c.args.port.now)
    (job_port c.put-in-Finished.new.self) c.draw.new.seat.seen
    (cut_end c.loop.cutter g.D.Run.dump c.loop.number Ending.Whole c.loop.invariant.cutter step.0)
    (put_more c.loop.number (job_port c.args.port.now) (job_port c.loop.port) (job_port c.draw.new.port)
    (job_port c.put-in-Finished.new.self) c.last.result
    c.loop.invariant.put c.draw.ensures.port c.in-Some-draw.ensures.drawn c.put-in-Finished.ensures c.last.ensures)

pub last-requires-in-Fault-clause-ends : goal.last-requires-in-Fault-clause-ends
last-requires-in-Fault-clause-ends g c =
    let step = subst
    (λ (x : Cut). CutStep c.loop.cutter x c.next-in-loop.new.self) c.in-Fault.is c.next-in-loop.ensures in
    ∣ cut_end c.loop.cutter g.D.Run.dump c.loop.number
    (Ending.Broken c.in-Fault.kind c.in-Fault.place) c.loop.invariant.cutter step.0 ∣₁

pub last-requires-in-Fault-clause-few : goal.last-requires-in-Fault-clause-few
last-requires-in-Fault-clause-few g c =
    let step = subst
    (λ (x : Cut). CutStep c.loop.cutter x c.next-in-loop.new.self) c.in-Fault.is c.next-in-loop.ensures in
    let most : c.loop.number ≤ length g.D.Run.dump = ends_within g.D.Run.dump c.loop.number
    (Ending.Broken c.in-Fault.kind c.in-Fault.place)
    (cut_end c.loop.cutter g.D.Run.dump c.loop.number
    (Ending.Broken c.in-Fault.kind c.in-Fault.place) c.loop.invariant.cutter step.0) in
    let bytes = c.count_bytes.ensures in
    let same = ap length c.requires.dump in
    omega (arith, most, bytes.0, bytes.1, same)

pub returns-in-Fault-clause-cut : goal.returns-in-Fault-clause-cut
returns-in-Fault-clause-cut g c =
    let step = subst
    (λ (x : Cut). CutStep c.loop.cutter x c.next-in-loop.new.self) c.in-Fault.is c.next-in-loop.ensures in
    all_put g.D.Run.dump c.loop.number (Ending.Broken c.in-Fault.kind c.in-Fault.place) (job_port c.args.port.now)
    (job_port c.put-in-Fault.new.self) c.draw.new.seat.seen
    (cut_end c.loop.cutter g.D.Run.dump c.loop.number
    (Ending.Broken c.in-Fault.kind c.in-Fault.place) c.loop.invariant.cutter step.0)
    (put_more c.loop.number (job_port c.args.port.now) (job_port c.loop.port) (job_port c.draw.new.port)
    (job_port c.put-in-Fault.new.self) c.last-in-Fault.result
    c.loop.invariant.put c.draw.ensures.port c.in-Some-draw.ensures.drawn c.put-in-Fault.ensures c.last-in-Fault.ensures)
