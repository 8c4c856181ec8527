use Rattle.dump_records.proofs.Prelude.{◌≡◌, ◌+◌, ◌≤◌, length, subst, refl, arith, CutterState, Ending, EndsAfter}
use Rattle.dump_records.proofs.CutLemmas.{gap_in, room_behind, ends_whole, ends_broken}
use Rattle.dump_records.proofs.cutter.Cutter.next.Goals as goal
use Rattle.dump_records.proofs.cutter.Cutter.next.Goals.{else-place-self-via-then-place-self+else-self-gt0, else-place-self-via-else-place-self}

pub returns-then-self-gt0 : goal.returns-then-self-gt0
returns-then-self-gt0 c =
    let s = c.self.inside in
    let lfs = gap_in s.dump.now s.place c.count_line_feeds.result c.count_line_feeds.ensures in
    let ends = ends_whole s.dump.now s.number s.place s.version c.count_line_feeds.result c.self.invariant lfs
    c.if-place-self.true c.if-self-gt0.true in
    subst (λ (v : CutterState). EndsAfter v.dump v.number Ending.Whole × (c.args.self.now ≡ c.args.self.now))
    c.self.view_is (ends, refl)

pub record_at-requires : goal.record_at-requires
record_at-requires c =
    let s = c.self.inside in
    record {
      from = s.place;
      gap = c.count_line_feeds.result;
      up_to = c.self.invariant;
      lfs = gap_in s.dump.now s.place c.count_line_feeds.result c.count_line_feeds.ensures;
      place_is = refl;
    }

pub returns-in-Ok : goal.returns-in-Ok
returns-in-Ok c =
    let next = c.in-Ok.ensures.next in
    rw (← c.self.view_is) (next.dump_is, next.number_is, next.item, refl)

pub returns-in-Err : goal.returns-in-Err
returns-in-Err c =
    let s = c.self.inside in
    let gap = c.count_line_feeds.result in
    let lfs = gap_in s.dump.now s.place gap c.count_line_feeds.ensures in
    let first : s.place + gap ≡ length s.dump.now → s.number ≡ 0 = λ end. elim c.else-place-self.branch [
      | else-place-self-via-then-place-self+else-self-gt0 w ↦ let none = w.if-self-gt0.false in omega arith
      | else-place-self-via-else-place-self w ↦ absurd (w.if-place-self.false end)
    ] in
    let inside : s.place + gap ≤ length s.dump.now =
    room_behind s.dump.now s.number s.place s.version gap c.self.invariant lfs in
    let ends = ends_broken s.dump.now s.number s.place s.version gap c.self.invariant lfs c.in-Err.kind first inside
    c.in-Err.ensures.fault in
    subst (λ (v : CutterState). EndsAfter v.dump v.number (Ending.Broken c.in-Err.kind (s.place + gap))
    × (c.args.self.now ≡ c.args.self.now)) c.self.view_is (ends, refl)
