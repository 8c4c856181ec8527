use Rattle.svndiff.proofs.Prelude.{arith, drop, ◌-◌, ◌≡◌, ◌≤◌}
use Rattle.svndiff.specs.steps.Readings.{between}
use Rattle.svndiff.proofs.SourceLemmas.{drop-between, none-between, slid_is}
use Rattle.svndiff.proofs.sources.Source.slid.Goals as goal
use Rattle.svndiff.proofs.sources.Source.slid.Goals.{then-passed-held, else-passed-held}

pub returns-clause-value : goal.returns-clause-value
returns-clause-value c =
    let s = c.args.self.now in
    let passed = c.args.offset - s.offset in
    let kept : drop passed (between s.base.now s.start s.end) ≡ between s.base.now c.if-passed-held.start s.end =
    elim c.if-passed-held.branch [
      | then-passed-held w ↦ rw w.start-is (drop-between s.base.now s.start s.end passed s.within (omega arith) s.ordered)
      | else-passed-held w ↦ rw w.start-is (none-between s.base.now s.start s.end passed (omega arith))
    ] in
    let order : c.if-passed-held.start ≤ s.end = elim c.if-passed-held.branch [
      | then-passed-held w ↦ rw w.start-is (omega arith)
      | else-passed-held w ↦ rw w.start-is (omega arith)
    ] in
    slid_is s.base.now _ s.offset c.if-passed-held.start s.end c.args.offset c.args.size c.saturating_sub-lacks.result kept
    order s.within c.if-offset-self.false (grind (arith, c.else-size-gt0.either)) c.saturating_sub-lacks.ensures
    c.if-lacks-self.false
