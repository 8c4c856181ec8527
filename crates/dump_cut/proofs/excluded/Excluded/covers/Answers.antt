use Rattle.std.proofs.Common.{sym, arith}
use Rattle.dump_cut.proofs.ExcludedLemmas.{root_covers, whole_covers, front_covers, none_covers}
use Rattle.dump_cut.proofs.excluded.Excluded.covers.Goals as goal
use Rattle.dump_cut.proofs.excluded.Excluded.covers.Goals.{then-has-via-then-has, then-has-via-else-has+then-has-2}

pub returns-then-has : goal.returns-then-has
returns-then-has c =
    elim c.then-has.branch [
      | then-has-via-then-has w ↦ sym (root_covers c.args.path.now c.args.self.now (sym w.if-has.ensures))
      | then-has-via-else-has+then-has-2 w ↦ sym (whole_covers c.args.path.now c.args.self.now (sym w.if-has-2.ensures))
    ]

pub returns-then-has-3 : goal.returns-then-has-3
returns-then-has-3 c =
    sym (front_covers c.args.path.now c.loop-place.place (omega arith) c.if-byte-eq47.true c.args.self.now
    (sym c.if-has-3.ensures))

pub returns : goal.returns
returns c = sym (none_covers c.args.path.now c.args.self.now (sym c.if-has.ensures) (sym c.if-has-2.ensures) (λ k low. c.loop-place.invariant k (omega (arith, low))))
