use Rattle.dump_survey.proofs.Prelude.{◌<◌, length, sym, ◌∙◌, arith, get_or-take, length-take}
use Rattle.dump_survey.proofs.LeavingLemmas.{all_left, front_left, none_left}
use Rattle.dump_survey.proofs.findings.prefix_set.PrefixSet.leave.Goals as goal
use Rattle.dump_survey.proofs.findings.prefix_set.PrefixSet.leave.Goals.{then-byte-eq47, else-byte-eq47}

pub loop-place-preserved : goal.loop-place-preserved
loop-place-preserved c =
    let near : c.loop-place.place < c.near-near.result = omega (arith, length-take c.near-near.result c.args.path.now) in
    let low : c.loop-place.place < length c.args.path.now = omega
    (arith, length-take c.near-near.result c.args.path.now) in
    let byte = get_or-take c.near-near.result c.args.path.now c.loop-place.place 0 near in
    elim c.if-byte-eq47.branch [
      | then-byte-eq47 w ↦ rw w.self-is (front_left c.args.self.now c.args.path.now c.loop-place.place
          c.loop-place.self c.loop-place.invariant w.remove-then-byte-eq47.new.self low
          (sym byte ∙ w.if-byte-eq47.true) w.remove-then-byte-eq47.ensures)
      | else-byte-eq47 w ↦ rw w.self-is (none_left c.args.self.now c.args.path.now c.loop-place.place
          c.loop-place.self c.loop-place.invariant (λ slash. w.if-byte-eq47.false (byte ∙ slash)))
    ]

pub returns : goal.returns
returns c =
    all_left c.args.self.now c.args.path.now c.loop-place.place c.loop-place.self c.loop-place.invariant
    (λ text n among fits low.
    let near : n < c.near-near.result = c.near-near.ensures.reach text n among fits low in
    omega (arith, length-take c.near-near.result c.args.path.now))
