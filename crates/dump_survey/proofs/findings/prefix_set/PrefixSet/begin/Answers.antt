use Rattle.dump_survey.proofs.Prelude.{◌<◌, length, sym, ◌∙◌, arith, get_or-take, length-take, AreWithin, empty_begins, whole_begins, cut_begins, none_begins}
use Rattle.dump_survey.proofs.findings.prefix_set.PrefixSet.begin.Goals as goal
use Rattle.dump_survey.proofs.findings.prefix_set.PrefixSet.begin.Goals.{then-has-via-then-has, then-has-via-else-has+then-has-2}

pub returns-then-has : goal.returns-then-has
returns-then-has c =
    elim c.then-has.branch [
      | then-has-via-then-has w ↦ sym (empty_begins c.args.path.now c.args.self.now (sym w.if-has.ensures))
      | then-has-via-else-has+then-has-2 w ↦ sym (whole_begins c.args.path.now c.args.self.now (sym w.if-has-2.ensures))
    ]

pub returns-then-has-3 : goal.returns-then-has-3
returns-then-has-3 c =
    let near : c.loop-place.place < c.min-near.result = omega (arith, length-take c.min-near.result c.args.path.now) in
    let low : c.loop-place.place < length c.args.path.now = omega
    (arith, length-take c.min-near.result c.args.path.now) in
    sym (cut_begins c.args.path.now c.loop-place.place low
    (sym (get_or-take c.min-near.result c.args.path.now c.loop-place.place 0 near) ∙ c.if-byte-eq47.true)
    c.args.self.now (sym c.if-has-3.ensures))

pub returns : goal.returns
returns c =
    let within : AreWithin c.self.inside.longest c.args.self.now = rw (← c.self.view_is) c.self.invariant in
    sym (none_begins c.args.path.now c.loop-place.place c.self.inside.longest
    (λ n fits low. omega (arith, length-take c.min-near.result c.args.path.now))
    c.args.self.now within (sym c.if-has.ensures) (sym c.if-has-2.ensures) c.loop-place.invariant)
