use Rattle.dump_text.proofs.Prelude.{◌≡◌, ◌+◌, ◌-◌, ◌<◌, arith, ◌∙◌, length-set}
use Rattle.dump_text.proofs.NumberLemmas.{spelled_more, spelled_last, tenth, one_digit}
use Rattle.dump_text.proofs.numbers.spell.Goals as goal
use Rattle.dump_text.proofs.numbers.spell.Goals.{then-loop-left-test+else-start-gt0, else-loop-left-test}

pub loop-left-preserved : goal.loop-left-preserved
loop-left-preserved c =
    let i = c.loop-left.invariant in
    let some = c.if-start-gt0.true in
    let room = i.room in
    let size = i.size in
    let bound = i.bound in
    let back : c.loop-left.start - 1 + 1 ≡ c.loop-left.start = omega arith in
    record {
      room = omega arith;
      size = length-set _ _ _ ∙ i.size;
      small = rw back (tenth _ _ i.small some);
      bound = omega arith;
      spelled = rw back
          (spelled_more c.args.n c.loop-left.left c.loop-left.start c.loop-left.bytes c.loop-left-test.true i.bound
          (omega arith) i.spelled);
    }

pub returns : goal.returns
returns c =
    let i = c.loop-left.invariant in
    let room = i.room in
    let size = i.size in
    let small : c.loop-left.left < 10 = elim c.loop-left-test.branch [
      | then-loop-left-test+else-start-gt0 w ↦ one_digit _ _ i.small w.if-start-gt0.false
      | else-loop-left-test w ↦ w.loop-left-test.false
    ] in
    spelled_last c.args.n c.loop-left.left c.loop-left.start c.loop-left.bytes small (omega arith) i.spelled
