use Rattle.svndiff.proofs.Prelude.{[], arith, length, take-append-le, ◌+◌, ◌<◌, ◌∙◌, ◌∷◌, ◌≤◌}
use Rattle.svndiff.proofs.TargetLemmas.{copied_in}
use Rattle.svndiff.proofs.targets.copy_target.Goals as goal

pub loop-next-preserved : goal.loop-next-preserved
loop-next-preserved c =
    let before = c.loop-next.invariant in
    let text = c.loop-next.text in
    let byte = c.index-byte.result.now in
    let items = c.in_ok-push.ensures.items in
    let len = c.in_ok-push.ensures.len in
    let room = before.room in
    let within : c.args.start + c.args.offset + c.loop-next.next < length text.items = omega (arith, text.ok.0) in
    let order : c.args.start ≤ length text.items = omega arith in
    record {
      room = omega arith;
      before = rw items (take-append-le c.args.start text.items (byte ∷ []) order ∙ before.before);
      target = rw items (copied_in c.args.size c.loop-next.next c.args.offset c.args.start byte text.items
          c.loop-next-test.true within c.index-byte.ensures ∙ before.target);
    }
