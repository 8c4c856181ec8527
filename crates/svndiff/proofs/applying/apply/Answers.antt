use Rattle.svndiff.proofs.Prelude.{[], ap, arith, bytes_eq, drop, err_from_is_err_and, length, length-drop, length-take, min_comm, sym, take, take_min, true, ◌<◌, ◌∙◌, ◌∷◌, ◌≡◌}
use Rattle.svndiff.specs.Svndiff.{patch}
use Rattle.svndiff.specs.steps.Readings.{source_of, window_of}
use Rattle.svndiff.proofs.TextLemmas.{begun, one_window, says_on, target_stated, unmade_window, unread_window, unseen_window}
use Rattle.svndiff.proofs.applying.apply.Goals as goal

pub loop-at-init : goal.loop-at-init
loop-at-init c =
    let delta = c.args.delta.now in
    let head : take c.min.result delta ≡ take 4 delta =
    ap (λ n. take n delta) (c.min.ensures ∙ min_comm (length delta) 4) ∙ take_min 4 delta in
    let same : bytes_eq (take c.min.result delta) (83 ∷ 86 ∷ 78 ∷ 0 ∷ []) ≡ true =
    (let begins : bytes_eq (take c.min.result delta) c.as_slice.result.now ≡ true = grind (arith, c.if-ne.ensures) in
    ap (bytes_eq (take c.min.result delta)) (sym c.as_slice.ensures) ∙ begins) in
    let (four, is) = begun delta c.args.base.now (take c.min.result delta) head same in
    let size = length-take c.min.result delta in
    record {
      within = omega (arith, size);
      text = (
        length delta,
        omega (arith, length-drop (length (take c.min.result delta)) delta),
        rw (four, c.new-text.ensures.items, c.new-source.ensures) is,
      );
    }

pub returns-in-Err-clause-text : goal.returns-in-Err-clause-text
returns-in-Err-clause-text c =
    let (most, few, is) = c.loop-at.invariant.text in
    let bs = drop c.loop-at.at c.args.delta.now in
    let some : 0 < length bs = omega (arith, length-drop c.loop-at.at c.args.delta.now, c.loop-at-test.true) in
    sym is ∙ unread_window most c.loop-at.text.items bs _ some c.in-Err.ensures.value

pub returns-in_default-clause-text : goal.returns-in_default-clause-text
returns-in_default-clause-text c =
    let (most, few, is) = c.loop-at.invariant.text in
    let bs = drop c.loop-at.at c.args.delta.now in
    let some : 0 < length bs = omega (arith, length-drop c.loop-at.at c.args.delta.now, c.loop-at-test.true) in
    let window = c.in-Ok.window in
    sym is ∙ unseen_window most c.loop-at.text.items bs (drop window.after c.args.delta.now) (source_of c.loop-at.source)
    (window_of c.args.delta.now window) some c.in-Ok.ensures.value c.in_default.ensures.value

pub returns-in_err-make_target-clause-text : goal.returns-in_err-make_target-clause-text
returns-in_err-make_target-clause-text c =
    let p = err_from_is_err_and c.from_residual.result c.from_residual.ensures.1 in
    let (most, few, is) = c.loop-at.invariant.text in
    let delta = c.args.delta.now in
    let bs = drop c.loop-at.at delta in
    let some : 0 < length bs = omega (arith, length-drop c.loop-at.at delta, c.loop-at-test.true) in
    let window = c.in-Ok.window in
    let seen = source_of c.in-Some.seen in
    let stated = target_stated delta c.view.result.now window seen c.in-Ok.ensures.parts.new_data c.view.ensures in
    rw (p.1, p.2) (says_on c.in_err-make_target.field-0.0 _ (patch delta c.args.base.now)
    (λ lost. sym is ∙ unmade_window most c.loop-at.text.items bs (drop window.after delta) (source_of c.loop-at.source) seen
    (window_of delta window) some c.in-Ok.ensures.value c.in-Some.ensures.value (sym stated ∙ lost))
    c.in_err-make_target.ensures.target)

pub loop-at-preserved : goal.loop-at-preserved
loop-at-preserved c =
    let (most, few, is) = c.loop-at.invariant.text in
    let (target, makes, appended) = c.in_ok-make_target.ensures.target in
    let delta = c.args.delta.now in
    let bs = drop c.loop-at.at delta in
    let window = c.in-Ok.window in
    let parts = c.in-Ok.ensures.parts in
    let rest = drop window.after delta in
    let seen = source_of c.in-Some.seen in
    let stated = target_stated delta c.view.result.now window seen parts.new_data c.view.ensures in
    let shorter : length rest < length bs =
    omega (
      arith,
      length-drop c.loop-at.at delta,
      length-drop window.after delta,
      parts.instructions,
      parts.new_data,
      parts.after,
      parts.within,
    ) in
    let (left, fewer, same) = one_window most c.loop-at.text.items bs rest target (source_of c.loop-at.source) seen
    (window_of delta window) few shorter c.in-Ok.ensures.value c.in-Some.ensures.value (sym stated ∙ makes) in
    record { within = parts.within; text = (left, fewer, rw appended (same ∙ is)) }
