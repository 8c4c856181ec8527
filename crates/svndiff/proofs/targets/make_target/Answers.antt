use Rattle.svndiff.proofs.Prelude.{List, ap, arith, drop, drop_all, err_from_is_err_and, length, length-drop, length-take, sym, take-append-drop, take_all, ℕ, ◌++◌, ◌<◌, ◌∙◌, ◌≡◌, ◌≤◌}
use Rattle.svndiff.specs.Svndiff.{target_by}
use Rattle.svndiff.specs.steps.Readings.{instruction_of, target_in}
use Rattle.svndiff.proofs.TargetLemmas.{all_done, one_applied, one_unread}
use Rattle.svndiff.proofs.targets.make_target.Goals as goal

pub loop-at-init : goal.loop-at-init
loop-at-init c =
    let bs = drop c.args.inputs.now.first c.args.inputs.now.instructions.now in
    let text = c.args.text.now in
    let all_of_it : length text.items ≤ c.len-start.result = omega (arith, c.len-start.ensures, text.ok.0) in
    record {
      within = c.requires;
      start = c.len-start.ensures;
      room = omega (arith, c.len-start.ensures);
      before = take_all c.len-start.result text.items all_of_it;
      target = (
        length bs,
        omega arith,
        ap (λ (made : List ℕ). target_by (length bs) c.args.inputs.now.view.now c.args.inputs.now.size bs record { made = made; unused = c.args.inputs.now.new_data.now })
            (drop_all c.len-start.result text.items all_of_it),
      );
    }

pub returns-in_default-clause-target : goal.returns-in_default-clause-target
returns-in_default-clause-target c =
    let (most, few, is) = c.loop-at.invariant.target in
    let bs = drop c.loop-at.at c.args.inputs.now.instructions.now in
    let some : 0 < length bs = omega (arith, length-drop c.loop-at.at c.args.inputs.now.instructions.now, c.loop-at-test.true) in
    sym is ∙ one_unread most c.args.inputs.now.view.now c.args.inputs.now.size bs _ some c.in_default.ensures.value

pub returns-in_err-left-clause-target : goal.returns-in_err-left-clause-target
returns-in_err-left-clause-target c = let p = err_from_is_err_and c.from_residual.result c.from_residual.ensures.1 in rw (p.1, p.2) tt

pub loop-at-preserved : goal.loop-at-preserved
loop-at-preserved c =
    let before = c.loop-at.invariant in
    let (most, few, is) = before.target in
    let found = c.in-Some.found in
    let (can, stays, after) = rw c.in-Some-2.is at c.in_ok-left.ensures in
    let bs = drop c.loop-at.at c.args.inputs.now.instructions.now in
    let rest = drop found.after c.args.inputs.now.instructions.now in
    let shorter : length rest < length bs =
    omega (
      arith,
      length-drop c.loop-at.at c.args.inputs.now.instructions.now,
      length-drop found.after c.args.inputs.now.instructions.now,
      c.in-Some.ensures.after,
      c.in-Some.ensures.within,
    ) in
    let (left, fewer, same) = one_applied most c.args.inputs.now.view.now c.args.inputs.now.size bs rest (instruction_of found.instruction)
    (target_in c.loop-at.text.items c.len-start.result c.loop-at.unused.now)
    (target_in c.apply_instruction.new.text.items c.len-start.result c.in-Some-2.left.now) few shorter c.in-Some.ensures.value can after in
    let sizes = ap length stays in
    record {
      within = c.in-Some.ensures.within;
      start = before.start;
      room = omega (
        arith,
        sizes,
        length-take c.len-start.result c.apply_instruction.new.text.items,
        length-take c.len-start.result c.loop-at.text.items,
        before.room,
        c.apply_instruction.new.text.ok.0,
        c.loop-at.text.ok.0,
      );
      before = stays ∙ before.before;
      target = (left, fewer, same ∙ is);
    }

pub returns-then-is_empty-clause-target : goal.returns-then-is_empty-clause-target
returns-then-is_empty-clause-target c =
    let before = c.loop-at.invariant in
    let (most, few, is) = before.target in
    let text = c.loop-at.text in
    let bs = drop c.loop-at.at c.args.inputs.now.instructions.now in
    let made = drop c.len-start.result text.items in
    let none : length bs ≡ 0 = omega (arith, length-drop c.loop-at.at c.args.inputs.now.instructions.now, c.loop-at-test.false) in
    let full : length made ≡ c.args.inputs.now.size =
    omega (arith, length-drop c.len-start.result text.items, text.ok.0, c.len.ensures, c.if-len-start.true) in
    let used : length c.loop-at.unused.now ≡ 0 = grind (arith, c.if-is_empty.ensures) in (
      made,
      sym is ∙ all_done most c.args.inputs.now.view.now c.args.inputs.now.size bs (target_in text.items c.len-start.result c.loop-at.unused.now) none full used,
      sym (take-append-drop c.len-start.result text.items) ∙ ap (λ (xs : List ℕ). xs ++ made) before.before,
    )
