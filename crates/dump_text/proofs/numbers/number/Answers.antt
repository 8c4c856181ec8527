use Rattle.dump_text.proofs.Prelude.{ℕ, ◌+◌, ◌*◌, ◌<◌, ◌≤◌, ◌^◌, ◌∙◌, arith, ap, refl, sym, take, digits_value, pow-le-pow_right}
use Rattle.dump_text.proofs.NumberLemmas.{value_more, digits_more, small_more, digit_small}
use Rattle.dump_text.proofs.numbers.number.Goals as goal

room : (v i : ℕ) → v < 10 ^ i → i ≤ 17 → v < 10 ^ 17
room v i small few = let more : 10 ^ i ≤ 10 ^ 17 = pow-le-pow_right (omega arith) few in omega arith

pub overflow_mul-value : goal.overflow_mul-value
overflow_mul-value c =
    let small = c.loop-digit.invariant.small in
    let below : c.loop-digit.digit-index ≤ 17 = omega arith in
    let r = room _ _ small below in
    omega arith

pub overflow_add-value : goal.overflow_add-value
overflow_add-value c =
    let small = c.loop-digit.invariant.small in
    let below : c.loop-digit.digit-index ≤ 17 = omega arith in
    let r = room _ _ small below in
    omega (arith, c.type_inv.bytes c.loop-digit.digit-index)

pub loop-digit-preserved : goal.loop-digit-preserved
loop-digit-preserved c =
    let before = c.loop-digit.invariant in
    let is = sym c.is_ascii_digit.ensures.value ∙ c.if-not-is_ascii_digit.false in
    let below = c.loop-digit-test.true in
    record {
      value = ap (λ v. v * 10 + c.from.result) before.value
          ∙ ap (λ d. digits_value 10 (take c.loop-digit.digit-index c.args.bytes.now) * 10 + d) c.from.ensures
          ∙ value_more c.args.bytes.now c.loop-digit.digit-index _ below refl is;
      small = small_more _ _ _ before.small (rw c.from.ensures (digit_small _ is));
      digits = digits_more c.args.bytes.now c.loop-digit.digit-index _ below refl is before.digits;
    }

pub returns-clause-small : goal.returns-clause-small
returns-clause-small c =
    let small = c.loop-digit.invariant.small in
    let few : c.loop-digit.digit-index ≤ 18 = omega arith in
    let more : 10 ^ c.loop-digit.digit-index ≤ 10 ^ 18 = pow-le-pow_right (omega arith) few in
    omega arith
