use Rattle.std.proofs.Common.{◌≡◌, ◌+◌, ◌≤◌, ◌<◌, ◌==◌, List, ℕ, true, false, length, refl, drop, take, [], ◌∷◌, ◌++◌, ap, sym, subst, ◌∙◌, ◌≢◌, arith, append-nil}
use Rattle.std.proofs.lemmas.Bool.{eqb-true}
use Rattle.dump_index.specs.steps.Below.{GoesFurther}
use Rattle.dump_index.proofs.BelowLemmas.{outside, inside, child_name, further}
use Rattle.dump_index.proofs.path_text.stand_below.Goals as goal

-- the rest follows the top
whole : (top path rest : List ℕ) → path ≡ top ++ drop (length top) path → rest ≡ drop (length top) path → path ≡ top ++ rest
whole top path rest is same = is ∙ ap (λ (t : List ℕ). top ++ t) (sym same)

none_left : (text : List ℕ) → (length text == 0) ≡ true → text ≡ []
none_left [] is = refl
none_left (b ∷ text) is =
    let none : length (b ∷ text) ≡ 0 = eqb-true (length (b ∷ text)) 0 is in absurd (omega arith)

some_left : (text : List ℕ) → (length text == 0) ≡ false → text ≢ []
some_left text is none =
    let bad : true ≡ false = sym (ap (λ (t : List ℕ). length t == 0) none) ∙ is in absurd (cc)

pub returns-in_default : goal.returns-in_default
returns-in_default c = outside c.args.top.now c.args.path.now c.in_default.ensures.cases

pub returns-then-is_empty : goal.returns-then-is_empty
returns-then-is_empty c =
    whole c.args.top.now c.args.path.now c.in-Some.rest.now
    (inside c.args.top.now c.args.path.now c.in-Some.ensures.cases.0) c.in-Some.ensures.cases.1
    ∙ ap (λ (t : List ℕ). c.args.top.now ++ t)
    (none_left c.in-Some.rest.now (sym c.is_empty.ensures ∙ c.if-is_empty.true))
    ∙ append-nil c.args.top.now

pub returns-then-end-rest : goal.returns-then-end-rest
returns-then-end-rest c =
    let end = c.name_end-end.ensures in
    subst (λ (n : ℕ). GoesFurther c.args.top.now c.args.path.now (take (length c.args.top.now + n + 1) c.args.path.now))
    (sym end)
    (further c.args.top.now c.args.path.now c.in-Some.rest.now
    (whole c.args.top.now c.args.path.now c.in-Some.rest.now
    (inside c.args.top.now c.args.path.now c.in-Some.ensures.cases.0) c.in-Some.ensures.cases.1)
    (subst (λ (n : ℕ). n < length c.in-Some.rest.now) end c.if-end-rest.true))

pub returns-else-end-rest : goal.returns-else-end-rest
returns-else-end-rest c = (
  whole c.args.top.now c.args.path.now c.in-Some.rest.now
      (inside c.args.top.now c.args.path.now c.in-Some.ensures.cases.0) c.in-Some.ensures.cases.1,
  child_name c.in-Some.rest.now (some_left c.in-Some.rest.now (sym c.is_empty.ensures ∙ c.if-is_empty.false))
      (subst (λ (n : ℕ). length c.in-Some.rest.now ≤ n) c.name_end-end.ensures c.if-end-rest.false),
)
