use Rattle.std.proofs.Common.{◌≡◌, ℕ, false, ◌||◌, nat_eq, get_or, take, ap₂, ◌∙◌, ◌≢◌, [], eq-eqb, map}
use Rattle.std.proofs.lemmas.Bool.{eqb-true, false_from_ne_true}
use Rattle.dump_index.specs.steps.Listed.{listed_of}
use Rattle.dump_index.specs.steps.Keys.{has_effect_at}
use Rattle.dump_index.specs.declared.order.Effect.TheVariants.{Moving}
use Rattle.dump_index.specs.steps.Touching.{later, moves_within}
use Rattle.dump_index.proofs.TouchLemmas.{within_none, within_more, within_same, within_all}
use Rattle.dump_index.proofs.PlaceLemmas.{latest_or, latest_same}
use Rattle.dump_index.proofs.order.PathOrder.latest_above.Goals as goal
use Rattle.dump_index.proofs.order.PathOrder.latest_above.Goals.{then-byte-eq47, else-byte-eq47}

other : (byte : ℕ) → (byte ≢ 47) → nat_eq byte 47 ≡ false
other byte isnt = false_from_ne_true (nat_eq byte 47) (λ is. isnt (eqb-true byte 47 is))

pub loop-place-init : goal.loop-place-init
loop-place-init c test keys here =
    let listed = map listed_of c.args.changes.now in
    c.later-last.ensures ∙ ap₂ later here (c.latest_at.ensures Moving keys)
    ∙ latest_or test (has_effect_at Moving listed []) c.args.count
    ∙ latest_same _ _ c.args.count (λ place low. within_none listed c.args.path.now test place)

pub loop-place-preserved : goal.loop-place-preserved
loop-place-preserved c test keys here =
    let listed = map listed_of c.args.changes.now in
    let path = c.args.path.now in
    let k = c.loop-place.place in
    let before = c.loop-place.invariant test keys here in
    elim c.if-byte-eq47.branch [
      | then-byte-eq47 w ↦
          w.last-is ∙ w.later-last-then-byte-eq47.ensures
          ∙ ap₂ later before (w.latest_at-then-byte-eq47.ensures Moving keys)
          ∙ latest_or (λ place. test place || moves_within k listed path place) (has_effect_at Moving listed (take k path)) c.args.count
          ∙ latest_same _ _ c.args.count (λ place low. within_more listed path test k c.loop-place-test.true
          (eq-eqb (get_or path k 0) 47 w.if-byte-eq47.true) place)
      | else-byte-eq47 w ↦
          w.last-is ∙ before
          ∙ latest_same _ _ c.args.count (λ place low. within_same listed path test k
          (other (get_or path k 0) w.if-byte-eq47.false) place)
    ]

pub returns : goal.returns
returns c test keys here =
    let listed = map listed_of c.args.changes.now in
    c.loop-place.invariant test keys here
    ∙ latest_same _ _ c.args.count (λ place low. within_all listed c.args.path.now test c.loop-place.place
    c.loop-place-test.false place)
