use Rattle.std.proofs.Common.{◌≡◌, List, ℕ, Some, option_map, length, map, refl, sym, ap, subst, ◌∙◌, arith}
use Rattle.std.proofs.lemmas.Option.{slice_get-get_or}
use Rattle.std.specs.Prelude.{slice_get}
use Rattle.std.proofs.lemmas.List.{length-map}
use Rattle.dump_index.specs.steps.Listed.{Listed, listed_of}
use Rattle.dump_index.specs.steps.Keys.{PathKey, key_in, keys_in, IsSortedKeys}
use Rattle.dump_index.specs.steps.Below.{AreFrom, NoneBelow}
use Rattle.dump_index.proofs.KeyLemmas.{get-map}
use Rattle.dump_index.proofs.WalkLemmas.{get_inside, RisePaths, paths_rise, all_outside, none_itself, goes_on, none_further}
use Rattle.dump_index.proofs.order.PathOrder.next_child.Goals as goal
use Rattle.dump_index.proofs.order.PathOrder.next_child.Goals.{After-stand_below}

abbrev all : After-stand_below → List Listed
all c = map listed_of c.args.changes.now

same : (c : After-stand_below) → keys_in (all c) c.as_slice-places.result.now ≡ keys_in (all c) c.args.self.now
same c = ap (keys_in (all c)) (c.as_slice-places.ensures.value ∙ c.self.view_is)

rise : (c : After-stand_below) → RisePaths (keys_in (all c) c.as_slice-places.result.now)
rise c =
    paths_rise (all c) c.as_slice-places.result.now
    (subst (IsSortedKeys (all c)) (sym (c.as_slice-places.ensures.value ∙ c.self.view_is)) c.requires.sorted)

abbrev its : After-stand_below → PathKey
its c = (c.path_at-path.result.now, c.in-Some.place.now)

there : (c : After-stand_below) → slice_get (keys_in (all c) c.as_slice-places.result.now) c.loop-place.at ≡ Some (its c)
there c =
    let places = c.as_slice-places.result.now in
    let lookup = c.in-Some.ensures.lookup in
    get-map (key_in (all c)) places c.loop-place.at
    ∙ ap (option_map (key_in (all c)))
    (slice_get-get_or places c.loop-place.at c.in-Some.place.now lookup.3.0 ∙ ap (λ place. Some place) (sym lookup.1))
    ∙ ap (λ (text : List ℕ). Some (text, c.in-Some.place.now)) (sym c.path_at-path.ensures)

pub returns-in-Outside : goal.returns-in-Outside
returns-in-Outside c =
    let p = (goal.at.returns-in-Outside c).After-stand_below in
    subst (λ (keys : List PathKey). NoneBelow keys c.args.top.now c.args.from (length keys)) (same p)
    (all_outside (keys_in (all p) c.as_slice-places.result.now) (rise p) c.args.top.now c.args.from c.loop-place.at
    (its p) (there p) c.loop-place.invariant.none
    (subst (λ (keys : List PathKey). AreFrom keys c.args.top.now c.args.from) (sym (same p)) c.requires.from)
    c.loop-place.invariant.first c.in-Outside.ensures)

pub loop-place-preserved-in-Itself : goal.loop-place-preserved-in-Itself
loop-place-preserved-in-Itself c =
    let p = (goal.at.loop-place-preserved-in-Itself c).After-stand_below in
    let low = c.loop-place.invariant.first in
    record {
      first = omega arith;
      none = none_itself (keys_in (all p) c.as_slice-places.result.now) (rise p) c.args.top.now c.args.from c.loop-place.at
          (its p) (there p) c.loop-place.invariant.none c.in-Itself.ensures;
    }

pub returns-in-Child : goal.returns-in-Child
returns-in-Child c =
    let p = (goal.at.returns-in-Child c).After-stand_below in
    record {
      at = c.loop-place.at;
      first = c.loop-place.invariant.first;
      next = refl;
      is = ap (λ (keys : List PathKey). slice_get keys c.loop-place.at) (sym (same p)) ∙ there p
          ∙ ap (λ (text : List ℕ). Some (text, c.in-Some.place.now)) c.in-Child.ensures.0;
      name = c.in-Child.ensures.1;
      none = subst (λ (keys : List PathKey). NoneBelow keys c.args.top.now c.args.from c.loop-place.at) (same p)
          c.loop-place.invariant.none;
    }

pub loop-place-smaller : goal.loop-place-smaller
loop-place-smaller c =
    let p = (goal.at.loop-place-smaller c).After-stand_below in
    let more = goes_on (keys_in (all p) c.as_slice-places.result.now) (rise p) c.args.top.now c.args.from c.loop-place.at
    (its p) (there p) c.loop-place.invariant.none c.in-Further.front.now c.in-Further.ensures
    c.behind-at.result c.behind-at.ensures in
    let inside = get_inside (keys_in (all p) c.as_slice-places.result.now) c.loop-place.at (its p) (there p) in
    let low = inside.0 in
    let bound = c.behind-at.ensures.bound in
    omega (arith, length-map c.as_slice-places.result.now (key_in (all p)))

pub loop-place-preserved : goal.loop-place-preserved
loop-place-preserved c =
    let p = (goal.at.loop-place-preserved c).After-stand_below in
    let low = c.loop-place.invariant.first in
    let more = goes_on (keys_in (all p) c.as_slice-places.result.now) (rise p) c.args.top.now c.args.from c.loop-place.at
    (its p) (there p) c.loop-place.invariant.none c.in-Further.front.now c.in-Further.ensures
    c.behind-at.result c.behind-at.ensures in
    record {
      first = omega arith;
      none = none_further (keys_in (all p) c.as_slice-places.result.now) (rise p) c.args.top.now c.args.from c.loop-place.at
          (its p) (there p) c.loop-place.invariant.none c.in-Further.front.now c.in-Further.ensures
          c.behind-at.result c.behind-at.ensures;
    }
