use Rattle.std.proofs.Common.{◌≡◌, ◌∷◌, ◌++◌, List, ℕ, [], All, ap, sym, subst, arith, length, map, slice_get, ◌∙◌, ◌+◌}
use Rattle.std.proofs.lemmas.List.{map-append}
use Rattle.std.proofs.lemmas.List.Elements.{All-push}
use Rattle.std.proofs.lemmas.Result.{OkIff-at_ok}
use Rattle.dump_index.specs.steps.Listed.{listed_of}
use Rattle.dump_index.specs.declared.order.Key.{Key}
use Rattle.dump_index.specs.steps.Keys.{AreFirstPlaces, IsKeyIn, path_there, place_of}
use Rattle.dump_index.proofs.KeyLemmas.{places_more, listed_at}
use Rattle.dump_index.proofs.order.keys_of.Goals as goal

pub loop-place-preserved : goal.loop-place-preserved
loop-place-preserved c =
    let listed = map listed_of c.args.changes.now in
    let keys = c.loop-place.keys.items in
    let place = c.loop-place.place in
    let same : c.in-Ok.short ≡ place = (OkIff-at_ok c.try_from.result _ place c.in-Ok.short c.try_from.ensures c.in-Ok.is).1 in
    record {
      places = subst (λ (all : List ℕ). AreFirstPlaces (place + 1) all)
          (sym (ap (map place_of) c.in_ok-push.ensures.items ∙ map-append place_of keys _
          ∙ ap (λ (n : ℕ). map place_of keys ++ n ∷ []) same))
          (places_more place (map place_of keys) c.loop-place.invariant.places);
      paths = subst (λ (all : List Key). All (IsKeyIn listed) all) (sym c.in_ok-push.ensures.items)
          (All-push (IsKeyIn listed) keys _ c.loop-place.invariant.paths
          (ap path_there (sym (listed_at c.args.changes.now place _ c.loop-place-test.true))
          ∙ ap (λ n. path_there (slice_get listed n)) (sym same)));
    }

pub returns-clause-places : goal.returns-clause-places
returns-clause-places c =
    let last = c.loop-place.auto.place-end in
    let over = c.loop-place-test.false in
    let same : c.loop-place.place ≡ length c.args.changes.now = omega arith in
    subst (λ (n : ℕ). AreFirstPlaces n (map place_of c.loop-place.keys.items)) same c.loop-place.invariant.places
