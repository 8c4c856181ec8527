use Rattle.std.proofs.Common.{List, ℕ, length, map, rules, subst, sym, ap, ◌∙◌}
use Rattle.std.proofs.lemmas.Fn.{always_returns_same}
use Rattle.std.proofs.lemmas.List.{length-map}
use Rattle.std.proofs.lemmas.List.Sorted.{ranks_by, All-permutation, IsPermutation-map}
use Rattle.dump_index.specs.steps.Listed.{listed_of}
use Rattle.dump_index.specs.declared.order.Key.{Key}
use Rattle.dump_index.specs.declared.order.Effect.TheVariants.{Any}
use Rattle.dump_index.specs.steps.Keys.{AreFirstPlaces, IsKeyIn, IsOrder, is_key_before, key_of, place_of}
use Rattle.dump_index.proofs.KeyLemmas.{keys_total, places_moved, sorted_places, all_keys}
use Rattle.dump_index.proofs.order.PathOrder.new.Goals as goal

pub returns : goal.returns
returns c =
    let listed = map listed_of c.args.changes.now in
    let keys = c.in_ok-keys.keys.items in
    let sorted = c.sort_unstable_by.new.self.items in
    let permutation = c.sort_unstable_by.ensures.permutation in
    let given : AreFirstPlaces (length listed) (map place_of keys) =
    subst (λ (n : ℕ). AreFirstPlaces n (map place_of keys)) (sym (length-map c.args.changes.now listed_of)) c.in_ok-keys.ensures.places in
    let order : IsOrder Any listed (map place_of sorted) = record {
      keys = all_keys listed (map place_of sorted) (places_moved (length listed) (map place_of keys) (map place_of sorted)
          (IsPermutation-map place_of keys sorted permutation) given);
      sorted = sorted_places listed sorted (All-permutation (IsKeyIn listed) keys sorted permutation c.in_ok-keys.ensures.paths)
          (c.sort_unstable_by.ensures.sorted (λ (a : Key) (b : Key). is_key_before (key_of a) (key_of b))
          (ranks_by keys_total key_of) (always_returns_same _ _ _ (λ a r q k. search rules)));
    } in
    subst (λ (places : List ℕ). IsOrder Any listed places)
    (sym (c.in_ok-places.ensures ∙ ap (map place_of) c.deref.ensures.value)) order
