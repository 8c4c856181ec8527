use Rattle.dump_rules.proofs.Prelude.{◌≡◌, ◌<◌, ℕ, List, [], Bor, map, take, length, sym, ap, subst, ◌∙◌, arith, rules, length-map, take-length, list_any, list_any-IsPermutation, bare_prefix, bare_at, is_before, AreWithin}
use Rattle.std.proofs.lemmas.Fn.{always_returns_same}
use Rattle.std.proofs.lemmas.List.{get_or-map}
use Rattle.std.proofs.lemmas.List.Sorted.{ranks_by}
use Rattle.std.specs.Cmp.Lexicographic.{nat_list_cmp_total}
use Rattle.dump_rules.proofs.BarePrefixLemmas.{place_more, within_more}
use Rattle.dump_rules.proofs.prefix_index.IndexedPrefixes.new.Goals as goal

pub loop-place-preserved : goal.loop-place-preserved
loop-place-preserved c =
    let given : List (List ℕ) = map (λ prefix. prefix.now) c.args.prefixes.now in
    let place = c.loop-place.place in
    let low : place < length given = omega (arith, length-map c.args.prefixes.now (λ (p : Bor (List ℕ)). p.now)) in
    let same : bare_at given place ≡ c.bare_prefix.result.now =
    ap bare_prefix (get_or-map (λ (p : Bor (List ℕ)). p.now) c.args.prefixes.now place _ [] c.loop-place-test.true)
    ∙ sym c.bare_prefix.ensures in
    record {
      all = rw (c.in_ok-push.ensures.items) (place_more given c.loop-place.index.items place low c.loop-place.invariant.all);
      within = within_more given place c.loop-place.longest c.max-longest.result low (omega arith)
          (omega (arith, ap length same)) c.loop-place.invariant.within;
    }

pub invariant_of-result : goal.invariant_of-result
invariant_of-result c =
    let given : List (List ℕ) = map (λ prefix. prefix.now) c.args.prefixes.now in
    let texts : List (List ℕ) = map (λ text. text.items) c.in_ok-texts.texts.items in
    let index = c.sort_unstable_by.new.self.items in
    let same : texts ≡ given = c.in_ok-texts.ensures in
    let all : c.loop-place.place ≡ length given =
    omega (arith, length-map c.args.prefixes.now (λ (p : Bor (List ℕ)). p.now)) in
    let whole : take c.loop-place.place given ≡ texts = ap (λ n. take n given) all ∙ take-length given ∙ sym same in
    let up = c.sort_unstable_by.ensures.sorted (is_before texts)
    (ranks_by nat_list_cmp_total (bare_at texts)) (always_returns_same _ _ _ (λ a r q k. search rules)) in
    record {
      all = λ test. sym (list_any-IsPermutation (λ n. test (bare_at texts n)) c.loop-place.index.items index
          c.sort_unstable_by.ensures.permutation)
          ∙ ap (λ (ps : List (List ℕ)). list_any (λ n. test (bare_at ps n)) c.loop-place.index.items) same
          ∙ c.loop-place.invariant.all test
          ∙ ap (λ (ps : List (List ℕ)). list_any test (map bare_prefix ps)) whole;
      ascends = up;
      within = subst (λ (ps : List (List ℕ)). AreWithin c.loop-place.longest (map bare_prefix ps)) whole
          c.loop-place.invariant.within;
    }
