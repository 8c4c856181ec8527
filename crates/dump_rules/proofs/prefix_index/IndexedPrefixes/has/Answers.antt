use Rattle.dump_rules.proofs.Prelude.{List, ℕ, ap, subst, ◌∙◌, rules, length, list_any, map, bytes_eq, slice_cmp, nat_cmp, bare_prefix, bare_at}
use Rattle.std.proofs.lemmas.Fn.{always_returns_same}
use Rattle.std.specs.List.Sorted.{IsBinarySearchResult, IsSearchInRange}
use Rattle.dump_rules.proofs.BarePrefixLemmas.{search_finds}
use Rattle.dump_rules.proofs.prefix_index.IndexedPrefixes.has.Goals as goal

pub returns : goal.returns
returns c =
    let texts : List (List ℕ) = map (λ text. text.items) c.self.inside.texts.items in
    let text = c.args.text.now in
    let found = c.binary_search_by.result in
    let order = λ (place : ℕ). slice_cmp nat_cmp (bare_at texts place) text in
    c.is_ok.ensures.value
    ∙ search_finds texts c.self.inside.index.items c.self.inside.longest text found c.self.invariant
    (subst (λ (index : List ℕ). IsSearchInRange found (length index)) c.deref.ensures.value c.binary_search_by.ensures.bound)
    (subst (λ (index : List ℕ). IsBinarySearchResult order index found) c.deref.ensures.value
    (c.binary_search_by.ensures.position order (always_returns_same _ _ _ (λ a r q k. search rules))))
    ∙ ap (λ (prefixes : List (List ℕ)). list_any (bytes_eq text) (map bare_prefix prefixes)) c.self.view_is
