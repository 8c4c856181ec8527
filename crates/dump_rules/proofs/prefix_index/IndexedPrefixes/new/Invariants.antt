use Rattle.dump_rules.proofs.Prelude.{◌≡◌, ℕ, Bool, List, map, take, list_any, bare_prefix, bare_at, AreWithin}
use Rattle.dump_rules.proofs.prefix_index.IndexedPrefixes.new.Given as goal

abbrev pub invariant-loop-place : goal.invariant-loop-place
invariant-loop-place l =
    let prefixes : List (List ℕ) = map (λ prefix. prefix.now) l.prefixes in
    record {
      all : (test : List ℕ → Bool) → list_any (λ n. test (bare_at prefixes n)) l.index.items
          ≡ list_any test (map bare_prefix (take l.place prefixes));
      within : AreWithin l.longest (map bare_prefix (take l.place prefixes));
    }
