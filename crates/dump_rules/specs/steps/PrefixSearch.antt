-- How a path is looked up among the bare prefixes.
use Rattle.std.specs.Prelude.{◌≡◌, ℕ, Bool, false, ◌==◌, List, [], ◌∷◌, length, get_or, map, nat_lt}
use Rattle.std.specs.List.{list_any}
use Rattle.std.specs.List.Sorted.{IsSortedBy}
use Rattle.std.specs.Cmp.Lexicographic.{slice_cmp}
use Rattle.std.specs.Ordering.{is_lt, nat_cmp}
use Rattle.dump_rules.specs.Prefix.{bare_prefix}

-- whether the text begins with a slash
abbrev pub has_slash_first : List ℕ → Bool
has_slash_first [] = false
has_slash_first (b ∷ text) = b == 47

-- the bare prefix at a place; empty if there is none
abbrev pub bare_at : List (List ℕ) → ℕ → List ℕ
bare_at prefixes place = bare_prefix (get_or prefixes place [])

-- none of the texts is longer than this
abbrev pub AreWithin : ℕ → List (List ℕ) → Type 0
AreWithin longest texts = list_any (λ text. nat_lt longest (length text)) texts ≡ false

-- whether the bare prefix at the first place is less than that at the second
abbrev pub is_before : List (List ℕ) → ℕ → ℕ → Bool
is_before prefixes a b = is_lt (slice_cmp nat_cmp (bare_at prefixes a) (bare_at prefixes b))

-- the index is the places of all prefixes, sorted by the bare prefixes there, and none of these is longer than this
pub record IsIndexed (prefixes : List (List ℕ)) (index : List ℕ) (longest : ℕ) : Type 0 where
  pub all : (test : List ℕ → Bool)
      → list_any (λ place. test (bare_at prefixes place)) index ≡ list_any test (map bare_prefix prefixes)
  pub ascends : IsSortedBy (is_before prefixes) index
  pub within : AreWithin longest (map bare_prefix prefixes)
