-- Two lists of texts or of bare prefixes that give the same answers to lookups.
use Rattle.std.specs.Prelude.{◌≡◌, ℕ, List, bytes_eq}
use Rattle.std.specs.List.{list_any}
use Rattle.dump_rules.specs.Prefix.{begins_path}

-- both lists have the same texts
abbrev pub HaveSame : List (List ℕ) → List (List ℕ) → Type 0
HaveSame texts others = (text : List ℕ) →
    list_any (λ other. bytes_eq text other) texts ≡ list_any (λ other. bytes_eq text other) others

-- the bare prefixes of both lists begin the same paths
abbrev pub BeginSame : List (List ℕ) → List (List ℕ) → Type 0
BeginSame some others =
    (path : List ℕ)
    → list_any (λ prefix. begins_path prefix path) some ≡ list_any (λ prefix. begins_path prefix path) others
