-- Changes sorted by their paths, and for equal paths by the order of the dump.
use Rattle.std.specs.Prelude.{◌≡◌, ◌<◌, ℕ, Bool, true, false, List, [], Option, Some, None, map, slice_get}
use Rattle.std.specs.List.{Contains}
use Rattle.std.specs.List.Sorted.{IsSortedBy}
use Rattle.std.specs.Cmp.Lexicographic.{slice_cmp}
use Rattle.std.specs.Ordering.{ordering_then, is_lt, nat_cmp}
use Rattle.std.specs.declared.cmp.Ordering.{Ordering}
use Rattle.dump_index.specs.steps.Listed.{Listed}
pub use Rattle.dump_index.specs.steps.Effects.{sets, has_effect, has_effect_there, has_effect_at, latest_place}
use Rattle.dump_index.specs.declared.order.Effect.{Effect}
use Rattle.dump_index.specs.declared.order.Key.{Key}

-- a path and a place in the dump
abbrev pub PathKey : Type 0
PathKey = List ℕ × ℕ

-- the path of a change; the root if there is no change
abbrev pub path_there : Option Listed → List ℕ
path_there None = []
path_there (Some l) = l.path

-- the path of the change at this place, and the place itself
abbrev pub key_in : List Listed → ℕ → PathKey
key_in listed place = (path_there (slice_get listed place), place)

abbrev pub keys_in : List Listed → List ℕ → List PathKey
keys_in listed places = map (key_in listed) places

-- paths are compared first, and for equal paths the places
abbrev pub key_cmp : PathKey → PathKey → Ordering
key_cmp a b = ordering_then (slice_cmp nat_cmp a.0 b.0) (nat_cmp a.1 b.1)

abbrev pub is_key_before : PathKey → PathKey → Bool
is_key_before a b = is_lt (key_cmp a b)

-- no key comes before the key that precedes it in the list
abbrev pub IsSortedKeys : List Listed → List ℕ → Type 0
IsSortedKeys listed places = IsSortedBy (λ a b. is_key_before (key_in listed a) (key_in listed b)) places

-- the keys are those of all changes of this effect
pub record HasKeys (effect : Effect) (listed : List Listed) (keys : List PathKey) : Type 0 where
  pub has : (path : List ℕ) (place : ℕ) → has_effect_at effect listed path place ≡ true → Contains keys (path, place)
  pub only : (path : List ℕ) (place : ℕ) → Contains keys (path, place) → has_effect_at effect listed path place ≡ true

-- a key as a path and a place, and its place
abbrev pub key_of : Key → PathKey
key_of key = (key.path.now, key.place)

abbrev pub place_of : Key → ℕ
place_of key = key.place

-- the key has the path of the change at its place
abbrev pub IsKeyIn : List Listed → Key → Type 0
IsKeyIn listed key = key.path.now ≡ path_there (slice_get listed key.place)

-- the places are the numbers below the count, in any order
pub record AreFirstPlaces (count : ℕ) (places : List ℕ) : Type 0 where
  pub has : (place : ℕ) → place < count → Contains places place
  pub only : (place : ℕ) → Contains places place → place < count

-- the places are those of all changes of this effect, in the order of their keys
pub record IsOrder (effect : Effect) (listed : List Listed) (places : List ℕ) : Type 0 where
  pub keys : HasKeys effect listed (keys_in listed places)
  pub sorted : IsSortedKeys listed places

-- whether there is a change, and it is of this effect
abbrev pub is_of_effect : Effect → Option Listed → Bool
is_of_effect effect None = false
is_of_effect effect (Some l) = has_effect effect l

-- whether the change at this place is of this effect
abbrev pub has_effect_here : Effect → List Listed → ℕ → Bool
has_effect_here effect listed place = is_of_effect effect (slice_get listed place)
