-- Whether paths are below a directory, as determined by their texts, and where they are in sorted order.
use Rattle.std.specs.Prelude.{◌≡◌, ◌≤◌, ◌<◌, ◌+◌, ℕ, suc, Bool, true, false, not, ◌==◌, List, [], ◌∷◌, ◌++◌, length, take, Option, Some, None, slice_get, if◌then◌else◌}
use Rattle.std.specs.Cmp.Lexicographic.{slice_cmp}
use Rattle.std.specs.Ordering.{is_lt, nat_cmp}
use Rattle.dump_trees.specs.Paths.{is_name}
use Rattle.dump_index.specs.declared.order.Child.{Child as FoundChild}
use Rattle.dump_index.specs.declared.path_text.Below.{Below}
use Rattle.dump_index.specs.declared.path_text.Below.TheVariants.{Outside, Itself, Child, Further}
use Rattle.dump_index.specs.steps.Keys.{PathKey}

-- the text with which the paths below this one begin
abbrev pub top_text : List ℕ → List ℕ
top_text [] = []
top_text (b ∷ path) = (b ∷ path) ++ 47 ∷ []

-- the number of bytes before the first slash; all bytes if there is none
abbrev pub name_end : List ℕ → ℕ
name_end [] = 0
name_end (b ∷ text) = if b == 47 then 0 else suc (name_end text)

-- the path begins with this front, and no path that begins with it is the top and one name
abbrev pub GoesFurther : List ℕ → List ℕ → List ℕ → Type 0
GoesFurther top path front =
    ((rest : List ℕ) × (path ≡ front ++ rest))
    × ((rest name : List ℕ) → front ++ rest ≡ top ++ name → is_name name ≡ false)

-- how a path compares with the text with which the paths below a directory begin
abbrev pub StandsSo : List ℕ → List ℕ → Below → Type 0
StandsSo top path Outside = (rest : List ℕ) → path ≡ top ++ rest → ⊥
StandsSo top path Itself = path ≡ top
StandsSo top path (Child name) = (path ≡ top ++ name.now) × (is_name name.now ≡ true)
StandsSo top path (Further front) = GoesFurther top path front.now

-- whether the path comes before the paths that begin with the front, or is one of these
abbrev pub ends_up_to : List ℕ → List ℕ → Bool
ends_up_to front path = not (is_lt (slice_cmp nat_cmp front (take (length front) path)))

-- the keys before this index come before or begin with the front, and no key from the index on does
pub record IsBehind (keys : List PathKey) (front : List ℕ) (point : ℕ) : Type 0 where
  pub bound : point ≤ length keys
  pub before : (n : ℕ) (key : PathKey) → n < point → slice_get keys n ≡ Some key → ends_up_to front key.0 ≡ true
  pub behind : (n : ℕ) (key : PathKey) → point ≤ n → slice_get keys n ≡ Some key → ends_up_to front key.0 ≡ false

-- no path from this index on comes before the text
abbrev pub AreFrom : List PathKey → List ℕ → ℕ → Type 0
AreFrom keys text from = (n : ℕ) (key : PathKey) → from ≤ n → slice_get keys n ≡ Some key
    → is_lt (slice_cmp nat_cmp key.0 text) ≡ false

-- no path from the first index on and before the second one is the top and one name
abbrev pub NoneBelow : List PathKey → List ℕ → ℕ → ℕ → Type 0
NoneBelow keys top from to = (n : ℕ) (key : PathKey) (name : List ℕ) → from ≤ n → n < to → slice_get keys n ≡ Some key
    → key.0 ≡ top ++ name → is_name name ≡ false

-- the first path from an index on that is the top and one name
pub record HasChild (keys : List PathKey) (top : List ℕ) (from : ℕ) (child : FoundChild) : Type 0 where
  pub at : ℕ
  pub first : from ≤ at
  pub next : child.behind ≡ at + 1
  pub is : slice_get keys at ≡ Some (top ++ child.name.now, child.place)
  pub name : is_name child.name.now ≡ true
  pub none : NoneBelow keys top from at

abbrev pub IsNextChildKey : List PathKey → List ℕ → ℕ → Option FoundChild → Type 0
IsNextChildKey keys top from None = NoneBelow keys top from (length keys)
IsNextChildKey keys top from (Some child) = HasChild keys top from child
