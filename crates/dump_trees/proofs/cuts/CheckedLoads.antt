-- A dump loads exactly if the known kinds allow each change, and each delta applies.
use Rattle.dump_trees.proofs.Prelude.{◌≡◌, ◌⊎◌, inl, inr, zero, suc, ◌+◌, ◌<◌, ◌≤◌, not, ◌||◌, cond, nat_le, nat_lt, map, refl, sym, ap, ap₂, ◌∙◌, subst, arith, append-nil, append_assoc, option_map, slice_get, list_all, list_all-append, both_ways, and_parts, and_from, not_from_false, le-leb, lt-leb, leb-true, lt-ltb, ltb-true, NodePath, parent_of, Node, Tree, Made, Change, History, step, steps, loaded, loaded_over, IsTrue, IsFalse}
use Rattle.std.proofs.Common.{ℕ, Bool, true, false, ◌&&◌, List, [], ◌∷◌, ◌++◌, length, Option, Some, None, option_and_then, is_some, length-append}
use Rattle.std.proofs.lemmas.List.Sums.{sum_by-append}
use Rattle.std.proofs.lemmas.Option.{slice_get_within, same_Some}
use Rattle.dump_trees.specs.steps.Looking.{Placed, placed_from, end_of, Origin, origin_of, looked_up, look}
use Rattle.dump_trees.specs.LoadCheck.{sets_props}
use Rattle.dump_trees.specs.steps.LoadCheck.{Kind, kind_of_node, kind_at, is_directory, is_file, Kinds, deletion_allowed, kind_left, making_allowed, kind_made, kinds_allow, source_kind, kinds_before, node_from, delta_applies, ToldKinds, TellsKinds, source_told, kinds_told, allowed_there, all_allowed, applies_there, all_apply, DumpIsAllowed, TellsEachTree, IsRejectedAt, FirstRejectionIsThere}
use Rattle.dump_trees.proofs.histories.KeptNumbers.{length_push, get_last}
use Rattle.dump_trees.proofs.histories.FrontLemmas.{begun_trees, loaded_length}
use Rattle.dump_trees.proofs.expansions.LookLemmas.{count_none, count_whole, look_finds, origin_source}
use Rattle.dump_trees.proofs.cuts.CheckedSteps.{step_is_allowed}
use Rattle.std.proofs.Math.Bool.{and-false}
use Rattle.dump_trees.proofs.expansions.BackLemmas.{from_more}
use Rattle.dump_trees.proofs.changes.TreeLemmas.{none_of}

-- places

-- none of these changes is of a revision before this one
abbrev pub AreFrom : ℕ → List Placed → Type 0
AreFrom number placed = list_all (λ (p : Placed). nat_le number p.revision) placed ≡ true

-- the changes of one revision
abbrev pub of_one : ℕ → List Change → List Placed
of_one number changes = map (λ (c : Change). record { revision = number; change = c }) changes

pub from_append : (number : ℕ) (placed more : List Placed) → AreFrom number placed → AreFrom number more
    → AreFrom number (placed ++ more)
from_append number placed more one two =
    list_all-append (λ (p : Placed). nat_le number p.revision) placed more
    ∙ and_from (list_all (λ (p : Placed). nat_le number p.revision) placed)
    (list_all (λ (p : Placed). nat_le number p.revision) more) one two

pub one_from : (number : ℕ) (changes : List Change) → AreFrom number (of_one number changes)
one_from number [] = refl
one_from number (c ∷ changes) =
    and_from (nat_le number number) (list_all (λ (p : Placed). nat_le number p.revision) (of_one number changes))
    (le-leb number number (omega arith)) (one_from number changes)

pub all_from : (number : ℕ) (revisions : List (List Change)) → AreFrom number (placed_from number revisions)
all_from number [] = refl
all_from number (changes ∷ revisions) =
    from_append number (of_one number changes) (placed_from (suc number) revisions) (one_from number changes)
    (from_more number (suc number) (omega arith) (placed_from (suc number) revisions) (all_from (suc number) revisions))

-- none of these is of a revision after this one
pub one_up_to : (bound number : ℕ) (changes : List Change) → number ≤ bound
    → list_all (λ (p : Placed). nat_le p.revision bound) (of_one number changes) ≡ true
one_up_to bound number [] low = refl
one_up_to bound number (c ∷ changes) low =
    and_from (nat_le number bound) (list_all (λ (p : Placed). nat_le p.revision bound) (of_one number changes))
    (le-leb number bound low) (one_up_to bound number changes low)

all_up_to : (bound number : ℕ) (revisions : List (List Change)) → number + length revisions ≤ suc bound
    → list_all (λ (p : Placed). nat_le p.revision bound) (placed_from number revisions) ≡ true
all_up_to bound number [] low = refl
all_up_to bound number (changes ∷ revisions) low =
    list_all-append (λ (p : Placed). nat_le p.revision bound) (of_one number changes) (placed_from (suc number) revisions)
    ∙ and_from _ _ (one_up_to bound number changes (omega arith)) (all_up_to bound (suc number) revisions (omega arith))

none_up_to : (bound : ℕ) (placed : List Placed) → AreFrom (suc bound) placed
    → list_all (λ (p : Placed). not (nat_le p.revision bound)) placed ≡ true
none_up_to bound [] are = refl
none_up_to bound (p ∷ placed) are =
    let parts = and_parts (nat_le (suc bound) p.revision) (list_all (λ (q : Placed). nat_le (suc bound) q.revision) placed) are
    in
    let high = leb-true (suc bound) p.revision parts.0 in
    and_from (not (nat_le p.revision bound)) (list_all (λ (q : Placed). not (nat_le q.revision bound)) placed)
    (not_from_false _ (lt-leb p.revision bound (omega arith))) (none_up_to bound placed parts.1)

-- the changes of the first revisions end at the place at which those of the next begin
ends_at : (bound : ℕ) (placed more : List Placed)
    → list_all (λ (p : Placed). nat_le p.revision bound) placed ≡ true → AreFrom (suc bound) more
    → end_of (placed ++ more) bound ≡ length placed
ends_at bound placed more low high =
    sum_by-append (λ (p : Placed). cond (nat_le p.revision bound) 1 0) placed more
    ∙ (ap₂ (λ a b. a + b) (count_whole (λ (p : Placed). nat_le p.revision bound) placed low)
    (count_none (λ (p : Placed). nat_le p.revision bound) more (none_up_to bound more high)) ∙ omega arith)

pub placed_append : (number : ℕ) (front rest : List (List Change))
    → placed_from number (front ++ rest) ≡ placed_from number front ++ placed_from (number + length front) rest
placed_append number [] rest = ap (λ n. placed_from n rest) (let same : number ≡ number + 0 = omega arith in same)
placed_append number (changes ∷ front) rest =
    ap (λ ps. of_one number changes ++ ps)
    (placed_append (suc number) front rest
    ∙ ap (λ n. placed_from (suc number) front ++ placed_from n rest)
    (let same : suc number + length front ≡ number + suc (length front) = omega arith in same))
    ∙ sym (append_assoc (of_one number changes) (placed_from (suc number) front)
    (placed_from (number + suc (length front)) rest))

map_append : (number : ℕ) (done more : List Change)
    → of_one number (done ++ more) ≡ of_one number done ++ of_one number more
map_append number [] more = refl
map_append number (c ∷ done) more =
    ap (λ (ps : List Placed). record { revision = number; change = c } ∷ ps) (map_append number done more)

pub one_length : (number : ℕ) (changes : List Change) → length (of_one number changes) ≡ length changes
one_length number [] = refl
one_length number (c ∷ changes) = ap suc (one_length number changes)

-- the changes of whole revisions and some of the next one's, and the other changes of that one
pub placed_cut : (number : ℕ) (front : List (List Change)) (done more : List Change)
    → placed_from number (front ++ (done ++ more) ∷ [])
    ≡ placed_from number (front ++ done ∷ []) ++ of_one (number + length front) more
placed_cut number front done more =
    placed_append number front ((done ++ more) ∷ [])
    ∙ (ap (λ ps. placed_from number front ++ ps)
    (append-nil (of_one (number + length front) (done ++ more))
    ∙ (map_append (number + length front) done more
    ∙ ap (λ ps. ps ++ of_one (number + length front) more) (sym (append-nil (of_one (number + length front) done)))))
    ∙ (sym (append_assoc (placed_from number front) (of_one (number + length front) done ++ [])
    (of_one (number + length front) more))
    ∙ ap (λ ps. ps ++ of_one (number + length front) more) (sym (placed_append number front (done ∷ [])))))

get_at : {A : Type 0} (xs : List A) (x : A) (ys : List A) → slice_get (xs ++ x ∷ ys) (length xs) ≡ Some x
get_at [] x ys = refl
get_at (y ∷ xs) x ys = get_at xs x ys

-- the first elements of a list, this many
pub split_at : {A : Type 0} (n : ℕ) (xs : List A) → n ≤ length xs
    → (front : List A) × (rest : List A) × (xs ≡ front ++ rest) × (length front ≡ n)
split_at zero xs low = ([], xs, refl, refl)
split_at (suc n) [] low = absurd (let none : suc n ≤ 0 = low in omega (arith, none))
split_at (suc n) (x ∷ xs) low =
    let (front, rest, same, size) = split_at n xs (let less : n ≤ length xs = omega (arith, low) in less) in
    (x ∷ front, rest, ap (λ ys. x ∷ ys) same, ap suc size)

pub get_front : {A : Type 0} (xs ys : List A) (n : ℕ) (y : A) → n < length xs → slice_get (xs ++ ys) n ≡ Some y
    → slice_get xs n ≡ Some y
get_front [] ys n y low is = absurd (let none : n < 0 = low in omega (arith, none))
get_front (x ∷ xs) ys zero y low is = is
get_front (x ∷ xs) ys (suc n) y low is = get_front xs ys n y (let less : n < length xs = omega (arith, low) in less) is

pub get_some : {A : Type 0} (xs : List A) (n : ℕ) → n < length xs → (y : A) × (slice_get xs n ≡ Some y)
get_some [] n low = absurd (let none : n < 0 = low in omega (arith, none))
get_some (x ∷ xs) zero low = (x, refl)
get_some (x ∷ xs) (suc n) low = get_some xs n (let less : n < length xs = omega (arith, low) in less)

-- loads

pub steps_then : (history : History) (tree : Tree) (done more : List Change)
    → steps history tree (done ++ more) ≡ option_and_then (λ t. steps history t more) (steps history tree done)
steps_then history tree [] more = refl
steps_then history tree (c ∷ done) more = cases (λ t. steps_then history t done more) (step history tree c)
  where
    cases : ((t : Tree) → steps history t (done ++ more) ≡ option_and_then (λ u. steps history u more) (steps history t done))
        → (o : Option Tree) → option_and_then (λ t. steps history t (done ++ more)) o
        ≡ option_and_then (λ u. steps history u more) (option_and_then (λ t. steps history t done) o)
    cases further None = refl
    cases further (Some t) = further t

-- one more revision after those that load
push_from : (front : List (List Change)) (older : List Tree) (youngest : Tree) (place : ℕ) (trees : List Tree) (last : Tree)
    (changes : List Change) → slice_get older place ≡ Some youngest → length older ≡ suc place
    → loaded older youngest front ≡ Some trees → slice_get trees (place + length front) ≡ Some last
    → loaded older youngest (front ++ changes ∷ [])
    ≡ option_map (λ t. trees ++ t ∷ []) (steps (slice_get trees) last changes)
push_from [] older youngest place trees last changes at size is there =
    let same : older ≡ trees = same_Some older trees is in
    let none : place + length {A = List Change} [] ≡ place = omega arith in
    let one : youngest ≡ last =
    same_Some youngest last (sym at ∙ (ap₂ (λ ts n. slice_get ts n) same (sym none) ∙ there)) in
    ends (steps (slice_get older) youngest changes)
    ∙ ap₂ (λ ts y. option_map (λ t. ts ++ t ∷ []) (steps (slice_get ts) y changes)) same one
  where
    ends : (o : Option Tree) → option_and_then (λ t. Some (older ++ t ∷ [])) o ≡ option_map (λ t. older ++ t ∷ []) o
    ends None = refl
    ends (Some t) = refl
push_from (first ∷ front) older youngest place trees last changes at size is there =
    cases (λ t. push_from front (older ++ t ∷ []) t (suc place) trees last changes) (steps (slice_get older) youngest first) is
  where
    cases :
        ((t : Tree) → slice_get (older ++ t ∷ []) (suc place) ≡ Some t → length (older ++ t ∷ []) ≡ suc (suc place)
        → loaded (older ++ t ∷ []) t front ≡ Some trees → slice_get trees (suc place + length front) ≡ Some last
        → loaded (older ++ t ∷ []) t (front ++ changes ∷ [])
        ≡ option_map (λ u. trees ++ u ∷ []) (steps (slice_get trees) last changes))
        → (o : Option Tree) → option_and_then (λ t. loaded (older ++ t ∷ []) t front) o ≡ Some trees
        → option_and_then (λ t. loaded (older ++ t ∷ []) t (front ++ changes ∷ [])) o
        ≡ option_map (λ u. trees ++ u ∷ []) (steps (slice_get trees) last changes)
    cases further None bad = absurd (let worse : None ≡ Some trees = bad in cc)
    cases further (Some t) found =
        further t (ap (slice_get (older ++ t ∷ [])) (sym size) ∙ get_last older t)
        (length_push older t ∙ ap suc size) found
        (ap (slice_get trees) (let same : suc place + length front ≡ place + suc (length front) = omega arith in same) ∙ there)

pub loaded_push : (first : Tree) (front : List (List Change)) (trees : List Tree) (last : Tree) (changes : List Change)
    → loaded_over first front ≡ Some trees → slice_get trees (length front) ≡ Some last
    → loaded_over first (front ++ changes ∷ []) ≡ option_map (λ t. trees ++ t ∷ []) (steps (slice_get trees) last changes)
loaded_push first front trees last changes is there =
    push_from front (first ∷ []) first 0 trees last changes refl refl is
    (ap (slice_get trees) (let same : 0 + length front ≡ length front = omega arith in same) ∙ there)

pub loaded_size : (first : Tree) (front : List (List Change)) (trees : List Tree) → loaded_over first front ≡ Some trees
    → length trees ≡ suc (length front)
loaded_size first front trees is =
    loaded_length (first ∷ []) first front trees is
    ∙ (let same : 1 + length front ≡ suc (length front) = omega arith in same)

-- one more revision that loads
pub record Pushed (first : Tree) (front : List (List Change)) (trees : List Tree) (changes : List Change) (tree : Tree)
    : Type 0 where
  pub loads : loaded_over first (front ++ changes ∷ []) ≡ Some (trees ++ tree ∷ [])
  pub last : slice_get (trees ++ tree ∷ []) (length (front ++ changes ∷ [])) ≡ Some tree

pub pushed : (first : Tree) (front : List (List Change)) (trees : List Tree) (last : Tree) (changes : List Change) (tree : Tree)
    → loaded_over first front ≡ Some trees → slice_get trees (length front) ≡ Some last
    → steps (slice_get trees) last changes ≡ Some tree → Pushed first front trees changes tree
pushed first front trees last changes tree is there leads = record {
  loads = loaded_push first front trees last changes is there ∙ ap (option_map (λ t. trees ++ t ∷ [])) leads;
  last = ap (slice_get (trees ++ tree ∷ [])) (length_push front changes ∙ sym (loaded_size first front trees is))
      ∙ get_last trees tree;
}

-- what is said of a path in a revision before

module _ {X : Type 0} (read : Option Node → X) (told : ℕ → NodePath → X) (first : Tree) (placed : List Placed)
    (tells : (front : List (List Change)) (behind : List Placed) (trees : List Tree) (tree : Tree) (path : NodePath)
    → placed ≡ placed_from 1 front ++ behind → AreFrom (length front) behind
    → loaded_over first front ≡ Some trees → slice_get trees (length front) ≡ Some tree
    → told (length (placed_from 1 front)) path ≡ read (tree path)) where
  tells_before : (front : List (List Change)) (behind : List Placed) (trees : List Tree) (number : ℕ) (old : Tree)
      (path : NodePath) → placed ≡ placed_from 1 front ++ behind → AreFrom (suc (length front)) behind
      → loaded_over first front ≡ Some trees → slice_get trees number ≡ Some old
      → told (end_of placed number) path ≡ read (old path)
  tells_before front behind trees number old path same late is there =
      let within : number < length trees = slice_get_within trees number old there in
      let size = loaded_size first front trees is in
      let (begin, rest, parts, count) = split_at number front (omega arith) in
      by_parts begin rest parts count
    where
      by_loads : (begin rest : List (List Change)) → front ≡ begin ++ rest → length begin ≡ number
          → (begun more : List Tree) → loaded_over first begin ≡ Some begun → trees ≡ begun ++ more
          → told (end_of placed number) path ≡ read (old path)
      by_loads begin rest parts count begun more loads joined =
          ap (λ ps. end_told ps number) split
          ∙ (ap (λ n. end_told (placed_from 1 begin ++ later) n) (sym count)
          ∙ (ap (λ n. told n path)
          (ends_at (length begin) (placed_from 1 begin) later (all_up_to (length begin) 1 begin (omega arith)) later_late)
          ∙ tells begin later begun old path split
          (from_more (length begin) (suc (length begin)) (omega arith) later later_late) loads
          (get_front begun more (length begin) old (let few = loaded_size first begin begun loads in omega arith)
          (ap (λ ts. slice_get ts (length begin)) (sym joined) ∙ (ap (slice_get trees) count ∙ there)))))
        where
          end_told : List Placed → ℕ → X
          end_told ps n = told (end_of ps n) path

          later : List Placed
          later = placed_from (1 + length begin) rest ++ behind

          size : suc (length begin) ≤ suc (length front)
          size = (let sum = ap length parts ∙ length-append begin rest in omega (arith, sum))

          later_late : AreFrom (suc (length begin)) later
          later_late =
              from_append (suc (length begin)) (placed_from (1 + length begin) rest) behind
              (from_more (suc (length begin)) (1 + length begin) (omega arith) (placed_from (1 + length begin) rest)
              (all_from (1 + length begin) rest))
              (from_more (suc (length begin)) (suc (length front)) size behind late)

          split : placed ≡ placed_from 1 begin ++ later
          split =
              same ∙ (ap (λ f. placed_from 1 f ++ behind) parts
              ∙ (ap (λ ps. ps ++ behind) (placed_append 1 begin rest)
              ∙ append_assoc (placed_from 1 begin) (placed_from (1 + length begin) rest) behind))

      by_parts : (begin rest : List (List Change)) → front ≡ begin ++ rest → length begin ≡ number
          → told (end_of placed number) path ≡ read (old path)
      by_parts begin rest parts count =
          let (begun, more, loads, joined) =
          begun_trees first begin rest trees (ap (λ f. loaded_over first f) (sym parts) ∙ is) in
          by_loads begin rest parts count begun more loads joined

-- tests of each place

and_swap : (a x b y : Bool) → ((a && x) && (b && y)) ≡ ((a && b) && (x && y))
and_swap true x true y = refl
and_swap true true false y = refl
and_swap true false false y = refl
and_swap false x b y = refl

module _ (told : ToldKinds) (first : Tree) (placed : List Placed) where
  -- both tests of the first changes
  abbrev pass : ℕ → Bool
  pass count = all_allowed told placed count && all_apply first placed count

  abbrev pass_there : ℕ → Option Placed → Bool
  pass_there place o = allowed_there told placed place o && applies_there first placed place o

  pass_next : (count : ℕ) → pass (suc count) ≡ (pass count && pass_there count (slice_get placed count))
  pass_next count =
      and_swap (all_allowed told placed count) (allowed_there told placed count (slice_get placed count))
      (all_apply first placed count) (applies_there first placed count (slice_get placed count))

  fails_on : (count more : ℕ) → pass count ≡ false → pass (more + count) ≡ false
  fails_on count zero is = ap pass (let same : 0 + count ≡ count = omega arith in same) ∙ is
  fails_on count (suc more) is =
      ap pass (let same : suc more + count ≡ suc (more + count) = omega arith in same)
      ∙ (pass_next (more + count) ∙ ap (λ b. b && pass_there (more + count) (slice_get placed (more + count)))
      (fails_on count more is))

  fails_later : (count end : ℕ) → count ≤ end → pass count ≡ false → pass end ≡ false
  fails_later count end low is =
      let (more, same) = distance count end low in ap pass same ∙ fails_on count more is
    where
      distance : (a b : ℕ) → a ≤ b → (more : ℕ) × (b ≡ more + a)
      distance zero b low = (b, (let same : b ≡ b + 0 = omega arith in same))
      distance (suc a) zero low = absurd (omega (arith, low))
      distance (suc a) (suc b) low =
          let (more, same) = distance a b (omega (arith, low)) in
          (more, (let next : suc b ≡ more + suc a = omega (arith, same) in next))

  module _ (tells : TellsKinds told first placed) where
    -- looking back finds what exists
    finds : (front : List (List Change)) (behind : List Placed) (trees : List Tree) (tree : Tree) (path : NodePath)
        → placed ≡ placed_from 1 front ++ behind → AreFrom (length front) behind
        → loaded_over first front ≡ Some trees → slice_get trees (length front) ≡ Some tree
        → look first placed (length (placed_from 1 front)) path ≡ tree path
    finds front behind trees tree path same late is there =
        ap (λ ps. look first ps (length (placed_from 1 front)) path) same
        ∙ look_finds first front behind trees tree path is there late

    -- the next change, after whole revisions and some changes of the next one
    module _ (front : List (List Change)) (done : List Change) (trees : List Tree) (last tree : Tree) (c : Change)
        (later : List Placed)
        (is : loaded_over first front ≡ Some trees) (there : slice_get trees (length front) ≡ Some last)
        (leads : steps (slice_get trees) last done ≡ Some tree)
        (same : placed ≡ placed_from 1 (front ++ done ∷ [])
        ++ record { revision = 1 + length front; change = c } ∷ later)
        (late : AreFrom (1 + length front) later) where
      abbrev here : ℕ
      here = length (placed_from 1 (front ++ done ∷ []))

      abbrev this : Placed
      this = record { revision = 1 + length front; change = c }

      this_late : AreFrom (1 + length front) (this ∷ later)
      this_late = and_from (nat_le (1 + length front) (1 + length front))
          (list_all (λ (p : Placed). nat_le (1 + length front) p.revision) later)
          (le-leb (1 + length front) (1 + length front) (omega arith)) late

      grown : Pushed first front trees done tree
      grown = pushed first front trees last done tree is there leads

      now_late : AreFrom (length (front ++ done ∷ [])) (this ∷ later)
      now_late = subst (λ n. AreFrom n (this ∷ later))
          (let next : 1 + length front ≡ suc (length front) = omega arith in next ∙ sym (length_push front done)) this_late

      -- these changes are after the whole revisions
      abbrev rest_here : List Placed
      rest_here = of_one (1 + length front) done ++ this ∷ later

      same_front : placed ≡ placed_from 1 front ++ rest_here
      same_front =
          same ∙ (ap (λ ps. ps ++ this ∷ later)
          (placed_append 1 front (done ∷ [])
          ∙ ap (λ ps. placed_from 1 front ++ ps) (append-nil (of_one (1 + length front) done)))
          ∙ append_assoc (placed_from 1 front) (of_one (1 + length front) done) (this ∷ later))

      front_late : AreFrom (suc (length front)) rest_here
      front_late =
          from_more (suc (length front)) (1 + length front) (omega arith) rest_here
          (from_append (1 + length front) (of_one (1 + length front) done) (this ∷ later)
          (one_from (1 + length front) done) this_late)

      told_now : (path : NodePath) → told here path ≡ kind_at tree path
      told_now path =
          tells (front ++ done ∷ []) (this ∷ later) (trees ++ tree ∷ []) tree path same now_late grown.loads grown.last

      found_now : (path : NodePath) → look first placed here path ≡ tree path
      found_now path =
          finds (front ++ done ∷ []) (this ∷ later) (trees ++ tree ∷ []) tree path same now_late grown.loads grown.last

      -- an earlier revision has a tree, and a later one has none
      by_number : (number : ℕ) (now nothing : Option Kind)
          → cond (nat_lt number (1 + length front)) now nothing
          ≡ cond (is_some (slice_get trees number)) now nothing
      by_number number now nothing = cases (nat_lt number (1 + length front)) refl
        where
          size : length trees ≡ suc (length front)
          size = loaded_size first front trees is

          cases : (b : Bool) → nat_lt number (1 + length front) ≡ b
              → cond b now nothing ≡ cond (is_some (slice_get trees number)) now nothing
          cases true low =
              let less = ltb-true number (1 + length front) low in
              let room = size in
              let (old, at) = get_some trees number (omega arith) in
              ap (λ (o : Option Tree). cond (is_some o) now nothing) (sym at)
          cases false high = none (slice_get trees number) refl
            where
              none : (o : Option Tree) → slice_get trees number ≡ o → nothing ≡ cond (is_some o) now nothing
              none None at = refl
              none (Some old) at =
                  let less : number < length trees = slice_get_within trees number old at in
                  let room = size in
                  absurd (both_ways _ high (lt-ltb number (1 + length front) (omega arith)))

      source_same : (made : Option Made) → source_told told placed (1 + length front) made ≡ source_kind (slice_get trees) made
      source_same None = refl
      source_same (Some Made.NewDirectory) = refl
      source_same (Some Made.NewFile) = refl
      source_same (Some (Made.Copied number source)) =
          by_number number (told (end_of placed number) source) None
          ∙ cases (slice_get trees number) refl
        where
          before : (old : Tree) → slice_get trees number ≡ Some old → told (end_of placed number) source ≡ kind_at old source
          before old at =
              tells_before (option_map kind_of_node) told first placed tells front rest_here trees number old source same_front
              front_late is at

          cases : (o : Option Tree) → slice_get trees number ≡ o
              → cond (is_some o) (told (end_of placed number) source) None
              ≡ option_and_then (λ old. kind_at old source) o
          cases None at = refl
          cases (Some old) at = before old at

      parent_same : (o : Option NodePath) → option_and_then (λ parent. told here parent) o
          ≡ option_and_then (λ parent. kind_at tree parent) o
      parent_same None = refl
      parent_same (Some parent) = told_now parent

      kinds_same : kinds_told told placed here this ≡ kinds_before (slice_get trees) tree c
      kinds_same = kinds_from _ _ _ _ _ _ (told_now c.path) (parent_same (parent_of c.path)) (source_same c.made)
        where
          kinds_from : (a b d e f g : Option Kind) → a ≡ b → d ≡ e → f ≡ g
              → ◌≡◌ {A = Kinds} record { here = a; parent = d; source = f } record { here = b; parent = e; source = g }
          kinds_from a b d e f g one two three =
              λ i. record { here = one i; parent = two i; source = three i }

      abbrev kinds : Kinds
      kinds = kinds_before (slice_get trees) tree c

      -- a copy of a revision that doesn't exist is rejected
      no_source : (number : ℕ) (source : NodePath) → c.made ≡ Some (Made.Copied number source)
          → slice_get trees number ≡ None → kinds_allow c kinds ≡ false
      no_source number source made none =
          ap (λ b. deletion_allowed c.deletes c.path kinds.here && b
          && (not (sets_props c.props) || is_some (kind_made c.made (kind_left c.deletes kinds.here) kinds.source))
          && (not (is_some c.text) || is_file (kind_made c.made (kind_left c.deletes kinds.here) kinds.source)))
          (ap (λ m. making_allowed m (kind_left c.deletes kinds.here) kinds) made
          ∙ ap (λ o. is_some o && is_directory kinds.parent)
          (ap (source_kind (slice_get trees)) made ∙ ap (option_and_then (λ old. kind_at old source)) none))
          ∙ no_and (deletion_allowed c.deletes c.path kinds.here)
          (not (sets_props c.props) || is_some (kind_made c.made (kind_left c.deletes kinds.here) kinds.source))
          (not (is_some c.text) || is_file (kind_made c.made (kind_left c.deletes kinds.here) kinds.source))
        where
          no_and : (a b d : Bool) → (a && false && b && d) ≡ false
          no_and true b d = refl
          no_and false b d = refl

      -- both tests say whether the load takes it
      passes_here : pass_there here (slice_get placed here) ≡ is_some (step (slice_get trees) tree c)
      passes_here =
          ap (pass_there here) (ap (λ ps. slice_get ps here) same ∙ get_at (placed_from 1 (front ++ done ∷ [])) this later)
          ∙ (ap (λ k. kinds_allow c k && delta_applies c.text (looked (origin_of c.deletes c.made []))) kinds_same
          ∙ (by_origin (origin_of c.deletes c.made []) refl ∙ sym (step_is_allowed (slice_get trees) tree c)))
        where
          looked : Origin → Option Node
          looked origin = looked_up (look first placed) placed here c.path origin

          by_origin : (origin : Origin) → origin_of c.deletes c.made [] ≡ origin
              → (kinds_allow c kinds && delta_applies c.text (looked origin))
              ≡ (kinds_allow c kinds && delta_applies c.text (node_from (slice_get trees) (tree c.path) origin))
          by_origin Origin.Nowhere from = refl
          by_origin (Origin.New node) from = refl
          by_origin Origin.Before from = ap (λ o. kinds_allow c kinds && delta_applies c.text o) (found_now c.path)
          by_origin (Origin.From number source) from = cases (slice_get trees number) refl
            where
              cases : (o : Option Tree) → slice_get trees number ≡ o
                  → (kinds_allow c kinds && delta_applies c.text (look first placed (end_of placed number) source))
                  ≡ (kinds_allow c kinds && delta_applies c.text (option_and_then (λ old. old source) o))
              cases None at =
                  let (start, made) = origin_source c.deletes c.made [] number source from in
                  let rejected = no_source number start made at in
                  ap (λ b. b && delta_applies c.text (look first placed (end_of placed number) source)) rejected
                  ∙ sym (ap (λ b. b && delta_applies c.text None) rejected)
              cases (Some old) at =
                  ap (λ o. kinds_allow c kinds && delta_applies c.text o)
                  (tells_before (λ o. o) (look first placed) first placed finds front rest_here trees number old source
                  same_front front_late is at)

    -- the changes of a revision, after whole revisions and some changes of it
    changes_pass : (front : List (List Change)) (trees : List Tree) (last : Tree) → loaded_over first front ≡ Some trees
        → slice_get trees (length front) ≡ Some last → (changes done : List Change) (tree : Tree) (behind : List Placed)
        → steps (slice_get trees) last done ≡ Some tree
        → placed ≡ placed_from 1 (front ++ (done ++ changes) ∷ []) ++ behind
        → AreFrom (1 + length front) behind
        → pass (length (placed_from 1 (front ++ done ∷ []))) ≡ true
        → pass (length (placed_from 1 (front ++ (done ++ changes) ∷ []))) ≡ is_some (steps (slice_get trees) tree changes)
    changes_pass front trees last is there [] done tree behind leads same late before =
        ap (λ cs. pass (length (placed_from 1 (front ++ cs ∷ [])))) (append-nil done) ∙ before
    changes_pass front trees last is there (c ∷ changes) done tree behind leads same late before =
        cases (λ t. changes_pass front trees last is there changes (done ++ c ∷ []) t behind)
        (step (slice_get trees) tree c) refl
      where
        this : Placed
        this = record { revision = 1 + length front; change = c }

        later : List Placed
        later = of_one (1 + length front) changes ++ behind

        here : ℕ
        here = length (placed_from 1 (front ++ done ∷ []))

        end : ℕ
        end = length (placed_from 1 (front ++ (done ++ c ∷ changes) ∷ []))

        same_here : placed ≡ placed_from 1 (front ++ done ∷ []) ++ this ∷ later
        same_here =
            same ∙ (ap (λ ps. ps ++ behind) (placed_cut 1 front done (c ∷ changes))
            ∙ append_assoc (placed_from 1 (front ++ done ∷ [])) (this ∷ of_one (1 + length front) changes) behind)

        later_late : AreFrom (1 + length front) later
        later_late =
            from_append (1 + length front) (of_one (1 + length front) changes) behind (one_from (1 + length front) changes)
            late

        next_pass : pass (suc here) ≡ is_some (step (slice_get trees) tree c)
        next_pass =
            pass_next here
            ∙ (ap (λ b. b && pass_there here (slice_get placed here)) before
            ∙ passes_here front done trees last tree c later is there leads same_here later_late)

        next_size : length (placed_from 1 (front ++ (done ++ c ∷ []) ∷ [])) ≡ suc here
        next_size = ap length (placed_cut 1 front done (c ∷ [])) ∙ length_push (placed_from 1 (front ++ done ∷ [])) this

        end_size : end ≡ here + suc (length changes)
        end_size =
            ap length (placed_cut 1 front done (c ∷ changes))
            ∙ (length-append (placed_from 1 (front ++ done ∷ [])) (this ∷ of_one (1 + length front) changes)
            ∙ ap (λ n. here + suc n) (one_length (1 + length front) changes))

        moved : (done ++ c ∷ []) ++ changes ≡ done ++ c ∷ changes
        moved = append_assoc done (c ∷ []) changes

        cases :
            ((t : Tree) → steps (slice_get trees) last (done ++ c ∷ []) ≡ Some t
            → placed ≡ placed_from 1 (front ++ ((done ++ c ∷ []) ++ changes) ∷ []) ++ behind
            → AreFrom (1 + length front) behind
            → pass (length (placed_from 1 (front ++ (done ++ c ∷ []) ∷ []))) ≡ true
            → pass (length (placed_from 1 (front ++ ((done ++ c ∷ []) ++ changes) ∷ [])))
            ≡ is_some (steps (slice_get trees) t changes))
            → (o : Option Tree) → step (slice_get trees) tree c ≡ o
            → pass end ≡ is_some (option_and_then (λ t. steps (slice_get trees) t changes) o)
        cases further None at =
            fails_later (suc here) end
            (let size = end_size in
            let low : suc here ≤ end = omega (arith, size) in low)
            (next_pass ∙ ap is_some at)
        cases further (Some t) at =
            ap (λ cs. pass (length (placed_from 1 (front ++ cs ∷ [])))) (sym moved)
            ∙ further t
            (steps_then (slice_get trees) last done (c ∷ [])
            ∙ (ap (option_and_then (λ u. steps (slice_get trees) u (c ∷ []))) leads
            ∙ ap (option_and_then (λ u. steps (slice_get trees) u [])) at))
            (same ∙ ap (λ cs. placed_from 1 (front ++ cs ∷ []) ++ behind) (sym moved))
            late (ap pass next_size ∙ (next_pass ∙ ap is_some at))

    -- the revisions after those that load
    revisions_pass : (revisions front : List (List Change)) (trees : List Tree) (last : Tree) (behind : List Placed)
        → loaded_over first front ≡ Some trees → slice_get trees (length front) ≡ Some last
        → placed ≡ placed_from 1 (front ++ revisions) ++ behind → AreFrom (length (front ++ revisions)) behind
        → pass (length (placed_from 1 front)) ≡ true
        → pass (length (placed_from 1 (front ++ revisions))) ≡ is_some (loaded trees last revisions)
    revisions_pass [] front trees last behind is there same late before =
        ap (λ f. pass (length (placed_from 1 f))) (append-nil front) ∙ before
    revisions_pass (changes ∷ revisions) front trees last behind is there same late before =
        cases (λ t. revisions_pass revisions (front ++ changes ∷ []) (trees ++ t ∷ []) t behind)
        (steps (slice_get trees) last changes) refl
      where
        moved : (front ++ changes ∷ []) ++ revisions ≡ front ++ changes ∷ revisions
        moved = append_assoc front (changes ∷ []) revisions

        later : List Placed
        later = placed_from (1 + length (front ++ changes ∷ [])) revisions

        split : placed_from 1 (front ++ changes ∷ revisions) ≡ placed_from 1 (front ++ changes ∷ []) ++ later
        split = ap (placed_from 1) (sym moved) ∙ placed_append 1 (front ++ changes ∷ []) revisions

        same_here : placed ≡ placed_from 1 (front ++ changes ∷ []) ++ (later ++ behind)
        same_here =
            same ∙ (ap (λ ps. ps ++ behind) split
            ∙ append_assoc (placed_from 1 (front ++ changes ∷ [])) later behind)

        size : length (front ++ changes ∷ revisions) ≡ length front + suc (length revisions)
        size = length-append front (changes ∷ revisions)

        push : length (front ++ changes ∷ []) ≡ suc (length front)
        push = length_push front changes

        later_late : AreFrom (1 + length front) (later ++ behind)
        later_late =
            from_append (1 + length front) later behind
            (from_more (1 + length front) (1 + length (front ++ changes ∷ []))
            (let low : 1 + length front ≤ 1 + length (front ++ changes ∷ []) = omega (arith, push) in low) later
            (all_from (1 + length (front ++ changes ∷ [])) revisions))
            (from_more (1 + length front) (length (front ++ changes ∷ revisions))
            (let low : 1 + length front ≤ length (front ++ changes ∷ revisions) = omega (arith, size) in low) behind late)

        no_more : length (placed_from 1 (front ++ [] ∷ [])) ≡ length (placed_from 1 front)
        no_more = ap length (placed_append 1 front ([] ∷ []) ∙ append-nil (placed_from 1 front))

        here_pass : pass (length (placed_from 1 (front ++ changes ∷ []))) ≡ is_some (steps (slice_get trees) last changes)
        here_pass =
            changes_pass front trees last is there changes [] last (later ++ behind) refl same_here later_late
            (ap pass no_more ∙ before)

        cases :
            ((t : Tree) → loaded_over first (front ++ changes ∷ []) ≡ Some (trees ++ t ∷ [])
            → slice_get (trees ++ t ∷ []) (length (front ++ changes ∷ [])) ≡ Some t
            → placed ≡ placed_from 1 ((front ++ changes ∷ []) ++ revisions) ++ behind
            → AreFrom (length ((front ++ changes ∷ []) ++ revisions)) behind
            → pass (length (placed_from 1 (front ++ changes ∷ []))) ≡ true
            → pass (length (placed_from 1 ((front ++ changes ∷ []) ++ revisions)))
            ≡ is_some (loaded (trees ++ t ∷ []) t revisions))
            → (o : Option Tree) → steps (slice_get trees) last changes ≡ o
            → pass (length (placed_from 1 (front ++ changes ∷ revisions)))
            ≡ is_some (option_and_then (λ t. loaded (trees ++ t ∷ []) t revisions) o)
        cases further None at =
            fails_later (length (placed_from 1 (front ++ changes ∷ [])))
            (length (placed_from 1 (front ++ changes ∷ revisions)))
            (let sum = ap length split ∙ length-append (placed_from 1 (front ++ changes ∷ [])) later in
            let low : length (placed_from 1 (front ++ changes ∷ []))
            ≤ length (placed_from 1 (front ++ changes ∷ revisions)) = omega (arith, sum) in low)
            (here_pass ∙ ap is_some at)
        cases further (Some t) at =
            let grown = pushed first front trees last changes t is there at in
            ap (λ f. pass (length (placed_from 1 f))) (sym moved)
            ∙ further t grown.loads grown.last (same ∙ ap (λ f. placed_from 1 f ++ behind) (sym moved))
            (subst (λ f. AreFrom (length f) behind) (sym moved) late) (here_pass ∙ ap is_some at)

-- the first revisions load if each change of them is allowed, and each delta applies
pub load_is_allowed : (told : ToldKinds) (first : Tree) (front : List (List Change)) (behind : List Placed) →
    TellsKinds told first (placed_from 1 front ++ behind)
    → IsTrue (list_all (λ (p : Placed). nat_le (length front) p.revision) behind)
    → is_some (loaded_over first front)
    ≡ (all_allowed told (placed_from 1 front ++ behind) (length (placed_from 1 front))
    && all_apply first (placed_from 1 front ++ behind) (length (placed_from 1 front)))
load_is_allowed told first front behind tells late =
    sym (revisions_pass told first (placed_from 1 front ++ behind) tells front [] (first ∷ []) first behind refl refl refl
    late refl)

pub dump_is_allowed : DumpIsAllowed
dump_is_allowed told first revisions tells =
    subst (λ ps. TellsKinds told first ps
    → is_some (loaded_over first revisions) ≡ pass told first ps (length (placed_from 1 revisions)))
    (append-nil (placed_from 1 revisions)) (λ all. load_is_allowed told first revisions [] all refl) tells

-- at the end of each revision
pub tells_each_tree : TellsEachTree
tells_each_tree told first revisions trees number tree path tells is there =
    tells_before (option_map kind_of_node) told first (placed_from 1 revisions) tells revisions [] trees number tree path
    (sym (append-nil (placed_from 1 revisions))) refl is there

-- the first rejection

pub first_rejection_is_found : (told : ToldKinds) (first : Tree) (front : List (List Change)) (changes : List Change) (c : Change)
    (more : List Change) (rest : List (List Change)) (placed : List Placed) (place : ℕ) →
    placed ≡ placed_from 1 (front ++ (changes ++ c ∷ more) ∷ rest)
    → place ≡ length (placed_from 1 (front ++ changes ∷ []))
    → TellsKinds told first placed
    → IsTrue (all_allowed told placed place) → IsTrue (all_apply first placed place)
    → IsFalse (allowed_there told placed place (slice_get placed place))
    → IsTrue (is_some (loaded_over first (front ++ changes ∷ [])))
    × (loaded_over first (front ++ (changes ++ c ∷ []) ∷ []) ≡ None)
first_rejection_is_found told first front changes c more rest placed place same here tells allowed apply rejected = (
  load_is_allowed told first (front ++ changes ∷ []) (this ∷ later) tells_one late_one
      ∙ (ap₂ (λ ps n. pass told first ps n) (sym one) (sym here)
      ∙ and_from (all_allowed told placed place) (all_apply first placed place) allowed apply),
  none_of (loaded_over first (front ++ (changes ++ c ∷ []) ∷ []))
      (load_is_allowed told first (front ++ (changes ++ c ∷ []) ∷ []) later tells_two late_two
      ∙ (ap₂ (λ ps n. pass told first ps n) (sym two) next
      ∙ (pass_next told first placed place
      ∙ (ap (λ b. pass told first placed place && (b && applies_there first placed place (slice_get placed place))) rejected
      ∙ and-false (pass told first placed place))))),
)
  where
    this : Placed
    this = record { revision = 1 + length front; change = c }

    behind : List Placed
    behind = placed_from (1 + length (front ++ (changes ++ c ∷ more) ∷ [])) rest

    later : List Placed
    later = of_one (1 + length front) more ++ behind

    whole : placed ≡ placed_from 1 (front ++ (changes ++ c ∷ more) ∷ []) ++ behind
    whole =
        same ∙ (ap (placed_from 1) (sym (append_assoc front ((changes ++ c ∷ more) ∷ []) rest))
        ∙ placed_append 1 (front ++ (changes ++ c ∷ more) ∷ []) rest)

    one : placed ≡ placed_from 1 (front ++ changes ∷ []) ++ this ∷ later
    one =
        whole ∙ (ap (λ ps. ps ++ behind) (placed_cut 1 front changes (c ∷ more))
        ∙ append_assoc (placed_from 1 (front ++ changes ∷ [])) (this ∷ of_one (1 + length front) more) behind)

    two : placed ≡ placed_from 1 (front ++ (changes ++ c ∷ []) ∷ []) ++ later
    two =
        one ∙ (sym (append_assoc (placed_from 1 (front ++ changes ∷ [])) (this ∷ []) later)
        ∙ ap (λ ps. ps ++ later) (sym (placed_cut 1 front changes (c ∷ []))))

    next : length (placed_from 1 (front ++ (changes ++ c ∷ []) ∷ [])) ≡ suc place
    next =
        ap length (placed_cut 1 front changes (c ∷ []))
        ∙ (length_push (placed_from 1 (front ++ changes ∷ [])) this ∙ ap suc (sym here))

    behind_late : AreFrom (suc (length front)) behind
    behind_late =
        from_more (suc (length front)) (1 + length (front ++ (changes ++ c ∷ more) ∷ []))
        (let size = length_push front (changes ++ c ∷ more) in
        let low : suc (length front) ≤ 1 + length (front ++ (changes ++ c ∷ more) ∷ []) = omega (arith, size) in low)
        behind (all_from (1 + length (front ++ (changes ++ c ∷ more) ∷ [])) rest)

    later_late : AreFrom (suc (length front)) later
    later_late =
        from_append (suc (length front)) (of_one (1 + length front) more) behind
        (from_more (suc (length front)) (1 + length front) (omega arith) (of_one (1 + length front) more)
        (one_from (1 + length front) more)) behind_late

    late_one : AreFrom (length (front ++ changes ∷ [])) (this ∷ later)
    late_one =
        subst (λ n. AreFrom n (this ∷ later)) (sym (length_push front changes))
        (and_from (nat_le (suc (length front)) (1 + length front))
        (list_all (λ (p : Placed). nat_le (suc (length front)) p.revision) later)
        (le-leb (suc (length front)) (1 + length front) (omega arith)) later_late)

    late_two : AreFrom (length (front ++ (changes ++ c ∷ []) ∷ [])) later
    late_two = subst (λ n. AreFrom n later) (sym (length_push front (changes ++ c ∷ []))) later_late

    tells_one : TellsKinds told first (placed_from 1 (front ++ changes ∷ []) ++ this ∷ later)
    tells_one = subst (λ ps. TellsKinds told first ps) one tells

    tells_two : TellsKinds told first (placed_from 1 (front ++ (changes ++ c ∷ []) ∷ []) ++ later)
    tells_two = subst (λ ps. TellsKinds told first ps) two tells

-- the place of a change, in the changes of its revision

get_append : {A : Type 0} (xs ys : List A) (place : ℕ) (y : A) → slice_get (xs ++ ys) place ≡ Some y
    → (slice_get xs place ≡ Some y) ⊎ ((later : ℕ) × (place ≡ length xs + later) × (slice_get ys later ≡ Some y))
get_append [] ys place y at = inr (place, (let same : place ≡ 0 + place = omega arith in same), at)
get_append (x ∷ xs) ys zero y at = inl at
get_append (x ∷ xs) ys (suc place) y at =
    elim (get_append xs ys place y at) [
      | inl here ↦ inl here
      | inr (later, same, there) ↦
          inr (later, (let next : suc place ≡ suc (length xs) + later = omega (arith, same) in next), there)
    ]

one_split : (number : ℕ) (changes : List Change) (place : ℕ) (p : Placed)
    → slice_get (of_one number changes) place ≡ Some p
    → (done : List Change) × (more : List Change) × (changes ≡ done ++ p.change ∷ more) × (length done ≡ place)
one_split number [] place p at = absurd (let bad : None ≡ Some p = at in cc)
one_split number (c ∷ changes) zero p at =
    ([], changes, ap (λ (q : Placed). q.change ∷ changes) (same_Some (record { revision = number; change = c }) p at), refl)
one_split number (c ∷ changes) (suc place) p at =
    let (done, more, same, size) = one_split number changes place p at in
    (c ∷ done, more, ap (λ cs. c ∷ cs) same, ap suc size)

place_split : (number : ℕ) (revisions : List (List Change)) (place : ℕ) (p : Placed)
    → slice_get (placed_from number revisions) place ≡ Some p
    → (front : List (List Change)) × (changes : List Change) × (more : List Change) × (rest : List (List Change))
    × (revisions ≡ front ++ (changes ++ p.change ∷ more) ∷ rest)
    × (place ≡ length (placed_from number (front ++ changes ∷ [])))
place_split number [] place p at = absurd (let bad : None ≡ Some p = at in cc)
place_split number (now ∷ revisions) place p at =
    elim (get_append (of_one number now) (placed_from (suc number) revisions) place p at) [
      | inl here ↦
          let (done, more, same, size) = one_split number now place p here in (
            [],
            done,
            more,
            revisions,
            ap (λ cs. cs ∷ revisions) same,
            sym size ∙ (sym (one_length number done) ∙ ap length (sym (append-nil (of_one number done)))),
          )
      | inr (later, same, there) ↦
          let (front, changes, more, rest, parts, count) = place_split (suc number) revisions later p there in (
            now ∷ front,
            changes,
            more,
            rest,
            ap (λ rs. now ∷ rs) parts,
            same ∙ (ap (λ n. length (of_one number now) + n) count
                ∙ sym (length-append (of_one number now) (placed_from (suc number) (front ++ changes ∷ [])))),
          )
    ]

pub first_rejection_is_there : FirstRejectionIsThere
first_rejection_is_there told first revisions placed place p same there tells allowed apply rejected =
    by_parts (place_split 1 revisions place p (ap (λ ps. slice_get ps place) (sym same) ∙ there))
  where
    rejected_there : allowed_there told placed place (slice_get placed place) ≡ false
    rejected_there = ap (allowed_there told placed place) there ∙ rejected

    next_fails : pass told first placed (suc place) ≡ false
    next_fails =
        pass_next told first placed place
        ∙ (ap (λ b. pass told first placed place && (b && applies_there first placed place (slice_get placed place)))
        rejected_there
        ∙ and-false (pass told first placed place))

    within : suc place ≤ length placed
    within = slice_get_within placed place p there

    none : loaded_over first revisions ≡ None
    none =
        none_of (loaded_over first revisions)
        (dump_is_allowed told first revisions (subst (λ ps. TellsKinds told first ps) same tells)
        ∙ (ap (λ ps. pass told first ps (length ps)) (sym same)
        ∙ fails_later told first placed (suc place) (length placed) within next_fails))

    by_parts : (front : List (List Change)) × (changes : List Change) × (more : List Change) × (rest : List (List Change))
        × (revisions ≡ front ++ (changes ++ p.change ∷ more) ∷ rest)
        × (place ≡ length (placed_from 1 (front ++ changes ∷ [])))
        → IsRejectedAt first revisions place p.change
    by_parts (front, changes, more, rest, parts, at) =
        let both = first_rejection_is_found told first front changes p.change more rest placed place
        (same ∙ ap (placed_from 1) parts) at tells allowed apply rejected_there in
        record {
          front = front;
          changes = changes;
          more = more;
          rest = rest;
          parted = parts;
          at = at;
          loads = both.0;
          rejected = both.1;
          none = none;
        }
