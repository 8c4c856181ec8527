-- Whether something exists at a path at some time. If no change touches the path, what exists there doesn't change.
use Rattle.std.proofs.Common.{◌≡◌, ◌⊎◌, ℕ, zero, suc, ◌+◌, ◌<◌, ◌≤◌, Bool, true, false, ◌||◌, cond, List, [], ◌∷◌, ◌++◌, length, map, Option, Some, None, is_some, option_map, refl, sym, ap, ◌∙◌, arith, inl, inr, append-nil, append_assoc, length-append}
use Rattle.std.specs.Prelude.{slice_get}
use Rattle.std.proofs.lemmas.Bool.{cases_lt, or_cases, or_left, or_right}
use Rattle.std.proofs.lemmas.Slice.Zip.{AllZip-long}
use Rattle.dump_trees.specs.Paths.{NodePath}
use Rattle.dump_trees.specs.Trees.{Node, Tree, root_alone}
use Rattle.dump_trees.specs.Changes.{Change, steps}
use Rattle.dump_trees.specs.Revisions.{loaded_over}
use Rattle.dump_trees.specs.steps.Looking.{Placed, placed_from, touches_path, holds_there, latest, left_there, look}
use Rattle.dump_trees.specs.steps.LoadCheck.{kind_of_node}
use Rattle.dump_trees.specs.steps.Following.{ExistsOnce}
use Rattle.dump_trees.proofs.cuts.FollowLemmas.{map_some, then_some}
use Rattle.dump_trees.proofs.expansions.BackLemmas.{LooksBack}
use Rattle.dump_trees.proofs.histories.FrontLemmas.{begun_trees}
use Rattle.dump_trees.proofs.cuts.CheckedLoads.{of_one, split_at, get_some, steps_then, loaded_push, loaded_size, pushed, one_length}
use Rattle.dump_index.specs.steps.Listed.{Listed, listed_of, all_placed}
use Rattle.dump_index.specs.steps.Kinds.{kind_look, node_kind}
use Rattle.dump_index.specs.steps.IndexLaws.{IsListed, AreListed}
use Rattle.dump_index.specs.steps.ExistsEver.{exists_within, exists_ever, ExistingIsFound}
use Rattle.dump_index.specs.steps.ToldKinds.{kind_meant}
use Rattle.dump_index.specs.declared.change.NodeChange.{NodeChange}
use Rattle.dump_index.specs.declared.change.NodeKind.{NodeKind}
use Rattle.dump_index.proofs.LawLemmas.{look_one_more}
use Rattle.dump_index.proofs.ToldLemmas.{index_tells_kinds}
use Rattle.dump_trees.proofs.cuts.FirstChanges.{changes_after, changes_parted, are_later}

-- after some of this number of changes

module _ (listed : List Listed) (path : NodePath) where
  abbrev pub exists_at : ℕ → Bool
  exists_at count = is_some (kind_look listed count path)

  -- something that exists after this number of changes or fewer is found
  pub within_some : (count n : ℕ) → n ≤ count → exists_at n ≡ true → exists_within listed count path ≡ true
  within_some zero zero low some = some
  within_some zero (suc n) low some = absurd (omega arith)
  within_some (suc count) n low some =
      elim (cases_lt n (suc count)) [
        | inl less ↦
            or_right (exists_at (suc count)) (exists_within listed count path) (within_some count n (omega arith) some)
        | inr more ↦
            let same : n ≡ suc count = omega arith in
            or_left (exists_at (suc count)) (exists_within listed count path) (ap exists_at (sym same) ∙ some)
      ]

  -- if something is found, it exists after this number of changes or fewer
  pub some_within : (count : ℕ) → exists_within listed count path ≡ true → (n : ℕ) × (n ≤ count) × (exists_at n ≡ true)
  some_within zero is = (zero, omega arith, is)
  some_within (suc count) is =
      elim (or_cases (exists_at (suc count)) (exists_within listed count path) is) [
        | inl here ↦ (suc count, omega arith, here)
        | inr before ↦ let (n, low, some) = some_within count before in (n, omega arith, some)
      ]

  module _ (back : LooksBack (all_placed listed)) where
    -- a change that doesn't touch the path leaves what exists there
    stays : (count : ℕ) → holds_there (touches_path path) (slice_get (all_placed listed) count) ≡ false
        → exists_at (suc count) ≡ exists_at count
    stays count isnt =
        ap (λ o. is_some (option_map node_kind o))
        (look_one_more (all_placed listed) back path count
        ∙ ap (λ b. cond b (left_there (look root_alone (all_placed listed)) (all_placed listed) count path
        (slice_get (all_placed listed) count)) (look root_alone (all_placed listed) count path)) isnt)

    -- so if nothing exists at the end, nothing has existed since the latest change that touches the path
    pub none_since : (count place : ℕ) → latest (touches_path path) (all_placed listed) count ≡ Some place
        → exists_at count ≡ false → exists_within listed count path ≡ exists_within listed place path
    none_since zero place last none = absurd (let bad : None ≡ Some place = last in cc)
    none_since (suc count) place last none =
        ap (λ b. b || exists_within listed count path) none
        ∙ cases (none_since count place) (holds_there (touches_path path) (slice_get (all_placed listed) count)) refl last
      where
        cases : (latest (touches_path path) (all_placed listed) count ≡ Some place → exists_at count ≡ false
            → exists_within listed count path ≡ exists_within listed place path)
            → (b : Bool) → holds_there (touches_path path) (slice_get (all_placed listed) count) ≡ b
            → cond b (Some count) (latest (touches_path path) (all_placed listed) count) ≡ Some place
            → exists_within listed count path ≡ exists_within listed place path
        cases further true is last =
            let same : count ≡ place = (let both : Some count ≡ Some place = last in cc) in
            ap (λ n. exists_within listed n path) same
        cases further false isnt last = further last (sym (stays count isnt) ∙ none)

    -- and if no change touches the path, nothing exists at any time
    pub none_ever : (count : ℕ) → latest (touches_path path) (all_placed listed) count ≡ None
        → exists_at count ≡ false → exists_within listed count path ≡ false
    none_ever zero last none = none
    none_ever (suc count) last none =
        ap (λ b. b || exists_within listed count path) none
        ∙ cases (none_ever count) (holds_there (touches_path path) (slice_get (all_placed listed) count)) refl last
      where
        cases : (latest (touches_path path) (all_placed listed) count ≡ None → exists_at count ≡ false
            → exists_within listed count path ≡ false)
            → (b : Bool) → holds_there (touches_path path) (slice_get (all_placed listed) count) ≡ b
            → cond b (Some count) (latest (touches_path path) (all_placed listed) count) ≡ None
            → exists_within listed count path ≡ false
        cases further true is last = absurd (let bad : Some count ≡ None = last in cc)
        cases further false isnt last = further last (sym (stays count isnt) ∙ none)

-- the latest of this number of changes has a place below the number
pub touching_low : (path : NodePath) (placed : List Placed) (count place : ℕ)
    → latest (touches_path path) placed count ≡ Some place → place < count
touching_low path placed zero place is = absurd (let bad : None ≡ Some place = is in cc)
touching_low path placed (suc count) place is =
    cases (touching_low path placed count place) (holds_there (touches_path path) (slice_get placed count)) is
  where
    cases : (latest (touches_path path) placed count ≡ Some place → place < count) → (b : Bool)
        → cond b (Some count) (latest (touches_path path) placed count) ≡ Some place → place < suc count
    cases further true here = let same : count ≡ place = (let both : Some count ≡ Some place = here in cc) in omega arith
    cases further false there = let low = further there in omega arith

-- what an index says if the first revisions load, the last of which may be incomplete

kind_some : (one : Option NodeKind) (node : Option Node) → option_map kind_meant one ≡ option_map kind_of_node node
    → is_some one ≡ is_some node
kind_some None None same = refl
kind_some None (Some node) same = absurd (let bad : None ≡ Some (kind_of_node node) = same in cc)
kind_some (Some kind) None same = absurd (let bad : Some (kind_meant kind) ≡ None = same in cc)
kind_some (Some kind) (Some node) same = refl

module _ (changes : List NodeChange) (front : List (List Change)) (done more : List Change) (rest : List (List Change))
    (revisions : List (List Change)) (parted : revisions ≡ front ++ (done ++ more) ∷ rest) where
  abbrev first : List (List Change)
  first = front ++ done ∷ []

  abbrev behind : List Placed
  behind = changes_after front done more rest

  split : placed_from 1 revisions ≡ placed_from 1 first ++ behind
  split = changes_parted front done more rest revisions parted

  first_low : length (placed_from 1 first) ≤ length (placed_from 1 revisions)
  first_low = let size = ap length split ∙ length-append (placed_from 1 first) behind in omega arith

  found : AreListed changes (placed_from 1 revisions) → (trees : List Tree) (tree : Tree) (path : NodePath)
      → loaded_over root_alone first ≡ Some trees → slice_get trees (length first) ≡ Some tree
      → exists_at (map listed_of changes) path (length (placed_from 1 first)) ≡ is_some (tree path)
  found all trees tree path loads at =
      kind_some (kind_look (map listed_of changes) (length (placed_from 1 first)) path) (tree path)
      (index_tells_kinds changes (placed_from 1 revisions) all first behind trees tree path split (are_later front done more rest revisions parted) loads at)

-- revisions, split after this number of their changes

record PartedAt (number : ℕ) (revisions : List (List Change)) (n : ℕ) : Type 0 where
  front : List (List Change)
  done : List Change
  more : List Change
  rest : List (List Change)
  parted : revisions ≡ front ++ (done ++ more) ∷ rest
  size : length (placed_from number (front ++ done ∷ [])) ≡ n

-- a number is at most the first one, or it is the sum of the first one and another one
up_to_or_behind : (first n : ℕ) → (n ≤ first) ⊎ ((others : ℕ) × (n ≡ first + others))
up_to_or_behind zero n = inr (n, omega arith)
up_to_or_behind (suc first) zero = inl (omega arith)
up_to_or_behind (suc first) (suc n) =
    elim (up_to_or_behind first n) [
      | inl low ↦ inl (omega arith)
      | inr high ↦ let (others, same) = high in inr (others, omega arith)
    ]

placed_size : (number : ℕ) (changes : List Change) (revisions : List (List Change))
    → length (placed_from number (changes ∷ revisions)) ≡ length changes + length (placed_from (suc number) revisions)
placed_size number changes revisions =
    length-append (of_one number changes) (placed_from (suc number) revisions)
    ∙ ap (λ k. k + length (placed_from (suc number) revisions)) (one_length number changes)

-- within the first revision
part_in : (number : ℕ) (changes : List Change) (revisions : List (List Change)) (n : ℕ) → n ≤ length changes
    → PartedAt number (changes ∷ revisions) n
part_in number changes revisions n fits =
    let (done, more, same, size) = split_at n changes fits in
    record {
      front = [];
      done = done;
      more = more;
      rest = revisions;
      parted = ap (λ (cs : List Change). cs ∷ revisions) same;
      size = ap (λ (ps : List Placed). length ps) (append-nil (of_one number done)) ∙ (one_length number done ∙ size);
    }

-- after the first revision
part_behind : (number : ℕ) (changes : List Change) (revisions : List (List Change)) (n others : ℕ)
    → n ≡ length changes + others → PartedAt (suc number) revisions others → PartedAt number (changes ∷ revisions) n
part_behind number changes revisions n others same at = record {
  front = changes ∷ at.front;
  done = at.done;
  more = at.more;
  rest = at.rest;
  parted = ap (λ (rs : List (List Change)). changes ∷ rs) at.parted;
  size =
      placed_size number changes (at.front ++ at.done ∷ [])
      ∙ (ap (λ k. length changes + k) at.size ∙ sym same);
}

part_at : (number : ℕ) (revisions : List (List Change)) (n : ℕ) → 0 < length revisions
    → n ≤ length (placed_from number revisions) → PartedAt number revisions n
part_at number [] n some low = absurd (let bad : 0 < 0 = some in omega (arith, bad))
part_at number (changes ∷ []) n some low =
    part_in number changes [] n (let size = placed_size number changes [] in omega (arith, low, size))
part_at number (changes ∷ next ∷ revisions) n some low =
    elim (up_to_or_behind (length changes) n) [
      | inl fits ↦ part_in number changes (next ∷ revisions) n fits
      | inr over ↦
          part_behind number changes (next ∷ revisions) n over.0 over.1
          (part_at (suc number) (next ∷ revisions) over.0 (omega arith)
          (let size = placed_size number changes (next ∷ revisions) in let same = over.1 in omega (arith, low, size, same)))
    ]

-- if all revisions load, the first ones load, the last of which may be incomplete

record LoadsTo (first : Tree) (revisions : List (List Change)) : Type 0 where
  trees : List Tree
  tree : Tree
  loads : loaded_over first revisions ≡ Some trees
  last : slice_get trees (length revisions) ≡ Some tree

-- some of the changes of the last one
load_cut : (first : Tree) (front : List (List Change)) (done more : List Change) (one two : List Tree) (last : Tree)
    → loaded_over first front ≡ Some one → loaded_over first (front ++ (done ++ more) ∷ []) ≡ Some two
    → slice_get one (length front) ≡ Some last → LoadsTo first (front ++ done ∷ [])
load_cut first front done more one two last loads all ends =
    let (after, leads) =
    map_some (λ t. one ++ t ∷ []) (steps (slice_get one) last (done ++ more)) two
    (sym (loaded_push first front one last (done ++ more) loads ends) ∙ all) in
    let (tree, before, made) =
    then_some (λ t. steps (slice_get one) t more) (steps (slice_get one) last done) after
    (sym (steps_then (slice_get one) last done more) ∙ leads) in
    let grown = pushed first front one last done tree loads ends before in
    record { trees = one ++ tree ∷ []; tree = tree; loads = grown.loads; last = grown.last }

load_parted : (first : Tree) (front : List (List Change)) (done more : List Change) (one two : List Tree)
    → loaded_over first front ≡ Some one → loaded_over first (front ++ (done ++ more) ∷ []) ≡ Some two
    → LoadsTo first (front ++ done ∷ [])
load_parted first front done more one two loads all =
    let size = loaded_size first front one loads in
    let (last, ends) = get_some one (length front) (omega arith) in load_cut first front done more one two last loads all ends

loads_to : (first : Tree) (front : List (List Change)) (done more : List Change) (rest revisions : List (List Change))
    → revisions ≡ front ++ (done ++ more) ∷ rest → (trees : List Tree) → loaded_over first revisions ≡ Some trees
    → LoadsTo first (front ++ done ∷ [])
loads_to first front done more rest revisions parted trees loads =
    let (two, behind, two_loads, joined) =
    begun_trees first (front ++ (done ++ more) ∷ []) rest trees
    (ap (λ r. loaded_over first r) (append_assoc front ((done ++ more) ∷ []) rest ∙ sym parted) ∙ loads) in
    let (one, next, one_loads, one_joined) = begun_trees first front ((done ++ more) ∷ []) two two_loads in
    load_parted first front done more one two one_loads two_loads

pub existing_is_found : ExistingIsFound
existing_is_found changes revisions trees path ordered all loads = (one, two)
  where
    listed : List Listed
    listed = map listed_of changes

    size : length listed ≡ length (placed_from 1 revisions)
    size = sym (AllZip-long IsListed listed (placed_from 1 revisions) all)

    one : ExistsOnce revisions path → exists_ever listed path ≡ true
    one once =
        let count = length (placed_from 1 (once.front ++ once.changes ∷ [])) in
        let fits = first_low changes once.front once.changes once.more once.rest revisions once.parted in
        within_some listed path (length listed) count (omega (arith, fits, size))
        (found changes once.front once.changes once.more once.rest revisions once.parted all once.trees once.tree path once.loads
        once.last ∙ once.exists)

    two : 0 < length revisions → exists_ever listed path ≡ true → ExistsOnce revisions path
    two room is =
        let (count, fits, some) = some_within listed path (length listed) is in
        once count some (part_at 1 revisions count room (omega (arith, fits, size)))
      where
        found_at : (count : ℕ) → exists_at listed path count ≡ true → (at : PartedAt 1 revisions count)
            → LoadsTo root_alone (at.front ++ at.done ∷ []) → ExistsOnce revisions path
        found_at count some at load = record {
          front = at.front;
          changes = at.done;
          more = at.more;
          rest = at.rest;
          trees = load.trees;
          tree = load.tree;
          parted = at.parted;
          loads = load.loads;
          last = load.last;
          exists =
              sym (found changes at.front at.done at.more at.rest revisions at.parted all load.trees load.tree path
              load.loads load.last)
              ∙ ap (exists_at listed path) at.size ∙ some;
        }

        once : (count : ℕ) → exists_at listed path count ≡ true → PartedAt 1 revisions count → ExistsOnce revisions path
        once count some at =
            found_at count some at (loads_to root_alone at.front at.done at.more at.rest revisions at.parted trees loads)
