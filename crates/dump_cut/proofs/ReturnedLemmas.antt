-- Rests that are listed: they don't end in a slash, and something exists there.
use Rattle.std.proofs.Common.{◌≡◌, ℕ, zero, suc, ◌+◌, ◌<◌, true, false, not, ◌&&◌, List, [], ◌∷◌, ◌++◌, length, map, get_or, Option, Some, None, is_some, option_map, Result, Ok, Err, IfOk, OnOk, Bor, refl, sym, ap, ap₂, ◌∙◌, arith}
use Rattle.std.proofs.lemmas.Bool.{and_parts, not-true}
use Rattle.std.specs.List.{list_all, slice_get}
use Rattle.dump_trees.specs.Paths.{NodePath, names_of}
use Rattle.dump_trees.specs.Changes.{Made}
use Rattle.dump_trees.specs.Following.{Way}
use Rattle.dump_trees.specs.steps.FollowedRests as FollowedRests
use Rattle.dump_trees.specs.steps.FollowedRests.{all_rests, rests_at, rests_made}
use Rattle.dump_trees.specs.steps.LoadCheck.{ToldKinds}
use Rattle.dump_trees.specs.steps.Looking.{Placed}
use Rattle.dump_index.specs.steps.InOrder.{ends_in_slash}
use Rattle.dump_index.specs.steps.ToldKinds.{kind_meant}
use Rattle.dump_index.specs.declared.change.NodeKind.{NodeKind}
use Rattle.dump_cut.specs.steps.Returned.{placed_rests}
use Rattle.dump_cut.proofs.RangeLemmas.{shown_twice}

-- two clauses of one result
pub in_both : {A E : Type 0} (r : Result A E) (P Q : A → Type 0) (R : Type 0) → IfOk r P → OnOk r R
    → ((a : A) → P a → R → Q a) → IfOk r Q
in_both (Ok a) P Q R one other then = then a one other
in_both (Err e) P Q R one other then = tt

-- a clause that follows from another one
pub ok_then : {A E : Type 0} (r : Result A E) (P Q : A → Type 0) → IfOk r P → ((a : A) → P a → Q a) → IfOk r Q
ok_then (Ok a) P Q one then = then a one
ok_then (Err e) P Q one then = tt

-- the paths are the rests after the top
pub paths_behind : (top : NodePath) (shown : List (Bor (List ℕ))) (rests : List (Bor (List ℕ))) (paths : List NodePath)
    → shown ≡ rests → paths ≡ map (λ rest. top ++ names_of rest.now) shown
    → paths ≡ map (λ rest. top ++ rest) (map (λ rest. names_of rest.now) rests)
paths_behind top shown rests paths same is =
    is
    ∙ (ap (map (λ rest. top ++ names_of rest.now)) same
    ∙ shown_twice (λ rest. top ++ rest) (λ rest. names_of rest.now) rests)

pub bare_shown : (rests : List (Bor (List ℕ))) → list_all (λ (rest : Bor (List ℕ)). not (ends_in_slash rest.now)) rests
    ≡ list_all (λ (rest : List ℕ). not (ends_in_slash rest)) (map (λ (rest : Bor (List ℕ)). rest.now) rests)
bare_shown [] = refl
bare_shown (rest ∷ rests) = ap (λ b. not (ends_in_slash rest.now) && b) (bare_shown rests)

pub bare_at : (rests : List (Bor (List ℕ))) (n : ℕ) (other : Bor (List ℕ))
    → list_all (λ (rest : Bor (List ℕ)). not (ends_in_slash rest.now)) rests ≡ true → n < length rests
    → ends_in_slash (get_or rests n other).now ≡ false
bare_at [] n other bare low = absurd (omega arith)
bare_at (rest ∷ rests) zero other bare low =
    not-true _ (and_parts (not (ends_in_slash rest.now)) _ bare).0
bare_at (rest ∷ rests) (suc n) other bare low =
    bare_at rests n other (and_parts (not (ends_in_slash rest.now)) _ bare).1 (omega arith)

pub kind_some : (o : Option NodeKind) → is_some (option_map kind_meant o) ≡ is_some o
kind_some None = refl
kind_some (Some kind) = refl

-- the change at a place, by its path and what it makes

pub rests_more : (way : Way) (tops : List NodePath) (told : ToldKinds) (placed : List Placed) (place : ℕ) (p : Placed)
    (path : NodePath) (made : Option Made) → slice_get placed place ≡ Some p → p.change.path ≡ path → p.change.made ≡ made
    → all_rests way tops told placed (place + 1)
    ≡ all_rests way tops told placed place ++ placed_rests place (rests_made way tops told placed path made)
rests_more way tops told placed place p path made there at makes =
    ap (all_rests way tops told placed) (let next : place + 1 ≡ suc place = omega arith in next)
    ∙ ap (λ rests. all_rests way tops told placed place ++ placed_rests place rests)
    (ap (rests_at way tops told placed) there ∙ ap₂ (λ one other. rests_made way tops told placed one other) at makes)

pub rests_next : (way : Way) (tops : List NodePath) (told : ToldKinds) (placed : List Placed) (place : ℕ) (p : Placed)
    (path : NodePath) (made : Option Made) (old new : List FollowedRests.PlacedRest) → slice_get placed place ≡ Some p
    → p.change.path ≡ path → p.change.made ≡ made → old ≡ all_rests way tops told placed place
    → new ≡ old ++ placed_rests place (rests_made way tops told placed path made)
    → new ≡ all_rests way tops told placed (place + 1)
rests_next way tops told placed place p path made old new there at makes before more =
    more
    ∙ (ap (λ rests. rests ++ placed_rests place (rests_made way tops told placed path made)) before
    ∙ sym (rests_more way tops told placed place p path made there at makes))
