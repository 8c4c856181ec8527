-- Which changes touch a path.
use Rattle.std.proofs.Common.{◌≡◌, ℕ, ◌+◌, ◌<◌, ◌≤◌, Bool, true, false, ◌&&◌, ◌||◌, List, [], length, take, get_or, Option, Some, None, nat_eq, bytes_eq, refl, sym, ap, ◌∙◌}
use Rattle.std.specs.Prelude.{slice_get}
use Rattle.dump_index.specs.steps.Listed.{Listed}
use Rattle.dump_index.specs.declared.order.Effect.TheVariants.{Moving}
use Rattle.dump_index.specs.steps.Keys.{has_effect, has_effect_there, has_effect_at}
use Rattle.dump_index.specs.steps.Touching.{stands_over, stands_over_within, moves_there, moves_above, moves_within}
use Rattle.dump_index.proofs.FrontLemmas.{over_more, over_same, over_none, over_all}
use Rattle.std.proofs.Math.Bool.{or_assoc}

-- tests that agree
moves_same : (one two : List ℕ → Bool) → ((top : List ℕ) → one top ≡ two top) → (o : Option Listed)
    → moves_there one o ≡ moves_there two o
moves_same one two same None = refl
moves_same one two same (Some l) = ap (λ b. has_effect Moving l && b) (same l.path)

and_or : (a b c : Bool) → ((a && b) || (a && c)) ≡ (a && (b || c))
and_or true b c = refl
and_or false b c = refl

-- one more path
moves_or : (test : List ℕ → Bool) (path : List ℕ) (o : Option Listed)
    → (moves_there test o || has_effect_there Moving path o) ≡ moves_there (λ top. test top || bytes_eq top path) o
moves_or test path None = refl
moves_or test path (Some l) = and_or (has_effect Moving l) (test l.path) (bytes_eq l.path path)

module _ (listed : List Listed) (path : List ℕ) (test : ℕ → Bool) where
  pub within_none : (place : ℕ)
      → (test place || has_effect_at Moving listed [] place) ≡ (test place || moves_within 0 listed path place)
  within_none place =
      ap (λ b. test place || b) (of_root (slice_get listed place)
      ∙ moves_same (λ top. bytes_eq top []) (stands_over_within 0 path) (λ top. sym (over_none top path)) (slice_get listed place))
    where
      of_root : (o : Option Listed) → has_effect_there Moving [] o ≡ moves_there (λ top. bytes_eq top []) o
      of_root None = refl
      of_root (Some l) = refl

  pub within_more : (k : ℕ) → k < length path → nat_eq (get_or path k 0) 47 ≡ true → (place : ℕ)
      → ((test place || moves_within k listed path place) || has_effect_at Moving listed (take k path) place)
      ≡ (test place || moves_within (k + 1) listed path place)
  within_more k low slash place =
      or_assoc (test place) (moves_within k listed path place) (has_effect_at Moving listed (take k path) place)
      ∙ ap (λ b. test place || b) (moves_or (stands_over_within k path) (take k path) (slice_get listed place)
      ∙ moves_same (λ top. stands_over_within k path top || bytes_eq top (take k path)) (stands_over_within (k + 1) path)
      (λ top. over_more top path k low slash) (slice_get listed place))

  pub within_same : (k : ℕ) → nat_eq (get_or path k 0) 47 ≡ false → (place : ℕ)
      → (test place || moves_within k listed path place) ≡ (test place || moves_within (k + 1) listed path place)
  within_same k other place =
      ap (λ b. test place || b) (moves_same (stands_over_within k path) (stands_over_within (k + 1) path)
      (λ top. over_same top path k other) (slice_get listed place))

  pub within_all : (k : ℕ) → length path ≤ k → (place : ℕ)
      → (test place || moves_within k listed path place) ≡ (test place || moves_above listed path place)
  within_all k all place =
      ap (λ b. test place || b) (moves_same (stands_over_within k path) (stands_over path) (λ top. over_all top path k all)
      (slice_get listed place))
