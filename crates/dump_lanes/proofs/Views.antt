-- Facts about all views of a table's seats, after one of them changes.
use Rattle.dump_lanes.proofs.Prelude.{◌≡◌, ◌≢◌, ◌+◌, ◌<◌, ◌≤◌, ◌⊎◌, inl, inr, ℕ, zero, suc, List, [], ◌∷◌, ◌++◌, length, set, sum_by, sym, refl, ap, subst, ⊎_elim, arith, sum_by-cons}
use mathlib.Core.Option.{some, some-injective, some-ne-none}
use lib.ListN.{get_elem?}
use Rattle.atomic_table.proofs.Lists.{at_set}

module _ {V : Type 0} where
  -- the fact holds of each pass and its view
  abbrev pub AllViews : (ℕ → V → Type 0) → List V → Type 0
  AllViews F views = (pass : ℕ) (v : V) → get_elem? views pass ≡ some v → F pass v

  -- a fact of each view remains true if the changed view has it and the others are unchanged
  pub AllViews-set : (F : ℕ → V → Type 0) (views : List V) (pass : ℕ) (w : V) → F pass w
      → ((j : ℕ) (u : V) → j ≢ pass → get_elem? views j ≡ some u → F j u) → AllViews F (set views pass w)
  AllViews-set F views pass w mine others j u e =
      ⊎_elim (λ (x : (j ≡ pass) × (w ≡ u)). subst (λ (y : ℕ × V). F y.0 y.1) (λ i. (sym x.0 i, x.1 i)) mine)
      (λ (x : (j ≢ pass) × (get_elem? views j ≡ some u)). others j u x.0 x.1) (at_set views pass j w u e)

  -- the one view of a list of one
  pub AllViews-one : (F : ℕ → V → Type 0) (w : V) → F 0 w → AllViews F (w ∷ [])
  AllViews-one F w mine zero u e = subst (λ y. F 0 y) (some-injective w u e) mine
  AllViews-one F w mine (suc j) u e = absurd (some-ne-none u (sym e))

  -- a view of a list with one more at its end is an old one or that one
  pub at_new : (views : List V) (w u : V) (j : ℕ) → get_elem? (views ++ w ∷ []) j ≡ some u
      → (get_elem? views j ≡ some u) ⊎ ((j ≡ length views) × (w ≡ u))
  at_new [] w u zero e = inr (refl, some-injective w u e)
  at_new [] w u (suc j) e = absurd (some-ne-none u (sym e))
  at_new (x ∷ xs) w u zero e = inl e
  at_new (x ∷ xs) w u (suc j) e = ⊎_elim (λ t. inl t) (λ t. inr (ap suc t.0, t.1)) (at_new xs w u j e)

  -- a fact of each view remains true if one more view has it
  pub AllViews-more : (F : ℕ → V → Type 0) (views : List V) (w : V) → AllViews F views → F (length views) w
      → AllViews F (views ++ w ∷ [])
  AllViews-more F views w old new j u e =
      ⊎_elim (λ x. old j u x)
      (λ (x : (j ≡ length views) × (w ≡ u)). subst (λ (y : ℕ × V). F y.0 y.1) (λ i. (sym x.0 i, x.1 i)) new)
      (at_new views w u j e)

  -- a pass with a view is less than the number of views
  pub within : (views : List V) (pass : ℕ) (v : V) → get_elem? views pass ≡ some v → pass < length views
  within [] pass v e = absurd (some-ne-none v (sym e))
  within (x ∷ xs) zero v e = omega arith
  within (x ∷ xs) (suc pass) v e = let t = within xs pass v e in omega arith

  -- each pass that is less than the number of views has a view
  pub at_some : (views : List V) (pass : ℕ) → pass < length views → (v : V) × (get_elem? views pass ≡ some v)
  at_some [] pass lt = absurd (omega arith)
  at_some (x ∷ xs) zero lt = (x, refl)
  at_some (x ∷ xs) (suc pass) lt = at_some xs pass (omega arith)

  -- a sum over the views after a change of one of them
  pub sum_by-set : (f : V → ℕ) (views : List V) (pass : ℕ) (v w : V) → get_elem? views pass ≡ some v
      → sum_by f (set views pass w) + f v ≡ sum_by f views + f w
  sum_by-set f [] pass v w e = absurd (some-ne-none v (sym e))
  sum_by-set f (x ∷ xs) zero v w e =
      let s : f x ≡ f v = ap f (some-injective x v e) in omega (arith, sum_by-cons {X = V})
  sum_by-set f (x ∷ xs) (suc pass) v w e =
      let t = sum_by-set f xs pass v w e in omega (arith, sum_by-cons {X = V})

  -- a sum over all views is at least each one's
  pub sum_by-least : (f : V → ℕ) (views : List V) (pass : ℕ) (v : V) → get_elem? views pass ≡ some v
      → f v ≤ sum_by f views
  sum_by-least f [] pass v e = absurd (some-ne-none v (sym e))
  sum_by-least f (x ∷ xs) zero v e =
      let s : f x ≡ f v = ap f (some-injective x v e) in omega (arith, sum_by-cons {X = V})
  sum_by-least f (x ∷ xs) (suc pass) v e =
      let t = sum_by-least f xs pass v e in omega (arith, sum_by-cons {X = V})

  -- if a sum over all views is zero, another one is zero too, if each view without a share in the first has none in
  -- the other
  pub sum_by-idle : (share f : V → ℕ) (views : List V)
      → AllViews (λ pass v. share v ≡ 0 → f v ≡ 0) views → sum_by share views ≡ 0 → sum_by f views ≡ 0
  sum_by-idle share f [] idle none = refl
  sum_by-idle share f (x ∷ xs) idle none =
      let a = sum_by-cons share x xs in
      let c : f x ≡ 0 = idle 0 x refl (omega arith) in
      let d = sum_by-idle share f xs (λ pass. idle (suc pass)) (omega arith) in omega (arith, sum_by-cons {X = V})

  -- where one view has the whole share, a sum over all views is its own
  pub sum_by-alone : (share f : V → ℕ) (views : List V) (pass : ℕ) (v : V)
      → AllViews (λ pass v. share v ≡ 0 → f v ≡ 0) views → get_elem? views pass ≡ some v → sum_by share views ≡ share v
      → sum_by f views ≡ f v
  sum_by-alone share f [] pass v idle at all = absurd (some-ne-none v (sym at))
  sum_by-alone share f (x ∷ xs) zero v idle at all =
      let is = some-injective x v at in
      let a : share x ≡ share v = ap share is in
      let b : f x ≡ f v = ap f is in
      let c = sum_by-cons share x xs in
      let e = sum_by-idle share f xs (λ pass. idle (suc pass)) (omega arith) in omega (arith, sum_by-cons {X = V})
  sum_by-alone share f (x ∷ xs) (suc pass) v idle at all =
      let most = sum_by-least share xs pass v at in
      let c = sum_by-cons share x xs in
      let none : f x ≡ 0 = idle 0 x refl (omega arith) in
      let rest = sum_by-alone share f xs pass v (λ p. idle (suc p)) at (omega arith) in
      omega (arith, sum_by-cons {X = V})
