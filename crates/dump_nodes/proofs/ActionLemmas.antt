-- What an action does by its name.
use Rattle.dump_nodes.proofs.Prelude.{◌≡◌, ℕ, Bool, true, false, ◌||◌, List, bytes_eq, codes, refl, sym, ap, ◌∙◌, if◌then◌else◌, bytes_eq-Decides, Action, Add, Change, Delete, Replace, Unknown, action_named, is_deleting, is_making, is_known_action}

-- the action of the first of the four tests that holds
abbrev action_by : (add change delete replace : Bool) → Action
action_by add change delete replace =
    if add then Add else if change then Change else if delete then Delete else if replace then Replace else Unknown

module _ (name : List ℕ) where
  -- a name that is this one isn't another one
  no_other : (this other : List ℕ) → bytes_eq this other ≡ false → bytes_eq name this ≡ true → bytes_eq name other ≡ false
  no_other this other apart is = ap (λ n. bytes_eq n other) ((bytes_eq-Decides name this).0 is) ∙ apart

  pub known_by_name : is_known_action (action_named name) ≡ (bytes_eq name (codes "add") || (bytes_eq name (codes "change")
      || (bytes_eq name (codes "delete") || (bytes_eq name (codes "replace") || false))))
  known_by_name = by (bytes_eq name (codes "add")) (bytes_eq name (codes "change")) (bytes_eq name (codes "delete"))
      (bytes_eq name (codes "replace"))
    where
      by : (a c d r : Bool) → is_known_action (action_by a c d r) ≡ (a || (c || (d || (r || false))))
      by true c d r = refl
      by false true d r = refl
      by false false true r = refl
      by false false false true = refl
      by false false false false = refl

  pub deletes_by_name : is_deleting (action_named name) ≡ (bytes_eq name (codes "delete") || bytes_eq name (codes "replace"))
  deletes_by_name =
      by (bytes_eq name (codes "add")) (bytes_eq name (codes "change")) (bytes_eq name (codes "delete"))
      (bytes_eq name (codes "replace"))
      (no_other (codes "add") (codes "delete") refl) (no_other (codes "add") (codes "replace") refl)
      (no_other (codes "change") (codes "delete") refl) (no_other (codes "change") (codes "replace") refl)
    where
      by : (a c d r : Bool) → (a ≡ true → d ≡ false) → (a ≡ true → r ≡ false) → (c ≡ true → d ≡ false)
          → (c ≡ true → r ≡ false) → is_deleting (action_by a c d r) ≡ (d || r)
      by true c d r no_d no_r other_d other_r = let h = no_d refl in let k = no_r refl in rw (h, k) refl
      by false true d r no_d no_r other_d other_r = let h = other_d refl in let k = other_r refl in rw (h, k) refl
      by false false true r no_d no_r other_d other_r = refl
      by false false false true no_d no_r other_d other_r = refl
      by false false false false no_d no_r other_d other_r = refl

  pub makes_by_name : is_making (action_named name) ≡ (bytes_eq name (codes "add") || bytes_eq name (codes "replace"))
  makes_by_name =
      by (bytes_eq name (codes "add")) (bytes_eq name (codes "change")) (bytes_eq name (codes "delete"))
      (bytes_eq name (codes "replace"))
      (no_other (codes "change") (codes "replace") refl) (no_other (codes "delete") (codes "replace") refl)
    where
      by : (a c d r : Bool) → (c ≡ true → r ≡ false) → (d ≡ true → r ≡ false)
          → is_making (action_by a c d r) ≡ (a || r)
      by true c d r change delete = refl
      by false true d r change delete = sym (change refl)
      by false false true r change delete = sym (delete refl)
      by false false false true change delete = refl
      by false false false false change delete = refl
