-- The changes of a partial dump, with the numbers that a load gives: none of its copies is from a revision before it.
use Rattle.dump_history.proofs.Prelude.{◌≡◌, suc, ◌+◌, ◌-◌, ◌≤◌, Bool, true, not, ◌&&◌, ◌||◌, map, Option, None, if◌then◌else◌, refl, ap, ap₂, subst, arith, AllZip, list_all, list_any, or_parts, node_kind_name, DumpRecord, Settings, is_copy, Group, NodePath, keeps, Made, PropertyChange, Change, is_above_some, made_behind, change_behind, revisions_behind, is_quiet_kept, is_quiet_dropped, is_quiet, are_quiet, Patching, says, makes, copy_revision, copied_from, made_by_kind, made_of, MakesChange, MakeChanges, copies_from_before, has_source_before}
use Rattle.std.proofs.Common.{ℕ, false, List, [], ◌∷◌, nat_lt, Some, codes}
use Rattle.dump_history.proofs.again.NodeChanges.{change_is}
use Rattle.dump_history.proofs.restricted.PartNumbers.{raised_copied}

-- a copy is from a revision with at least this number
abbrev IsFrom : ℕ → Option Made → Type 0
IsFrom before made = (n : ℕ) (source : NodePath) → made ≡ Some (Made.Copied n source) → before ≤ n

module _ (before : ℕ) (r : DumpRecord) (none : copies_from_before (suc before) r ≡ false) where
  high : (m c b : Bool) → makes r ≡ m → is_copy r ≡ c → nat_lt (copy_revision r) (suc before) ≡ b
      → ((m && c) && b) ≡ false → IsFrom before (if m then if c then Some (copied_from r) else made_by_kind r else None)
  high true true true makes copies low bad n source is = absurd (let worse : true ≡ false = bad in cc)
  high true true false makes copies low fine n source is =
      let same : copy_revision r ≡ n = cc in grind (arith, same, low)
  high true false b makes copies low fine n source is =
      by_kind (says node_kind_name (codes "dir") r) (says node_kind_name (codes "file") r) is
    where
      by_kind : (d f : Bool) → (if d then Some Made.NewDirectory else if f then Some Made.NewFile else None)
          ≡ Some (Made.Copied n source) → before ≤ n
      by_kind true f is = absurd (let bad : Some Made.NewDirectory ≡ Some (Made.Copied n source) = is in cc)
      by_kind false true is = absurd (let bad : Some Made.NewFile ≡ Some (Made.Copied n source) = is in cc)
      by_kind false false is = absurd (let bad : None ≡ Some (Made.Copied n source) = is in cc)
  high false c b makes copies low fine n source is = absurd (let bad : None ≡ Some (Made.Copied n source) = is in cc)

  made_high : IsFrom before (made_of r)
  made_high = high (makes r) (is_copy r) (nat_lt (copy_revision r) (suc before)) refl refl refl none

-- what is made, with its number lowered
made_lowered : (before : ℕ) (made : Option Made) → IsFrom before made
    → (low : Option Made) × (made ≡ made_behind before low)
made_lowered before None from = (None, refl)
made_lowered before (Some Made.NewDirectory) from = (Some Made.NewDirectory, refl)
made_lowered before (Some Made.NewFile) from = (Some Made.NewFile, refl)
made_lowered before (Some (Made.Copied n source)) from =
    let at_least = from n source refl in
    let same : n ≡ before + (n - before) = omega (arith, at_least) in
    (Some (Made.Copied (n - before) source), ap (λ m. Some (Made.Copied m source)) same)

change_lowered : (patched : Patching) (before : ℕ) (r : DumpRecord) (c : Change)
    → copies_from_before (suc before) r ≡ false → MakesChange patched r c
    → (low : Change) × (c ≡ change_behind before low)
change_lowered patched before r c none (ps, list, plain, is) =
    let made : made_of r ≡ c.made = ap (λ (d : Change). d.made) (change_is patched r ps c is).1 in
    let (low, same) = made_lowered before c.made (subst (IsFrom before) made (made_high before r none)) in
    (record c { made = low }, ap (λ m. record c { made = m }) same)

changes_lowered : (patched : Patching) (before : ℕ) (nodes : List DumpRecord) (changes : List Change)
    → list_any (copies_from_before (suc before)) nodes ≡ false → AllZip (MakesChange patched) nodes changes
    → (low : List Change) × (changes ≡ map (change_behind before) low)
changes_lowered patched before [] [] none make = ([], refl)
changes_lowered patched before [] (c ∷ changes) none make = absurd make
changes_lowered patched before (r ∷ nodes) [] none make = absurd make
changes_lowered patched before (r ∷ nodes) (c ∷ changes) none make =
    let parts = or_parts (copies_from_before (suc before) r) (list_any (copies_from_before (suc before)) nodes) none in
    let (first, first_is) = change_lowered patched before r c parts.0 make.0 in
    let (low, low_is) = changes_lowered patched before nodes changes parts.1 make.1 in
    (first ∷ low, ap₂ (λ x xs. x ∷ xs) first_is low_is)

-- the changes of groups without a copy from before them
pub groups_lowered : (patched : Patching) (before : ℕ) (gs : List Group) (revisions : List (List Change))
    → has_source_before (suc before) gs ≡ false → AllZip (MakeChanges patched) gs revisions
    → (low : List (List Change)) × (revisions ≡ revisions_behind before low)
groups_lowered patched before [] [] none make = ([], refl)
groups_lowered patched before [] (changes ∷ revisions) none make = absurd make
groups_lowered patched before (g ∷ gs) [] none make = absurd make
groups_lowered patched before (g ∷ gs) (changes ∷ revisions) none make =
    let parts = or_parts (list_any (copies_from_before (suc before)) g.nodes) (has_source_before (suc before) gs) none in
    let (first, first_is) = changes_lowered patched before g.nodes changes parts.0 make.0 in
    let (low, low_is) = groups_lowered patched before gs revisions parts.1 make.1 in
    (first ∷ low, ap₂ (λ x xs. x ∷ xs) first_is low_is)

-- an alarm doesn't depend on the number of a copy

module _ (settings : Settings) (before : ℕ) where
  same_kept : (path : NodePath) (props : Option PropertyChange) (made : Option Made)
      → is_quiet_kept settings path props (made_behind before made) ≡ is_quiet_kept settings path props made
  same_kept path props None = refl
  same_kept path props (Some Made.NewDirectory) = refl
  same_kept path props (Some Made.NewFile) = refl
  same_kept path props (Some (Made.Copied n source)) = refl

  change_quiet : (c : Change) → is_quiet settings (change_behind before c) ≡ is_quiet settings c
  change_quiet c = cases (keeps settings c.path)
    where
      cases : (b : Bool) → (if b then is_quiet_kept settings c.path c.props (made_behind before c.made)
          else is_quiet_dropped settings (change_behind before c))
          ≡ (if b then is_quiet_kept settings c.path c.props c.made else is_quiet_dropped settings c)
      cases true = same_kept c.path c.props c.made
      cases false = ap (λ b. not ((c.deletes || b) && is_above_some settings.side settings.prefixes c.path))
          (raised_copied before c.made)

  changes_quiet : (changes : List Change)
      → list_all (is_quiet settings) (map (change_behind before) changes) ≡ list_all (is_quiet settings) changes
  changes_quiet [] = refl
  changes_quiet (c ∷ changes) = ap₂ (λ b d. b && d) (change_quiet c) (changes_quiet changes)

  pub lowered_quiet : (revisions : List (List Change))
      → are_quiet settings (revisions_behind before revisions) ≡ are_quiet settings revisions
  lowered_quiet [] = refl
  lowered_quiet (changes ∷ revisions) = ap₂ (λ b c. b && c) (changes_quiet changes) (lowered_quiet revisions)
