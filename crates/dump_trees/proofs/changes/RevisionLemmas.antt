-- The changes of a revision.
use Rattle.dump_trees.proofs.Prelude.{◌≡◌, refl, sym, subst, MatchBool, list_any, MatchBool-at_true, MatchBool-at_false, or_parts, Settings, keeps, Tree, HasDirectories, Change, History, step, steps, NewProperty, KeepsEntries, NewNumber, IsRestricted, IsNewChange, AllHaveDirectories, AreRestricted, IsMade, IsRenumbered, AreNewChanges, AllSeparate, EachRevisionRestricts}
use Rattle.std.proofs.Common.{Bool, true, false, List, [], ◌∷◌, Option, Some, None, option_and_then}
use Rattle.dump_trees.proofs.changes.StageLemmas.{Follows}
use Rattle.dump_trees.proofs.changes.StepLemmas.{followed, change_follows, dropped_step}
use Rattle.dump_trees.proofs.changes.DirectoryLemmas.{KeepsDirectories, step_keeps}

-- the changes of a revision keep directories
pub steps_keep : (history : History) → AllHaveDirectories history → (changes : List Change) (tree : Tree) → HasDirectories tree
    → KeepsDirectories (steps history tree changes)
steps_keep history all [] tree directories = directories
steps_keep history all (c ∷ changes) tree directories =
    cases (steps_keep history all changes) (step history tree c) (step_keeps history all tree c directories)
  where
    cases : ((t : Tree) → HasDirectories t → KeepsDirectories (steps history t changes)) → (o : Option Tree) → KeepsDirectories o
        → KeepsDirectories (option_and_then (λ t. steps history t changes) o)
    cases further None has = tt
    cases further (Some t) has = further t has

module _ (settings : Settings) (IsNew : NewProperty) (IsNumber : NewNumber) (entries : KeepsEntries IsNew)
    (history others : History)
    (all : AllHaveDirectories history) (same : AreRestricted settings IsNew IsNumber history others) where
  -- what follows an existing tree exists
  follows_there : (old : Tree) (o : Option Tree) (f : Tree → Option Tree) (whole : Option Tree)
      → Follows settings IsNew (Some old) o
      → ((new : Tree) → IsRestricted settings IsNew old new → Follows settings IsNew whole (f new))
      → Follows settings IsNew whole (option_and_then f o)
  follows_there old None f whole first then = absurd first
  follows_there old (Some new) f whole first then = then new first

  -- what is proved of the changes after a change
  abbrev Further : List Change → Type 0
  Further changes = (rest : List Change) (t u : Tree) → HasDirectories t → IsRestricted settings IsNew t u
      → AllSeparate settings history t changes → AreNewChanges settings IsNew IsNumber changes rest
      → Follows settings IsNew (steps history t changes) (steps others u rest)

  -- the changes of a revision, one after the other
  pub steps_follow : (changes written : List Change) (before restricted : Tree) → HasDirectories before
      → IsRestricted settings IsNew before restricted → AllSeparate settings history before changes
      → AreNewChanges settings IsNew IsNumber changes written
      → Follows settings IsNew (steps history before changes) (steps others restricted written)
  steps_follow [] written before restricted directories r apart new =
      subst (λ w. Follows settings IsNew (Some before) (steps others restricted w)) (sym new) r
  steps_follow (c ∷ changes) written before restricted directories r apart new =
      cases (steps_follow changes) (step history before c) refl (step_keeps history all before c directories)
    where
      sides : Further changes → (after : Tree) → step history before c ≡ Some after → HasDirectories after → (b : Bool)
          → keeps settings c.path ≡ b
          → Follows settings IsNew (steps history after changes) (steps others restricted written)
      sides further after at has true kept =
          let parts = MatchBool-at_true _ _ kept new in
          let first =
          change_follows settings IsNew IsNumber entries history others before after restricted c parts.0 all same
          directories r (apart after at).0 kept parts.3 in
          subst (λ w. Follows settings IsNew (steps history after changes) (steps others restricted w)) (sym parts.2)
          (follows_there after (step others restricted parts.0) (λ u. steps others u parts.1)
          (steps history after changes)
          (subst (λ o. Follows settings IsNew o (step others restricted parts.0)) at first)
          (λ u s. further parts.1 after u has s (apart after at).1 parts.4))
      sides further after at has false left =
          further written after restricted has
          (dropped_step settings IsNew history before after restricted c r at (apart after at).0 left)
          (apart after at).1
          (MatchBool-at_false _ _ left new)

      cases : Further changes → (o : Option Tree) → step history before c ≡ o → KeepsDirectories o
          → Follows settings IsNew (option_and_then (λ t. steps history t changes) o) (steps others restricted written)
      cases further None at has = tt
      cases further (Some after) at has = sides further after at has (keeps settings c.path) refl

-- nothing is written of changes of which none is kept
pub none_written : (settings : Settings) (IsNew : NewProperty) (IsNumber : NewNumber) (changes : List Change)
    → list_any (λ (c : Change). keeps settings c.path) changes ≡ false
    → AreNewChanges settings IsNew IsNumber changes []
none_written settings IsNew IsNumber [] none = refl
none_written settings IsNew IsNumber (c ∷ changes) none =
    let parts = or_parts (keeps settings c.path) (list_any (λ (d : Change). keeps settings d.path) changes) none in
    subst (λ b. MatchBool b ((new : Change) × (rest : List Change) × ([] ≡ new ∷ rest)
    × IsNewChange settings IsNew IsNumber c new × AreNewChanges settings IsNew IsNumber changes rest)
    (AreNewChanges settings IsNew IsNumber changes [])) (sym parts.0)
    (none_written settings IsNew IsNumber changes parts.1)

-- the law of a revision, as the contract states it
pub each_revision : EachRevisionRestricts
each_revision settings make renumber entries history others before after restricted changes written all same directories
    r at
    apart new =
    followed settings (IsMade make) (steps history before changes) (steps others restricted written)
    (steps_follow settings (IsMade make) (IsRenumbered renumber)
    entries history others all same changes written before restricted
    directories r apart new) after at
