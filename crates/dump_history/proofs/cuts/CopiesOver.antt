-- Copies over what their revision changed: what is written has such a copy only if the dump does.
use Rattle.dump_history.proofs.Prelude.{◌≡◌, true, refl, sym, ap, ◌∙◌, subst, inl, inr, ◌⊎◌, not, ◌&&◌, ◌||◌, is_some, append-nil, map, both_ways, and_parts, and_from, or_cases, or_left, or_right, MatchBool-at_false, Exclude, Settings, NodePath, keeps, Made, is_copied, Change, PropertyChange, NewProperty, NewNumber, IsNewChange, IsNewMade, EmptyRule, AreNewChanges, AreNewRevisions, keeps_revision}
use Rattle.std.proofs.Common.{Bool, false, List, [], ◌∷◌, ◌++◌, Option, Some, None}
use Rattle.std.specs.List.{All}
use Rattle.std.proofs.lemmas.Bool.{MatchBool-at_true}
use Rattle.std.proofs.lemmas.List.Elements.{All-head, All-tail}
use Rattle.dump_trees.specs.EverSiblings.{does_something}
use Rattle.dump_trees.specs.LoadCheck.{sets_props}
use Rattle.dump_trees.specs.Paths.{below}
use Rattle.dump_trees.specs.Restriction.{AreNewProps}
use Rattle.dump_trees.specs.steps.ExpansionCases.{deletion_of}
use Rattle.dump_trees.proofs.paths.KeptPaths.{keeps_nothing}
use Rattle.dump_trees.proofs.changes.TreeLemmas.{below_rest}
use Rattle.dump_history.specs.CopiesOver.{copies_over_changed, copies_to, is_changed_after, some_copies_over}
use Rattle.dump_history.specs.steps.TrimmedDumps.{changes_behind, revisions_with}
use Rattle.dump_history.specs.WrittenNodes.{WrittenNode}
use Rattle.dump_history.specs.steps.WrittenNodes.{written_change}

-- what is changed after a change is changed too if more was changed before it
still_changed : (o : Option NodePath) (c : Change) (fewer more : Bool) → (fewer ≡ true → more ≡ true)
    → is_changed_after o c fewer ≡ true → is_changed_after o c more ≡ true
still_changed None c fewer more less is = less is
still_changed (Some []) c fewer more less is =
    elim (or_cases (is_some c.made) (not c.deletes && (fewer || does_something c)) is) [
      | inl made ↦ or_left (is_some c.made) _ made
      | inr other ↦
          let parts = and_parts (not c.deletes) (fewer || does_something c) other in
          or_right (is_some c.made) _ (and_from (not c.deletes) (more || does_something c) parts.0 (either parts.1))
    ]
  where
    either : (fewer || does_something c) ≡ true → (more || does_something c) ≡ true
    either one = elim (or_cases fewer (does_something c) one) [
      | inl before ↦ or_left more (does_something c) (less before)
      | inr sets ↦ or_right more (does_something c) sets
    ]
still_changed (Some (name ∷ rest)) c fewer more less is =
    let parts = and_parts fewer (not (c.deletes || is_some c.made)) is in
    and_from more (not (c.deletes || is_some c.made)) (less parts.0) parts.1

-- a change that copies to a path is at it
copies_at : (o : Option NodePath) (c : Change) → copies_to o c ≡ true → o ≡ Some []
copies_at None c is = absurd (let bad : false ≡ true = is in cc)
copies_at (Some []) c is = refl
copies_at (Some (name ∷ rest)) c is = absurd (let bad : false ≡ true = is in cc)

-- what is written of a change

-- something is made exactly if something was made before
both_made : (settings : Settings) (IsNumber : NewNumber) (whole : Bool) (old new : Option Made)
    → IsNewMade settings IsNumber whole old new → is_some new ≡ is_some old
both_made settings IsNumber whole None None is = refl
both_made settings IsNumber whole None (Some m) is = absurd is
both_made settings IsNumber whole (Some Made.NewDirectory) None is = absurd is
both_made settings IsNumber whole (Some Made.NewFile) None is = absurd is
both_made settings IsNumber whole (Some (Made.Copied number source)) None is = absurd is
both_made settings IsNumber whole (Some m) (Some n) is = refl

-- and a copy is made only if one was made before
copied_before : (settings : Settings) (IsNumber : NewNumber) (whole : Bool) (old new : Option Made)
    → IsNewMade settings IsNumber whole old new → is_copied new ≡ true → is_copied old ≡ true
copied_before settings IsNumber whole old None is copied = absurd (let bad : false ≡ true = copied in cc)
copied_before settings IsNumber whole old (Some Made.NewDirectory) is copied = absurd (let bad : false ≡ true = copied in cc)
copied_before settings IsNumber whole old (Some Made.NewFile) is copied = absurd (let bad : false ≡ true = copied in cc)
copied_before settings IsNumber whole None (Some (Made.Copied number source)) is copied = absurd is
copied_before settings IsNumber whole (Some Made.NewDirectory) (Some (Made.Copied number source)) is copied = absurd is
copied_before settings IsNumber whole (Some Made.NewFile) (Some (Made.Copied number source)) is copied = absurd is
copied_before settings IsNumber whole (Some (Made.Copied old from)) (Some (Made.Copied number source)) is copied = refl

-- properties are set exactly if they were set before
props_alike : (IsNew : NewProperty) (old new : Option PropertyChange) → AreNewProps IsNew old new
    → sets_props new ≡ sets_props old
props_alike IsNew None None is = refl
props_alike IsNew None (Some change) is = absurd is
props_alike IsNew (Some (PropertyChange.Replaced old)) None is = absurd is
props_alike IsNew (Some (PropertyChange.Replaced old)) (Some (PropertyChange.Replaced new)) is = refl
props_alike IsNew (Some (PropertyChange.Replaced old)) (Some (PropertyChange.Edited new)) is = absurd is
props_alike IsNew (Some (PropertyChange.Edited old)) None is = absurd is
props_alike IsNew (Some (PropertyChange.Edited old)) (Some (PropertyChange.Replaced new)) is = absurd is
props_alike IsNew (Some (PropertyChange.Edited [])) (Some (PropertyChange.Edited [])) is = refl
props_alike IsNew (Some (PropertyChange.Edited [])) (Some (PropertyChange.Edited (n ∷ new))) is = absurd is
props_alike IsNew (Some (PropertyChange.Edited (o ∷ old))) (Some (PropertyChange.Edited [])) is = absurd is
props_alike IsNew (Some (PropertyChange.Edited (o ∷ old))) (Some (PropertyChange.Edited (n ∷ new))) is = refl

-- whether the path of a change is changed after it, by what the change does
abbrev is_changed : Bool → Bool → Bool → Bool → Bool → Bool
is_changed changed made deletes props text = made || (not deletes && (changed || (deletes || made || props || text)))

module _ (settings : Settings) (IsNew : NewProperty) (IsNumber : NewNumber) where
  changed_alike : (c d : Change) → IsNewChange settings IsNew IsNumber c d → (o : Option NodePath) (changed : Bool)
      → is_changed_after o d changed ≡ is_changed_after o c changed
  changed_alike c d new None changed = refl
  changed_alike c d new (Some []) changed =
      ap (λ made. is_changed changed made d.deletes (sets_props d.props) (is_some d.text)) (both_made settings IsNumber _ c.made d.made new.made)
      ∙ (ap (λ deletes. is_changed changed (is_some c.made) deletes (sets_props d.props) (is_some d.text)) new.deletes
      ∙ (ap (λ props. is_changed changed (is_some c.made) c.deletes props (is_some d.text)) (props_alike IsNew c.props d.props new.props)
      ∙ ap (λ text. is_changed changed (is_some c.made) c.deletes (sets_props c.props) (is_some text)) new.text))
  changed_alike c d new (Some (name ∷ rest)) changed =
      ap (λ made. changed && not (d.deletes || made)) (both_made settings IsNumber _ c.made d.made new.made)
      ∙ ap (λ deletes. changed && not (deletes || is_some c.made)) new.deletes

  copies_alike : (c d : Change) → IsNewChange settings IsNew IsNumber c d → (o : Option NodePath)
      → copies_to o d ≡ true → copies_to o c ≡ true
  copies_alike c d new None is = is
  copies_alike c d new (Some []) is =
      let parts = and_parts (is_copied d.made) (not d.deletes) is in
      and_from (is_copied c.made) (not c.deletes) (copied_before settings IsNumber _ c.made d.made new.made parts.0)
      (ap not (sym new.deletes) ∙ parts.1)
  copies_alike c d new (Some (name ∷ rest)) is = is

  -- a copy is written at a kept path
  over_kept : (path : NodePath) (changes written : List Change) → AreNewChanges settings IsNew IsNumber changes written
      → (changed : Bool) → copies_over_changed path changed written ≡ true → keeps settings path ≡ true
  over_kept path [] written none changed over =
      absurd (let bad : false ≡ true = subst (λ l. copies_over_changed path changed l ≡ true) none over in cc)
  over_kept path (c ∷ changes) written new changed over =
      cases (λ l n b o. over_kept path changes l n b o) (keeps settings c.path) refl
    where
      Later : Type 0
      Later = (rest : List Change) → AreNewChanges settings IsNew IsNumber changes rest → (before : Bool)
          → copies_over_changed path before rest ≡ true → keeps settings path ≡ true

      sides : Later → (d : Change) (rest : List Change) → d.path ≡ c.path → keeps settings c.path ≡ true
          → AreNewChanges settings IsNew IsNumber changes rest
          → ((changed && copies_to (below d.path path) d) ≡ true)
          ⊎ (copies_over_changed path (is_changed_after (below d.path path) d changed) rest ≡ true)
          → keeps settings path ≡ true
      sides later d rest same kept more (inl here) =
          let at = copies_at (below d.path path) d (and_parts changed (copies_to (below d.path path) d) here).1 in
          ap (keeps settings) (below_rest d.path path [] at ∙ (append-nil d.path ∙ same)) ∙ kept
      sides later d rest same kept more (inr there) =
          later rest more (is_changed_after (below d.path path) d changed) there

      cases : Later → (b : Bool) → keeps settings c.path ≡ b → keeps settings path ≡ true
      cases later true kept =
          let (d, rest, is, one, more) = MatchBool-at_true _ _ kept new in
          sides later d rest one.path kept more
          (or_cases (changed && copies_to (below d.path path) d)
          (copies_over_changed path (is_changed_after (below d.path path) d changed) rest)
          (subst (λ l. copies_over_changed path changed l ≡ true) is over))
      cases later false left = later written (MatchBool-at_false _ _ left new) changed over

  -- if prefixes are excluded, what is above a kept path is kept, so a change that isn't written did nothing there
  module _ (side : settings.side ≡ Exclude) (path : NodePath) (kept : keeps settings path ≡ true) where
    left_apart : (top : NodePath) → keeps settings top ≡ false → below top path ≡ None
    left_apart top left = cases (below top path) refl
      where
        cases : (o : Option NodePath) → below top path ≡ o → o ≡ None
        cases None is = refl
        cases (Some rest) is =
            absurd (both_ways (keeps settings path)
            (ap (keeps settings) (below_rest top path rest is) ∙ keeps_nothing settings top rest side left) kept)

    changes_over : (changes written : List Change) → AreNewChanges settings IsNew IsNumber changes written
        → (changed : Bool) → copies_over_changed path changed written ≡ true
        → copies_over_changed path changed changes ≡ true
    changes_over [] written none changed over = subst (λ l. copies_over_changed path changed l ≡ true) none over
    changes_over (c ∷ changes) written new changed over =
        cases (λ l n b o. changes_over changes l n b o) (keeps settings c.path) refl
      where
        Later : Type 0
        Later = (rest : List Change) → AreNewChanges settings IsNew IsNumber changes rest → (before : Bool)
            → copies_over_changed path before rest ≡ true → copies_over_changed path before changes ≡ true

        Over : Type 0
        Over = ((changed && copies_to (below c.path path) c)
            || copies_over_changed path (is_changed_after (below c.path path) c changed) changes) ≡ true

        sides : Later → (d : Change) (rest : List Change) → IsNewChange settings IsNew IsNumber c d
            → AreNewChanges settings IsNew IsNumber changes rest
            → ((changed && copies_to (below c.path path) d) ≡ true)
            ⊎ (copies_over_changed path (is_changed_after (below c.path path) d changed) rest ≡ true)
            → Over
        sides later d rest one more (inl here) =
            let parts = and_parts changed (copies_to (below c.path path) d) here in
            or_left (changed && copies_to (below c.path path) c) _
            (and_from changed (copies_to (below c.path path) c) parts.0 (copies_alike c d one (below c.path path) parts.1))
        sides later d rest one more (inr there) =
            or_right (changed && copies_to (below c.path path) c) _
            (later rest more (is_changed_after (below c.path path) c changed)
            (subst (λ b. copies_over_changed path b rest ≡ true) (changed_alike c d one (below c.path path) changed) there))

        cases : Later → (b : Bool) → keeps settings c.path ≡ b → Over
        cases later true keep =
            let (d, rest, is, one, more) = MatchBool-at_true _ _ keep new in
            let now = subst (λ l. copies_over_changed path changed l ≡ true) is over in
            sides later d rest one more
            (or_cases (changed && copies_to (below c.path path) d)
            (copies_over_changed path (is_changed_after (below c.path path) d changed) rest)
            (subst (λ p. ((changed && copies_to (below p path) d)
            || copies_over_changed path (is_changed_after (below p path) d changed) rest) ≡ true) one.path now))
        cases later false left =
            or_right (changed && copies_to (below c.path path) c) _
            (subst (λ o. copies_over_changed path (is_changed_after o c changed) changes ≡ true)
            (sym (left_apart c.path left))
            (later written (MatchBool-at_false _ _ left new) changed over))

  -- so a revision that is written has such a copy only if the dump has one
  pub written_over : (rule : EmptyRule) → settings.side ≡ Exclude → (path : NodePath)
      (revisions written : List (List Change)) → AreNewRevisions settings IsNew IsNumber rule revisions written
      → some_copies_over path written ≡ true → some_copies_over path revisions ≡ true
  written_over rule side path [] written none over = subst (λ l. some_copies_over path l ≡ true) none over
  written_over rule side path (changes ∷ revisions) written new over =
      cases (λ l n o. written_over rule side path revisions l n o) (keeps_revision settings rule changes) refl
    where
      Later : Type 0
      Later = (rest : List (List Change)) → AreNewRevisions settings IsNew IsNumber rule revisions rest
          → some_copies_over path rest ≡ true → some_copies_over path revisions ≡ true

      sides : Later → (first : List Change) (rest : List (List Change))
          → AreNewChanges settings IsNew IsNumber changes first
          → AreNewRevisions settings IsNew IsNumber rule revisions rest
          → (copies_over_changed path false first ≡ true) ⊎ (some_copies_over path rest ≡ true)
          → (copies_over_changed path false changes || some_copies_over path revisions) ≡ true
      sides later first rest one more (inl here) =
          or_left (copies_over_changed path false changes) (some_copies_over path revisions)
          (changes_over side path (over_kept path changes first one false here) changes first one false here)
      sides later first rest one more (inr there) =
          or_right (copies_over_changed path false changes) (some_copies_over path revisions) (later rest more there)

      cases : Later → (b : Bool) → keeps_revision settings rule changes ≡ b
          → (copies_over_changed path false changes || some_copies_over path revisions) ≡ true
      cases later true kept =
          let (first, rest, is, one, more) = MatchBool-at_true _ _ kept new in
          sides later first rest one more
          (or_cases (copies_over_changed path false first) (some_copies_over path rest)
          (subst (λ l. some_copies_over path l ≡ true) is over))
      cases later false left =
          or_right (copies_over_changed path false changes) (some_copies_over path revisions)
          (later written (MatchBool-at_false _ _ left new) over)

-- deletions after changes

-- a change that only deletes
abbrev pub IsDeletion : Change → Type 0
IsDeletion d = (path : NodePath) × (d ≡ deletion_of path)

-- nodes that make such changes only
abbrev pub Delete : List WrittenNode → Type 0
Delete nodes = All IsDeletion (map written_change nodes)

-- a deletion changes nothing that wasn't changed before
deleted_before : (top : NodePath) (o : Option NodePath) (changed : Bool)
    → is_changed_after o (deletion_of top) changed ≡ true → changed ≡ true
deleted_before top None changed is = is
deleted_before top (Some []) changed is = absurd (let bad : false ≡ true = is in cc)
deleted_before top (Some (name ∷ rest)) changed is = (and_parts changed false is).0

-- a deletion copies nothing
copies_none : (top : NodePath) (o : Option NodePath) → copies_to o (deletion_of top) ≡ true → ⊥
copies_none top None is = let bad : false ≡ true = is in cc
copies_none top (Some []) is = let bad : false ≡ true = is in cc
copies_none top (Some (name ∷ rest)) is = let bad : false ≡ true = is in cc

module _ (path : NodePath) where
  -- what a copy after deletions is over was changed before them
  behind_deletions : (deletions rest : List Change) → All IsDeletion deletions → (changed : Bool)
      → copies_over_changed path changed (deletions ++ rest) ≡ true
      → (still : Bool) × (still ≡ true → changed ≡ true) × (copies_over_changed path still rest ≡ true)
  behind_deletions [] rest delete changed over = (changed, λ is. is, over)
  behind_deletions (d ∷ deletions) rest delete changed over =
      let (top, is) = All-head IsDeletion d deletions delete in
      sides (λ before o. behind_deletions deletions rest (All-tail IsDeletion d deletions delete) before o) top
      (or_cases (changed && copies_to (below top path) (deletion_of top))
      (copies_over_changed path (is_changed_after (below top path) (deletion_of top) changed) (deletions ++ rest))
      (subst (λ c. ((changed && copies_to (below c.path path) c)
      || copies_over_changed path (is_changed_after (below c.path path) c changed) (deletions ++ rest)) ≡ true) is over))
    where
      Still : Bool → Type 0
      Still before = (still : Bool) × (still ≡ true → before ≡ true) × (copies_over_changed path still rest ≡ true)

      sides : ((before : Bool) → copies_over_changed path before (deletions ++ rest) ≡ true → Still before)
          → (top : NodePath)
          → ((changed && copies_to (below top path) (deletion_of top)) ≡ true)
          ⊎ (copies_over_changed path (is_changed_after (below top path) (deletion_of top) changed) (deletions ++ rest)
          ≡ true)
          → Still changed
      sides later top (inl here) =
          absurd (copies_none top (below top path)
          (and_parts changed (copies_to (below top path) (deletion_of top)) here).1)
      sides later top (inr there) =
          let (still, less, over_still) = later (is_changed_after (below top path) (deletion_of top) changed) there in
          (still, λ is. deleted_before top (below top path) changed (less is), over_still)

  -- the same after each change
  changes_without : (behind : List (List WrittenNode)) (changes : List Change) → All Delete behind
      → (fewer more : Bool) → (fewer ≡ true → more ≡ true)
      → copies_over_changed path fewer (changes_behind behind changes) ≡ true
      → copies_over_changed path more changes ≡ true
  changes_without [] changes deletes fewer more less over = absurd (let bad : false ≡ true = over in cc)
  changes_without (nodes ∷ behind) [] deletes fewer more less over = absurd (let bad : false ≡ true = over in cc)
  changes_without (nodes ∷ behind) (c ∷ changes) deletes fewer more less over =
      sides (λ a b l o. changes_without behind changes (All-tail Delete nodes behind deletes) a b l o)
      (or_cases (fewer && copies_to (below c.path path) c)
      (copies_over_changed path (is_changed_after (below c.path path) c fewer)
      (map written_change nodes ++ changes_behind behind changes)) over)
    where
      sides : ((before after : Bool) → (before ≡ true → after ≡ true)
          → copies_over_changed path before (changes_behind behind changes) ≡ true
          → copies_over_changed path after changes ≡ true)
          → ((fewer && copies_to (below c.path path) c) ≡ true)
          ⊎ (copies_over_changed path (is_changed_after (below c.path path) c fewer)
          (map written_change nodes ++ changes_behind behind changes) ≡ true)
          → ((more && copies_to (below c.path path) c)
          || copies_over_changed path (is_changed_after (below c.path path) c more) changes) ≡ true
      sides later (inl here) =
          let parts = and_parts fewer (copies_to (below c.path path) c) here in
          or_left (more && copies_to (below c.path path) c) _
          (and_from more (copies_to (below c.path path) c) (less parts.0) parts.1)
      sides later (inr there) =
          let (still, before, over_still) = behind_deletions (map written_change nodes) (changes_behind behind changes)
          (All-head Delete nodes behind deletes) (is_changed_after (below c.path path) c fewer) there in
          or_right (more && copies_to (below c.path path) c) _
          (later still (is_changed_after (below c.path path) c more)
          (λ is. still_changed (below c.path path) c fewer more less (before is)) over_still)

  -- the same for each revision
  pub over_without : (groups : List (List (List WrittenNode))) (written : List (List Change)) → All (All Delete) groups
      → some_copies_over path (revisions_with groups written) ≡ true → some_copies_over path written ≡ true
  over_without [] written deletes over = absurd (let bad : false ≡ true = over in cc)
  over_without (behind ∷ groups) [] deletes over = absurd (let bad : false ≡ true = over in cc)
  over_without (behind ∷ groups) (changes ∷ written) deletes over =
      sides (λ o. over_without groups written (All-tail (All Delete) behind groups deletes) o)
      (or_cases (copies_over_changed path false (changes_behind behind changes))
      (some_copies_over path (revisions_with groups written)) over)
    where
      sides : (some_copies_over path (revisions_with groups written) ≡ true → some_copies_over path written ≡ true)
          → (copies_over_changed path false (changes_behind behind changes) ≡ true)
          ⊎ (some_copies_over path (revisions_with groups written) ≡ true)
          → (copies_over_changed path false changes || some_copies_over path written) ≡ true
      sides later (inl here) =
          or_left (copies_over_changed path false changes) (some_copies_over path written)
          (changes_without behind changes (All-head (All Delete) behind groups deletes) false false (λ is. is) here)
      sides later (inr there) =
          or_right (copies_over_changed path false changes) (some_copies_over path written) (later there)
