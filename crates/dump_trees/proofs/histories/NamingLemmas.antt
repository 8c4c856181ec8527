-- Changes that name a revision by its number: if no kept change does, the numbers don't matter.
use Rattle.dump_trees.proofs.Prelude.{◌≡◌, not, cond, refl, sym, ap, ◌∙◌, MatchBool, and_parts, and_from, or_parts, or_from, not-true, not_from_false, list_all-append, Settings, keeps, Made, is_copied, Change, NewProperty, NewNumber, IsNewMade, IsNewChange, sets_whole, AreNewChanges, EmptyRule, keeps_revision, names_kept, names_none, names_none_behind}
use Rattle.std.proofs.Common.{Bool, true, false, ◌&&◌, List, [], ◌∷◌, ◌++◌, Option, Some, None}

-- changes without a kept copy

module _ (settings : Settings) (IsNew : NewProperty) (IsNumber IsOther : NewNumber) where
  -- what remains of something that is no copy has no number
  other_made : (is_whole : Bool) (old new : Option Made) → is_copied old ≡ false
      → IsNewMade settings IsNumber is_whole old new → IsNewMade settings IsOther is_whole old new
  other_made is_whole None None plain is = tt
  other_made is_whole None (Some made) plain is = absurd is
  other_made is_whole (Some Made.NewDirectory) None plain is = absurd is
  other_made is_whole (Some Made.NewDirectory) (Some Made.NewDirectory) plain is = tt
  other_made is_whole (Some Made.NewDirectory) (Some Made.NewFile) plain is = absurd is
  other_made is_whole (Some Made.NewDirectory) (Some (Made.Copied number source)) plain is = absurd is
  other_made is_whole (Some Made.NewFile) None plain is = absurd is
  other_made is_whole (Some Made.NewFile) (Some Made.NewDirectory) plain is = absurd is
  other_made is_whole (Some Made.NewFile) (Some Made.NewFile) plain is = tt
  other_made is_whole (Some Made.NewFile) (Some (Made.Copied number source)) plain is = absurd is
  other_made is_whole (Some (Made.Copied old from)) new plain is = absurd (let bad : true ≡ false = plain in cc)

  other_change : (old new : Change) → is_copied old.made ≡ false → IsNewChange settings IsNew IsNumber old new
      → IsNewChange settings IsNew IsOther old new
  other_change old new plain is = record {
    path = is.path;
    deletes = is.deletes;
    made = other_made (sets_whole old) old.made new.made plain is.made;
    props = is.props;
    text = is.text;
  }

  -- what is written of a revision without a kept copy is the same under any numbers
  pub other_changes : (changes written : List Change)
      → names_kept settings (λ (c : Change). is_copied c.made) changes ≡ false
      → AreNewChanges settings IsNew IsNumber changes written → AreNewChanges settings IsNew IsOther changes written
  other_changes [] written none new = new
  other_changes (c ∷ changes) written none new =
      let parts = or_parts (keeps settings c.path && is_copied c.made) _ none in
      cases (λ rest more. other_changes changes rest parts.1 more) parts.0 (keeps settings c.path) refl new
    where
      Written : NewNumber → Bool → Type 0
      Written Number kept = MatchBool kept
          ((new : Change) × (rest : List Change) × (written ≡ new ∷ rest) × IsNewChange settings IsNew Number c new
          × AreNewChanges settings IsNew Number changes rest)
          (AreNewChanges settings IsNew Number changes written)

      cases :
          ((rest : List Change) → AreNewChanges settings IsNew IsNumber changes rest
          → AreNewChanges settings IsNew IsOther changes rest)
          → (keeps settings c.path && is_copied c.made) ≡ false
          → (b : Bool) → keeps settings c.path ≡ b → Written IsNumber b → Written IsOther b
      cases further plain true is (new, rest, same, first, more) = (
        new,
        rest,
        same,
        other_change c new (sym (ap (λ b. b && is_copied c.made) is) ∙ plain) first,
        further rest more,
      )
      cases further plain false is more = further written more

-- first revisions

module _ (settings : Settings) (rule : EmptyRule) (names : Change → Bool) where
  -- if nothing after the first dropped revision of all is named, nothing after that of the first revisions is
  pub front_names_none : (front rest : List (List Change))
      → names_none_behind settings rule names (front ++ rest) ≡ true
      → names_none_behind settings rule names front ≡ true
  front_names_none [] rest none = refl
  front_names_none (changes ∷ front) rest none =
      cases (front_names_none front rest) (keeps_revision settings rule changes) none
    where
      cases : (names_none_behind settings rule names (front ++ rest) ≡ true
          → names_none_behind settings rule names front ≡ true)
          → (b : Bool)
          → cond b (names_none_behind settings rule names (front ++ rest))
          (names_none settings names (front ++ rest)) ≡ true
          → cond b (names_none_behind settings rule names front) (names_none settings names front) ≡ true
      cases further true are = further are
      cases further false are = (and_parts (names_none settings names front) (names_none settings names rest)
          (sym (list_all-append (λ others. not (names_kept settings names others)) front rest) ∙ are)).0

-- fewer names

module _ (settings : Settings) (rule : EmptyRule) (names fewer : Change → Bool)
    (are : (c : Change) → names c ≡ false → fewer c ≡ false) where
  fewer_kept : (changes : List Change) → names_kept settings names changes ≡ false
      → names_kept settings fewer changes ≡ false
  fewer_kept [] none = refl
  fewer_kept (c ∷ changes) none =
      let parts = or_parts (keeps settings c.path && names c) (names_kept settings names changes) none in
      or_from _ _ (cases (keeps settings c.path) parts.0) (fewer_kept changes parts.1)
    where
      cases : (b : Bool) → (b && names c) ≡ false → (b && fewer c) ≡ false
      cases true none = are c none
      cases false none = refl

  fewer_none : (revisions : List (List Change)) → names_none settings names revisions ≡ true
      → names_none settings fewer revisions ≡ true
  fewer_none [] none = refl
  fewer_none (changes ∷ revisions) none =
      let parts = and_parts (not (names_kept settings names changes)) (names_none settings names revisions) none in
      and_from _ _ (not_from_false _ (fewer_kept changes (not-true _ parts.0))) (fewer_none revisions parts.1)

  -- if nothing after the first dropped revision is named, nothing is by a test that fewer changes pass
  pub fewer_names_none : (revisions : List (List Change)) → names_none_behind settings rule names revisions ≡ true
      → names_none_behind settings rule fewer revisions ≡ true
  fewer_names_none [] none = refl
  fewer_names_none (changes ∷ revisions) none =
      cases (fewer_names_none revisions) (keeps_revision settings rule changes) none
    where
      cases : (names_none_behind settings rule names revisions ≡ true
          → names_none_behind settings rule fewer revisions ≡ true)
          → (b : Bool)
          → cond b (names_none_behind settings rule names revisions) (names_none settings names revisions) ≡ true
          → cond b (names_none_behind settings rule fewer revisions) (names_none settings fewer revisions) ≡ true
      cases further true none = further none
      cases further false none = fewer_none revisions none
