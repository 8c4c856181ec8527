-- What is written of revisions that name no revision names none.
use Rattle.dump_history.proofs.Prelude.{◌≡◌, Bool, true, not, ◌&&◌, ◌||◌, Option, None, bytes_eq, refl, ap, ap₂, ◌∙◌, MatchBool, AllZip, list_any, or_parts, or_from, and_from, and_parts, not-true, not_from_false, Property, Settings, is_mergeinfo, mergeinfo_name, keeps, Made, is_copied, PropertyChange, Change, NewProperty, KeepsEntries, NewNumber, AreNewProps, IsNewMade, IsNewChange, AreNewChanges, EmptyRule, keeps_revision, AreNewRevisions, names_kept, names_none, sets_mergeinfo, names_revision, name_no_revision}
use Rattle.dump_trees.specs.ComingBack.{entries_in}
use Rattle.std.proofs.Common.{false, List, [], ◌∷◌, Some}

module _ (settings : Settings) (IsNew : NewProperty) (entries : KeepsEntries IsNew) (IsNumber : NewNumber) where
  -- mergeinfo stays mergeinfo
  same_merge : (old new : Property) → IsNew old new → is_mergeinfo new ≡ is_mergeinfo old
  same_merge old new is =
      let (name, value) = entries old new is in λ i. bytes_eq (name i) mergeinfo_name && value i

  same_merges : (old new : List Property) → AllZip IsNew old new
      → list_any is_mergeinfo new ≡ list_any is_mergeinfo old
  same_merges [] [] all = refl
  same_merges [] (q ∷ new) all = absurd all
  same_merges (p ∷ old) [] all = absurd all
  same_merges (p ∷ old) (q ∷ new) all = ap₂ (λ b c. b || c) (same_merge p q all.0) (same_merges old new all.1)

  same_sets : (old new : Option PropertyChange) → AreNewProps IsNew old new
      → list_any is_mergeinfo (entries_in new) ≡ list_any is_mergeinfo (entries_in old)
  same_sets None None is = refl
  same_sets None (Some new) is = absurd is
  same_sets (Some (PropertyChange.Replaced old)) None is = absurd is
  same_sets (Some (PropertyChange.Replaced old)) (Some (PropertyChange.Replaced new)) is = same_merges old new is
  same_sets (Some (PropertyChange.Replaced old)) (Some (PropertyChange.Edited new)) is = absurd is
  same_sets (Some (PropertyChange.Edited old)) None is = absurd is
  same_sets (Some (PropertyChange.Edited old)) (Some (PropertyChange.Replaced new)) is = absurd is
  same_sets (Some (PropertyChange.Edited old)) (Some (PropertyChange.Edited new)) is = same_merges old new is

  -- what isn't a copy doesn't become one
  still_plain : (whole : Bool) (old new : Option Made) → IsNewMade settings IsNumber whole old new
      → is_copied old ≡ false → is_copied new ≡ false
  still_plain whole None None is plain = refl
  still_plain whole None (Some new) is plain = absurd is
  still_plain whole (Some Made.NewDirectory) None is plain = absurd is
  still_plain whole (Some Made.NewDirectory) (Some Made.NewDirectory) is plain = refl
  still_plain whole (Some Made.NewDirectory) (Some Made.NewFile) is plain = absurd is
  still_plain whole (Some Made.NewDirectory) (Some (Made.Copied number source)) is plain = absurd is
  still_plain whole (Some Made.NewFile) None is plain = absurd is
  still_plain whole (Some Made.NewFile) (Some Made.NewDirectory) is plain = absurd is
  still_plain whole (Some Made.NewFile) (Some Made.NewFile) is plain = refl
  still_plain whole (Some Made.NewFile) (Some (Made.Copied number source)) is plain = absurd is
  still_plain whole (Some (Made.Copied number source)) new is plain = absurd (let bad : true ≡ false = plain in cc)

  change_plain : (old new : Change) → IsNewChange settings IsNew IsNumber old new → names_revision old ≡ false
      → names_revision new ≡ false
  change_plain old new is none =
      let parts = or_parts (is_copied old.made) (sets_mergeinfo old) none in
      or_from (is_copied new.made) (sets_mergeinfo new) (still_plain _ old.made new.made is.made parts.0)
      (same_sets old.props new.props is.props ∙ parts.1)

  -- the changes of a revision
  changes_plain : (changes written : List Change) → AreNewChanges settings IsNew IsNumber changes written
      → names_kept settings names_revision changes ≡ false → list_any names_revision written ≡ false
  changes_plain [] written are none = ap (list_any names_revision) are
  changes_plain (c ∷ changes) written are none =
      let parts = or_parts (keeps settings c.path && names_revision c) (names_kept settings names_revision changes) none in
      cases (keeps settings c.path) parts.0 are (λ rest more. changes_plain changes rest more parts.1)
    where
      cases : (b : Bool) → (b && names_revision c) ≡ false
          → MatchBool b
          ((new : Change) × (rest : List Change) × (written ≡ new ∷ rest) × IsNewChange settings IsNew IsNumber c new
          × AreNewChanges settings IsNew IsNumber changes rest)
          (AreNewChanges settings IsNew IsNumber changes written)
          → ((rest : List Change) → AreNewChanges settings IsNew IsNumber changes rest
          → list_any names_revision rest ≡ false)
          → list_any names_revision written ≡ false
      cases true none (new, rest, same, is, more) later = ap (list_any names_revision) same
          ∙ or_from (names_revision new) (list_any names_revision rest) (change_plain c new is none) (later rest more)
      cases false none more later = later written more

  -- all revisions
  pub revisions_plain : (rule : EmptyRule) (revisions written : List (List Change))
      → AreNewRevisions settings IsNew IsNumber rule revisions written
      → names_none settings names_revision revisions ≡ true → name_no_revision written ≡ true
  revisions_plain rule [] written are none = ap name_no_revision are
  revisions_plain rule (changes ∷ revisions) written are none =
      let parts = and_parts (not (names_kept settings names_revision changes))
      (names_none settings names_revision revisions) none in
      cases (keeps_revision settings rule changes) parts.0 are
      (λ rest more. revisions_plain rule revisions rest more parts.1)
    where
      cases : (b : Bool) → not (names_kept settings names_revision changes) ≡ true
          → MatchBool b
          ((new : List Change) × (rest : List (List Change)) × (written ≡ new ∷ rest)
          × AreNewChanges settings IsNew IsNumber changes new
          × AreNewRevisions settings IsNew IsNumber rule revisions rest)
          (AreNewRevisions settings IsNew IsNumber rule revisions written)
          → ((rest : List (List Change)) → AreNewRevisions settings IsNew IsNumber rule revisions rest
          → name_no_revision rest ≡ true)
          → name_no_revision written ≡ true
      cases true none (new, rest, same, first, more) later = ap name_no_revision same
          ∙ and_from (not (list_any names_revision new)) (name_no_revision rest)
          (not_from_false _ (changes_plain changes new first (not-true _ none))) (later rest more)
      cases false none more later = later written more
