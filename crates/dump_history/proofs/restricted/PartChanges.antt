-- What the filter writes of the changes of a partial dump, with the numbers that a load gives.
use Rattle.dump_history.proofs.Prelude.{◌≡◌, ◌+◌, Bool, true, map, Option, None, MatchBool, refl, ap, ap₂, ◌∙◌, subst, Settings, keeps, Made, Change, NewProperty, NewNumber, IsNewMade, IsNewChange, sets_whole, made_behind, change_behind, revisions_behind, AreNewChanges, EmptyRule, keeps_revision, AreNewRevisions}
use Rattle.std.proofs.Common.{ℕ, false, List, [], ◌∷◌, Some}

module _ (settings : Settings) (IsNew : NewProperty) (before : ℕ) (Written Loaded : NewNumber)
    (numbers : (n new : ℕ) → Written (before + n) new → (low : ℕ) × (new ≡ before + low) × Loaded n low) where
  -- what is made, with the number that the load gives
  made_lowered : (whole : Bool) (old new : Option Made) → IsNewMade settings Written whole (made_behind before old) new
      → (low : Option Made) × (new ≡ made_behind before low) × IsNewMade settings Loaded whole old low
  made_lowered whole None None is = (None, refl, tt)
  made_lowered whole None (Some Made.NewDirectory) is = absurd is
  made_lowered whole None (Some Made.NewFile) is = absurd is
  made_lowered whole None (Some (Made.Copied new source)) is = absurd is
  made_lowered whole (Some Made.NewDirectory) None is = absurd is
  made_lowered whole (Some Made.NewDirectory) (Some Made.NewDirectory) is = (Some Made.NewDirectory, refl, tt)
  made_lowered whole (Some Made.NewDirectory) (Some Made.NewFile) is = absurd is
  made_lowered whole (Some Made.NewDirectory) (Some (Made.Copied new source)) is = absurd is
  made_lowered whole (Some Made.NewFile) None is = absurd is
  made_lowered whole (Some Made.NewFile) (Some Made.NewDirectory) is = absurd is
  made_lowered whole (Some Made.NewFile) (Some Made.NewFile) is = (Some Made.NewFile, refl, tt)
  made_lowered whole (Some Made.NewFile) (Some (Made.Copied new source)) is = absurd is
  made_lowered whole (Some (Made.Copied n source)) None is = absurd is
  made_lowered whole (Some (Made.Copied n source)) (Some Made.NewDirectory) is = absurd is
  made_lowered whole (Some (Made.Copied n source)) (Some Made.NewFile) is = (Some Made.NewFile, refl, is)
  made_lowered whole (Some (Made.Copied n source)) (Some (Made.Copied new same)) is =
      let (low, new_is, loaded) = numbers n new is.1 in
      (Some (Made.Copied low same), ap (λ m. Some (Made.Copied m same)) new_is, (is.0, loaded, is.2))

  change_lowered : (c new : Change) → IsNewChange settings IsNew Written (change_behind before c) new
      → (low : Change) × (new ≡ change_behind before low) × IsNewChange settings IsNew Loaded c low
  change_lowered c new is =
      let (low, made_is, made) = made_lowered (sets_whole c) c.made new.made is.made in (
        record new { made = low },
        ap (λ m. record new { made = m }) made_is,
        record { path = is.path; deletes = is.deletes; made = made; props = is.props; text = is.text },
      )

  changes_lowered : (changes written : List Change)
      → AreNewChanges settings IsNew Written (map (change_behind before) changes) written
      → (low : List Change) × (written ≡ map (change_behind before) low)
      × AreNewChanges settings IsNew Loaded changes low
  changes_lowered [] written are = ([], are, refl)
  changes_lowered (c ∷ changes) written are =
      cases (keeps settings c.path) are (λ rest more. changes_lowered changes rest more)
    where
      cases : (b : Bool)
          → MatchBool b
          ((new : Change) × (rest : List Change) × (written ≡ new ∷ rest)
          × IsNewChange settings IsNew Written (change_behind before c) new
          × AreNewChanges settings IsNew Written (map (change_behind before) changes) rest)
          (AreNewChanges settings IsNew Written (map (change_behind before) changes) written)
          → ((rest : List Change) → AreNewChanges settings IsNew Written (map (change_behind before) changes) rest
          → (low : List Change) × (rest ≡ map (change_behind before) low)
          × AreNewChanges settings IsNew Loaded changes low)
          → (low : List Change) × (written ≡ map (change_behind before) low)
          × MatchBool b
          ((new : Change) × (rest : List Change) × (low ≡ new ∷ rest) × IsNewChange settings IsNew Loaded c new
          × AreNewChanges settings IsNew Loaded changes rest)
          (AreNewChanges settings IsNew Loaded changes low)
      cases true (new, rest, same, is, more) later =
          let (first, first_is, is_new) = change_lowered c new is in
          let (low, low_is, are_new) = later rest more in
          (first ∷ low, same ∙ ap₂ (λ x xs. x ∷ xs) first_is low_is, (first, low, refl, is_new, are_new))
      cases false more later = later written more

  -- the revisions
  pub revisions_lowered : (rule : EmptyRule)
      → ((changes : List Change) → keeps_revision settings rule (map (change_behind before) changes)
      ≡ keeps_revision settings rule changes)
      → (revisions written : List (List Change))
      → AreNewRevisions settings IsNew Written rule (revisions_behind before revisions) written
      → (low : List (List Change)) × (written ≡ revisions_behind before low)
      × AreNewRevisions settings IsNew Loaded rule revisions low
  revisions_lowered rule same_rule [] written are = ([], are, refl)
  revisions_lowered rule same_rule (changes ∷ revisions) written are =
      cases (keeps_revision settings rule changes)
      (subst (λ b. Writes b written) (same_rule changes) are)
      (λ rest more. revisions_lowered rule same_rule revisions rest more)
    where
      Writes : Bool → List (List Change) → Type 0
      Writes b written = MatchBool b
          ((new : List Change) × (rest : List (List Change)) × (written ≡ new ∷ rest)
          × AreNewChanges settings IsNew Written (map (change_behind before) changes) new
          × AreNewRevisions settings IsNew Written rule (revisions_behind before revisions) rest)
          (AreNewRevisions settings IsNew Written rule (revisions_behind before revisions) written)

      cases : (b : Bool) → Writes b written
          → ((rest : List (List Change))
          → AreNewRevisions settings IsNew Written rule (revisions_behind before revisions) rest
          → (low : List (List Change)) × (rest ≡ revisions_behind before low)
          × AreNewRevisions settings IsNew Loaded rule revisions low)
          → (low : List (List Change)) × (written ≡ revisions_behind before low)
          × MatchBool b
          ((new : List Change) × (rest : List (List Change)) × (low ≡ new ∷ rest)
          × AreNewChanges settings IsNew Loaded changes new
          × AreNewRevisions settings IsNew Loaded rule revisions rest)
          (AreNewRevisions settings IsNew Loaded rule revisions low)
      cases true (new, rest, same, are, more) later =
          let (first, first_is, are_new) = changes_lowered changes new are in
          let (low, low_is, more_new) = later rest more in
          (first ∷ low, same ∙ ap₂ (λ x xs. x ∷ xs) first_is low_is, (first, low, refl, are_new, more_new))
      cases false more later = later written more
