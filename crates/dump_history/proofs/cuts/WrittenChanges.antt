-- What the filter writes of changes comes from the kept changes from which these come.
use Rattle.dump_history.proofs.Prelude.{◌≡◌, true, refl, sym, ◌∙◌, subst, MatchBool-at_false, Property, Settings, keeps, NodePath, Made, PropertyChange, Change, NewProperty, NewNumber, AreNewProps, EmptyRule, AreNewChanges, AreNewRevisions, keeps_revision, AllZip}
use Rattle.std.proofs.Common.{ℕ, Bool, false, List, [], ◌∷◌, Option, Some, None}
use Rattle.std.specs.List.{All}
use Rattle.std.proofs.lemmas.Bool.{MatchBool-at_true}
use Rattle.std.proofs.lemmas.List.Elements.{All-nil, All-cons, All-head, All-tail, All-same}
use Rattle.dump_trees.specs.steps.Restriction.{IsNewChange, IsNewMade}
use Rattle.dump_trees.specs.steps.Trimming.{IsSameNumber}
use Rattle.dump_trees.specs.ComingBack.{entries_in, SetsProperty, SomeKeptDoes}
use Rattle.dump_history.specs.KeptChanges.{CopiesPart, ComesOfKept}

-- a property stays as it is
abbrev pub IsSameProperty : NewProperty
IsSameProperty old new = new ≡ old

-- kept changes have set the property
abbrev IsSet : Settings → List (List Change) → Property → Type 0
IsSet settings revisions p = SomeKeptDoes settings revisions (SetsProperty p)

module _ (settings : Settings) (revisions : List (List Change)) (IsNew : NewProperty) (IsNumber : NewNumber) where
  -- an entry that is written is an entry that was set
  zip_set : (olds news : List Property) → AllZip IsNew olds news
      → All (λ new. (old : Property) × IsSameProperty old new × IsSet settings revisions old) olds
      → All (λ new. (old : Property) × IsNew old new × IsSet settings revisions old) news
  zip_set [] [] zip sets = All-nil (λ new. (old : Property) × IsNew old new × IsSet settings revisions old)
  zip_set [] (new ∷ news) zip sets = absurd zip
  zip_set (old ∷ olds) [] zip sets = absurd zip
  zip_set (old ∷ olds) (new ∷ news) (one, zip) sets =
      All-cons (λ q. (p : Property) × IsNew p q × IsSet settings revisions p) new news
      (let (p, same, set) =
      All-head (λ q. (p : Property) × IsSameProperty p q × IsSet settings revisions p) old olds sets in
      (old, one, subst (IsSet settings revisions) (sym same) set))
      (zip_set olds news zip
      (All-tail (λ q. (p : Property) × IsSameProperty p q × IsSet settings revisions p) old olds sets))

  props_written : (old new : Option PropertyChange) → AreNewProps IsNew old new
      → All (λ q. (p : Property) × IsSameProperty p q × IsSet settings revisions p) (entries_in old)
      → All (λ q. (p : Property) × IsNew p q × IsSet settings revisions p) (entries_in new)
  props_written None None are sets = All-nil (λ q. (p : Property) × IsNew p q × IsSet settings revisions p)
  props_written None (Some (PropertyChange.Replaced news)) are sets = absurd are
  props_written None (Some (PropertyChange.Edited news)) are sets = absurd are
  props_written (Some (PropertyChange.Replaced olds)) None are sets = absurd are
  props_written (Some (PropertyChange.Replaced olds)) (Some (PropertyChange.Replaced news)) are sets =
      zip_set olds news are sets
  props_written (Some (PropertyChange.Replaced olds)) (Some (PropertyChange.Edited news)) are sets = absurd are
  props_written (Some (PropertyChange.Edited olds)) None are sets = absurd are
  props_written (Some (PropertyChange.Edited olds)) (Some (PropertyChange.Replaced news)) are sets = absurd are
  props_written (Some (PropertyChange.Edited olds)) (Some (PropertyChange.Edited news)) are sets =
      zip_set olds news are sets

  copy_written : (whole : Bool) (old new : Option Made) (number : ℕ) (source old_path path : NodePath) → path ≡ old_path
      → IsNewMade settings IsNumber whole old new → new ≡ Some (Made.Copied number source)
      → ((n : ℕ) (s : NodePath) → old ≡ Some (Made.Copied n s)
      → (m : ℕ) × IsSameNumber m n × SomeKeptDoes settings revisions (CopiesPart old_path m s))
      → (m : ℕ) × IsNumber m number × SomeKeptDoes settings revisions (CopiesPart path m source)
  copy_written whole old None number source old_path path at made is copies =
      absurd (let bad : None ≡ Some (Made.Copied number source) = is in cc)
  copy_written whole old (Some Made.NewDirectory) number source old_path path at made is copies =
      absurd (let bad : Some Made.NewDirectory ≡ Some (Made.Copied number source) = is in cc)
  copy_written whole old (Some Made.NewFile) number source old_path path at made is copies =
      absurd (let bad : Some Made.NewFile ≡ Some (Made.Copied number source) = is in cc)
  copy_written whole None (Some (Made.Copied n s)) number source old_path path at made is copies = absurd made
  copy_written whole (Some Made.NewDirectory) (Some (Made.Copied n s)) number source old_path path at made is copies =
      absurd made
  copy_written whole (Some Made.NewFile) (Some (Made.Copied n s)) number source old_path path at made is copies =
      absurd made
  copy_written whole (Some (Made.Copied m t)) (Some (Made.Copied n s)) number source old_path path at made is copies =
      let both : Some (Made.Copied n s) ≡ Some (Made.Copied number source) = is in
      let first : n ≡ number = cc in
      let second : s ≡ source = cc in
      let (k, same, does) = copies m t refl in (
        m,
        subst (λ x. IsNumber m x) first made.1,
        subst (λ x. SomeKeptDoes settings revisions (CopiesPart path m x)) (sym made.2 ∙ second)
            (subst (λ x. SomeKeptDoes settings revisions (CopiesPart x m t)) (sym at)
            (subst (λ x. SomeKeptDoes settings revisions (CopiesPart old_path x t)) (sym same) does)),
      )

  change_written : (old new : Change) → IsNewChange settings IsNew IsNumber old new
      → ComesOfKept settings revisions IsSameProperty IsSameNumber old → ComesOfKept settings revisions IsNew IsNumber new
  change_written old new is sets = record {
    props = props_written old.props new.props is.props sets.props;
    text = λ change its. sets.text change (sym is.text ∙ its);
    copies = λ number source made.
        copy_written _ old.made new.made number source old.path new.path is.path is.made made sets.copies;
  }

  abbrev IsKeptSet : Change → Type 0
  IsKeptSet d = keeps settings d.path ≡ true → ComesOfKept settings revisions IsSameProperty IsSameNumber d

  changes_written : (changes written : List Change) → All IsKeptSet changes
      → AreNewChanges settings IsNew IsNumber changes written → All (ComesOfKept settings revisions IsNew IsNumber) written
  changes_written [] written sets none =
      All-same (ComesOfKept settings revisions IsNew IsNumber) written [] none (All-nil (ComesOfKept settings revisions IsNew IsNumber))
  changes_written (c ∷ changes) written sets are =
      sides (λ rest more. changes_written changes rest (All-tail IsKeptSet c changes sets) more) (keeps settings c.path) refl
    where
      Later : Type 0
      Later = (rest : List Change) → AreNewChanges settings IsNew IsNumber changes rest
          → All (ComesOfKept settings revisions IsNew IsNumber) rest

      sides : Later → (b : Bool) → keeps settings c.path ≡ b → All (ComesOfKept settings revisions IsNew IsNumber) written
      sides later true kept =
          let (new, rest, is, is_new, more) = MatchBool-at_true _ _ kept are in
          All-same (ComesOfKept settings revisions IsNew IsNumber) written (new ∷ rest) is
          (All-cons (ComesOfKept settings revisions IsNew IsNumber) new rest
          (change_written c new is_new (All-head IsKeptSet c changes sets kept)) (later rest more))
      sides later false left = later written (MatchBool-at_false _ _ left are)

  pub revisions_written : (rule : EmptyRule) (expanded written : List (List Change)) → All (All IsKeptSet) expanded
      → AreNewRevisions settings IsNew IsNumber rule expanded written
      → All (All (ComesOfKept settings revisions IsNew IsNumber)) written
  revisions_written rule [] written sets none =
      All-same (All (ComesOfKept settings revisions IsNew IsNumber)) written [] none
      (All-nil (All (ComesOfKept settings revisions IsNew IsNumber)))
  revisions_written rule (changes ∷ expanded) written sets are =
      sides (λ rest more. revisions_written rule expanded rest (All-tail (All IsKeptSet) changes expanded sets) more)
      (keeps_revision settings rule changes) refl
    where
      Later : Type 0
      Later = (rest : List (List Change)) → AreNewRevisions settings IsNew IsNumber rule expanded rest
          → All (All (ComesOfKept settings revisions IsNew IsNumber)) rest

      sides : Later → (b : Bool) → keeps_revision settings rule changes ≡ b
          → All (All (ComesOfKept settings revisions IsNew IsNumber)) written
      sides later true kept =
          let (new, rest, is, one, more) = MatchBool-at_true _ _ kept are in
          All-same (All (ComesOfKept settings revisions IsNew IsNumber)) written (new ∷ rest) is
          (All-cons (All (ComesOfKept settings revisions IsNew IsNumber)) new rest
          (changes_written changes new (All-head (All IsKeptSet) changes expanded sets) one) (later rest more))
      sides later false left = later written (MatchBool-at_false _ _ left are)
