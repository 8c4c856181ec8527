-- Revisions: how a dump whose revisions are numbered 0, 1, 2 and so on is loaded, and what the filter writes for it.
-- Revision 0 has no changes, so the lists begin with the changes of revision 1.
use Rattle.std.specs.Prelude.{◌≡◌, ℕ, suc, Bool, true, not, ◌&&◌, ◌||◌, List, [], ◌∷◌, if◌then◌else◌, MatchBool}
use Rattle.std.specs.List.{list_all, list_any}
use Rattle.dump_rules.specs.Settings.{Settings}
use Rattle.dump_rules.specs.Renumbering.{KeptRevisions}
use Rattle.dump_trees.specs.Paths.{keeps}
use Rattle.dump_trees.specs.Changes.{is_copied, Change}
use Rattle.dump_trees.specs.Restriction.{NewProperty, NewNumber}
use Rattle.dump_trees.specs.steps.Restriction.{IsNewChange}
use Rattle.dump_trees.specs.Revisions.{IsWrittenNumber}

-- what the filter writes for the changes of a revision: for each kept one its new form, and for the others nothing
abbrev pub AreNewChanges : Settings → NewProperty → NewNumber → List Change → List Change → Type 0
AreNewChanges settings IsNew IsNumber [] written = written ≡ []
AreNewChanges settings IsNew IsNumber (c ∷ changes) written =
    MatchBool (keeps settings c.path)
    ((new : Change) × (rest : List Change) × (written ≡ new ∷ rest) × IsNewChange settings IsNew IsNumber c new
    × AreNewChanges settings IsNew IsNumber changes rest)
    (AreNewChanges settings IsNew IsNumber changes written)

-- which revisions without a kept change are kept
abbrev pub EmptyRule : Type 0
EmptyRule = List Change → Bool

-- whether the filter keeps a revision: one with a kept change, or one that the rule keeps
abbrev pub keeps_revision : Settings → EmptyRule → List Change → Bool
keeps_revision settings rule changes = list_any (λ (c : Change). keeps settings c.path) changes || rule changes

-- whether a kept change of a revision names a revision by its number; the test says which changes do
abbrev pub names_kept : Settings → (Change → Bool) → List Change → Bool
names_kept settings names changes = list_any (λ (c : Change). keeps settings c.path && names c) changes

-- whether no kept change of these revisions does so
abbrev pub names_none : Settings → (Change → Bool) → List (List Change) → Bool
names_none settings names revisions = list_all (λ changes. not (names_kept settings names changes)) revisions

-- whether no kept change of the revisions after the first dropped one does so
abbrev pub names_none_behind : Settings → EmptyRule → (Change → Bool) → List (List Change) → Bool
names_none_behind settings rule names [] = true
names_none_behind settings rule names (changes ∷ revisions) =
    if keeps_revision settings rule changes then names_none_behind settings rule names revisions
    else names_none settings names revisions

-- whether each kept copy still names the revision of its source once the dump is filtered: revisions are renumbered, or
-- no kept change after the first dropped revision is a copy
abbrev pub stays_numbered : Settings → EmptyRule → List (List Change) → Bool
stays_numbered settings rule revisions =
    settings.renumber || names_none_behind settings rule (λ (c : Change). is_copied c.made) revisions

-- what the filter writes for the revisions: for each kept one its written changes, and for the others nothing
abbrev pub AreNewRevisions : Settings → NewProperty → NewNumber → EmptyRule → List (List Change) → List (List Change)
    → Type 0
AreNewRevisions settings IsNew IsNumber rule [] written = written ≡ []
AreNewRevisions settings IsNew IsNumber rule (changes ∷ revisions) written =
    MatchBool (keeps_revision settings rule changes)
    ((new : List Change) × (rest : List (List Change)) × (written ≡ new ∷ rest)
    × AreNewChanges settings IsNew IsNumber changes new × AreNewRevisions settings IsNew IsNumber rule revisions rest)
    (AreNewRevisions settings IsNew IsNumber rule revisions written)

-- the numbers of the kept revisions among these; the first of these, kept or not, has this number
abbrev pub kept_from : Settings → EmptyRule → ℕ → List (List Change) → List ℕ
kept_from settings rule number [] = []
kept_from settings rule number (changes ∷ revisions) =
    if keeps_revision settings rule changes then number ∷ kept_from settings rule (suc number) revisions
    else kept_from settings rule (suc number) revisions

-- the kept revisions of a dump; revision 0 is always kept
abbrev pub kept_of : Settings → EmptyRule → List (List Change) → KeptRevisions
kept_of settings rule revisions = record { first = 0; numbers = 0 ∷ kept_from settings rule 1 revisions }

-- what the filter writes for an entire dump: it renumbers by the kept revisions of this dump
abbrev pub AreFiltered : Settings → NewProperty → EmptyRule → List (List Change) → List (List Change) → Type 0
AreFiltered settings IsNew rule revisions written =
    AreNewRevisions settings IsNew (IsWrittenNumber settings (kept_of settings rule revisions)) rule revisions written
