-- Copies that are trimmed. A copy can take to excluded paths what is kept at its source. It is written as it is, and
-- deletions follow it and remove what it takes there. So nothing has to be written as an addition.
use Rattle.std.specs.Prelude.{◌≡◌, ◌⊎◌, ℕ, not, List, [], ◌∷◌, ◌++◌, length, Some, is_some, slice_get, if◌then◌else◌, MatchBool, IsTrue, IsFalse}
use Rattle.std.specs.List.{AllZip, list_all, list_any}
use Rattle.dump_text.specs.PropertyList.{Property}
use Rattle.dump_rules.specs.declared.options.Side.TheVariants.{Exclude}
use Rattle.dump_rules.specs.Settings.{Settings}
use Rattle.dump_trees.specs.Paths.{NodePath, keeps, below}
use Rattle.dump_trees.specs.Trees.{Tree, root_alone}
use Rattle.dump_trees.specs.steps.Trees.{HasDirectories}
use Rattle.dump_trees.specs.Changes.{Made, Change, History, step, steps}
use Rattle.dump_trees.specs.Restriction.{NewProperty, NewNumber, IsRestricted}
use Rattle.dump_trees.specs.steps.Restriction.{KeepsEntries, IsNewChange}
use Rattle.dump_trees.specs.Separation.{Separates}
use Rattle.dump_rules.specs.Renumbering.{image}
use Rattle.dump_trees.specs.Revisions.{loaded_over, IsWrittenNumber}
use Rattle.dump_trees.specs.steps.Revisions.{EmptyRule, keeps_revision, kept_of}
use Rattle.dump_trees.specs.HistoryLaws.{ImagesRestrict}
use Rattle.dump_trees.specs.steps.StepLaws.{AllHaveDirectories, AreRestricted, IsMade, IsRenumbered}
use Rattle.dump_trees.specs.steps.ExpansionCases.{deletions, none_is_below}
use Rattle.dump_trees.specs.steps.ComingBack.{ComesBack}

-- these rests cover what a copy of the source takes from kept paths to ones that aren't kept. At each something exists,
-- and none of them is at or below one before it. Each rest that the copy takes so is at or below one of them
pub record CoverTaken (settings : Settings) (old : Tree) (path source : NodePath) (rests : List NodePath)
    : Type 0 where
  pub kept : IsTrue (list_all (λ rest. keeps settings (source ++ rest)) rests)
  pub left : IsTrue (list_all (λ rest. not (keeps settings (path ++ rest))) rests)
  pub stand : IsTrue (list_all (λ rest. is_some (old (source ++ rest))) rests)
  pub apart : IsTrue (none_is_below rests)
  pub all : (rest : NodePath) → IsTrue (is_some (old (source ++ rest))) → IsTrue (keeps settings (source ++ rest))
      → IsFalse (keeps settings (path ++ rest)) → IsTrue (list_any (λ other. is_some (below other rest)) rests)

-- revisions

-- these rests of a change's path are deleted after it: none, if the change is separated; or if it is a copy by which
-- nothing comes back, what it takes to paths that aren't kept
abbrev pub IsTrimmed : Settings → History → Tree → Change → List NodePath → Type 0
IsTrimmed settings history before c rests =
    ((rests ≡ []) × ((after : Tree) → step history before c ≡ Some after → Separates settings history before c after))
    ⊎ ((number : ℕ) × (source : NodePath) × (old : Tree) × (c.made ≡ Some (Made.Copied number source))
    × (history number ≡ Some old) × (¬ ComesBack settings history c) × CoverTaken settings old c.path source rests)

-- what is written for the changes of a revision: for each kept one its new form, and the deletions after it; for the
-- others nothing
abbrev pub AreTrimmedChanges : Settings → NewProperty → NewNumber → History → Tree → List Change → List Change → Type 0
AreTrimmedChanges settings IsNew IsNumber history before [] written = written ≡ []
AreTrimmedChanges settings IsNew IsNumber history before (c ∷ changes) written =
    MatchBool (keeps settings c.path)
    ((new : Change) × (rests : List NodePath) × (rest : List Change)
    × (written ≡ new ∷ (deletions c.path rests ++ rest)) × IsNewChange settings IsNew IsNumber c new
    × IsTrimmed settings history before c rests
    × ((after : Tree) → step history before c ≡ Some after
    → AreTrimmedChanges settings IsNew IsNumber history after changes rest))
    ((after : Tree) → step history before c ≡ Some after
    → AreTrimmedChanges settings IsNew IsNumber history after changes written)

-- if prefixes are excluded, this leads from the restricted tree to the restricted one
abbrev pub TrimmedRevisionRestricts : Settings → NewProperty → NewNumber → Type 0
TrimmedRevisionRestricts settings IsNew IsNumber = (history others : History) (before after restricted : Tree)
    (changes written : List Change) →
    settings.side ≡ Exclude
    → AllHaveDirectories history → AreRestricted settings IsNew IsNumber history others
    → HasDirectories before → IsRestricted settings IsNew before restricted
    → steps history before changes ≡ Some after
    → AreTrimmedChanges settings IsNew IsNumber history before changes written
    → (other : Tree) × (steps others restricted written ≡ Some other) × IsRestricted settings IsNew after other

-- this holds for each way to make new properties that keeps entries, and each way to number
abbrev pub EachTrimmedRevisionRestricts : Type 0
EachTrimmedRevisionRestricts = (settings : Settings) (make : Property → Property) (renumber : ℕ → ℕ) →
    KeepsEntries (IsMade make) → TrimmedRevisionRestricts settings (IsMade make) (IsRenumbered renumber)

-- histories whose revisions are all written, each with its own number

-- the number of a copy's revision stays as it is
abbrev pub IsSameNumber : NewNumber
IsSameNumber old new = new ≡ old

-- what is written for the revisions: for each one its changes, trimmed
abbrev pub AreTrimmedRevisions : Settings → NewProperty → List Tree → Tree → List (List Change) → List (List Change)
    → Type 0
AreTrimmedRevisions settings IsNew trees youngest [] written = written ≡ []
AreTrimmedRevisions settings IsNew trees youngest (changes ∷ revisions) written =
    (new : List Change) × (rest : List (List Change)) × (written ≡ new ∷ rest)
    × AreTrimmedChanges settings IsNew IsSameNumber (slice_get trees) youngest changes new
    × ((tree : Tree) → steps (slice_get trees) youngest changes ≡ Some tree
    → AreTrimmedRevisions settings IsNew (trees ++ tree ∷ []) tree revisions rest)

-- if prefixes are excluded, what is written loads into a new repository, and its trees are the restricted ones
abbrev pub TrimmedHistoryRestricts : Settings → NewProperty → Type 0
TrimmedHistoryRestricts settings IsNew = (revisions written : List (List Change)) (trees : List Tree) →
    settings.side ≡ Exclude
    → loaded_over root_alone revisions ≡ Some trees
    → AreTrimmedRevisions settings IsNew (root_alone ∷ []) root_alone revisions written
    → (others : List Tree) × (loaded_over root_alone written ≡ Some others)
    × AllZip (IsRestricted settings IsNew) trees others

-- this holds for each way to make new properties that keeps entries
abbrev pub EachTrimmedHistoryRestricts : Type 0
EachTrimmedHistoryRestricts = (settings : Settings) (make : Property → Property) →
    KeepsEntries (IsMade make) → TrimmedHistoryRestricts settings (IsMade make)

-- histories that are renumbered

-- what is written for the revisions, if a rule says which of those without a kept change are kept: for each kept one
-- its changes, trimmed
abbrev pub AreTrimmedFiltered : Settings → NewProperty → NewNumber → EmptyRule → List Tree → Tree → List (List Change)
    → List (List Change) → Type 0
AreTrimmedFiltered settings IsNew IsNumber rule trees youngest [] written = written ≡ []
AreTrimmedFiltered settings IsNew IsNumber rule trees youngest (changes ∷ revisions) written =
    MatchBool (keeps_revision settings rule changes)
    ((new : List Change) × (rest : List (List Change)) × (written ≡ new ∷ rest)
    × AreTrimmedChanges settings IsNew IsNumber (slice_get trees) youngest changes new
    × ((tree : Tree) → steps (slice_get trees) youngest changes ≡ Some tree
    → AreTrimmedFiltered settings IsNew IsNumber rule (trees ++ tree ∷ []) tree revisions rest))
    ((tree : Tree) → steps (slice_get trees) youngest changes ≡ Some tree
    → AreTrimmedFiltered settings IsNew IsNumber rule (trees ++ tree ∷ []) tree revisions written)

-- if prefixes are excluded and revisions are renumbered, what is written loads into a new repository, and has the
-- restricted trees at the images of the numbers
abbrev pub TrimmedFilteredRestricts : Settings → NewProperty → Type 0
TrimmedFilteredRestricts settings IsNew = (rule : EmptyRule) (revisions written : List (List Change))
    (trees : List Tree) →
    settings.side ≡ Exclude → IsTrue settings.renumber
    → loaded_over root_alone revisions ≡ Some trees
    → AreTrimmedFiltered settings IsNew (IsWrittenNumber settings (kept_of settings rule revisions)) rule
    (root_alone ∷ []) root_alone revisions written
    → (others : List Tree) × (loaded_over root_alone written ≡ Some others)
    × (length others ≡ length (kept_of settings rule revisions).numbers)
    × ImagesRestrict settings IsNew (image (kept_of settings rule revisions)) trees others

-- this holds for each way to make new properties that keeps entries
abbrev pub EachTrimmedFilteredRestricts : Type 0
EachTrimmedFilteredRestricts = (settings : Settings) (make : Property → Property) →
    KeepsEntries (IsMade make) → TrimmedFilteredRestricts settings (IsMade make)
