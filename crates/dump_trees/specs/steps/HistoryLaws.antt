-- The laws of a revision and of an entire history.
use Rattle.std.specs.Prelude.{◌≡◌, ℕ, List, [], ◌∷◌, length, Some, IsTrue}
use Rattle.dump_text.specs.PropertyList.{Property}
use Rattle.dump_rules.specs.Settings.{Settings}
use Rattle.dump_rules.specs.Renumbering.{image}
use Rattle.dump_trees.specs.Trees.{Tree, root_alone}
use Rattle.dump_trees.specs.steps.Trees.{HasDirectories}
use Rattle.dump_trees.specs.Changes.{Change, History, steps}
use Rattle.dump_trees.specs.Restriction.{given, NewProperty, NewNumber, IsRestricted}
use Rattle.dump_trees.specs.steps.Restriction.{KeepsEntries}
use Rattle.dump_trees.specs.steps.StepLaws.{AllHaveDirectories, AreRestricted, IsMade, IsRenumbered}
use Rattle.dump_trees.specs.Revisions.{loaded_over, AllSeparate, AllRevisionsSeparate}
use Rattle.dump_trees.specs.steps.Revisions.{AreNewChanges, EmptyRule, stays_numbered, kept_of, AreFiltered}
use Rattle.dump_trees.specs.HistoryLaws.{ImagesRestrict}

-- what the filter writes for the changes of a revision leads from the restricted tree to the restricted one, if each
-- change is separated
abbrev pub RevisionRestricts : Settings → NewProperty → NewNumber → Type 0
RevisionRestricts settings IsNew IsNumber = (history others : History) (before after restricted : Tree)
    (changes written : List Change) →
    AllHaveDirectories history → AreRestricted settings IsNew IsNumber history others
    → HasDirectories before → IsRestricted settings IsNew before restricted
    → steps history before changes ≡ Some after → AllSeparate settings history before changes
    → AreNewChanges settings IsNew IsNumber changes written
    → (other : Tree) × (steps others restricted written ≡ Some other) × IsRestricted settings IsNew after other

-- this holds for each way to make new properties that keeps entries, and each way to number
abbrev pub EachRevisionRestricts : Type 0
EachRevisionRestricts = (settings : Settings) (make : Property → Property) (renumber : ℕ → ℕ) →
    KeepsEntries (IsMade make) → RevisionRestricts settings (IsMade make) (IsRenumbered renumber)

-- if each change is separated, the filtered dump, loaded over the given directories, has a revision for each kept one.
-- The tree at the image of each number is the restricted tree of the entire dump there
abbrev pub HistoryRestricts : Settings → NewProperty → Type 0
HistoryRestricts settings IsNew = (rule : EmptyRule) (revisions written : List (List Change)) (trees : List Tree) →
    IsTrue (stays_numbered settings rule revisions)
    → loaded_over root_alone revisions ≡ Some trees
    → AllRevisionsSeparate settings (root_alone ∷ []) root_alone revisions
    → AreFiltered settings IsNew rule revisions written
    → (others : List Tree) × (loaded_over (given settings) written ≡ Some others)
    × (length others ≡ length (kept_of settings rule revisions).numbers)
    × ImagesRestrict settings IsNew (image (kept_of settings rule revisions)) trees others

-- this holds for each way to make new properties that keeps entries
abbrev pub EachHistoryRestricts : Type 0
EachHistoryRestricts = (settings : Settings) (make : Property → Property) →
    KeepsEntries (IsMade make) → HistoryRestricts settings (IsMade make)
