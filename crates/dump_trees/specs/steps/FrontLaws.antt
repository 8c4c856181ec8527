-- The laws of the first revisions of a dump: they hold whatever changes the revisions after them make, even if one of
-- these is rejected or isn't separated.
use Rattle.std.specs.Prelude.{◌≡◌, List, [], ◌∷◌, ◌++◌, length, Some, IsTrue}
use Rattle.dump_text.specs.PropertyList.{Property}
use Rattle.dump_rules.specs.Settings.{Settings}
use Rattle.dump_rules.specs.Renumbering.{KeptRevisions, image}
use Rattle.dump_trees.specs.Trees.{Tree, root_alone}
use Rattle.dump_trees.specs.Changes.{Change}
use Rattle.dump_trees.specs.Restriction.{given, NewProperty}
use Rattle.dump_trees.specs.steps.Restriction.{KeepsEntries}
use Rattle.dump_trees.specs.steps.StepLaws.{IsMade}
use Rattle.dump_trees.specs.Revisions.{loaded_over, IsWrittenNumber, AllRevisionsSeparate}
use Rattle.dump_trees.specs.steps.Revisions.{EmptyRule, stays_numbered, AreNewRevisions, kept_of, AreFiltered}
use Rattle.dump_trees.specs.HistoryLaws.{ImagesRestrict}

-- what is written begins with what is written for the first revisions. This part, loaded over the given directories,
-- has a revision for each kept one of them. The tree at the image of each of their numbers is the restricted tree. The
-- numbers and images are those of the entire dump
pub record FrontLoads (settings : Settings) (IsNew : NewProperty) (rule : EmptyRule) (kept : KeptRevisions)
    (front written : List (List Change)) (trees : List Tree) : Type 0 where
  pub first : List (List Change)
  pub more : List (List Change)
  pub others : List Tree
  pub begins : written ≡ first ++ more
  pub new : AreNewRevisions settings IsNew (IsWrittenNumber settings kept) rule front first
  pub loads : loaded_over (given settings) first ≡ Some others
  pub size : length others ≡ length (kept_of settings rule front).numbers
  pub images : ImagesRestrict settings IsNew (image kept) trees others

-- if the first revisions load and are separated, their filtered part loads, and has the restricted trees
abbrev pub FrontRestricts : Settings → NewProperty → Type 0
FrontRestricts settings IsNew = (rule : EmptyRule) (front rest written : List (List Change)) (trees : List Tree) →
    IsTrue (stays_numbered settings rule front)
    → loaded_over root_alone front ≡ Some trees
    → AllRevisionsSeparate settings (root_alone ∷ []) root_alone front
    → AreFiltered settings IsNew rule (front ++ rest) written
    → FrontLoads settings IsNew rule (kept_of settings rule (front ++ rest)) front written trees

-- this holds for each way to make new properties that keeps entries
abbrev pub EachFrontRestricts : Type 0
EachFrontRestricts = (settings : Settings) (make : Property → Property) →
    KeepsEntries (IsMade make) → FrontRestricts settings (IsMade make)

-- if more revisions load, the first ones do, and their trees come first
abbrev pub BegunTreesStay : Type 0
BegunTreesStay = (first : Tree) (front rest : List (List Change)) (all : List Tree) →
    loaded_over first (front ++ rest) ≡ Some all
    → (trees more : List Tree) × (loaded_over first front ≡ Some trees) × (all ≡ trees ++ more)
