-- The law of one change: what the filter writes for it does to the restricted tree what it does to the entire one.
use Rattle.std.specs.Prelude.{◌≡◌, ℕ, Some, IsTrue, IsFalse, ◌||◌, not}
use Rattle.dump_text.specs.PropertyList.{Property}
use Rattle.dump_rules.specs.Settings.{Settings}
use Rattle.dump_trees.specs.Paths.{keeps}
use Rattle.dump_trees.specs.Trees.{Tree}
use Rattle.dump_trees.specs.steps.Trees.{HasDirectories}
use Rattle.dump_trees.specs.Changes.{Change, History, step}
use Rattle.dump_trees.specs.Restriction.{is_lost, NewProperty, NewNumber, IsRestricted}
use Rattle.dump_trees.specs.steps.Restriction.{KeepsEntries, sets_whole, filtered_change, IsNewChange}
use Rattle.dump_trees.specs.Separation.{Separates}

-- in each tree of the history, if a node exists at a path, a directory exists at each path above it
abbrev pub AllHaveDirectories : History → Type 0
AllHaveDirectories history = (number : ℕ) (tree : Tree) → history number ≡ Some tree → HasDirectories tree

-- the tree at the number that is written for another is the restricted one
abbrev pub AreRestricted : Settings → NewProperty → NewNumber → History → History → Type 0
AreRestricted settings IsNew IsNumber old new = (number written : ℕ) (tree : Tree) →
    IsNumber number written → old number ≡ Some tree
    → (other : Tree) × (new written ≡ Some other) × IsRestricted settings IsNew tree other

-- the new property is what the function makes of the old one
abbrev pub IsMade : (Property → Property) → NewProperty
IsMade make = λ old new. new ≡ make old

-- the new number is what the function makes of the old one
abbrev pub IsRenumbered : (ℕ → ℕ) → NewNumber
IsRenumbered renumber = λ old new. new ≡ renumber old

-- if a kept change is separated, what the filter writes for it leads from the restricted tree to the restricted one
abbrev pub KeptStepRestricts : Settings → NewProperty → NewNumber → Type 0
KeptStepRestricts settings IsNew IsNumber =
    (history others : History) (before after restricted : Tree) (c new : Change) →
    AllHaveDirectories history → AreRestricted settings IsNew IsNumber history others
    → HasDirectories before → IsRestricted settings IsNew before restricted
    → step history before c ≡ Some after → Separates settings history before c after
    → IsTrue (keeps settings c.path) → IsNewChange settings IsNew IsNumber c new
    → (other : Tree) × (step others restricted new ≡ Some other) × IsRestricted settings IsNew after other

-- a dropped change that is separated leaves the restricted tree as it is
abbrev pub DroppedStepRestricts : Settings → NewProperty → Type 0
DroppedStepRestricts settings IsNew = (history : History) (before after restricted : Tree) (c : Change) →
    IsRestricted settings IsNew before restricted
    → step history before c ≡ Some after → Separates settings history before c after
    → IsFalse (keeps settings c.path) → IsRestricted settings IsNew after restricted

-- both hold for each way to make new properties that keeps entries, and each way to number
abbrev pub EachStepRestricts : Type 0
EachStepRestricts = (settings : Settings) (make : Property → Property) (renumber : ℕ → ℕ) →
    KeepsEntries (IsMade make)
    → KeptStepRestricts settings (IsMade make) (IsRenumbered renumber) × DroppedStepRestricts settings (IsMade make)

-- the filtered change is what the filter writes for a change, if a lost copy is set as a whole; the filter rejects a
-- lost copy that isn't
abbrev pub FilteredIsNew : Type 0
FilteredIsNew = (settings : Settings) (make : Property → Property) (renumber : ℕ → ℕ) (c : Change) →
    IsTrue (not (is_lost settings c.made) || sets_whole c)
    → IsNewChange settings (IsMade make) (IsRenumbered renumber) c (filtered_change settings make renumber c)
