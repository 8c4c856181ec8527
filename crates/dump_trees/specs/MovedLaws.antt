-- A dump that is loaded after other revisions: svnadmin load gives its revisions higher numbers, and raises the numbers
-- of its copies by as much (load-fs-vtable.c). It raises the numbers in mergeinfo too, so it sets new properties. An
-- administrator creates the given directories in such revisions.
use Rattle.std.specs.Prelude.{◌≡◌, ℕ, ◌+◌, List, map, Option, Some, None}
use Rattle.std.specs.List.{AllZip}
use Rattle.dump_trees.specs.Changes.{Made, Change}
use Rattle.dump_trees.specs.Restriction.{NewProperty, AreNewProps}

-- what is made, with the number of a copy higher by this many
abbrev pub made_behind : ℕ → Option Made → Option Made
made_behind count None = None
made_behind count (Some Made.NewDirectory) = Some Made.NewDirectory
made_behind count (Some Made.NewFile) = Some Made.NewFile
made_behind count (Some (Made.Copied number source)) = Some (Made.Copied (count + number) source)

-- the change, with the number of its copy higher by this many
abbrev pub change_behind : ℕ → Change → Change
change_behind count c = record c { made = made_behind count c.made }

-- the revisions, with the numbers of all copies higher by this many
abbrev pub revisions_behind : ℕ → List (List Change) → List (List Change)
revisions_behind count revisions = map (λ changes. map (change_behind count) changes) revisions

-- the change that a load makes of another one after this many revisions, if it sets new properties
pub record IsChangeBehind (IsNew : NewProperty) (count : ℕ) (old new : Change) : Type 0 where
  pub path : new.path ≡ old.path
  pub deletes : new.deletes ≡ old.deletes
  pub made : new.made ≡ made_behind count old.made
  pub props : AreNewProps IsNew old.props new.props
  pub text : new.text ≡ old.text

-- the same for the changes of each revision, in order
abbrev pub AreRevisionsBehind : NewProperty → ℕ → List (List Change) → List (List Change) → Type 0
AreRevisionsBehind IsNew count revisions moved =
    AllZip (λ changes others. AllZip (IsChangeBehind IsNew count) changes others) revisions moved
