-- The first change of a dump that a load over an empty repository rejects, and why, as it is found in an index.
use Rattle.std.specs.Prelude.{◌≡◌, ◌<◌, ℕ, List, length, map, Option, Some, None, is_some, slice_get, MatchOption, IsTrue}
use Rattle.std.specs.List.{AllZip}
use Rattle.dump_trees.specs.Changes.{Change}
use Rattle.dump_trees.specs.steps.LoadCheck.{ToldKinds, kinds_told, all_apply, IsRejectedAt}
use Rattle.dump_trees.specs.steps.Looking.{Placed, placed_from}
use Rattle.dump_trees.specs.Revisions.{loaded_over}
use Rattle.dump_trees.specs.Trees.{root_alone}
use Rattle.dump_index.specs.steps.IndexLaws.{AreListed, IsListed}
use Rattle.dump_index.specs.steps.Listed.{Listed, listed_of}
use Rattle.dump_index.specs.steps.ToldKinds.{kinds_told_by}
use Rattle.dump_index.specs.declared.change.NodeChange.{NodeChange}
use Rattle.dump_cut.specs.steps.Rejections.{rejected_for}
use Rattle.dump_cut.specs.declared.load_check.Rejected.{Rejected}
use Rattle.dump_cut.specs.declared.rejection.Rejection.{Rejection}

-- why a load rejects the change at this place
abbrev pub reason_there : ToldKinds → List Placed → ℕ → Option Placed → Option Rejection
reason_there told placed place None = None
reason_there told placed place (Some p) = rejected_for p.change (kinds_told told placed place p)

-- a load rejects none of the first changes, so many
abbrev pub NoneRejected : ToldKinds → List Placed → ℕ → Type 0
NoneRejected told placed count = (place : ℕ) → place < count
    → reason_there told placed place (slice_get placed place) ≡ None

-- a load accepts the changes before this place, and rejects the one there for this reason
pub record IsRejectedFirst (told : ToldKinds) (placed : List Placed) (place : ℕ) (reason : Rejection) : Type 0 where
  pub before : NoneRejected told placed place
  pub there : reason_there told placed place (slice_get placed place) ≡ Some reason

-- of all changes that these can represent, this is the first that a load rejects; or it rejects none
abbrev pub IsFirstRejected : List Listed → Option Rejected → Type 0
IsFirstRejected listed found = (placed : List Placed) → AllZip IsListed listed placed
    → MatchOption found (NoneRejected (kinds_told_by listed) placed (length placed))
    (λ (r : Rejected). IsRejectedFirst (kinds_told_by listed) placed r.place r.rejection)

-- if a load rejects no change, and each text delta applies, the dump loads into an empty repository
abbrev pub UnrejectedLoads : Type 0
UnrejectedLoads = (changes : List NodeChange) (revisions : List (List Change)) →
    AreListed changes (placed_from 1 revisions) → IsFirstRejected (map listed_of changes) None
    → IsTrue (all_apply root_alone (placed_from 1 revisions) (length (placed_from 1 revisions)))
    → IsTrue (is_some (loaded_over root_alone revisions))

-- if a load rejects this change first, and each text delta before it applies, the changes before it load. The same
-- changes with this one don't load, and the dump doesn't
abbrev pub RejectedIsFirst : Type 0
RejectedIsFirst = (changes : List NodeChange) (revisions : List (List Change)) (r : Rejected) (p : Placed) →
    AreListed changes (placed_from 1 revisions) → IsFirstRejected (map listed_of changes) (Some r)
    → slice_get (placed_from 1 revisions) r.place ≡ Some p
    → IsTrue (all_apply root_alone (placed_from 1 revisions) r.place)
    → IsRejectedAt root_alone revisions r.place p.change
