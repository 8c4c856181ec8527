-- What exists at the paths on which a change depends, before the change, as an index finds it.
use Rattle.std.specs.Prelude.{◌≡◌, ℕ, false, List, Option, Some, None, option_and_then, ⊤}
use Rattle.dump_trees.specs.Paths.{names_of, parent_of}
use Rattle.dump_trees.specs.Restriction.{is_root}
use Rattle.dump_index.specs.steps.Kinds.{kind_look}
use Rattle.dump_index.specs.steps.Listed.{Listed}
use Rattle.dump_index.specs.steps.KnownKinds.{source_look}
use Rattle.dump_index.specs.declared.change.NodeChange.{NodeChange}
use Rattle.dump_index.specs.declared.change.NodeKind.{NodeKind}
use Rattle.dump_cut.specs.declared.kinds.Kinds.{Kinds}
use Rattle.dump_cut.specs.declared.seen_parent.Seen.{Seen}
use Rattle.dump_cut.specs.declared.seen_parent.SeenParent.{SeenParent}
use Rattle.dump_cut.specs.steps.ParentTexts.{parent_text}

-- these kinds exist at its path, at its parent and at its copy's source, after the first `count` changes
pub record AreKindsBefore (listed : List Listed) (count : ℕ) (l : Listed) (kinds : Kinds) : Type 0 where
  pub here : kinds.here ≡ kind_look listed count (names_of l.path)
  pub parent : kinds.parent ≡ option_and_then (kind_look listed count) (parent_of (names_of l.path))
  pub source : kinds.source ≡ source_look listed l.revision l.made

-- this is the directory that contains the change, and this kind exists there
pub record IsParentOf (c : NodeChange) (kind : Option NodeKind) (seen : SeenParent) : Type 0 where
  pub below : is_root (names_of c.path.now) ≡ false
  pub path : seen.path.now ≡ parent_text c.path.now
  pub kind_is : seen.kind ≡ kind

-- this kind exists at the cached directory, if there is one, after the first `count` changes
abbrev pub IsSeen : List Listed → ℕ → Option SeenParent → Type 0
IsSeen listed count None = ⊤
IsSeen listed count (Some seen) = seen.kind ≡ kind_look listed count (names_of seen.path.now)

-- this is true of both cached directories
pub record AreSeen (listed : List Listed) (count : ℕ) (seen : Seen) : Type 0 where
  pub last : IsSeen listed count seen.last
  pub other : IsSeen listed count seen.other
