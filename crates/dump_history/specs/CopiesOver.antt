-- Copies over what their own revision changed. svnadmin load takes each node of such a revision, and rejects the revision when
-- it ends (Subversion 1.14, E160004: a new node revision ID without delete). A load as it is defined here takes it.
use Rattle.std.specs.Prelude.{Bool, false, not, ◌&&◌, ◌||◌, List, [], ◌∷◌, Option, Some, None, is_some}
use Rattle.std.specs.List.{list_any}
use Rattle.dump_trees.specs.Changes.{Change, is_copied}
use Rattle.dump_trees.specs.EverSiblings.{does_something}
use Rattle.dump_trees.specs.Paths.{NodePath, below}

-- whether the revision has changed what exists at a path, after this change, if the path has this rest below the change's own; and
-- it had or hadn't before the change. A change that does nothing changes nothing. What was deleted, or came with
-- a copy of a directory above, is not changed; and below what is made new nothing exists
abbrev pub is_changed_after : Option NodePath → Change → Bool → Bool
is_changed_after None c changed = changed
is_changed_after (Some []) c changed = is_some c.made || (not c.deletes && (changed || does_something c))
is_changed_after (Some (name ∷ rest)) c changed = changed && not (c.deletes || is_some c.made)

-- whether the change copies to a path that has this rest below its own, without deleting first what exists there
abbrev pub copies_to : Option NodePath → Change → Bool
copies_to None c = false
copies_to (Some []) c = is_copied c.made && not c.deletes
copies_to (Some (name ∷ rest)) c = false

-- whether one of these changes of a revision copies over what the revision has changed at the path; and before them it had
-- changed that or hadn't
abbrev pub copies_over_changed : NodePath → Bool → List Change → Bool
copies_over_changed path changed [] = false
copies_over_changed path changed (c ∷ changes) =
    (changed && copies_to (below c.path path) c)
    || copies_over_changed path (is_changed_after (below c.path path) c changed) changes

-- whether one of the revisions has such a copy
abbrev pub some_copies_over : NodePath → List (List Change) → Bool
some_copies_over path revisions = list_any (λ changes. copies_over_changed path false changes) revisions
