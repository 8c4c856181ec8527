-- Why a load rejects a change, as determined by the kinds of node that exist at its path, at its parent and at its copy's
-- source (Subversion 1.14, svnadmin load). A load does these things in this order, and stops at the first that it can't do: it
-- deletes, it makes something, it sets properties, it sets a text.
use Rattle.std.specs.Prelude.{◌≡◌, Bool, true, false, Option, Some, None, is_none, is_some}
use Rattle.dump_trees.specs.Changes.{Made, Change}
use Rattle.dump_trees.specs.LoadCheck.{sets_props}
use Rattle.dump_trees.specs.steps.LoadCheck.{Kind, Kinds, kind_left, kind_made, kinds_allow}
use Rattle.dump_trees.specs.Restriction.{is_root}
use Rattle.dump_cut.specs.declared.rejection.Rejection.{Rejection}
use Rattle.dump_cut.specs.declared.rejection.Rejection.TheVariants.{Root, NoPath, NoParent, Exists, NoSource, TextOnDirectory}

-- the first of two reasons, if there is one
abbrev pub first_reason : Option Rejection → Option Rejection → Option Rejection
first_reason None other = other
first_reason (Some reason) other = Some reason

-- why a load rejects a deletion: the root can't be deleted, and what is deleted has to exist
abbrev pub deletion_rejected : Bool → Bool → Option Kind → Option Rejection
deletion_rejected false at_root here = None
deletion_rejected true true here = Some Root
deletion_rejected true false None = Some NoPath
deletion_rejected true false (Some kind) = None

-- why a load rejects a parent: it has to be a directory
abbrev pub parent_rejected : Option Kind → Option Rejection
parent_rejected None = Some NoParent
parent_rejected (Some Kind.Directory) = None
parent_rejected (Some Kind.File) = Some NoParent

-- why a load rejects what is new: it can't be the root, nothing may exist at its path, and its parent has to be a directory
abbrev pub new_rejected : Bool → Option Kind → Option Kind → Option Rejection
new_rejected true left parent = Some Root
new_rejected false None parent = parent_rejected parent
new_rejected false (Some kind) parent = Some Exists

-- why a load rejects a copy: it can't be the root, its source has to exist, and its parent has to be a directory
abbrev pub copying_rejected : Bool → Option Kind → Option Kind → Option Rejection
copying_rejected true source parent = Some Root
copying_rejected false None parent = Some NoSource
copying_rejected false (Some kind) parent = parent_rejected parent

-- why a load rejects what a change makes, if this is left at its path after the deletion
abbrev pub making_rejected : Option Made → Bool → Option Kind → Kinds → Option Rejection
making_rejected None at_root left kinds = None
making_rejected (Some Made.NewDirectory) at_root left kinds = new_rejected at_root left kinds.parent
making_rejected (Some Made.NewFile) at_root left kinds = new_rejected at_root left kinds.parent
making_rejected (Some (Made.Copied number source)) at_root left kinds = copying_rejected at_root kinds.source kinds.parent

-- why a load rejects properties: a node has to exist on which they are set
abbrev pub props_rejected : Bool → Option Kind → Option Rejection
props_rejected false made = None
props_rejected true None = Some NoPath
props_rejected true (Some kind) = None

-- why a load rejects a text: a file has to exist on which it is set
abbrev pub text_rejected : Bool → Option Kind → Option Rejection
text_rejected false made = None
text_rejected true None = Some NoPath
text_rejected true (Some Kind.Directory) = Some TextOnDirectory
text_rejected true (Some Kind.File) = None

-- why a load rejects properties or a text, if this exists at the path by then
abbrev pub setting_rejected : Bool → Bool → Option Kind → Option Rejection
setting_rejected props text made = first_reason (props_rejected props made) (text_rejected text made)

-- why a load rejects the change, if these kinds exist
abbrev pub rejected_for : Change → Kinds → Option Rejection
rejected_for c kinds =
    first_reason (deletion_rejected c.deletes (is_root c.path) kinds.here)
    (first_reason (making_rejected c.made (is_root c.path) (kind_left c.deletes kinds.here) kinds)
    (setting_rejected (sets_props c.props) (is_some c.text)
    (kind_made c.made (kind_left c.deletes kinds.here) kinds.source)))

-- a load rejects a change for a reason exactly if these kinds don't allow it. Above the root nothing exists
abbrev pub RejectedIsNotAllowed : Type 0
RejectedIsNotAllowed = (c : Change) (kinds : Kinds) → (is_root c.path ≡ true → kinds.parent ≡ None)
    → is_none (rejected_for c kinds) ≡ kinds_allow c kinds
