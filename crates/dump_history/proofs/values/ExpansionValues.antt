-- Examples for the definitions of expanded dumps.
use Rattle.dump_history.proofs.Prelude.{◌≡◌, arith, refl, ap, absurd_bool, DumpRecord, record_text, is_some, path_of, Tree, root_alone, Patching, MakesChange, slice_get}
use Rattle.std.proofs.Common.{true, false, List, [], ◌∷◌, Some, codes}
use Rattle.std.specs.Fmt.{digits}
use Rattle.dump_trees.specs.steps.Expansions.{Expands}
use Rattle.dump_trees.specs.steps.ExpansionCases.{deletion_of}
use Rattle.dump_trees.specs.steps.WritingOut.{directory_of}
use Rattle.dump_history.specs.WrittenNodes.{WrittenNode}
use Rattle.dump_history.specs.steps.WrittenNodes.{replacing}
use Rattle.dump_history.specs.steps.ExpandedDumps.{OwnForm, Stead, as_replacement, may_stand, IsSameRecord}
use Rattle.dump_history.specs.ExpandedText.{AreRecordTexts}
use Rattle.dump_history.specs.steps.ExpandedText.{changes_for, node_steads, stead_groups, made_in_stead}
use Rattle.dump_history.proofs.values.WorkedDump.{line, record_at, version, one, settings, none_of}
use Rattle.dump_history.proofs.values.WorkedExpansion.{other, copy, records, steads, stays, trunk, adds_other, copies_other, first_tree, second_tree, revisions}

-- what may replace a record

-- these nodes, and then this part of the record
abbrev stead : List WrittenNode → OwnForm → Stead
stead nodes own = record { nodes = nodes; own = own }

abbrev deletes_trunk : WrittenNode
deletes_trunk = WrittenNode.Deletion (codes "trunk")

-- a node that only changes, but names a copy source
abbrev idle : DumpRecord
idle = record_at 0 (line (codes "Node-path") (codes "trunk")
    ∷ line (codes "Node-action") (codes "change")
    ∷ line (codes "Node-copyfrom-rev") (codes "1")
    ∷ line (codes "Node-copyfrom-path") (codes "other")
    ∷ line (codes "Text-copy-source-md5") (codes "1cb2") ∷ [])

itself : may_stand version (stead [] OwnForm.AsItIs) ≡ true
itself = refl

nodes_alone : may_stand copy (stead (deletes_trunk ∷ trunk ∷ []) OwnForm.LeftOut) ≡ true
unfolding digits
nodes_alone = refl

-- deletions, and the node after them
nodes_before : may_stand copy (stead (deletes_trunk ∷ []) OwnForm.AsItIs) ≡ true
nodes_before = refl

no_nodes_for_a_revision : may_stand one (stead (deletes_trunk ∷ []) OwnForm.AsItIs) ≡ false
no_nodes_for_a_revision = refl

no_revision_left_out : may_stand one (stead [] OwnForm.LeftOut) ≡ false
no_revision_left_out = refl

no_other_node : may_stand copy (stead (WrittenNode.Deletion (codes "a\nb") ∷ []) OwnForm.LeftOut) ≡ false
no_other_node = refl

copy_replaces : may_stand copy (stead [] OwnForm.Replacing) ≡ true
copy_replaces = refl

no_change_replaces : may_stand idle (stead [] OwnForm.Replacing) ≡ false
no_change_replaces = refl

-- what remains of a record

lines_replacing : (as_replacement copy).headers ≡ line (codes "Node-path") (codes "trunk")
    ∷ line (codes "Node-kind") (codes "dir")
    ∷ line (codes "Node-action") (codes "replace")
    ∷ line (codes "Node-copyfrom-rev") (codes "1")
    ∷ line (codes "Node-copyfrom-path") (codes "other") ∷ []
lines_replacing = refl

replaces_copy : (patched : Patching) → MakesChange patched (as_replacement copy) (replacing true copies_other)
replaces_copy patched = ([], none_of (as_replacement copy) refl, refl, refl)

-- the same record may be at another place, but under another version it is another record

elsewhere : IsSameRecord copy (record copy { place = 7 })
elsewhere = record { version = refl; headers = refl; props = refl; text = refl }

not_under_3 : IsSameRecord copy (record copy { version = 3 }) → ⊥
not_under_3 same = absurd (omega (arith, same.version))

-- texts

two_texts : AreRecordTexts (one ∷ other ∷ [])
    (codes "Revision-number: 1\n\n\nNode-path: other\nNode-kind: dir\nNode-action: add\n\n")
two_texts = (1, record_text other, refl, (0, [], refl, refl))

not_without_one : AreRecordTexts (one ∷ []) [] → ⊥
not_without_one (lfs, rest, is, more) = cc

-- changes in place of others

deletes_first : changes_for (stead (deletes_trunk ∷ []) OwnForm.AsItIs) copies_other
    ≡ deletion_of (path_of (codes "trunk")) ∷ copies_other ∷ []
deletes_first = refl

replaced : changes_for (stead [] OwnForm.Replacing) copies_other ≡ replacing true copies_other ∷ []
replaced = refl

none_left : changes_for (stead [] OwnForm.LeftOut) copies_other ≡ []
none_left = refl

-- what replaces the nodes of the example dump's revisions
its_groups : stead_groups records steads
    ≡ [] ∷ (stays ∷ []) ∷ (stead (trunk ∷ []) OwnForm.LeftOut ∷ []) ∷ []
its_groups = refl

first_nodes : node_steads (other ∷ copy ∷ one ∷ copy ∷ []) (stays ∷ stays ∷ stays ∷ stays ∷ []) ≡ stays ∷ stays ∷ []
first_nodes = refl

its_changes : made_in_stead records steads revisions
    ≡ (adds_other ∷ []) ∷ (directory_of (path_of (codes "trunk")) [] ∷ []) ∷ []
its_changes = refl

-- nothing in place of the copy is no expansion of it, since what it makes would be missing
lacks_copy : Expands settings (slice_get (root_alone ∷ first_tree ∷ [])) first_tree copies_other [] → ⊥
lacks_copy expands =
    let leads = expands second_tree refl in
    let same : Some first_tree ≡ Some second_tree = leads.same in
    let one : first_tree ≡ second_tree = cc in
    absurd_bool (is_some (first_tree (path_of (codes "trunk"))))
    (ap (λ (t : Tree). is_some (t (path_of (codes "trunk")))) one) refl
