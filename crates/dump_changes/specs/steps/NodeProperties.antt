-- The properties of nodes, as a dump's property blocks set them.
use Rattle.std.specs.Prelude.{◌≡◌, ℕ, suc, cond, List, [], ◌∷◌, map, None, Some, slice_get, IsTrue}
use Rattle.dump_text.specs.PropertyList.{Property}
use Rattle.dump_records.specs.RecordText.{DumpRecord}
use Rattle.dump_digest.specs.RecordParts.{is_node}
use Rattle.dump_trees.specs.Paths.{names_of}
use Rattle.dump_trees.specs.Trees.{Node, Tree, root_alone}
use Rattle.dump_trees.specs.Changes.{Change}
use Rattle.dump_trees.specs.steps.ComingBack.{properties_of}
use Rattle.dump_trees.specs.Revisions.{loaded_over}
use Rattle.dump_trees.specs.steps.Looking.{Placed, end_of, look}
use Rattle.dump_history.specs.RecordChanges.{Patching}
use Rattle.dump_history.specs.DumpChanges.{MakeRevisions}
use Rattle.dump_index.specs.steps.Listed.{Listed, all_placed, listed_of}
use Rattle.dump_index.specs.steps.InOrder.{are_in_order}
use Rattle.dump_index.specs.steps.IndexLaws.{AreListed}
use Rattle.dump_index.specs.declared.change.NodeChange.{NodeChange}
use Rattle.dump_changes.specs.steps.ListedDumps.{AreListedIn, NodesMake}

-- the property blocks of records
abbrev pub property_blocks : List DumpRecord → List (List ℕ)
property_blocks records = map (λ (r : DumpRecord). r.props) records

-- the numbers of the nodes among records, the first of which has this number
abbrev pub node_numbers : ℕ → List DumpRecord → List ℕ
node_numbers number [] = []
node_numbers number (r ∷ records) =
    cond (is_node r) (number ∷ node_numbers (suc number) records) (node_numbers (suc number) records)

-- the changes have the numbers of the nodes among these records, in order
abbrev pub HaveNodeNumbers : List DumpRecord → List NodeChange → Type 0
HaveNodeNumbers records changes = map (λ (c : NodeChange). c.record_number) changes ≡ node_numbers 0 records

-- the nodes of the records make changes of a repository, and an index lists these, each with the number of its node's record
pub record ListNodes (patched : Patching) (records : List DumpRecord) (changes : List NodeChange) (placed : List Placed)
    : Type 0 where
  pub make : NodesMake patched None records placed
  pub listed : AreListed changes placed
  pub numbers : HaveNodeNumbers records changes

-- these are the properties of the node that is at the path after so many changes, if they are of the nodes of records that
-- have these property blocks, and a node is there
abbrev pub ArePropertiesAt : List (List ℕ) → List Listed → List ℕ → ℕ → List Property → Type 0
ArePropertiesAt blocks listed path count props =
    (patched : Patching) (records : List DumpRecord) (changes : List NodeChange) (placed : List Placed) (node : Node) →
    blocks ≡ property_blocks records → listed ≡ map listed_of changes → ListNodes patched records changes placed
    → IsTrue (are_in_order 0 changes) → look root_alone placed count (names_of path) ≡ Some node
    → properties_of node ≡ props

-- if the dump loads, the properties that are found after the changes of a revision are those of the node in its tree
abbrev pub PropertiesAreOfTrees : Type 0
PropertiesAreOfTrees = (patched : Patching) (records : List DumpRecord) (changes : List NodeChange)
    (revisions : List (List Change)) (trees : List Tree) (number : ℕ) (tree : Tree) (path : List ℕ) (node : Node)
    (props : List Property) →
    AreListedIn records changes → HaveNodeNumbers records changes → IsTrue (are_in_order 0 changes)
    → MakeRevisions patched records revisions → loaded_over root_alone revisions ≡ Some trees
    → slice_get trees number ≡ Some tree → tree (names_of path) ≡ Some node
    → ArePropertiesAt (property_blocks records) (map listed_of changes) path
    (end_of (all_placed (map listed_of changes)) number) props
    → properties_of node ≡ props
