-- Changes of a tree: what svnadmin load does with the nodes of a dump (Subversion 1.14, load-fs-vtable.c).
use Rattle.std.specs.Prelude.{ℕ, Bool, true, false, not, ◌&&◌, List, [], ◌∷◌, ◌++◌, Option, Some, None, option_map, option_and_then, is_some, is_none, filter, bytes_eq, if◌then◌else◌}
use Rattle.dump_text.specs.PropertyList.{Property}
use Rattle.dump_trees.specs.Paths.{NodePath, parent_of}
use Rattle.dump_trees.specs.Trees.{Node, Tree, is_directory_node, grafted, put, empty_tree}

-- what a change makes at its path: a new directory or file, or a copy of a path in an earlier revision
pub data Made : Type 0 where
  NewDirectory : Made
  NewFile : Made
  Copied : (number : ℕ) → (source : NodePath) → Made

-- whether something is copied
abbrev pub is_copied : Option Made → Bool
is_copied None = false
is_copied (Some Made.NewDirectory) = false
is_copied (Some Made.NewFile) = false
is_copied (Some (Made.Copied number source)) = true

-- what a change does to a node's properties: the entries replace the old properties, or they edit them, as a property
-- delta does. An entry sets a property; without a value it removes the property
pub data PropertyChange : Type 0 where
  Replaced : (entries : List Property) → PropertyChange
  Edited : (entries : List Property) → PropertyChange

-- what a change does to a file's text: it replaces the text, or it applies a text delta. The result of the delta is
-- none if the load rejects it over this text
pub data TextChange : Type 0 where
  Replaced : (text : List ℕ) → TextChange
  Patched : (patch : List ℕ → Option (List ℕ)) → TextChange

-- a change: it deletes what exists at its path, makes something there, and sets properties and a text, or it does only
-- some of these, in this order
pub record Change : Type 0 where
  pub path : NodePath
  pub deletes : Bool
  pub made : Option Made
  pub props : Option PropertyChange
  pub text : Option TextChange

-- the trees of the earlier revisions, by their numbers
abbrev pub History : Type 0
History = ℕ → Option Tree

-- whether there is a parent, and a directory exists there
abbrev pub is_directory_at : Tree → Option NodePath → Bool
is_directory_at tree None = false
is_directory_at tree (Some parent) = is_directory_node (tree parent)

-- whether something may be made at the path: its parent is a directory
abbrev pub has_directory : Tree → NodePath → Bool
has_directory tree path = is_directory_at tree (parent_of path)

-- the tree without what exists at the path and below it, if the change deletes. A deletion is rejected at the root, and
-- if nothing exists at the path
abbrev pub deleted : Bool → NodePath → Tree → Option Tree
deleted false top tree = Some tree
deleted true top tree =
    if is_some (parent_of top) && is_some (tree top) then Some (grafted top empty_tree tree) else None

-- the tree with a new node; rejected if something exists at the path, and if its parent isn't a directory
abbrev pub node_put : Node → NodePath → Tree → Option Tree
node_put node top tree = if is_none (tree top) && has_directory tree top then Some (put top node tree) else None

-- the tree with a copy in place of what exists at the path; rejected if the source doesn't exist, and if the path's
-- parent isn't a directory. When the revision ends, the load also rejects a copy over something at a path that the same
-- revision changed before or deletes afterwards. That is accepted here, so more loads here than there
abbrev pub copied : NodePath → NodePath → Tree → Tree → Option Tree
copied source top tree old =
    if is_some (old source) && has_directory tree top then Some (grafted top (λ rest. old (source ++ rest)) tree) else None

-- the tree with what a change makes; a copy is rejected if its revision doesn't exist
abbrev pub made_in : History → Option Made → NodePath → Tree → Option Tree
made_in history None top tree = Some tree
made_in history (Some Made.NewDirectory) top tree = node_put (Node.Directory []) top tree
made_in history (Some Made.NewFile) top tree = node_put (Node.File [] []) top tree
made_in history (Some (Made.Copied number source)) top tree =
    option_and_then (λ old. copied source top tree old) (history number)

-- the properties with this entry: the property of its name is removed, and the entry comes last if it has a value. The
-- order of properties can't be observed in a repository
abbrev pub with_entry : Property → List Property → List Property
with_entry entry props =
    filter (λ (p : Property). not (bytes_eq p.name entry.name)) props
    ++ (if is_some entry.value then entry ∷ [] else [])

-- the properties with these entries, one after the other: of two entries of one name the later one counts
abbrev pub edited_with : List Property → List Property → List Property
edited_with [] props = props
edited_with (entry ∷ entries) props = edited_with entries (with_entry entry props)

-- the new properties of a node that has these old ones
abbrev pub new_props : PropertyChange → List Property → List Property
new_props (PropertyChange.Replaced entries) old = edited_with entries []
new_props (PropertyChange.Edited entries) old = edited_with entries old

-- the node with its new properties
abbrev pub with_props : PropertyChange → Node → Node
with_props change (Node.Directory old) = Node.Directory (new_props change old)
with_props change (Node.File old text) = Node.File (new_props change old) text

-- the new text of a file that has this old one; none if the load rejects the delta
abbrev pub new_text : TextChange → List ℕ → Option (List ℕ)
new_text (TextChange.Replaced text) old = Some text
new_text (TextChange.Patched patch) old = patch old

-- the file with its new text; rejected for a directory, and if the load rejects the delta
abbrev pub with_text : TextChange → Node → Option Node
with_text change (Node.Directory props) = None
with_text change (Node.File props old) = option_map (λ text. Node.File props text) (new_text change old)

-- the tree with the new properties of what exists at the path; rejected if nothing exists there
abbrev pub props_put : PropertyChange → NodePath → Tree → Option Tree
props_put change top tree = option_map (λ node. put top (with_props change node) tree) (tree top)

-- the tree with the properties that a change sets; an edit without entries is accepted even if nothing exists at the
-- path
abbrev pub props_set : Option PropertyChange → NodePath → Tree → Option Tree
props_set None top tree = Some tree
props_set (Some (PropertyChange.Replaced entries)) top tree = props_put (PropertyChange.Replaced entries) top tree
props_set (Some (PropertyChange.Edited [])) top tree = Some tree
props_set (Some (PropertyChange.Edited (entry ∷ entries))) top tree =
    props_put (PropertyChange.Edited (entry ∷ entries)) top tree

-- the tree with the text that a change sets; rejected if no file exists at the path, and if the load rejects the delta
abbrev pub text_set : Option TextChange → NodePath → Tree → Option Tree
text_set None top tree = Some tree
text_set (Some change) top tree =
    option_map (λ node. put top node tree) (option_and_then (λ node. with_text change node) (tree top))

-- the tree after a change; none if the load rejects it
abbrev pub step : History → Tree → Change → Option Tree
step history tree c =
    option_and_then (λ t. text_set c.text c.path t)
    (option_and_then (λ t. props_set c.props c.path t)
    (option_and_then (λ t. made_in history c.made c.path t)
    (deleted c.deletes c.path tree)))

-- the tree after the changes of a revision, in order
abbrev pub steps : History → Tree → List Change → Option Tree
steps history tree [] = Some tree
steps history tree (c ∷ changes) = option_and_then (λ t. steps history t changes) (step history tree c)
