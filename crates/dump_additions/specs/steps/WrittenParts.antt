-- The changes that write the parts of a copy.
use Rattle.std.specs.Prelude.{◌≡◌, ℕ, true, List, [], ◌∷◌, ◌++◌, Option, Some, None}
use Rattle.std.specs.List.{AllZip}
use Rattle.dump_text.specs.PropertyList.{Property}
use Rattle.dump_trees.specs.steps.Branches.{Branch, Branches, HasBranch, is_distinct}
use Rattle.dump_trees.specs.Changes.{Change, History, PropertyChange, edited_with, new_props}
use Rattle.dump_trees.specs.steps.ComingBack.{properties_of}
use Rattle.dump_trees.specs.Paths.{NodePath}
use Rattle.dump_trees.specs.Trees.{Node, Tree}
use Rattle.dump_trees.specs.steps.WritingOut.{WritesOut, copy_of, file_of, directory_of}
use Rattle.dump_filter.specs.FilterLaws.{keep_all}
use Rattle.dump_additions.specs.declared.parts.Form.{Form}
use Rattle.dump_additions.specs.declared.parts.Form.TheVariants.{Copy, Directory, File}
use Rattle.dump_additions.specs.steps.Parts.{PartMeant}

module _ (old : Tree) (number : ℕ) (path source : NodePath) where
  -- the entries make the properties of what exists at this rest of the source
  abbrev pub AreEntriesAt : NodePath → List Property → Type 0
  AreEntriesAt rest entries = (node : Node) → old (source ++ rest) ≡ Some node
      → edited_with entries [] ≡ properties_of node

  -- the change writes what exists at this rest in this form
  abbrev pub IsChangeOfForm : Form → NodePath → Change → Type 0
  IsChangeOfForm Copy rest c = c ≡ copy_of number (source ++ rest) (path ++ rest)
  IsChangeOfForm Directory rest c =
      (entries : List Property) × (c ≡ directory_of (path ++ rest) entries) × AreEntriesAt rest entries
  IsChangeOfForm File rest c = (entries : List Property) × (text : List ℕ) × (c ≡ file_of (path ++ rest) entries text)
      × AreEntriesAt rest entries
      × ((props : List Property) (its : List ℕ) → old (source ++ rest) ≡ Some (Node.File props its) → its ≡ text)

  abbrev pub IsChangeFor : PartMeant → Change → Type 0
  IsChangeFor part c = IsChangeOfForm part.form part.rest c

  -- the changes write the parts, one change for each
  abbrev pub AreChangesFor : List PartMeant → List Change → Type 0
  AreChangesFor parts changes = AllZip IsChangeFor parts changes

-- the changes make at the path exactly what exists at the source in the old tree, if nothing exists at the path
pub record IsPartWritten (history : History) (old : Tree) (path source : NodePath) (changes : List Change) : Type 0 where
  pub branch : Branch
  pub exists : HasBranch old source branch
  pub distinct : is_distinct branch ≡ true
  pub out : WritesOut keep_all history path branch changes

-- the properties after a change has copied some and set others
abbrev pub props_made : Option PropertyChange → List Property → List Property
props_made None props = props
props_made (Some change) props = new_props change props

-- the changes make at the path the directory that exists at the source, with these entries in place of its properties
pub record IsDirectoryWritten (history : History) (old : Tree) (path source : NodePath) (own : List Property)
    (changes : List Change) : Type 0 where
  pub props : List Property
  pub inside : Branches
  pub exists : HasBranch old source (Branch.Directory props inside)
  pub distinct : is_distinct (Branch.Directory props inside) ≡ true
  pub out : (new : List Property) → edited_with own [] ≡ new
      → WritesOut keep_all history path (Branch.Directory new inside) (directory_of path own ∷ changes)
