-- The changes of an index, and the changes of a repository that they represent.
use Rattle.std.specs.Prelude.{ℕ, Bool, List, [], map, Option, Some, None, option_map}
use Rattle.dump_trees.specs.Paths.{names_of}
use Rattle.dump_trees.specs.Changes.{Made, PropertyChange, TextChange}
use Rattle.dump_trees.specs.steps.Looking.{Placed}
use Rattle.dump_index.specs.declared.change.NodeChange.{NodeChange}
use Rattle.dump_index.specs.declared.change.NodeMade.{NodeMade}
use Rattle.dump_index.specs.declared.change.NodeMade.TheVariants.{Directory, File, CopyOf}
use Rattle.dump_index.specs.declared.change.Setting.{Setting}
use Rattle.dump_index.specs.declared.change.Setting.TheVariants.{Keeps, Replaces, Edits, EditsNothing}

-- a change by the text of its path
pub record Listed : Type 0 where
  pub path : List ℕ
  pub deletes : Bool
  pub made : Option Made
  pub props : Setting
  pub text : Setting
  pub revision : ℕ
  pub record_number : ℕ

-- what a change makes
abbrev pub listed_made : NodeMade → Made
listed_made Directory = Made.NewDirectory
listed_made File = Made.NewFile
listed_made (CopyOf source) = Made.Copied source.revision (names_of source.path.now)

-- the change that a value of the code represents
abbrev pub listed_of : NodeChange → Listed
listed_of c = record {
  path = c.path.now;
  deletes = c.deletes;
  made = option_map listed_made c.made;
  props = c.props;
  text = c.text;
  revision = c.revision;
  record_number = c.record_number;
}

-- whether and how a change sets properties; an index doesn't know which properties, so the list is empty
abbrev pub plain_props : Setting → Option PropertyChange
plain_props Keeps = None
plain_props Replaces = Some (PropertyChange.Replaced [])
plain_props Edits = Some (PropertyChange.Edited [])
plain_props EditsNothing = Some (PropertyChange.Edited [])

-- whether a change sets a text; an index doesn't know which text, so it is the empty one
abbrev pub plain_text : Setting → Option TextChange
plain_text Keeps = None
plain_text Replaces = Some (TextChange.Replaced [])
plain_text Edits = Some (TextChange.Replaced [])
plain_text EditsNothing = Some (TextChange.Replaced [])

-- the change of a repository that this change represents
abbrev pub placed_of : Listed → Placed
placed_of l = record {
  revision = l.revision;
  change = record {
    path = names_of l.path;
    deletes = l.deletes;
    made = l.made;
    props = plain_props l.props;
    text = plain_text l.text;
  };
}

-- the changes of a repository that these represent
abbrev pub all_placed : List Listed → List Placed
all_placed listed = map placed_of listed
