-- Expanded dumps: what is in place of each record of a dump, so that the same trees are loaded, and the filter's cut
-- separates each change.
use Rattle.std.specs.Prelude.{◌≡◌, ℕ, Bool, true, ◌&&◌, List, [], ◌∷◌, ◌++◌, map, codes, IsTrue}
use Rattle.std.specs.List.{AllZip, list_all}
use Rattle.dump_text.specs.Names.{action_name}
use Rattle.dump_text.specs.HeaderLine.{with_header_value}
use Rattle.dump_text.specs.PropertyList.{Property}
use Rattle.dump_records.specs.DumpText.{Ending, HasRecords}
use Rattle.dump_records.specs.RecordText.{DumpRecord}
use Rattle.dump_rules.specs.Settings.{Settings}
use Rattle.dump_digest.specs.RecordParts.{is_node}
use Rattle.dump_filter.specs.Groups.{groups, revision_numbers}
use Rattle.dump_trees.specs.Trees.{Tree, root_alone}
use Rattle.dump_trees.specs.Changes.{Change}
use Rattle.dump_trees.specs.Revisions.{AllRevisionsSeparate}
use Rattle.dump_trees.specs.steps.Expansions.{AllRevisionsExpand}
use Rattle.dump_history.specs.RecordChanges.{Patching, has_action}
use Rattle.dump_history.specs.DumpChanges.{MakeChanges, HaveRevisionProperties, LoadsAs}
use Rattle.dump_history.specs.WrittenNodes.{WrittenNode, node_record, can_be_written}

-- what is left of a record of the dump
pub data OwnForm : Type 0 where
  -- it is unchanged
  AsItIs : OwnForm
  -- the node, with the action that replaces what is there
  Replacing : OwnForm
  -- nothing
  LeftOut : OwnForm

-- what is in an expanded dump in place of a record: these nodes, and after them what is left of it
pub record Stead : Type 0 where
  pub nodes : List WrittenNode
  pub own : OwnForm

-- the node with the action that replaces what is there
abbrev pub as_replacement : DumpRecord → DumpRecord
as_replacement r = record {
  place = r.place;
  version = r.version;
  headers = with_header_value action_name (codes "replace") r.headers;
  props = r.props;
  text = r.text;
}

-- what is left of the record
abbrev pub own_records : DumpRecord → OwnForm → List DumpRecord
own_records r OwnForm.AsItIs = r ∷ []
own_records r OwnForm.Replacing = as_replacement r ∷ []
own_records r OwnForm.LeftOut = []

-- what is in place of the record
abbrev pub stead_records : DumpRecord → Stead → List DumpRecord
stead_records r stead = map (node_record r.place r.version) stead.nodes ++ own_records r stead.own

-- what is in place of the records, one after the other
abbrev pub expanded_records : List DumpRecord → List Stead → List DumpRecord
expanded_records [] steads = []
expanded_records (r ∷ records) [] = []
expanded_records (r ∷ records) (stead ∷ steads) = stead_records r stead ++ expanded_records records steads

-- Whether this may remain of the record. A node that adds may replace instead, and a node may be omitted. Any other
-- record is unchanged.
abbrev pub may_be_left : DumpRecord → OwnForm → Bool
may_be_left r OwnForm.AsItIs = true
may_be_left r OwnForm.Replacing = is_node r && has_action (codes "add") r
may_be_left r OwnForm.LeftOut = is_node r

-- whether these nodes may come before what is left of the record: only in place of a node, and only nodes that can be
-- written
abbrev pub may_precede : DumpRecord → List WrittenNode → Bool
may_precede r [] = true
may_precede r (w ∷ nodes) = is_node r && list_all can_be_written (w ∷ nodes)

-- whether this may be in place of the record
abbrev pub may_stand : DumpRecord → Stead → Bool
may_stand r stead = may_precede r stead.nodes && may_be_left r stead.own

-- the record is the same one, perhaps at another place
pub record IsSameRecord (r s : DumpRecord) : Type 0 where
  pub version : s.version ≡ r.version
  pub headers : s.headers ≡ r.headers
  pub props : s.props ≡ r.props
  pub text : s.text ≡ r.text

-- these records are an expanded form of those of a dump that makes these revisions: they are in place of them, and make
-- revisions whose changes are expansions of those of the dump, if it is loaded into a new repository
pub record IsExpandedDump (patched : Patching) (settings : Settings) (records : List DumpRecord) (steads : List Stead)
    (again : List DumpRecord) (revisions expanded : List (List Change)) : Type 0 where
  pub may : AllZip (λ r stead. IsTrue (may_stand r stead)) records steads
  pub stand : AllZip IsSameRecord (expanded_records records steads) again
  pub changes : AllZip (MakeChanges patched) (groups again) ([] ∷ expanded)
  pub expands : AllRevisionsExpand settings (root_alone ∷ []) root_alone revisions expanded

-- the expanded form of a dump that loads, loads to the same trees, revision by revision; its revisions have the same
-- numbers and properties, and each of its changes is separated
abbrev pub ExpandedDumpLoads : Type 0
ExpandedDumpLoads = (patched : Patching) (settings : Settings) (dump : List ℕ) (records : List DumpRecord)
    (steads : List Stead) (again : List DumpRecord) (revisions expanded : List (List Change)) (trees : List Tree) →
    HasRecords dump records Ending.Whole
    → LoadsAs patched root_alone records revisions trees
    → IsExpandedDump patched settings records steads again revisions expanded
    → LoadsAs patched root_alone again expanded trees
    × AllRevisionsSeparate settings (root_alone ∷ []) root_alone expanded
    × (revision_numbers again ≡ revision_numbers records)
    × ((props : List (List Property)) → HaveRevisionProperties records props → HaveRevisionProperties again props)
