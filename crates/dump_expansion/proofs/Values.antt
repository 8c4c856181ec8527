-- Examples that the right definitions satisfy and wrong ones do not.
use Rattle.std.proofs.Common.{◌≡◌, ℕ, Bool, true, false, List, [], ◌∷◌, ◌++◌, Some, None, Vec, Global, codes, map, option_copied, refl, sym, ap, ◌∙◌}
use Rattle.dump_text.specs.declared.fault.FaultKind.TheVariants.{HeaderCut}
use Rattle.dump_records.specs.DumpText.{Ending}
use Rattle.dump_records.specs.RecordText.{DumpRecord}
use Rattle.dump_records.proofs.ListLaw.{each_dump_has_one_list}
use Rattle.dump_history.specs.steps.ExpandedDumps.{OwnForm, Stead}
use Rattle.dump_history.specs.WrittenNodes as format
use Rattle.dump_index.specs.declared.change.NodeKind.TheVariants as kinds
use Rattle.dump_expansion.specs.declared.expanding.Stead as code
use Rattle.dump_expansion.specs.declared.written_node.NewNode.TheVariants as nodes
use Rattle.dump_changes.specs.declared.property_edit.NodeProperty.{NodeProperty}
use Rattle.dump_changes.specs.declared.file_text.FileText.{FileText}
use Rattle.dump_changes.specs.steps.ChangedProperties.{as_property}
use Rattle.dump_changes.specs.steps.MadeTexts.{told_of_file}
use Rattle.dump_expansion.specs.steps.GivenSteads.{GivenStead, steads_in}
use Rattle.dump_expansion.specs.steps.ExpandedBytes.{IsExactlyExpandedBy, expanded_bytes, first_lfs, unread_bytes}
use Rattle.dump_expansion.specs.steps.Given.{can_all_be_written, given_of}
use Rattle.dump_expansion.specs.steps.NewNodes.{written_of}
use Rattle.dump_expansion.proofs.ByteLemmas.{dump_bytes}
use Rattle.dump_expansion.proofs.SteadLemmas.{none_given}

-- a record with this line
abbrev record_with : List ℕ → List ℕ → DumpRecord
record_with name value = record {
  place = 0;
  version = 2;
  headers = record { name = name; value = value } ∷ [];
  props = [];
  text = [];
}

abbrev node : DumpRecord
node = record_with (codes "Node-path") (codes "a")

abbrev revision : DumpRecord
revision = record_with (codes "Revision-number") (codes "1")

abbrev deletion : format.WrittenNode
deletion = format.WrittenNode.Deletion (codes "a")

-- a deletion of `a` for the record with this number
abbrev for : ℕ → Bool → GivenStead
for number keeps = record { number = number; nodes = deletion ∷ []; keeps = keeps }

abbrev stead : List format.WrittenNode → OwnForm → Stead
stead nodes own = record { nodes = nodes; own = own }

abbrev alone : Stead
alone = stead [] OwnForm.AsItIs

-- the second node is replaced
replaced : steads_in 4 (node ∷ node ∷ node ∷ []) (for 5 false ∷ [])
    ≡ alone ∷ stead (deletion ∷ []) OwnForm.LeftOut ∷ alone ∷ []
replaced = refl

-- two of the nodes are kept after others
kept : steads_in 4 (node ∷ node ∷ node ∷ []) (for 4 true ∷ for 6 true ∷ [])
    ≡ stead (deletion ∷ []) OwnForm.AsItIs ∷ alone ∷ stead (deletion ∷ []) OwnForm.AsItIs ∷ []
kept = refl

-- what is given for a revision record is not used, but what is given after it is
no_node : steads_in 4 (revision ∷ node ∷ []) (for 4 false ∷ for 5 false ∷ [])
    ≡ alone ∷ stead (deletion ∷ []) OwnForm.LeftOut ∷ []
no_node = refl

-- a number that doesn't occur any more makes all later ones unused
passed : steads_in 4 (node ∷ node ∷ []) (for 3 false ∷ for 5 false ∷ []) ≡ alone ∷ alone ∷ []
passed = refl

twice : steads_in 4 (node ∷ node ∷ []) (for 4 true ∷ for 4 true ∷ for 5 false ∷ [])
    ≡ stead (deletion ∷ []) OwnForm.AsItIs ∷ alone ∷ []
twice = refl

-- each dump has one expanded text, whether or not it can be read to its end
expanded_once : (given : List GivenStead) (dump text other : List ℕ) → IsExactlyExpandedBy given dump text
    → IsExactlyExpandedBy given dump other → text ≡ other
expanded_once given dump text other one two =
    let (records, ending, has, once) = each_dump_has_one_list dump in
    one records ending has ∙ sym (two records ending has)

-- it is the dump itself if nothing is given
given_none : (dump text : List ℕ) → IsExactlyExpandedBy [] dump text → text ≡ dump
given_none dump text is =
    let (records, ending, has, once) = each_dump_has_one_list dump in
    is records ending has
    ∙ ap (λ t. first_lfs dump ++ (t ++ unread_bytes dump ending)) (none_given dump 0 records)
    ∙ sym (dump_bytes dump records ending has).0

-- the bytes of a dump of two nodes, with line feeds around them, that breaks off after them

-- the node at this place, which takes 14 bytes
abbrev node_at : ℕ → DumpRecord
node_at place = record node { place = place }

abbrev broken : List ℕ
broken = codes "\nNode-path: a\n\n\n\nNode-path: a\n\n\nNode"

-- it, expanded by what is given
abbrev with_given : List GivenStead → List ℕ
with_given given =
    let records = node_at 1 ∷ node_at 17 ∷ [] in
    expanded_bytes broken records (Ending.Broken HeaderCut 32) (steads_in 0 records given)

no_given : with_given [] ≡ broken
no_given = refl

-- a node that isn't kept is removed with its line feeds
first_left_out : with_given (for 0 false ∷ [])
    ≡ codes "\nNode-path: a\nNode-action: delete\n\n\nNode-path: a\n\n\nNode"
first_left_out = refl

last_left_out : with_given (for 1 false ∷ [])
    ≡ codes "\nNode-path: a\n\n\n\nNode-path: a\nNode-action: delete\n\n\nNode"
last_left_out = refl

-- the line feeds of kept nodes stay
both_kept : with_given (for 0 true ∷ for 1 true ∷ [])
    ≡ codes "\nNode-path: a\nNode-action: delete\n\n\nNode-path: a\n\n\n\n"
    ++ codes "Node-path: a\nNode-action: delete\n\n\nNode-path: a\n\n\nNode"
both_kept = refl

-- no record has the number 2, so what is given after it isn't used either
no_such_number : with_given (for 2 false ∷ for 1 false ∷ []) ≡ broken
no_such_number = refl

-- all nodes of everything that is given must be nodes that can be written
all_written : can_all_be_written (for 4 true ∷ for 5 true ∷ []) ≡ true
all_written = refl

not_written : can_all_be_written (for 4 true
    ∷ record { number = 5; nodes = deletion ∷ format.WrittenNode.Deletion (codes "a/./b") ∷ []; keeps = true } ∷ []) ≡ false
not_written = refl

-- a node of the code is the one that it says
module _ (path source : Vec ℕ Global) (entries : Vec NodeProperty Global) (p : NodeProperty) where
  file_copied : written_of (nodes.Copy kinds.File 7 source path)
      ≡ format.WrittenNode.Copy format.NodeKind.File 7 source.items path.items
  file_copied = refl

  directory_copied : written_of (nodes.Copy kinds.Directory 7 source path)
      ≡ format.WrittenNode.Copy format.NodeKind.Dir 7 source.items path.items
  directory_copied = refl

  file_made : (text : FileText) → written_of (nodes.File true path entries text)
      ≡ format.WrittenNode.File true path.items (map as_property entries.items) (told_of_file text).text
      (option_copied text.md5) (option_copied text.sha1)
  file_made text = refl

  property_set : as_property p ≡ record { name = p.name.now; value = Some p.value.now }
  property_set = refl

-- the same for what is given
given_is : (s : code.Stead) → (given_of s).number ≡ s.record_number
given_is s = refl
