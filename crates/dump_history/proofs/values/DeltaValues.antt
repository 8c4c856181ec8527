-- Examples of the changes that deltas make, and of what a survey finds in them.
use Rattle.dump_history.proofs.Prelude.{◌≡◌, true, ◌++◌, None, refl, inr, Header, Property, DumpRecord, HasPropertyList, path_of, PropertyChange, TextChange, Change, Patching, change_of, MakesChange, is_found, no_node_faults}
use Rattle.std.proofs.Common.{ℕ, false, List, [], ◌∷◌, Some, codes}
use Rattle.dump_history.proofs.values.WorkedDump.{line, settings}
use Rattle.dump_history.specs.declared.findings.Finding.TheVariants as findings

-- a reading of text deltas: the delta is appended to the old text
abbrev pub behind : Patching
behind delta old = Some (old ++ delta)

-- a change of a/b under this version, with these lines, property bytes and text
abbrev node : ℕ → List Header → List ℕ → List ℕ → DumpRecord
node version more props text = record {
  place = 0;
  version = version;
  headers = line (codes "Node-path") (codes "a/b") ∷ line (codes "Node-action") (codes "change") ∷ more;
  props = props;
  text = text;
}

abbrev nothing : Change
nothing = record { path = path_of (codes "a/b"); deletes = false; made = None; props = None; text = None }

-- an entry that removes the property p
abbrev pub removal : Property
removal = record { name = codes "p"; value = None }

abbrev block : List ℕ
block = codes "D 1\np\nPROPS-END\n"

abbrev whole_lines : List Header
whole_lines = line (codes "Prop-content-length") (codes "16") ∷ []

abbrev edit_lines : List Header
edit_lines = line (codes "Prop-delta") (codes "true") ∷ whole_lines

abbrev text_lines : List Header
text_lines = line (codes "Text-delta") (codes "true") ∷ line (codes "Text-content-length") (codes "1") ∷ []

-- properties

edits : change_of behind (node 3 edit_lines block []) (removal ∷ [])
    ≡ Some (record nothing { props = Some (PropertyChange.Edited (removal ∷ [])) })
edits = refl

replaces : change_of behind (node 3 whole_lines block []) (removal ∷ [])
    ≡ Some (record nothing { props = Some (PropertyChange.Replaced (removal ∷ [])) })
replaces = refl

-- only the word true makes a delta
no_edit : change_of behind (node 3 (line (codes "Prop-delta") (codes "TRUE") ∷ whole_lines) block []) (removal ∷ [])
    ≡ Some (record nothing { props = Some (PropertyChange.Replaced (removal ∷ [])) })
no_edit = refl

edits_under_2 : change_of behind (node 2 edit_lines block []) [] ≡ None
edits_under_2 = refl

-- texts

patches : change_of behind (node 3 text_lines [] (codes "x")) []
    ≡ Some (record nothing { text = Some (TextChange.Patched (λ old. Some (old ++ codes "x"))) })
patches = refl

patches_under_2 : change_of behind (node 2 text_lines [] (codes "x")) [] ≡ None
patches_under_2 = refl

-- the block can be read only under version 3

reads : HasPropertyList (node 3 edit_lines block []) (removal ∷ [])
reads = (inr (codes "D 1\np\n", codes "PROPS-END\n", refl, inr (refl, (codes "1", refl, refl)), refl), λ deletes. refl)

makes : MakesChange behind (node 3 edit_lines block [])
    (record nothing { props = Some (PropertyChange.Edited (removal ∷ [])) })
makes = (removal ∷ [], reads, refl, refl)

unread_under_2 : HasPropertyList (node 2 whole_lines block []) (removal ∷ []) → ⊥
unread_under_2 list = absurd (let bad : false ≡ true = list.1 refl in cc)

-- findings

delta_under_2 : is_found settings (node 2 edit_lines block []) (Some []) no_node_faults findings.Delta ≡ true
delta_under_2 = refl

no_finding : is_found settings (node 3 edit_lines block []) (Some (removal ∷ [])) no_node_faults findings.Delta ≡ false
no_finding = refl
