-- Examples for the definitions; the checker computes and proves them.
use Rattle.dump_changes.proofs.Prelude.{◌≡◌, ℕ, true, false, List, [], ◌∷◌, ◌++◌, Option, Some, None, refl, codes, DumpRecord, Patching}
use Rattle.svndiff.specs.Svndiff.{patch}
use Rattle.dump_trees.specs.Changes.{Made}
use Rattle.dump_index.specs.steps.Listed.{Listed}
use Rattle.dump_index.specs.steps.Settings.{Whole, IsTrail}
use Rattle.dump_index.specs.declared.change.Setting.{Setting}
use Rattle.dump_index.specs.declared.change.Setting.TheVariants.{Edits, Keeps, Replaces}
use Rattle.dump_index.specs.declared.trail.Part.TheVariants.{Text}
use Rattle.dump_changes.specs.TextDeltas.{AgreesWithSvndiff}
use Rattle.dump_changes.specs.steps.DeltaTexts.{patched_by}
use Rattle.dump_changes.specs.steps.FileTexts.{ToldText, no_text, record_texts}
use Rattle.dump_changes.specs.steps.NodeProperties.{node_numbers, property_blocks}
use Rattle.dump_changes.specs.steps.PatchedTexts.{HasOwnDigests, IsTextAt, latest_delta, told_patched}

abbrev one_header : List ℕ → List ℕ → List ℕ → DumpRecord
one_header name value props = record {
  place = 0;
  version = 3;
  headers = record { name = name; value = value } ∷ [];
  props = props;
  text = [];
}

abbrev revision : DumpRecord
revision = one_header (codes "Revision-number") (codes "1") (codes "PROPS-END\n")

abbrev node : DumpRecord
node = one_header (codes "Node-path") (codes "a") []

-- the numbers count all records, not only the nodes
numbers_of_nodes : node_numbers 5 (revision ∷ node ∷ node ∷ revision ∷ node ∷ []) ≡ 6 ∷ 7 ∷ 9 ∷ []
numbers_of_nodes = refl

-- each record has a block
blocks_of_records : property_blocks (revision ∷ node ∷ []) ≡ codes "PROPS-END\n" ∷ [] ∷ []
blocks_of_records = refl

-- a file's text, with one digest
abbrev file : DumpRecord
file = record {
  place = 0;
  version = 3;
  headers =
      record { name = codes "Node-path"; value = codes "f" }
      ∷ record { name = codes "Text-content-md5"; value = codes "ab" } ∷ [];
  props = [];
  text = codes "x";
}

abbrev text : ToldText
text = record { text = codes "x"; md5 = Some (codes "ab"); sha1 = None }

-- each text has the digests of its own record
texts_of_records : record_texts (file ∷ revision ∷ []) ≡ text ∷ no_text ∷ []
texts_of_records = refl

-- the file is made with its text, and gets another one as a delta
abbrev change : Option Made → Setting → ℕ → Listed
change made setting number = record {
  path = codes "f";
  deletes = false;
  made = made;
  props = Keeps;
  text = setting;
  revision = 1;
  record_number = number;
}

abbrev changes : List Listed
changes = change (Some Made.NewFile) Replaces 0 ∷ change None Edits 1 ∷ []

-- the second record's text, which copies the one byte before it and appends another, with a digest of what it makes
abbrev delta : ToldText
delta = record { text = codes "SVN" ++ 0 ∷ 0 ∷ 1 ∷ 2 ∷ 3 ∷ 1 ∷ 1 ∷ 0 ∷ 129 ∷ 121 ∷ []; md5 = Some (codes "cd"); sha1 = None }

-- before the delta the text is a whole one
made_trail : IsTrail Text changes 1 (codes "f") (0 ∷ [])
made_trail = Whole 1 (codes "f") 0 (change (Some Made.NewFile) Replaces 0) refl refl refl refl

whole_text : IsTextAt (text ∷ delta ∷ []) changes (codes "f") 1 text
whole_text = record { trail = 0 ∷ []; sets = made_trail; makes = refl; digests = λ place is. absurd (let bad : None ≡ Some place = is in cc) }

-- the changes make the text from the oldest one on. It has the digest of the delta's record
text_of_both : told_patched (text ∷ delta ∷ []) changes (1 ∷ 0 ∷ []) ≡ Some record { text = codes "xy"; md5 = Some (codes "cd"); sha1 = None }
text_of_both = refl

-- without a change it is empty
text_of_none : told_patched (text ∷ delta ∷ []) changes [] ≡ Some no_text
text_of_none = refl

-- so the delta alone sees too much
text_of_second : told_patched (text ∷ delta ∷ []) changes (1 ∷ []) ≡ None
text_of_second = refl

-- only the latest change matters for the digests
delta_last : latest_delta changes (1 ∷ 0 ∷ []) ≡ Some 1
delta_last = refl

whole_last : latest_delta changes (0 ∷ 1 ∷ []) ≡ None
whole_last = refl

-- without a digest, none can be wrong
no_digest : HasOwnDigests record { text = codes "xy"; md5 = None; sha1 = None }
no_digest = (λ other. let bad : false ≡ true = other.0 in cc, λ other. let bad : false ≡ true = other.0 in cc)

-- deltas are applied to what the ones before them make
patched_twice : patched_by (delta.text ∷ (codes "SVN" ++ 0 ∷ 0 ∷ 2 ∷ 3 ∷ 3 ∷ 1 ∷ 2 ∷ 0 ∷ 129 ∷ 122 ∷ []) ∷ []) (codes "x")
    ≡ Some (codes "xyz")
patched_twice = refl

-- svndiff is a reading that agrees with itself, and one of which each text becomes empty does not agree
svndiff_agrees : AgreesWithSvndiff patch
svndiff_agrees d old new is = is

abbrev emptied : Patching
emptied d old = Some []

emptied_disagrees : AgreesWithSvndiff emptied → ⊥
emptied_disagrees agrees =
    let bad : emptied delta.text (codes "x") ≡ Some (codes "xy") = agrees delta.text (codes "x") (codes "xy") refl in cc
