-- Examples for the definitions of cuts, which wrong definitions don't satisfy.
use Rattle.dump_history.proofs.Prelude.{◌≡◌, ◌++◌, Bool, None, refl, ap, ◌∙◌, inr, suc, zero, AllZip, DropEmptied, DropAll, path_of, Tree, root_alone, Patching, slice_get}
use Rattle.std.proofs.Common.{ℕ, true, false, List, [], ◌∷◌, Some, is_some, is_none, codes}
use Rattle.std.specs.Fmt.{digits}
use Rattle.dump_records.specs.DumpText.{line_feeds}
use Rattle.dump_trees.specs.steps.WritingOut.{copy_of, directory_of}
use Rattle.dump_trees.specs.Changes.{PropertyChange, steps}
use Rattle.dump_trees.specs.steps.Branches.{Branch}
use Rattle.dump_trees.specs.steps.Expansions.{Expands, AllExpand}
use Rattle.dump_trees.proofs.histories.StandingNames.{loaded_directories}
use Rattle.dump_trees.proofs.expansions.ExpandLemmas.{expanded_lead}
use Rattle.dump_history.specs.WrittenNodes.{NodeKind, WrittenNode, node_record}
use Rattle.dump_history.specs.steps.WrittenNodes.{node_bytes, replacing, written_change}
use Rattle.dump_history.specs.steps.ExpandedDumps.{OwnForm, stead_records, expanded_records}
use Rattle.dump_history.specs.ExpandedText.{AreRecordTexts}
use Rattle.dump_history.specs.steps.ExpandedText.{IsExpandedText}
use Rattle.dump_history.specs.CutDumps.{TreeRelation, ImagesRelate}
use Rattle.dump_history.specs.steps.CutDumps.{leaves_no_gap, LoadsNew, LoadsNumbered}
use Rattle.dump_history.proofs.expanded.ReplacingLemmas.{kept_copy_replaces}
use Rattle.dump_history.proofs.values.WorkedExpansion.{stays}
use Rattle.dump_history.proofs.values.WorkedCut.{app, three, branch, records, settings, adds_trunk, adds_old, copies_old, revisions, begun_tree, first_tree, second_tree, trees, file, adds_app, source_branch, again}

-- options that leave no gap

pads : leaves_no_gap settings ≡ true
pads = refl

renumbers : leaves_no_gap (record settings { empty = DropEmptied; renumber = true }) ≡ true
renumbers = refl

drops_all : leaves_no_gap (record settings { empty = DropAll; renumber = true }) ≡ true
drops_all = refl

leaves_gaps : leaves_no_gap (record settings { empty = DropEmptied }) ≡ false
leaves_gaps = refl

leaves_all_gaps : leaves_no_gap (record settings { empty = DropAll }) ≡ false
leaves_all_gaps = refl

-- what replaces a record: first the nodes, and then what remains of it

nodes_first : stead_records app (record { nodes = WrittenNode.Deletion (codes "trunk/app") ∷ []; own = OwnForm.AsItIs })
    ≡ node_record 243 2 (WrittenNode.Deletion (codes "trunk/app")) ∷ app ∷ []
nodes_first = refl

in_order : expanded_records (three ∷ branch ∷ []) (stays ∷ record { nodes = file ∷ []; own = OwnForm.LeftOut } ∷ [])
    ≡ three ∷ node_record 369 2 file ∷ []
in_order = refl

-- each record has something in its place
not_shorter : (text : List ℕ) → IsExpandedText (three ∷ branch ∷ []) (stays ∷ []) text → ⊥
not_shorter text e = e.may.1

-- whether a text has a byte
abbrev has_some : List ℕ → Bool
has_some [] = false
has_some (b ∷ text) = true

-- the record is written
not_unwritten : IsExpandedText (three ∷ []) (stays ∷ []) [] → ⊥
not_unwritten e =
    let (lfs, rest, is, more) = e.texts in
    let none : [] ≡ e.front = nothing e.lfs e.front e.spelled in
    absurd (let bad : false ≡ true = ap has_some (none ∙ is) in cc)
  where
    nothing : (lfs : ℕ) (front : List ℕ) → [] ≡ line_feeds lfs ++ front → [] ≡ front
    nothing zero front is = is
    nothing (suc lfs) front is = absurd (let bad : false ≡ true = ap has_some is in cc)

-- after the last record there are only line feeds
nothing_more : AreRecordTexts [] (codes "x") → ⊥
nothing_more is = absurd (let bad : true ≡ false = ap has_some is in cc)

-- expansions

-- each change of a revision counts after those before it: the second one needs the first
second_counts : AllExpand settings (slice_get (root_alone ∷ [])) root_alone (adds_trunk ∷ adds_old ∷ []) (adds_trunk ∷ [])
    → ⊥
second_counts all =
    let leads = expanded_lead settings (slice_get (root_alone ∷ [])) root_alone first_tree (adds_trunk ∷ adds_old ∷ [])
    (adds_trunk ∷ []) refl all in
    let same : Some begun_tree ≡ Some first_tree = leads.same in
    let one : begun_tree ≡ first_tree = cc in
    absurd (let bad : false ≡ true = ap (λ (t : Tree). is_some (t (path_of (codes "trunk/old")))) one in cc)

-- what is written

-- a directory's entries replace the old ones
whole_properties : (directory_of (path_of (codes "a")) []).props ≡ Some (PropertyChange.Replaced [])
whole_properties = refl

-- written nodes

abbrev copied_file : WrittenNode
copied_file = WrittenNode.Copy NodeKind.File 2 (codes "c") (codes "a/b")

copied_file_bytes : node_bytes copied_file
    ≡ codes "Node-path: a/b\nNode-kind: file\nNode-action: add\nNode-copyfrom-rev: 2\nNode-copyfrom-path: c\n\n"
unfolding digits
copied_file_bytes = refl

copied_file_change : written_change copied_file ≡ copy_of 2 (path_of (codes "c")) (path_of (codes "a/b"))
copied_file_change = refl

replacing_directory_bytes : node_bytes (WrittenNode.Directory true (codes "a") [])
    ≡ codes "Node-path: a\nNode-kind: dir\nNode-action: replace\nProp-content-length: 10\nContent-length: 10\n\n"
    ++ codes "PROPS-END\n"
unfolding digits
replacing_directory_bytes = refl

replacing_directory_deletes : (written_change (WrittenNode.Directory true (codes "a") [])).deletes ≡ true
replacing_directory_deletes = refl

both_digests : node_bytes (WrittenNode.File false (codes "a") [] [] (Some (codes "d4")) (Some (codes "da")))
    ≡ codes "Node-path: a\nNode-kind: file\nNode-action: add\nProp-content-length: 10\nText-content-length: 0\n"
    ++ codes "Text-content-md5: d4\nText-content-sha1: da\nContent-length: 10\n\nPROPS-END\n"
unfolding digits
both_digests = refl

-- nodes that replace

-- the copied file, made over the file that exists by then: one node, which replaces, is written
replaces_file : Expands settings (slice_get (root_alone ∷ first_tree ∷ [])) second_tree (replacing true copies_old)
    (written_change (WrittenNode.File true (codes "trunk/app") [] (codes "text") None None) ∷ [])
replaces_file = kept_copy_replaces settings (slice_get (root_alone ∷ first_tree ∷ [])) second_tree first_tree
    (replacing true copies_old) 1 (path_of (codes "trunk/old")) (Branch.File [] (codes "text"))
    (Branch.File [] (codes "text")) adds_app [] (loaded_directories revisions trees 2 second_tree refl refl) refl refl refl
    refl source_branch refl refl (inr ([], refl, refl))

-- if nothing exists, a node that replaces is rejected
replaces_nothing : is_none (steps (slice_get (root_alone ∷ first_tree ∷ [])) first_tree (replacing true adds_app ∷ []))
    ≡ true
replaces_nothing = refl

-- every delta is rejected
abbrev refused : Patching
refused delta text = None

-- trees at images

-- any tree may be in place of any other
abbrev AnyTree : TreeRelation
AnyTree old new = Rattle.std.specs.Prelude.⊤

-- no tree may be in place of another
abbrev NoTree : TreeRelation
NoTree old new = ⊥

no_image : ImagesRelate AnyTree (λ number. None) (root_alone ∷ []) (root_alone ∷ []) → ⊥
no_image images =
    let (new, other, image_is, stands, related) = images 0 root_alone refl in
    let bad : None ≡ Some new = image_is in cc

no_tree_there : ImagesRelate AnyTree (λ number. Some number) (root_alone ∷ []) [] → ⊥
no_tree_there images =
    let (new, other, image_is, stands, related) = images 0 root_alone refl in
    let bad : None ≡ Some other = stands in cc

not_related : ImagesRelate NoTree (λ number. Some number) (root_alone ∷ []) (root_alone ∷ []) → ⊥
not_related images = let (new, other, image_is, stands, related) = images 0 root_alone refl in related

-- if no tree may be in place of another, no text loads so

none_new : (text : List ℕ) → LoadsNew refused settings NoTree again (root_alone ∷ []) text → ⊥
none_new text (parts, written, others, has, loads, size, images, properties) =
    let (new, other, image_is, stands, related) = images 0 root_alone refl in related

none_numbered : (text : List ℕ) → LoadsNumbered refused NoTree records (root_alone ∷ []) text → ⊥
none_numbered text (parts, written, others, has, loads, zip, properties) = no_zip others zip
  where
    no_zip : (others : List Tree) → AllZip NoTree (root_alone ∷ []) others → ⊥
    no_zip [] zip = zip
    no_zip (other ∷ others) zip = zip.0
