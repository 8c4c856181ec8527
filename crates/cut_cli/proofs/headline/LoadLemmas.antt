-- What a dump that loads has: its deltas apply, and its paths have names of nodes.
use Rattle.std.proofs.Common.{◌≡◌, true, not, ◌&&◌, List, [], ◌∷◌, length, map, Option, Some, None, is_some, refl, sym, ap, ◌∙◌}
use Rattle.std.specs.Prelude.{option_map}
use Rattle.std.proofs.lemmas.Bool.{and_from, and_parts}
use Rattle.std.specs.List.{AllZip, list_all}
use Rattle.dump_records.specs.RecordText.{DumpRecord}
use Rattle.dump_text.specs.HeaderLine.{has_byte}
use Rattle.dump_text.specs.PropertyList.{Property}
use Rattle.dump_digest.specs.RecordParts.{node_path}
use Rattle.dump_filter.specs.Groups.{Group, groups}
use Rattle.dump_history.specs.DumpChanges.{MakeChanges, MakeRevisions}
use Rattle.dump_history.specs.RecordChanges.{MakesChange, Patching, copy_path, is_plain_line}
use Rattle.dump_history.proofs.again.NodeChanges.{change_path}
use Rattle.dump_trees.specs.Changes.{Change, TextChange}
use Rattle.dump_trees.specs.steps.LoadCheck.{HasSameKinds, ToldKinds, all_allowed, all_apply, kind_of_node, patches_text}
use Rattle.dump_trees.specs.steps.Looking.{Placed, look, placed_from}
use Rattle.dump_trees.specs.Paths.{is_short}
use Rattle.dump_trees.specs.Revisions.{loaded_over}
use Rattle.dump_trees.specs.Siblings.{has_node_names}
use Rattle.dump_trees.specs.steps.Siblings.{have_node_names}
use Rattle.dump_trees.specs.Trees.{Tree, root_alone}
use Rattle.dump_trees.proofs.cuts.CheckedLoads.{dump_is_allowed}
use Rattle.dump_trees.proofs.cuts.PlainLooks.{plain_looks_tell_kinds}
use Rattle.dump_trees.proofs.paths.SiblingLemmas.{short_names}

-- deltas

-- a text that isn't a delta, in place of each text
whole_text : Option TextChange → Option TextChange
whole_text text = option_map (λ t. TextChange.Replaced []) text

plainly : Placed → Placed
plainly p = record { revision = p.revision; change = record p.change { text = whole_text p.change.text } }

text_there : (text : Option TextChange) → is_some (whole_text text) ≡ is_some text
unfolding whole_text
text_there None = refl
text_there (Some text) = refl

no_delta : (text : Option TextChange) → not (patches_text (whole_text text)) ≡ true
unfolding whole_text
no_delta None = refl
no_delta (Some text) = refl

are_plain : (placed : List Placed) → AllZip HasSameKinds placed (map plainly placed)
unfolding plainly
are_plain [] = tt
are_plain (p ∷ placed) = (
  record {
    revision = refl;
    path = refl;
    deletes = refl;
    made = refl;
    props = refl;
    text = text_there p.change.text;
    whole = no_delta p.change.text;
  },
  are_plain placed,
)

-- the deltas of a dump that loads apply
pub deltas_apply : (revisions : List (List Change)) (trees : List Tree) → loaded_over root_alone revisions ≡ Some trees
    → all_apply root_alone (placed_from 1 revisions) (length (placed_from 1 revisions)) ≡ true
deltas_apply revisions trees loads =
    let placed = placed_from 1 revisions in
    let told : ToldKinds = λ count path. option_map kind_of_node (look root_alone (map plainly placed) count path) in
    let both = sym (dump_is_allowed told root_alone revisions
    (plain_looks_tell_kinds root_alone placed (map plainly placed) (are_plain placed))) ∙ ap is_some loads in
    (and_parts (all_allowed told placed (length placed)) (all_apply root_alone placed (length placed)) both).1

-- names

node_named : (patched : Patching) (r : DumpRecord) (c : Change) → MakesChange patched r c → has_node_names c.path ≡ true
node_named patched r c makes =
    let (ps, list, written, is) = makes in
    let plain = list_all is_plain_line r.headers && list_all (λ (p : Property). not (has_byte 0 p.name)) ps in
    let short = (and_parts plain (is_short (node_path r)) (and_parts (plain && is_short (node_path r))
    (is_short (copy_path r)) written).0).1 in
    ap has_node_names (change_path patched r c makes) ∙ short_names (node_path r) short

nodes_named : (patched : Patching) (nodes : List DumpRecord) (changes : List Change)
    → AllZip (MakesChange patched) nodes changes → list_all (λ (c : Change). has_node_names c.path) changes ≡ true
nodes_named patched [] [] all = refl
nodes_named patched [] (c ∷ changes) all = absurd all
nodes_named patched (r ∷ nodes) [] all = absurd all
nodes_named patched (r ∷ nodes) (c ∷ changes) all =
    and_from (has_node_names c.path) (list_all (λ (d : Change). has_node_names d.path) changes)
    (node_named patched r c all.0) (nodes_named patched nodes changes all.1)

groups_named : (patched : Patching) (gs : List Group) (revisions : List (List Change))
    → AllZip (MakeChanges patched) gs revisions → have_node_names revisions ≡ true
groups_named patched [] [] all = refl
groups_named patched [] (changes ∷ revisions) all = absurd all
groups_named patched (g ∷ gs) [] all = absurd all
groups_named patched (g ∷ gs) (changes ∷ revisions) all =
    and_from (list_all (λ (c : Change). has_node_names c.path) changes) (have_node_names revisions)
    (nodes_named patched g.nodes changes all.0) (groups_named patched gs revisions all.1)

-- the paths of the changes of a dump have names of nodes
pub changes_named : (patched : Patching) (records : List DumpRecord) (revisions : List (List Change))
    → MakeRevisions patched records revisions → have_node_names revisions ≡ true
changes_named patched records revisions makes =
    (and_parts true (have_node_names revisions) (groups_named patched (groups records) ([] ∷ revisions) makes.changes)).1
