-- The changes that are read from a dump have paths with names of nodes.
use Rattle.std.proofs.Common.{◌≡◌, ℕ, suc, Bool, true, false, not, ◌&&◌, cond, List, [], ◌∷◌, map, Some, None, codes, refl, sym, ap, ◌∙◌, subst, Option, ap₂}
use Rattle.std.proofs.lemmas.Bool.{and_parts, and_from}
use Rattle.std.proofs.lemmas.List.Folds.{list_all-append, list_all-map}
use Rattle.std.specs.List.{AllZip, list_all}
use Rattle.dump_text.specs.HeaderLine.{has_byte}
use Rattle.dump_text.specs.PropertyList.{Property}
use Rattle.dump_text.specs.Names.{node_kind_name}
use Rattle.dump_records.specs.RecordText.{DumpRecord}
use Rattle.dump_digest.specs.RecordParts.{is_copy, node_path}
use Rattle.dump_trees.specs.Changes.{Made, Change}
use Rattle.dump_trees.specs.steps.Looking.{Placed, placed_from}
use Rattle.dump_trees.specs.Paths.{is_short, names_of}
use Rattle.dump_trees.specs.Siblings.{has_node_names}
use Rattle.dump_trees.specs.steps.Siblings.{have_node_names}
use Rattle.dump_trees.proofs.paths.SiblingLemmas.{short_names}
use Rattle.dump_history.specs.RecordChanges.{Patching, MakesChange, copied_from, copy_path, has_known_action, has_undefined_delta, is_plain_line, made_by_kind, made_of, makes, says, property_change_of, text_change_of, deletes}
use Rattle.dump_index.specs.steps.IndexLaws.{IsListed}
use Rattle.dump_index.specs.steps.Listed.{Listed, listed_of}
use Rattle.dump_index.specs.declared.change.NodeChange.{NodeChange}
use Rattle.dump_changes.specs.steps.ListedDumps.{NoRecord, RevisionRecord, NodeRecord, OtherRecord, AreListedIn, NodesMake, without_number}
use Rattle.dump_cut.specs.steps.NamedPaths.{has_named_paths, has_named_source}

-- the same for a change of the repository
abbrev is_named : Change → Bool
is_named c = has_node_names c.path && has_named_source c.made

module _ (patched : Patching) where
  made_named : (r : DumpRecord) → is_short (copy_path r) ≡ true → has_named_source (made_of r) ≡ true
  made_named r short = cases (makes r) (is_copy r)
    where
      by_kind : (dir file : Bool)
          → has_named_source (cond dir (Some Made.NewDirectory) (cond file (Some Made.NewFile) None)) ≡ true
      by_kind true file = refl
      by_kind false true = refl
      by_kind false false = refl

      cases : (made copy : Bool)
          → has_named_source (cond made (cond copy (Some (copied_from r)) (made_by_kind r)) None) ≡ true
      cases true true = short_names (copy_path r) short
      cases true false = by_kind (says node_kind_name (codes "dir") r) (says node_kind_name (codes "file") r)
      cases false copy = refl

  node_named : (r : DumpRecord) (c : Change) → MakesChange patched r c → is_named c ≡ true
  node_named r c (ps, list, plain, is) =
      let lines = list_all is_plain_line r.headers in
      let names = list_all (λ (p : Property). not (has_byte 0 p.name)) ps in
      let parts = and_parts (lines && names && is_short (node_path r)) (is_short (copy_path r)) plain in
      let path = and_parts (lines && names) (is_short (node_path r)) parts.0 in
      told (has_known_action r && not (has_undefined_delta r)) is
      (and_from (has_node_names (Rattle.dump_trees.specs.Paths.path_of (node_path r))) (has_named_source (made_of r))
      (short_names (node_path r) path.1) (made_named r parts.1))
    where
      its : List Property → Change
      its entries = record {
        path = Rattle.dump_trees.specs.Paths.path_of (node_path r);
        deletes = deletes r;
        made = made_of r;
        props = property_change_of r entries;
        text = text_change_of patched r;
      }

      told : (b : Bool) → cond b (Some (its ps)) None ≡ Some c → is_named (its ps) ≡ true → is_named c ≡ true
      told true same named =
          let both : Some (its ps) ≡ Some c = same in
          let one : its ps ≡ c = cc in
          subst (λ d. is_named d ≡ true) one named
      told false same named = absurd (let bad : None ≡ Some c = same in cc)

listed_named : (listed : List Listed) (placed : List Placed) → AllZip IsListed listed placed
    → list_all (λ (p : Placed). is_named p.change) placed ≡ true → list_all has_named_paths listed ≡ true
listed_named [] [] all named = refl
listed_named [] (p ∷ placed) all named = absurd all
listed_named (l ∷ listed) [] all named = absurd all
listed_named (l ∷ listed) (p ∷ placed) all named =
    let parts = and_parts (is_named p.change) (list_all (λ (q : Placed). is_named q.change) placed) named in
    let own = and_parts (has_node_names p.change.path) (has_named_source p.change.made) parts.0 in
    and_from (has_named_paths l) (list_all has_named_paths listed)
    (and_from (has_node_names (names_of l.path)) (has_named_source l.made)
    (ap has_node_names (sym all.0.path) ∙ own.0) (ap has_named_source (sym all.0.made) ∙ own.1))
    (listed_named listed placed all.1 parts.1)

-- the changes that nodes make have paths with names of nodes
nodes_make_named : (patched : Patching) (present : Option ℕ) (records : List DumpRecord) (placed : List Placed)
    → NodesMake patched present records placed → list_all (λ (p : Placed). is_named p.change) placed ≡ true
nodes_make_named patched present _ _ (NoRecord _) = refl
nodes_make_named patched present _ placed (RevisionRecord _ r records _ is isnt rest) =
    nodes_make_named patched _ records placed rest
nodes_make_named patched _ _ _ (NodeRecord number r records placed c isnt is makes positive rest) =
    and_from (is_named c) (list_all (λ (p : Placed). is_named p.change) placed) (node_named patched r c makes)
    (nodes_make_named patched (Some number) records placed rest)
nodes_make_named patched present _ placed (OtherRecord _ r records _ one two rest) =
    nodes_make_named patched None records placed rest

pub listed_in_named : (records : List DumpRecord) (changes : List NodeChange) → AreListedIn records changes
    → list_all has_named_paths (map listed_of changes) ≡ true
listed_in_named records changes listed =
    let patched : Patching = λ delta old. None in
    let its = listed patched in
    listed_named (map listed_of changes) its.0 its.2 (nodes_make_named patched None records its.0 its.1)

-- this doesn't depend on the number of the revision of which a change makes a copy
number_unnamed : (l : Listed) → has_named_paths (without_number l) ≡ has_named_paths l
number_unnamed l = ap (λ b. has_node_names (names_of l.path) && b) (cases l.made)
  where
    cases : (made : Option Made) → has_named_source ((without_number (record l { made = made })).made) ≡ has_named_source made
    cases None = refl
    cases (Some Made.NewDirectory) = refl
    cases (Some Made.NewFile) = refl
    cases (Some (Made.Copied number source)) = refl

numbers_unnamed : (listed : List Listed) → list_all has_named_paths (map without_number listed) ≡ list_all has_named_paths listed
numbers_unnamed [] = refl
numbers_unnamed (l ∷ listed) = ap₂ (λ a b. a && b) (number_unnamed l) (numbers_unnamed listed)

pub same_named : (one other : List Listed) → map without_number one ≡ map without_number other
    → list_all has_named_paths one ≡ list_all has_named_paths other
same_named one other same =
    sym (numbers_unnamed one) ∙ ap (list_all has_named_paths) same ∙ numbers_unnamed other

-- so the changes of revisions have, of which an index says this

pub placed_named : (listed : List Listed) (placed : List Placed) → AllZip IsListed listed placed
    → list_all has_named_paths listed ≡ true → list_all (λ (p : Placed). has_node_names p.change.path) placed ≡ true
placed_named [] [] all named = refl
placed_named [] (p ∷ placed) all named = absurd all
placed_named (l ∷ listed) [] all named = refl
placed_named (l ∷ listed) (p ∷ placed) (its, all) named =
    let parts = and_parts (has_named_paths l) (list_all has_named_paths listed) named in
    and_from (has_node_names p.change.path) (list_all (λ (q : Placed). has_node_names q.change.path) placed)
    (ap has_node_names its.path ∙ (and_parts (has_node_names (names_of l.path)) (has_named_source l.made) parts.0).0)
    (placed_named listed placed all parts.1)

pub revisions_named : (number : ℕ) (revisions : List (List Change))
    → list_all (λ (p : Placed). has_node_names p.change.path) (placed_from number revisions) ≡ true
    → have_node_names revisions ≡ true
revisions_named number [] named = refl
revisions_named number (changes ∷ revisions) named =
    let test = λ (p : Placed). has_node_names p.change.path in
    let here = map (λ (c : Change). record { revision = number; change = c }) changes in
    let parts = and_parts (list_all test here) (list_all test (placed_from (suc number) revisions))
    (sym (list_all-append test here (placed_from (suc number) revisions)) ∙ named) in
    and_from (list_all (λ (c : Change). has_node_names c.path) changes) (have_node_names revisions)
    (sym (list_all-map test (λ (c : Change). record { revision = number; change = c }) changes) ∙ parts.0)
    (revisions_named (suc number) revisions parts.1)
