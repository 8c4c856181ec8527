-- Two cuts that don't differ, and filters that exclude them.
use Rattle.std.proofs.Common.{◌≡◌, ◌⊎◌, ℕ, Bool, true, false, cond, not, ◌&&◌, ◌||◌, List, [], ◌∷◌, ◌++◌, filter, map, Some, None, if◌then◌else◌, refl, sym, ap, ◌∙◌, subst, inl, inr, take_while}
use Rattle.std.specs.Prelude.{Contains}
use Rattle.std.specs.List.{AllZip, list_all}
use Rattle.std.proofs.lemmas.Bool.{and_from, and_parts}
use Rattle.std.proofs.lemmas.List.Sums.{take_while-cons}
use Rattle.dump_text.proofs.BoolLemmas.{first_true}
use Rattle.dump_text.specs.PropertyList.{Property}
use Rattle.dump_records.specs.DumpText.{Ending}
use Rattle.dump_records.specs.RecordText.{DumpRecord}
use Rattle.dump_rules.specs.Mergeinfo.{IsMergeinfo, MergeLine}
use Rattle.dump_rules.specs.Settings.{Settings, keeps_path}
use Rattle.dump_digest.specs.RecordParts.{HasPropertyList, has_lost_source, is_copy, is_kept_node, is_mergeinfo, is_node, is_revision_record, node_path, value_of}
use Rattle.dump_filter.specs.Groups.{Group, group_of, groups}
use Rattle.dump_filter.specs.WholeText.{IsCleanText}
use Rattle.dump_trees.specs.CanonicalPaths.{canonical_path}
use Rattle.dump_trees.specs.Changes.{Change}
use Rattle.dump_trees.specs.EverSiblings.{does_something}
use Rattle.dump_trees.specs.steps.Following.{ExistsOnce}
use Rattle.dump_trees.specs.Paths.{NodePath, is_short, path_of}
use Rattle.dump_trees.specs.Returns.{is_covered}
use Rattle.dump_trees.specs.Siblings.{has_node_names}
use Rattle.dump_trees.specs.steps.Siblings.{ExcludesPaths}
use Rattle.dump_trees.specs.Trees.{Tree, root_alone}
use Rattle.dump_trees.proofs.cuts.CoveredPaths.{all_has, contains_cases, contains_first, contains_later, contains_none, covered_by, covered_more, exists_above, filter_has}
use Rattle.dump_trees.proofs.cuts.EverSiblings.{changed_paths_exist, copied_paths_exist}
use Rattle.dump_trees.proofs.histories.StandingNames.{loaded_directories}
use Rattle.dump_trees.proofs.paths.CanonicalLemmas.{short_are_canonical}
use Rattle.dump_trees.proofs.paths.PathNames.{keeps_text}
use Rattle.dump_trees.proofs.paths.SiblingLemmas.{excluded_match, short_names}
use Rattle.dump_trees.proofs.quiet.QuietLemmas.{same_answer}
use Rattle.dump_history.specs.DumpChanges.{LoadsAs, MakeChanges, MakeRevisions, has_ordered_nodes}
use Rattle.dump_history.specs.RecordChanges.{MakesChange, Patching, copied_from, copy_path, copy_revision, made_by_kind, makes}
use Rattle.dump_history.proofs.again.NodeChanges.{change_is, change_path}
use Rattle.dump_history.proofs.restricted.LoadsOnce.{whole_records_once}
use Rattle.dump_index.specs.steps.ExistsEver.{exists_ever}
use Rattle.dump_index.specs.steps.Listed.{Listed, listed_of}
use Rattle.dump_index.proofs.ExistsLemmas.{existing_is_found}
use Rattle.dump_cut.specs.steps.CutAlike.{covered_alone, is_alone, is_covered_by_one}
use Rattle.dump_cut.specs.steps.FilteredAlike.{AlikeCutsAreFilteredAlike, AlikeCutsCoverTheSame, AreFilteredAlike, FirstPartsGoOn, HaveMadeCopies, HaveShortLines}
use Rattle.dump_cut.proofs.AlikeLaw.{filters_alike}
use Rattle.dump_cut.proofs.FirstLaw.{first_parts_are_filtered}
use Rattle.dump_cut.proofs.NamedSiblings.{line_named}

-- the first part of what the one filter writes is what the other one writes of the first part
pub first_parts_go_on : FirstPartsGoOn
first_parts_go_on settings others number dump text first part records firsts clean fit stays pad is_first is_part has alike =
    let (again, written) =
    first_parts_are_filtered settings number dump text first part records clean fit stays pad is_first is_part in
    filters_alike settings others first part firsts alike
    (subst (λ rs. IsCleanText settings first rs part) (whole_records_once first again firsts written.whole has) written)

-- cuts that don't differ

-- if two lists joined are empty, each of them is empty
both_none : {A : Type 0} (xs ys : List A) → [] ≡ xs ++ ys → (xs ≡ []) × (ys ≡ [])
both_none [] ys none = (refl, sym none)
both_none (x ∷ xs) ys none = absurd (let bad : [] ≡ x ∷ xs ++ ys = none in cc)

-- an element that passes a test isn't in a list of which no element does
none_passes : {A : Type 0} (f : A → Bool) (xs : List A) (x : A) → filter f xs ≡ [] → Contains xs x → f x ≡ false
none_passes f xs x none there = cases (f x) refl
  where
    cases : (b : Bool) → f x ≡ b → b ≡ false
    cases false is = refl
    cases true is = absurd (contains_none x (subst (λ l. Contains l x) none (filter_has f xs x there is)))

-- if only one of the two excludes a path, nothing exists at it, and nothing names it
record Agree (dump_names : List NodePath) (listed : List Listed) (paths others : List NodePath) : Type 0 where
  one : covered_alone listed others paths ≡ []
  other : covered_alone listed paths others ≡ []
  names : filter (is_covered_by_one paths others) dump_names ≡ []

agree : (names : List NodePath) (listed : List Listed) (paths others : List NodePath)
    → [] ≡ covered_alone listed others paths
    ++ (covered_alone listed paths others ++ filter (is_covered_by_one paths others) names)
    → Agree names listed paths others
agree names listed paths others none =
    let first = both_none (covered_alone listed others paths)
    (covered_alone listed paths others ++ filter (is_covered_by_one paths others) names) none in
    let second = both_none (covered_alone listed paths others) (filter (is_covered_by_one paths others) names) (sym first.1) in
    record { one = first.0; other = second.0; names = second.1 }

-- something exists once above what exists once
pub once_above : (revisions : List (List Change)) (path rest : NodePath) → ExistsOnce revisions (path ++ rest)
    → ExistsOnce revisions path
once_above revisions path rest once = record {
  front = once.front;
  changes = once.changes;
  more = once.more;
  rest = once.rest;
  trees = once.trees;
  tree = once.tree;
  parted = once.parted;
  loads = once.loads;
  last = once.last;
  exists =
      exists_above once.tree
      (loaded_directories (once.front ++ once.changes ∷ []) once.trees _ once.tree once.loads once.last) path rest once.exists;
}

-- the others cover what exists once and these paths cover, if these paths exclude no path alone
covered_too : (listed : List Listed) (revisions : List (List Change)) (paths others : List NodePath)
    → ((path : NodePath) → ExistsOnce revisions path → exists_ever listed path ≡ true)
    → covered_alone listed others paths ≡ [] → (path : NodePath) → ExistsOnce revisions path
    → is_covered paths path ≡ true → is_covered others path ≡ true
covered_too listed revisions paths others ever none path once is =
    let (top, rest, among, same) = covered_by paths path is in
    let exists = ever top (once_above revisions top rest (subst (ExistsOnce revisions) same once)) in
    subst (λ p. is_covered others p ≡ true) (sym same)
    (covered_more others top rest
    (cases top (is_covered others top) refl exists (none_passes (is_alone listed others) paths top none among)))
  where
    cases : (top : NodePath) (b : Bool) → is_covered others top ≡ b → exists_ever listed top ≡ true
        → is_alone listed others top ≡ false → b ≡ true
    cases top true is exists alone = refl
    cases top false is exists alone =
        absurd (let bad : true ≡ false =
        sym (and_from (not (is_covered others top)) (exists_ever listed top) (ap not is) exists) ∙ alone in cc)

-- cuts that don't differ exclude the same of what exists once
pub cover_the_same : AlikeCutsCoverTheSame
cover_the_same dump changes revisions trees paths others listed ordered loads alike path once =
    let ever : (p : NodePath) → ExistsOnce revisions p → exists_ever (map listed_of changes) p ≡ true =
    λ p. (existing_is_found changes revisions trees p ordered listed loads).0 in
    let its = agree alike.names (map listed_of changes) paths others alike.are in
    same_answer (is_covered paths path) (is_covered others path)
    (covered_too (map listed_of changes) revisions paths others ever its.one path once)
    (covered_too (map listed_of changes) revisions others paths ever its.other path once)

-- nodes and the changes that they make

-- what an item of a list is paired with
paired : {A B : Type 0} (R : A → B → Type 0) (xs : List A) (ys : List B) → AllZip R xs ys → (x : A) → Contains xs x
    → (y : B) × Contains ys y × R x y
paired R [] ys all x there = absurd (contains_none x there)
paired R (first ∷ xs) [] all x there = absurd all
paired R (first ∷ xs) (y ∷ ys) all x there =
    elim (contains_cases first xs x there) [
      | inl same ↦ (y, contains_first y ys, subst (λ z. R z y) same all.0)
      | inr later ↦
          let (other, among, is) = paired R xs ys all.1 x later in (other, contains_later y ys other among, is)
    ]

-- a group of these records has the node
abbrev InGroup : List DumpRecord → DumpRecord → Type 0
InGroup records r = (g : Group) × Contains (groups records) g × Contains g.nodes r

-- a node is in the open group or in a later one
in_group : (records : List DumpRecord) (is_open : Bool) → has_ordered_nodes is_open records ≡ true → (r : DumpRecord)
    → Contains records r → is_node r ≡ true
    → ((is_open ≡ true) × Contains (take_while is_node records) r) ⊎ InGroup records r
in_group [] is_open ordered r there node = absurd (contains_none r there)
in_group (first ∷ records) is_open ordered r there node =
    elim (contains_cases first records r there) [
      | inl same ↦ inl (in_front (ap is_node same ∙ node) (subst (Contains (first ∷ take_while is_node records)) same
          (contains_first first (take_while is_node records))))
      | inr later ↦ behind (is_revision_record first) refl (in_group records (is_revision_record first || is_node first) parts.1 r later node)
    ]
  where
    parts : ((not (is_node first) || is_open) ≡ true)
        × (has_ordered_nodes (is_revision_record first || is_node first) records ≡ true)
    parts = and_parts (not (is_node first) || is_open)
        (has_ordered_nodes (is_revision_record first || is_node first) records) ordered

    groups_are : (b : Bool) → is_revision_record first ≡ b
        → groups (first ∷ records) ≡ cond b (group_of first records ∷ groups records) (groups records)
    groups_are b is = ap (λ t. cond t (group_of first records ∷ groups records) (groups records)) is

    in_front : is_node first ≡ true → Contains (first ∷ take_while is_node records) r
        → (is_open ≡ true) × Contains (take_while is_node (first ∷ records)) r
    in_front is among = (
      sym (ap (λ b. not b || is_open) is) ∙ parts.0,
      subst (λ rs. Contains rs r)
          (sym (take_while-cons is_node first records ∙ ap (λ b. cond b (first ∷ take_while is_node records) []) is)) among,
    )

    behind : (b : Bool) → is_revision_record first ≡ b
        → (((b || is_node first) ≡ true) × Contains (take_while is_node records) r) ⊎ InGroup records r
        → ((is_open ≡ true) × Contains (take_while is_node (first ∷ records)) r) ⊎ InGroup (first ∷ records) r
    behind true is (inl (opens, among)) =
        inr (
          group_of first records,
          subst (λ gs. Contains gs (group_of first records)) (sym (groups_are true is))
              (contains_first (group_of first records) (groups records)),
          among,
        )
    behind true is (inr (g, among, within)) =
        inr (
          g,
          subst (λ gs. Contains gs g) (sym (groups_are true is))
              (contains_later (group_of first records) (groups records) g among),
          within,
        )
    behind false is (inl (opens, among)) = inl (in_front opens (contains_later first (take_while is_node records) r among))
    behind false is (inr (g, among, within)) = inr (g, subst (λ gs. Contains gs g) (sym (groups_are false is)) among, within)

-- a node makes one of the changes of these revisions
record NodeMakes (patched : Patching) (revisions : List (List Change)) (r : DumpRecord) : Type 0 where
  changes : List Change
  change : Change
  among : Contains revisions changes
  there : Contains changes change
  made : MakesChange patched r change

-- each node of a dump makes one
node_makes : (patched : Patching) (records : List DumpRecord) (revisions : List (List Change))
    → MakeRevisions patched records revisions → (r : DumpRecord) → Contains records r → is_node r ≡ true
    → NodeMakes patched revisions r
node_makes patched records revisions makes r there node =
    elim (in_group records false makes.ordered r there node) [
      | inl (bad, none) ↦ absurd (let worse : false ≡ true = bad in cc)
      | inr (g, among, within) ↦
          let (changes, is_there, zipped) = paired (MakeChanges patched) (groups records) ([] ∷ revisions) makes.changes g among in
          let (change, in_it, made) = paired (MakesChange patched) g.nodes changes zipped r within in
          elim (contains_cases [] revisions changes is_there) [
            | inl none ↦ absurd (contains_none change (subst (λ cs. Contains cs change) (sym none) in_it))
            | inr later ↦ record { changes = changes; change = change; among = later; there = in_it; made = made }
          ]
    ]

-- filters that exclude the paths of such cuts

-- both filters treat a text in the same way if both cover its path or neither does
kept_alike : (settings others : Settings) (paths theirs : List NodePath) → ExcludesPaths settings paths
    → list_all has_node_names paths ≡ true → ExcludesPaths others theirs → list_all has_node_names theirs ≡ true
    → (text : List ℕ) → is_short text ≡ true → is_covered paths (path_of text) ≡ is_covered theirs (path_of text)
    → keeps_path settings text ≡ keeps_path others text
kept_alike settings others paths theirs excludes names exclude_too names_too text short same =
    let named = short_names text short in
    sym (keeps_text settings text)
    ∙ (excluded_match settings paths (path_of text) excludes names named
    ∙ (ap not same
    ∙ (sym (excluded_match others theirs (path_of text) exclude_too names_too named)
    ∙ keeps_text others text)))

-- two tests are the same if neither is true without the other
by_none : (a b : Bool) → ((a && not b) || (b && not a)) ≡ false → a ≡ b
by_none true true none = refl
by_none true false none = none
by_none false true none = sym none
by_none false false none = refl

-- both lists of paths cover the same lines of mergeinfo in the records, as a load reads them
abbrev pub CoverLinesAlike : List NodePath → List NodePath → List DumpRecord → Type 0
CoverLinesAlike paths theirs records = (r : DumpRecord) (ps : List Property) (p : Property) (lines : List MergeLine)
    (line : MergeLine) → Contains records r → HasPropertyList r ps → Contains ps p → is_mergeinfo p ≡ true
    → IsMergeinfo (value_of p) lines → Contains lines line
    → is_covered paths (canonical_path line.path) ≡ is_covered theirs (canonical_path line.path)

-- filters keep the same of the dump if the paths that they exclude cover the same of what exists once, and of the
-- lines of mergeinfo
pub covers_filter_alike : (patched : Patching) (settings others : Settings) (records : List DumpRecord)
    (revisions : List (List Change)) (trees : List Tree) (paths theirs : List NodePath)
    → LoadsAs patched root_alone records revisions trees → list_all (list_all does_something) revisions ≡ true
    → HaveShortLines records → HaveMadeCopies records
    → ExcludesPaths settings paths → list_all has_node_names paths ≡ true
    → ExcludesPaths others theirs → list_all has_node_names theirs ≡ true
    → settings.empty ≡ others.empty → settings.renumber ≡ others.renumber → settings.preserve ≡ others.preserve
    → settings.skip_missing ≡ others.skip_missing
    → ((path : NodePath) → ExistsOnce revisions path → is_covered paths path ≡ is_covered theirs path)
    → CoverLinesAlike paths theirs records → AreFilteredAlike settings others records
covers_filter_alike patched settings others records revisions trees paths theirs loads all_do short made excludes names
    exclude_too names_too empty renumber preserve skip_missing once_same lines_same = record {
      empty = empty;
      renumber = renumber;
      preserve = preserve;
      skip_missing = skip_missing;
      nodes = λ r there. nodes r there (is_node r) refl;
      sources = λ r there keep. sources r there (first_true (is_node r) (keeps_path settings (node_path r)) keep) (is_copy r) refl;
      lines = λ r ps p lines line there keep properties within merges reads in_lines.
          same_kept line.path (short r ps p lines line there properties within merges reads in_lines)
          (named r ps p lines line there properties within merges reads in_lines);
    }
  where
    same_kept : (text : List ℕ) → is_short text ≡ true → is_covered paths (path_of text) ≡ is_covered theirs (path_of text)
        → keeps_path settings text ≡ keeps_path others text
    same_kept = kept_alike settings others paths theirs excludes names exclude_too names_too

    plain_paths : (r : DumpRecord) (c : Change) → MakesChange patched r c
        → (is_short (node_path r) ≡ true) × (is_short (copy_path r) ≡ true)
    plain_paths r c (ps, list, plain, is) =
        let parts = and_parts _ (is_short (copy_path r)) plain in ((and_parts _ (is_short (node_path r)) parts.0).1, parts.1)

    nodes : (r : DumpRecord) → Contains records r → (b : Bool) → is_node r ≡ b
        → is_kept_node settings r ≡ is_kept_node others r
    nodes r there false is =
        ap (λ b. b && keeps_path settings (node_path r)) is ∙ sym (ap (λ b. b && keeps_path others (node_path r)) is)
    nodes r there true is =
        let m = node_makes patched records revisions loads.makes r there is in
        let does = all_has does_something m.changes m.change
        (all_has (list_all does_something) revisions m.changes all_do m.among) m.there in
        let once = changed_paths_exist revisions trees m.changes m.change loads.loads m.among m.there does in
        ap (λ b. is_node r && b) (same_kept (node_path r) (plain_paths r m.change m.made).0
        (once_same (path_of (node_path r)) (subst (ExistsOnce revisions) (change_path patched r m.change m.made) once)))

    sources : (r : DumpRecord) → Contains records r → is_node r ≡ true → (b : Bool) → is_copy r ≡ b
        → has_lost_source settings r ≡ has_lost_source others r
    sources r there node false is =
        ap (λ b. b && not (keeps_path settings (copy_path r))) is
        ∙ sym (ap (λ b. b && not (keeps_path others (copy_path r))) is)
    sources r there node true is =
        let m = node_makes patched records revisions loads.makes r there node in
        ap (λ b. is_copy r && not b) (same_kept (copy_path r) (plain_paths r m.change m.made).1
        (once_same (path_of (copy_path r))
        (copied_paths_exist revisions trees m.changes m.change (copy_revision r) (path_of (copy_path r)) loads.loads m.among
        m.there (copies r m.change (made r there node is) is m.made))))
      where
        copies : (r : DumpRecord) (c : Change) → makes r ≡ true → is_copy r ≡ true → MakesChange patched r c
            → c.made ≡ Some (copied_from r)
        copies r c does is (ps, list, plain, tells) =
            ap (λ (d : Change). d.made) (sym (change_is patched r ps c tells).1)
            ∙ (λ i. if does i then (if is i then Some (copied_from r) else made_by_kind r) else None)

    named : (r : DumpRecord) (ps : List Property) (p : Property) (lines : List MergeLine) (line : MergeLine)
        → Contains records r → HasPropertyList r ps → Contains ps p → is_mergeinfo p ≡ true → IsMergeinfo (value_of p) lines
        → Contains lines line → is_covered paths (path_of line.path) ≡ is_covered theirs (path_of line.path)
    named r ps p lines line there properties within merges reads in_lines =
        subst (λ (q : NodePath). is_covered paths q ≡ is_covered theirs q)
        (short_are_canonical line.path (short r ps p lines line there properties within merges reads in_lines))
        (lines_same r ps p lines line there properties within merges reads in_lines)

-- filters that exclude the paths of cuts that don't differ keep the same of the dump
pub cuts_filter_alike : AlikeCutsAreFilteredAlike
cuts_filter_alike patched settings others dump records changes revisions trees paths theirs has loads listed ordered all_do short
    made excludes names exclude_too names_too empty renumber preserve skip_missing alike =
    covers_filter_alike patched settings others records revisions trees paths theirs loads all_do short made excludes names
    exclude_too names_too empty renumber preserve skip_missing
    (cover_the_same dump changes revisions trees paths theirs listed ordered loads.loads alike)
    (λ r ps p lines line there properties within merges reads in_lines.
    let path = canonical_path line.path in
    let its = agree alike.names (map listed_of changes) paths theirs alike.are in
    by_none (is_covered paths path) (is_covered theirs path)
    (none_passes (is_covered_by_one paths theirs) alike.names path its.names
    (alike.are_names.all path (line_named dump records Ending.Whole r ps p lines line has there properties within merges reads in_lines))))
