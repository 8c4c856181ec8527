-- Records with nodes after them: their text is a dump, which makes their changes and those of the nodes.
use Rattle.dump_history.proofs.Prelude.{◌≡◌, Bool, true, not, ◌||◌, ◌++◌, drop, map, refl, sym, ap, ◌∙◌, subst, arith, take_while, AllZip, if◌then◌else◌, list_all, take_while-cons, or-true, first_true, second_true, and_from, false_from_ne_true, absurd_bool, Ending, HasRecords, IsCutInto, DumpRecord, is_node, is_revision_record, has_header, alone, Group, group_of, groups, has_ordered_nodes, Change, Patching, MakesChange, MakeChanges, counts_from}
use Rattle.std.proofs.Common.{ℕ, false, List, [], ◌∷◌}
use Rattle.dump_records.specs.DumpText.{HaveVersions, line_feeds}
use Rattle.dump_text.specs.Names.{revision_name, path_name}
use Rattle.dump_history.specs.WrittenNodes.{WrittenNode, node_record, can_be_written}
use Rattle.dump_history.specs.steps.WrittenNodes.{written_change}
use Rattle.dump_history.specs.steps.ExpandedDumps.{IsSameRecord}
use Rattle.dump_history.specs.ExpandedText.{AreRecordTexts}
use Rattle.dump_history.specs.TrimmedDumps.{records_behind, may_stand_behind}
use Rattle.dump_history.specs.steps.TrimmedDumps.{node_parts, part_groups, changes_behind, revisions_with, TrimmedTextsAreDumps}
use Rattle.dump_history.proofs.expanded.FormLemmas.{AllFit, all_fit, written_fits, written_node}
use Rattle.dump_history.proofs.expanded.StandLemmas.{AllNodes, take_nodes, groups_behind, nodes_order, HaveSameRevisions, same_numbers, same_properties}
use Rattle.dump_history.proofs.expanded.TextLemmas.{Joined, put_one, joins_behind, both_fit, AllUnder, nodes_under, some_same}
use Rattle.dump_history.proofs.expanded.SteadLemmas.{all_same_make, both_make, nodes_make}

-- the nodes after a record

can_all : (r : DumpRecord) (nodes : List WrittenNode) → may_stand_behind r nodes ≡ true → list_all can_be_written nodes ≡ true
can_all r [] may = refl
can_all r (w ∷ nodes) may = second_true (is_node r) (list_all can_be_written (w ∷ nodes)) may

-- after a record that is no node there are none
none_behind : (r : DumpRecord) (nodes : List WrittenNode) → is_node r ≡ false → may_stand_behind r nodes ≡ true → nodes ≡ []
none_behind r [] other may = refl
none_behind r (w ∷ nodes) other may =
    absurd (absurd_bool (is_node r) (first_true (is_node r) (list_all can_be_written (w ∷ nodes)) may) other)

nodes_fit : (place version : ℕ) (nodes : List WrittenNode) → list_all can_be_written nodes ≡ true
    → AllFit (map (node_record place version) nodes)
nodes_fit place version [] can = tt
nodes_fit place version (w ∷ nodes) can = (
  written_fits place version w (first_true (can_be_written w) (list_all can_be_written nodes) can),
  nodes_fit place version nodes (second_true (can_be_written w) (list_all can_be_written nodes) can),
)

nodes_are : (place version : ℕ) (nodes : List WrittenNode) → AllNodes (map (node_record place version) nodes)
nodes_are place version [] = tt
nodes_are place version (w ∷ nodes) = (written_node place version w, nodes_are place version nodes)

nodes_versions : (place version : ℕ) (nodes : List WrittenNode) → AllUnder version (map (node_record place version) nodes)
nodes_versions place version [] = tt
nodes_versions place version (w ∷ nodes) = (refl, nodes_versions place version nodes)

-- which nodes may follow the records
abbrev MayStandBehind : List DumpRecord → List (List WrittenNode) → Type 0
MayStandBehind records behind = AllZip (λ r nodes. may_stand_behind r nodes ≡ true) records behind

-- they fit, and have the versions in force

behind_fit : (records : List DumpRecord) (behind : List (List WrittenNode)) → AllFit records → MayStandBehind records behind
    → AllFit (records_behind records behind)
behind_fit [] behind fit may = tt
behind_fit (r ∷ records) [] fit may = tt
behind_fit (r ∷ records) (nodes ∷ behind) (fits, fit) (one, may) = (
  fits,
  both_fit (map (node_record r.place r.version) nodes) (records_behind records behind)
      (nodes_fit r.place r.version nodes (can_all r nodes one)) (behind_fit records behind fit may),
)

behind_versions : (version : ℕ) (records : List DumpRecord) (behind : List (List WrittenNode))
    → HaveVersions version records → HaveVersions version (records_behind records behind)
behind_versions version [] behind have = tt
behind_versions version (r ∷ records) [] have = tt
behind_versions version (r ∷ records) (nodes ∷ behind) (in_force, have) = (
  in_force,
  nodes_under r.version (map (node_record r.place r.version) nodes) (records_behind records behind)
      (nodes_are r.place r.version nodes) (nodes_versions r.place r.version nodes)
      (behind_versions r.version records behind have),
)

-- their text is a dump
pub trimmed_is_dump : (dump text front : List ℕ) (records : List DumpRecord) (behind : List (List WrittenNode)) (lfs : ℕ)
    → HasRecords dump records Ending.Whole → MayStandBehind records behind → text ≡ line_feeds lfs ++ front
    → AreRecordTexts (records_behind records behind) front
    → (parts : List DumpRecord) × HasRecords text parts Ending.Whole
    × AllZip IsSameRecord (records_behind records behind) parts
trimmed_is_dump dump text front [] behind lfs has may is texts = absurd (omega (arith, has.3.1))
trimmed_is_dump dump text front (r ∷ records) [] lfs has may is texts = absurd may
trimmed_is_dump dump text front (r ∷ records) (nodes ∷ behind) lfs has may is texts =
    let (parts, cut_parts, have, same) = joined texts in (
      parts,
      (
        [],
        subst (λ t. IsCutInto 0 0 t parts []) (sym is) cut_parts,
        have,
        (refl, some_same r later parts same),
      ),
      same,
    )
  where
    later : List DumpRecord
    later = map (node_record r.place r.version) nodes ++ records_behind records behind

    cut : IsCutInto 0 0 dump (r ∷ records) []
    cut = subst (λ (l : List ℕ). IsCutInto 0 0 dump (r ∷ records) l) has.3.0 has.1

    fits : AllFit (r ∷ records)
    fits = all_fit 0 0 dump [] (r ∷ records) cut

    joined : AreRecordTexts (r ∷ later) front → Joined (r ∷ later) 0 0 0 (line_feeds lfs ++ front)
    joined (lfs_behind, rest, at, more) =
        put_one r 0 lfs_behind front rest later fits.0 has.2.0 at
        (joins_behind r.version later rest (behind_fit (r ∷ records) (nodes ∷ behind) fits may).1
        (behind_versions 0 (r ∷ records) (nodes ∷ behind) has.2).1 more) 0 0 lfs cut.5.lawful

-- the same records at other places

-- the nodes at the beginning of the records
same_take : (xs ys : List DumpRecord) → AllZip IsSameRecord xs ys
    → AllZip IsSameRecord (take_while is_node xs) (take_while is_node ys)
same_take [] [] same = tt
same_take [] (y ∷ ys) same = absurd same
same_take (x ∷ xs) [] same = absurd same
same_take (x ∷ xs) (y ∷ ys) (one, same) =
    subst (λ l. AllZip IsSameRecord (take_while is_node (x ∷ xs)) l)
    (sym (take_while-cons is_node y ys
    ∙ ap (λ h. if has_header path_name h then y ∷ take_while is_node ys else []) one.headers))
    (subst (λ l. AllZip IsSameRecord l (if is_node x then y ∷ take_while is_node ys else []))
    (sym (take_while-cons is_node x xs)) (cases (is_node x) (same_take xs ys same)))
  where
    cases : (b : Bool) → AllZip IsSameRecord (take_while is_node xs) (take_while is_node ys)
        → AllZip IsSameRecord (if b then x ∷ take_while is_node xs else [])
        (if b then y ∷ take_while is_node ys else [])
    cases true more = (one, more)
    cases false more = tt

same_revision : (x y : DumpRecord) → IsSameRecord x y → is_revision_record y ≡ is_revision_record x
same_revision x y one = ap (has_header revision_name) one.headers

pub same_group_revisions : (xs ys : List DumpRecord) → AllZip IsSameRecord xs ys → HaveSameRevisions (groups xs) (groups ys)
same_group_revisions [] [] same = tt
same_group_revisions [] (y ∷ ys) same = absurd same
same_group_revisions (x ∷ xs) [] same = absurd same
same_group_revisions (x ∷ xs) (y ∷ ys) (one, same) =
    subst (λ b. HaveSameRevisions (groups (x ∷ xs)) (if b then group_of y ys ∷ groups ys else groups ys))
    (sym (same_revision x y one)) (cases (is_revision_record x) (same_group_revisions xs ys same))
  where
    cases : (b : Bool) → HaveSameRevisions (groups xs) (groups ys)
        → HaveSameRevisions (if b then group_of x xs ∷ groups xs else groups xs)
        (if b then group_of y ys ∷ groups ys else groups ys)
    cases true later = (one, later)
    cases false later = later

pub same_ordered : (may : Bool) (xs ys : List DumpRecord) → AllZip IsSameRecord xs ys → has_ordered_nodes may xs ≡ true
    → has_ordered_nodes may ys ≡ true
same_ordered may [] [] same order = order
same_ordered may [] (y ∷ ys) same order = absurd same
same_ordered may (x ∷ xs) [] same order = absurd same
same_ordered may (x ∷ xs) (y ∷ ys) (one, same) order =
    and_from (not (is_node y) || may) (has_ordered_nodes (is_revision_record y || is_node y) ys)
    (ap (λ h. not (has_header path_name h) || may) one.headers
    ∙ first_true (not (is_node x) || may) (has_ordered_nodes (is_revision_record x || is_node x) xs) order)
    (ap (λ h. has_ordered_nodes (has_header revision_name h || has_header path_name h) ys) one.headers
    ∙ same_ordered (is_revision_record x || is_node x) xs ys same
    (second_true (not (is_node x) || may) (has_ordered_nodes (is_revision_record x || is_node x) xs) order))

pub same_groups_make : (patched : Patching) (xs ys : List DumpRecord) (revisions : List (List Change))
    → AllZip IsSameRecord xs ys → AllZip (MakeChanges patched) (groups xs) revisions
    → AllZip (MakeChanges patched) (groups ys) revisions
same_groups_make patched [] [] revisions same make = make
same_groups_make patched [] (y ∷ ys) revisions same make = absurd same
same_groups_make patched (x ∷ xs) [] revisions same make = absurd same
same_groups_make patched (x ∷ xs) (y ∷ ys) revisions (one, same) make =
    subst (λ b. AllZip (MakeChanges patched) (if b then group_of y ys ∷ groups ys else groups ys) revisions)
    (sym (same_revision x y one))
    (cases (is_revision_record x) revisions make (λ others made. same_groups_make patched xs ys others same made))
  where
    cases : (b : Bool) (revisions : List (List Change))
        → AllZip (MakeChanges patched) (if b then group_of x xs ∷ groups xs else groups xs) revisions
        → ((others : List (List Change)) → AllZip (MakeChanges patched) (groups xs) others
        → AllZip (MakeChanges patched) (groups ys) others)
        → AllZip (MakeChanges patched) (if b then group_of y ys ∷ groups ys else groups ys) revisions
    cases true [] make later = absurd make
    cases true (changes ∷ others) (here, make) later = (
      all_same_make patched (take_while is_node xs) (take_while is_node ys) changes (same_take xs ys same) here,
      later others make,
    )
    cases false revisions make later = later revisions make

-- the records with the nodes after them

-- their revisions are the same
behind_revisions : (records : List DumpRecord) (behind : List (List WrittenNode)) → AllFit records
    → MayStandBehind records behind → HaveSameRevisions (groups records) (groups (records_behind records behind))
behind_revisions [] behind fit may = tt
behind_revisions (r ∷ records) [] fit may = absurd may
behind_revisions (r ∷ records) (nodes ∷ behind) (fits, fit) (one, may) =
    cases (is_revision_record r) refl (subst (λ gs. HaveSameRevisions (groups records) gs)
    (sym (groups_behind (map (node_record r.place r.version) nodes) (records_behind records behind)
    (nodes_are r.place r.version nodes))) (behind_revisions records behind fit may))
  where
    later : List DumpRecord
    later = map (node_record r.place r.version) nodes ++ records_behind records behind

    cases : (b : Bool) → is_revision_record r ≡ b → HaveSameRevisions (groups records) (groups later)
        → HaveSameRevisions (if b then group_of r records ∷ groups records else groups records)
        (if b then group_of r later ∷ groups later else groups later)
    cases true is more = (record { version = refl; headers = refl; props = refl; text = refl }, more)
    cases false is more = more

-- they are in order
behind_ordered : (may_node : Bool) (records : List DumpRecord) (behind : List (List WrittenNode))
    → MayStandBehind records behind → has_ordered_nodes may_node records ≡ true
    → has_ordered_nodes may_node (records_behind records behind) ≡ true
behind_ordered may_node [] behind may order = refl
behind_ordered may_node (r ∷ records) [] may order = absurd may
behind_ordered may_node (r ∷ records) (nodes ∷ behind) (one, may) order =
    and_from (not (is_node r) || may_node) (has_ordered_nodes (is_revision_record r || is_node r) later)
    (first_true (not (is_node r) || may_node) (has_ordered_nodes (is_revision_record r || is_node r) records) order)
    (cases (is_node r) refl (behind_ordered (is_revision_record r || is_node r) records behind may
    (second_true (not (is_node r) || may_node) (has_ordered_nodes (is_revision_record r || is_node r) records) order)))
  where
    later : List DumpRecord
    later = map (node_record r.place r.version) nodes ++ records_behind records behind

    cases : (b : Bool) → is_node r ≡ b
        → has_ordered_nodes (is_revision_record r || is_node r) (records_behind records behind) ≡ true
        → has_ordered_nodes (is_revision_record r || is_node r) later ≡ true
    cases true node more =
        let open_is : (is_revision_record r || is_node r) ≡ true =
        ap (λ b. is_revision_record r || b) node ∙ or-true (is_revision_record r) in
        ap (λ b. has_ordered_nodes b later) open_is
        ∙ nodes_order (map (node_record r.place r.version) nodes) (records_behind records behind)
        (nodes_are r.place r.version nodes)
        (sym (ap (λ b. has_ordered_nodes b (records_behind records behind)) open_is) ∙ more)
    cases false other more =
        ap (λ (ns : List WrittenNode). has_ordered_nodes (is_revision_record r || is_node r)
        (map (node_record r.place r.version) ns ++ records_behind records behind)) (none_behind r nodes other one)
        ∙ more

module _ (patched : Patching) where
  -- the nodes at the beginning of the records make the changes
  first_make : (records : List DumpRecord) (behind : List (List WrittenNode)) (changes : List Change)
      → MayStandBehind records behind → AllZip (MakesChange patched) (take_while is_node records) changes
      → AllZip (MakesChange patched) (take_while is_node (records_behind records behind))
      (changes_behind (node_parts records behind) changes)
  first_make [] behind changes may make = tt
  first_make (r ∷ records) [] changes may make = absurd may
  first_make (r ∷ records) (nodes ∷ behind) changes (one, may) make =
      subst (λ l. AllZip (MakesChange patched) l (changes_behind (node_parts (r ∷ records) (nodes ∷ behind)) changes))
      (sym (take_while-cons is_node r later))
      (cases (is_node r) changes
      (subst (λ l. AllZip (MakesChange patched) l changes) (take_while-cons is_node r records) make)
      (λ others made. first_make records behind others may made))
    where
      later : List DumpRecord
      later = map (node_record r.place r.version) nodes ++ records_behind records behind

      cases : (b : Bool) (changes : List Change)
          → AllZip (MakesChange patched) (if b then r ∷ take_while is_node records else []) changes
          → ((others : List Change) → AllZip (MakesChange patched) (take_while is_node records) others
          → AllZip (MakesChange patched) (take_while is_node (records_behind records behind))
          (changes_behind (node_parts records behind) others))
          → AllZip (MakesChange patched) (if b then r ∷ take_while is_node later else [])
          (changes_behind (if b then nodes ∷ node_parts records behind else []) changes)
      cases true [] make more = absurd make
      cases true (c ∷ others) (here, make) more = (
        here,
        subst (λ l. AllZip (MakesChange patched) l
            (map written_change nodes ++ changes_behind (node_parts records behind) others))
            (sym (take_nodes (map (node_record r.place r.version) nodes) (records_behind records behind)
            (nodes_are r.place r.version nodes)))
            (both_make patched (map (node_record r.place r.version) nodes)
            (take_while is_node (records_behind records behind)) (map written_change nodes)
            (changes_behind (node_parts records behind) others)
            (nodes_make patched r.place r.version nodes (can_all r nodes one)) (more others make)),
      )
      cases false changes make more = tt

  -- the nodes of each revision make its changes
  behind_make : (records : List DumpRecord) (behind : List (List WrittenNode)) (revisions : List (List Change))
      → AllFit records → MayStandBehind records behind → AllZip (MakeChanges patched) (groups records) revisions
      → AllZip (MakeChanges patched) (groups (records_behind records behind))
      (revisions_with (part_groups records behind) revisions)
  behind_make [] behind revisions fit may make = tt
  behind_make (r ∷ records) [] revisions fit may make = absurd may
  behind_make (r ∷ records) (nodes ∷ behind) revisions (fits, fit) (one, may) make =
      cases (is_revision_record r) refl revisions make (λ others made. behind_make records behind others fit may made)
    where
      later : List DumpRecord
      later = map (node_record r.place r.version) nodes ++ records_behind records behind

      later_groups : groups later ≡ groups (records_behind records behind)
      later_groups = groups_behind (map (node_record r.place r.version) nodes) (records_behind records behind)
          (nodes_are r.place r.version nodes)

      -- none of these nodes is after a revision
      no_nodes : is_revision_record r ≡ true → later ≡ records_behind records behind
      no_nodes rev =
          ap (λ (ns : List WrittenNode). map (node_record r.place r.version) ns ++ records_behind records behind)
          (none_behind r nodes (false_from_ne_true (is_node r) (λ node.
          absurd_bool (is_revision_record r) rev (alone fits.number r fits.lawful node))) one)

      cases : (b : Bool) → is_revision_record r ≡ b → (revisions : List (List Change))
          → AllZip (MakeChanges patched) (if b then group_of r records ∷ groups records else groups records) revisions
          → ((others : List (List Change)) → AllZip (MakeChanges patched) (groups records) others
          → AllZip (MakeChanges patched) (groups (records_behind records behind))
          (revisions_with (part_groups records behind) others))
          → AllZip (MakeChanges patched) (if b then group_of r later ∷ groups later else groups later)
          (revisions_with (if b then node_parts records behind ∷ part_groups records behind
          else part_groups records behind) revisions)
      cases true rev [] make more = absurd make
      cases true rev (changes ∷ others) (here, make) more = (
        subst (λ l. AllZip (MakesChange patched) (take_while is_node l)
            (changes_behind (node_parts records behind) changes)) (sym (no_nodes rev))
            (first_make records behind changes may here),
        subst (λ gs. AllZip (MakeChanges patched) gs (revisions_with (part_groups records behind) others))
            (sym later_groups) (more others make),
      )
      cases false plain revisions make more =
          subst (λ gs. AllZip (MakeChanges patched) gs (revisions_with (part_groups records behind) revisions))
          (sym later_groups) (more revisions make)

  -- after revision 0, which has no changes
  later_make : (gs hs : List Group) (behind : List (List (List WrittenNode))) (revisions : List (List Change))
      → HaveSameRevisions gs hs → AllZip (MakeChanges patched) gs ([] ∷ revisions)
      → AllZip (MakeChanges patched) hs (revisions_with behind ([] ∷ revisions))
      → AllZip (MakeChanges patched) hs ([] ∷ revisions_with (drop 1 behind) revisions)
  later_make [] hs behind revisions same make made = absurd make
  later_make (g ∷ gs) [] behind revisions same make made = absurd same
  later_make (g ∷ gs) (h ∷ hs) [] revisions same make made = absurd made
  later_make (g ∷ gs) (h ∷ hs) ([] ∷ behind) revisions same make made = made
  later_make (g ∷ gs) (h ∷ hs) ((nodes ∷ more) ∷ behind) revisions same make made = made

pub trimmed_texts_are_dumps : TrimmedTextsAreDumps
trimmed_texts_are_dumps patched dump text records behind revisions has makes trimmed =
    let (parts, has_parts, same) =
    trimmed_is_dump dump text trimmed.front records behind trimmed.lfs has trimmed.may trimmed.spelled trimmed.texts in (
      parts,
      has_parts,
      record {
        numbered = ap (counts_from 0)
            (same_numbers (groups (records_behind records behind)) (groups parts)
            (same_group_revisions (records_behind records behind) parts same)
            ∙ same_numbers (groups records) (groups (records_behind records behind))
            (behind_revisions records behind fit trimmed.may)) ∙ makes.numbered;
        ordered = same_ordered false (records_behind records behind) parts same
            (behind_ordered false records behind trimmed.may makes.ordered);
        changes = same_groups_make patched (records_behind records behind) parts
            ([] ∷ revisions_with (drop 1 (part_groups records behind)) revisions) same
            (later_make patched (groups records) (groups (records_behind records behind)) (part_groups records behind)
            revisions (behind_revisions records behind fit trimmed.may) makes.changes
            (behind_make patched records behind ([] ∷ revisions) fit trimmed.may makes.changes));
      },
      λ props have. same_properties (groups (records_behind records behind)) (groups parts) props
          (same_group_revisions (records_behind records behind) parts same)
          (same_properties (groups records) (groups (records_behind records behind)) props
          (behind_revisions records behind fit trimmed.may) have),
    )
  where
    fit : AllFit records
    fit = all_fit 0 0 dump [] records
        (subst (λ (l : List ℕ). IsCutInto 0 0 dump records l) has.3.0 has.1)
