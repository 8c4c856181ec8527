-- The changes that replace a dump's changes are those of the records that replace its records.
use Rattle.dump_history.proofs.Prelude.{◌≡◌, Bool, true, ◌++◌, drop, map, refl, sym, ap, ◌∙◌, subst, take_while, AllZip, if◌then◌else◌, list_all, take_while-cons, first_true, second_true, absurd_bool, false_from_ne_true, has_header, path_name, change_of, loads_as_written, DumpRecord, is_node, is_revision_record, alone, Group, group_of, groups, Change, Patching, MakesChange, MakeChanges, makes}
use Rattle.std.proofs.Common.{ℕ, false, List, [], ◌∷◌, codes}
use Rattle.dump_text.specs.Names.{revision_name}
use Rattle.dump_history.specs.RecordChanges.{has_action}
use Rattle.dump_history.specs.WrittenNodes.{WrittenNode, node_record, can_be_written}
use Rattle.dump_history.specs.steps.WrittenNodes.{written_change}
use Rattle.dump_history.specs.steps.ExpandedDumps.{OwnForm, Stead, own_records, stead_records, may_be_left, may_precede, IsSameRecord}
use Rattle.dump_history.specs.steps.ExpandedText.{own_changes, changes_for, expanded_changes, expanded_revisions, node_steads, stead_groups, ExpansionsAreDumps}
use Rattle.dump_history.proofs.expanded.NodeLemmas.{written_nodes_make_changes}
use Rattle.dump_history.proofs.expanded.FormLemmas.{AllFit, replacing_makes}
use Rattle.dump_history.proofs.expanded.StandLemmas.{StandFor, AllStandFor, all_stand, precedes, is_left, other_stands, stand_nodes, take_nodes, groups_behind, node_of, HaveSameRevisions, same_revisions, same_list}
use Rattle.dump_history.proofs.expanded.TextLemmas.{expansion_is_dump}
use Rattle.dump_history.proofs.expanded.ExpandedLaw.{whole_fits}

module _ (patched : Patching) where
  -- the same record makes the same change
  pub same_makes : (r s : DumpRecord) (c : Change) → IsSameRecord r s → MakesChange patched r c → MakesChange patched s c
  same_makes r s c same (ps, list, plain, is) = (
    ps,
    same_list r s ps same list,
    ap (λ h. loads_as_written (record { place = 0; version = 0; headers = h; props = []; text = [] }) ps) same.headers
        ∙ plain,
    (λ i. change_of patched (record {
      place = r.place;
      version = same.version i;
      headers = same.headers i;
      props = r.props;
      text = same.text i;
    }) ps) ∙ is,
  )

  -- so do the same records
  pub all_same_make : (xs again : List DumpRecord) (changes : List Change) → AllZip IsSameRecord xs again
      → AllZip (MakesChange patched) xs changes → AllZip (MakesChange patched) again changes
  all_same_make [] [] changes same make = make
  all_same_make [] (s ∷ again) changes same make = absurd same
  all_same_make (x ∷ xs) [] changes same make = absurd same
  all_same_make (x ∷ xs) (s ∷ again) [] same make = absurd make
  all_same_make (x ∷ xs) (s ∷ again) (c ∷ changes) (one, same) (here, make) =
      (same_makes x s c one here, all_same_make xs again changes same make)

  -- two lists one after the other
  pub both_make : (first again : List DumpRecord) (changes more : List Change) → AllZip (MakesChange patched) first changes
      → AllZip (MakesChange patched) again more → AllZip (MakesChange patched) (first ++ again) (changes ++ more)
  both_make [] again [] more make later = later
  both_make [] again (c ∷ changes) more make later = absurd make
  both_make (s ∷ first) again [] more make later = absurd make
  both_make (s ∷ first) again (c ∷ changes) more (one, make) later = (one, both_make first again changes more make later)

  -- written nodes make their changes
  pub nodes_make : (place version : ℕ) (nodes : List WrittenNode) → list_all can_be_written nodes ≡ true
      → AllZip (MakesChange patched) (map (node_record place version) nodes) (map written_change nodes)
  nodes_make place version [] can = tt
  nodes_make place version (w ∷ nodes) can = (
    written_nodes_make_changes patched w place version
        (first_true (can_be_written w) (list_all can_be_written nodes) can),
    nodes_make place version nodes (second_true (can_be_written w) (list_all can_be_written nodes) can),
  )

  -- what remains of a node makes what remains of its change
  own_make : (r : DumpRecord) (own : OwnForm) (c : Change) → may_be_left r own ≡ true → MakesChange patched r c
      → AllZip (MakesChange patched) (own_records r own) (own_changes own c)
  own_make r OwnForm.AsItIs c may make = (make, tt)
  own_make r OwnForm.Replacing c may make =
      (replacing_makes patched r (second_true (is_node r) (has_action (codes "add") r) may) c make, tt)
  own_make r OwnForm.LeftOut c may make = tt

  -- what replaces a node makes the changes that replace the node's change
  stand_makes : (r : DumpRecord) (stead : Stead) (again : List DumpRecord) (c : Change) → StandFor r stead again
      → MakesChange patched r c → AllZip (MakesChange patched) again (changes_for stead c)
  stand_makes r stead again c stand make = all_same_make (stead_records r stead) again (changes_for stead c) stand.same
      (both_make (map (node_record r.place r.version) stead.nodes) (own_records r stead.own)
      (map written_change stead.nodes) (own_changes stead.own c)
      (preceding stead.nodes (precedes r stead stand.may)) (own_make r stead.own c (is_left r stead stand.may) make))
    where
      preceding : (nodes : List WrittenNode) → may_precede r nodes ≡ true
          → AllZip (MakesChange patched) (map (node_record r.place r.version) nodes) (map written_change nodes)
      preceding [] may = tt
      preceding (w ∷ nodes) may = nodes_make r.place r.version (w ∷ nodes)
          (second_true (is_node r) (list_all can_be_written (w ∷ nodes)) may)

take_none : (s : DumpRecord) (rest : List DumpRecord) → is_node s ≡ false → take_while is_node (s ∷ rest) ≡ []
take_none s rest other = take_while-cons is_node s rest
    ∙ ap (λ b. if b then s ∷ take_while is_node rest else []) other

module _ (patched : Patching) where
  -- the nodes at the beginning of the records, and the nodes that replace them
  first_nodes_make : (records : List DumpRecord) (steads : List Stead) (again : List DumpRecord) (changes : List Change)
      → AllFit records → AllStandFor records steads again
      → AllZip (MakesChange patched) (take_while is_node records) changes
      → AllZip (MakesChange patched) (take_while is_node again) (expanded_changes (node_steads records steads) changes)
  first_nodes_make [] [] again changes fit none make =
      subst (λ l. AllZip (MakesChange patched) (take_while is_node l) []) (sym none) tt
  first_nodes_make [] (stead ∷ steads) again changes fit stand make = absurd stand
  first_nodes_make (r ∷ records) [] again changes fit stand make = absurd stand
  first_nodes_make (r ∷ records) (stead ∷ steads) again changes (fits, fit) (first, rest, is, here, more) make =
      subst (λ l. AllZip (MakesChange patched) (take_while is_node l)
      (expanded_changes (node_steads (r ∷ records) (stead ∷ steads)) changes)) (sym is)
      (by_node (is_node r) refl changes make
      (λ others made. first_nodes_make records steads rest others fit more made))
    where
      by_node : (b : Bool) → is_node r ≡ b → (changes : List Change)
          → AllZip (MakesChange patched) (take_while is_node (r ∷ records)) changes
          → ((others : List Change) → AllZip (MakesChange patched) (take_while is_node records) others
          → AllZip (MakesChange patched) (take_while is_node rest)
          (expanded_changes (node_steads records steads) others))
          → AllZip (MakesChange patched) (take_while is_node (first ++ rest))
          (expanded_changes (node_steads (r ∷ records) (stead ∷ steads)) changes)
      by_node true node changes make later =
          let n = node_of r fits node in
          rw (node, take_nodes first rest (stand_nodes r stead first n here))
          (in_order changes (subst (λ l. AllZip (MakesChange patched) l changes)
          (take_while-cons is_node r records
          ∙ ap (λ b. if b then r ∷ take_while is_node records else []) node) make))
        where
          in_order : (changes : List Change)
              → AllZip (MakesChange patched) (r ∷ take_while is_node records) changes
              → AllZip (MakesChange patched) (first ++ take_while is_node rest)
              (expanded_changes (stead ∷ node_steads records steads) changes)
          in_order [] make = absurd make
          in_order (c ∷ others) (one, make) =
              both_make patched first (take_while is_node rest) (changes_for stead c)
              (expanded_changes (node_steads records steads) others)
              (stand_makes patched r stead first c here one) (later others make)
      by_node false other changes make later =
          let (s, one, same) = other_stands r stead first other here in
          let none : take_while is_node (first ++ rest) ≡ [] =
          ap (λ (l : List DumpRecord). take_while is_node (l ++ rest)) one
          ∙ take_none s rest (ap (has_header path_name) same.headers ∙ other) in
          rw (other, none) tt

  -- the groups, and the groups that replace them
  groups_make : (records : List DumpRecord) (steads : List Stead) (again : List DumpRecord)
      (revisions : List (List Change)) → AllFit records → AllStandFor records steads again
      → AllZip (MakeChanges patched) (groups records) revisions
      → AllZip (MakeChanges patched) (groups again) (expanded_revisions (stead_groups records steads) revisions)
  groups_make [] [] again revisions fit none make =
      subst (λ l. AllZip (MakeChanges patched) (groups l) []) (sym none) tt
  groups_make [] (stead ∷ steads) again revisions fit stand make = absurd stand
  groups_make (r ∷ records) [] again revisions fit stand make = absurd stand
  groups_make (r ∷ records) (stead ∷ steads) again revisions (fits, fit) (first, rest, is, here, more) make =
      subst (λ l. AllZip (MakeChanges patched) (groups l)
      (expanded_revisions (stead_groups (r ∷ records) (stead ∷ steads)) revisions)) (sym is)
      (by_revision (is_revision_record r) refl revisions make
      (λ others made. groups_make records steads rest others fit more made))
    where
      by_revision : (b : Bool) → is_revision_record r ≡ b → (revisions : List (List Change))
          → AllZip (MakeChanges patched) (groups (r ∷ records)) revisions
          → ((others : List (List Change)) → AllZip (MakeChanges patched) (groups records) others
          → AllZip (MakeChanges patched) (groups rest) (expanded_revisions (stead_groups records steads) others))
          → AllZip (MakeChanges patched) (groups (first ++ rest))
          (expanded_revisions (stead_groups (r ∷ records) (stead ∷ steads)) revisions)
      by_revision true rev revisions make later =
          let other : is_node r ≡ false = false_from_ne_true (is_node r) (λ node.
          absurd_bool (is_revision_record r) rev (alone fits.number r fits.lawful node)) in
          let (s, one, same) = other_stands r stead first other here in
          let begins : groups (first ++ rest) ≡ group_of s rest ∷ groups rest =
          ap (λ (l : List DumpRecord). groups (l ++ rest)) one
          ∙ ap (λ b. if b then group_of s rest ∷ groups rest else groups rest)
          (ap (has_header revision_name) same.headers ∙ rev) in
          rw (rev, begins) (in_group (group_of s rest) refl revisions
          (subst (λ (gs : List Group). AllZip (MakeChanges patched) gs revisions)
          (ap (λ b. if b then group_of r records ∷ groups records else groups records) rev) make))
        where
          in_group : (g : Group) → g.nodes ≡ take_while is_node rest → (revisions : List (List Change))
              → AllZip (MakeChanges patched) (group_of r records ∷ groups records) revisions
              → AllZip (MakeChanges patched) (g ∷ groups rest)
              (expanded_revisions (node_steads records steads ∷ stead_groups records steads) revisions)
          in_group g nodes [] make = absurd make
          in_group g nodes (changes ∷ others) (one, make) = (
            subst (λ l. AllZip (MakesChange patched) l (expanded_changes (node_steads records steads) changes))
                (sym nodes) (first_nodes_make records steads rest changes fit more one),
            later others make,
          )
      by_revision false plain revisions make later =
          let behind : groups (first ++ rest) ≡ groups rest = by_node (is_node r) refl in
          rw (plain, behind) (later revisions
          (subst (λ (gs : List Group). AllZip (MakeChanges patched) gs revisions)
          (ap (λ b. if b then group_of r records ∷ groups records else groups records) plain) make))
        where
          by_node : (b : Bool) → is_node r ≡ b → groups (first ++ rest) ≡ groups rest
          by_node true node = groups_behind first rest
              (stand_nodes r stead first (node_of r fits node) here)
          by_node false other =
              let (s, one, same) = other_stands r stead first other here in
              ap (λ (l : List DumpRecord). groups (l ++ rest)) one
              ∙ ap (λ b. if b then group_of s rest ∷ groups rest else groups rest)
              (ap (has_header revision_name) same.headers ∙ plain)

  -- after revision 0, which has no changes
  later_groups_make : (gs hs : List Group) (steads : List (List Stead)) (revisions : List (List Change))
      → HaveSameRevisions gs hs → AllZip (MakeChanges patched) gs ([] ∷ revisions)
      → AllZip (MakeChanges patched) hs (expanded_revisions steads ([] ∷ revisions))
      → AllZip (MakeChanges patched) hs ([] ∷ expanded_revisions (drop 1 steads) revisions)
  later_groups_make [] hs steads revisions same make made = absurd make
  later_groups_make (g ∷ gs) [] steads revisions same make made = absurd same
  later_groups_make (g ∷ gs) (h ∷ hs) [] revisions same make made = absurd made
  later_groups_make (g ∷ gs) (h ∷ hs) ([] ∷ steads) revisions same make made = made
  later_groups_make (g ∷ gs) (h ∷ hs) ((stead ∷ more) ∷ steads) revisions same make made = made

-- if the nodes make expansions of the changes, the text is a dump, whose records are an expanded form
pub expansions_are_dumps : ExpansionsAreDumps
expansions_are_dumps patched settings dump text records steads revisions has makes is expands =
    let (again, whole, stand) = expansion_is_dump dump text is.front records steads is.lfs has is.may is.spelled is.texts
    in
    let fit = whole_fits dump records has in
    let stands = all_stand records steads again is.may stand in (
      again,
      whole,
      record {
        may = is.may;
        stand = stand;
        changes = later_groups_make patched (groups records) (groups again) (stead_groups records steads) revisions
            (same_revisions records steads again fit stands) makes.changes
            (groups_make patched records steads again ([] ∷ revisions) fit stands makes.changes);
        expands = expands;
      },
    )
