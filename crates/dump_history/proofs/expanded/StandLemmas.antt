-- What records have in common with the records that replace them.
use Rattle.dump_history.proofs.Prelude.{◌≡◌, ◌==◌, Bool, true, not, ◌&&◌, ◌||◌, ◌++◌, map, refl, sym, ap, ◌∙◌, subst, unwrap_or, take_while, AllZip, if◌then◌else◌, list_all, take_while-cons, or-true, first_true, second_true, and_from, absurd_bool, has_header, path_name, header_number, DumpRecord, Property, HasPropertyList, is_node, is_revision_record, Group, group_number, groups, has_ordered_nodes}
use Rattle.std.proofs.Common.{ℕ, false, List, [], ◌∷◌, codes}
use Rattle.dump_text.specs.Names.{revision_name, version_name}
use Rattle.dump_text.specs.PropertyList.{IsPropertyBlock}
use Rattle.dump_history.specs.RecordChanges.{has_action}
use Rattle.dump_history.specs.WrittenNodes.{WrittenNode, node_record, can_be_written}
use Rattle.dump_history.specs.steps.ExpandedDumps.{OwnForm, Stead, own_records, stead_records, expanded_records, may_be_left, may_precede, may_stand, IsSameRecord}
use Rattle.dump_history.proofs.expanded.FormLemmas.{IsNode, lawful_node, written_node, replacing_node, Fits, AllFit}

-- these records replace this one, and they may
pub record StandFor (r : DumpRecord) (stead : Stead) (again : List DumpRecord) : Type 0 where
  pub may : may_stand r stead ≡ true
  pub same : AllZip IsSameRecord (stead_records r stead) again

-- the records that replace each record, in order
abbrev pub AllStandFor : List DumpRecord → List Stead → List DumpRecord → Type 0
AllStandFor [] [] again = again ≡ []
AllStandFor (r ∷ records) (stead ∷ steads) again = (first : List DumpRecord) × (rest : List DumpRecord)
    × (again ≡ first ++ rest) × StandFor r stead first × AllStandFor records steads rest
AllStandFor _ _ again = ⊥

-- if records are the same as two lists joined, they have two parts, each of which is the same as one of the lists
same_parts : (xs ys again : List DumpRecord) → AllZip IsSameRecord (xs ++ ys) again
    → (first : List DumpRecord) × (rest : List DumpRecord) × (again ≡ first ++ rest)
    × AllZip IsSameRecord xs first × AllZip IsSameRecord ys rest
same_parts [] ys again all = ([], again, refl, tt, all)
same_parts (x ∷ xs) ys [] all = absurd all
same_parts (x ∷ xs) ys (s ∷ again) (one, all) =
    let (first, rest, is, here, more) = same_parts xs ys again all in
    (s ∷ first, rest, ap (λ (l : List DumpRecord). s ∷ l) is, (one, here), more)

pub all_stand : (records : List DumpRecord) (steads : List Stead) (again : List DumpRecord)
    → AllZip (λ r stead. may_stand r stead ≡ true) records steads
    → AllZip IsSameRecord (expanded_records records steads) again → AllStandFor records steads again
all_stand [] [] [] may same = refl
all_stand [] [] (s ∷ again) may same = absurd same
all_stand [] (stead ∷ steads) again may same = absurd may
all_stand (r ∷ records) [] again may same = absurd may
all_stand (r ∷ records) (stead ∷ steads) again (one, may) same =
    let (first, rest, is, here, more) = same_parts (stead_records r stead) (expanded_records records steads) again same in
    (first, rest, is, record { may = one; same = here }, all_stand records steads rest may more)

-- the parts of what may replace a record

pub precedes : (r : DumpRecord) (stead : Stead) → may_stand r stead ≡ true → may_precede r stead.nodes ≡ true
precedes r stead may = first_true (may_precede r stead.nodes) (may_be_left r stead.own) may

pub is_left : (r : DumpRecord) (stead : Stead) → may_stand r stead ≡ true → may_be_left r stead.own ≡ true
is_left r stead may = second_true (may_precede r stead.nodes) (may_be_left r stead.own) may

-- what replaces a record that is no node

pub other_records : (r : DumpRecord) (stead : Stead) → is_node r ≡ false → may_stand r stead ≡ true
    → stead_records r stead ≡ r ∷ []
other_records r stead other may = by_parts stead.nodes stead.own (precedes r stead may) (is_left r stead may)
  where
    no_node : is_node r ≡ true → ⊥
    no_node node = absurd_bool (is_node r) node other

    by_parts : (nodes : List WrittenNode) (own : OwnForm) → may_precede r nodes ≡ true → may_be_left r own ≡ true
        → map (node_record r.place r.version) nodes ++ own_records r own ≡ r ∷ []
    by_parts [] OwnForm.AsItIs before left = refl
    by_parts [] OwnForm.Replacing before left =
        absurd (no_node (first_true (is_node r) (has_action (codes "add") r) left))
    by_parts [] OwnForm.LeftOut before left = absurd (no_node left)
    by_parts (w ∷ nodes) own before left =
        absurd (no_node (first_true (is_node r) (list_all can_be_written (w ∷ nodes)) before))

pub other_stands : (r : DumpRecord) (stead : Stead) (first : List DumpRecord) → is_node r ≡ false → StandFor r stead first
    → (s : DumpRecord) × (first ≡ s ∷ []) × IsSameRecord r s
other_stands r stead first other stand =
    alone first (subst (λ (l : List DumpRecord). AllZip IsSameRecord l first) (other_records r stead other stand.may)
    stand.same)
  where
    alone : (first : List DumpRecord) → AllZip IsSameRecord (r ∷ []) first
        → (s : DumpRecord) × (first ≡ s ∷ []) × IsSameRecord r s
    alone [] same = absurd same
    alone (s ∷ []) (one, same) = (s, refl, one)
    alone (s ∷ t ∷ more) (one, same) = absurd same

-- what replaces a node consists of nodes

-- each of the records is a node
abbrev pub AllNodes : List DumpRecord → Type 0
AllNodes [] = Unit {0}
AllNodes (s ∷ again) = IsNode s × AllNodes again

both_nodes : (first rest : List DumpRecord) → AllNodes first → AllNodes rest → AllNodes (first ++ rest)
both_nodes [] rest all more = more
both_nodes (s ∷ first) rest (one, all) more = (one, both_nodes first rest all more)

pub node_records : (r : DumpRecord) (stead : Stead) → IsNode r → AllNodes (stead_records r stead)
node_records r stead n =
    both_nodes (map (node_record r.place r.version) stead.nodes) (own_records r stead.own) (written stead.nodes)
    (own stead.own)
  where
    written : (nodes : List WrittenNode) → AllNodes (map (node_record r.place r.version) nodes)
    written [] = tt
    written (w ∷ nodes) = (written_node r.place r.version w, written nodes)

    own : (form : OwnForm) → AllNodes (own_records r form)
    own OwnForm.AsItIs = (n, tt)
    own OwnForm.Replacing = (replacing_node r n, tt)
    own OwnForm.LeftOut = tt

same_nodes : (xs again : List DumpRecord) → AllNodes xs → AllZip IsSameRecord xs again → AllNodes again
same_nodes [] [] all same = tt
same_nodes [] (s ∷ again) all same = absurd same
same_nodes (x ∷ xs) [] all same = absurd same
same_nodes (x ∷ xs) (s ∷ again) (n, all) (one, same) = (
  record {
    node = ap (has_header path_name) one.headers ∙ n.node;
    no_revision = ap (has_header revision_name) one.headers ∙ n.no_revision;
    no_version = ap (has_header version_name) one.headers ∙ n.no_version;
  },
  same_nodes xs again all same,
)

pub stand_nodes : (r : DumpRecord) (stead : Stead) (first : List DumpRecord) → IsNode r → StandFor r stead first
    → AllNodes first
stand_nodes r stead first n stand =
    same_nodes (stead_records r stead) first (node_records r stead n) stand.same

-- nodes before other records

pub take_nodes : (first rest : List DumpRecord) → AllNodes first
    → take_while is_node (first ++ rest) ≡ first ++ take_while is_node rest
take_nodes [] rest all = refl
take_nodes (s ∷ first) rest (one, all) = take_while-cons is_node s (first ++ rest)
    ∙ ap (λ b. if b then s ∷ take_while is_node (first ++ rest) else []) one.node
    ∙ ap (λ (l : List DumpRecord). s ∷ l) (take_nodes first rest all)

pub groups_behind : (first rest : List DumpRecord) → AllNodes first → groups (first ++ rest) ≡ groups rest
groups_behind [] rest all = refl
groups_behind (s ∷ first) rest (one, all) = rw one.no_revision (groups_behind first rest all)

pub nodes_order : (first rest : List DumpRecord) → AllNodes first → has_ordered_nodes true rest ≡ true
    → has_ordered_nodes true (first ++ rest) ≡ true
nodes_order [] rest all order = order
nodes_order (s ∷ first) rest (one, all) order = rw (one.node, one.no_revision) (nodes_order first rest all order)

-- a record that fits and is a node is such a node
pub node_of : (r : DumpRecord) → Fits r → is_node r ≡ true → IsNode r
node_of r fits node = lawful_node fits.number r fits.lawful node

-- revisions

-- the revision records of the groups are the same
abbrev pub HaveSameRevisions : List Group → List Group → Type 0
HaveSameRevisions gs hs = AllZip (λ (g : Group) (h : Group). IsSameRecord g.revision h.revision) gs hs

-- if records replace others, the revisions are the same
pub same_revisions : (records : List DumpRecord) (steads : List Stead) (again : List DumpRecord) → AllFit records
    → AllStandFor records steads again → HaveSameRevisions (groups records) (groups again)
same_revisions [] [] again fit none = subst (λ (l : List DumpRecord). HaveSameRevisions [] (groups l)) (sym none) tt
same_revisions [] (stead ∷ steads) again fit stand = absurd stand
same_revisions (r ∷ records) [] again fit stand = absurd stand
same_revisions (r ∷ records) (stead ∷ steads) again (fits, fit) (first, rest, is, here, more) =
    subst (λ (l : List DumpRecord). HaveSameRevisions (groups (r ∷ records)) (groups l)) (sym is)
    (by_node (is_node r) refl (same_revisions records steads rest fit more))
  where
    by_same : (s : DumpRecord) → IsSameRecord r s → HaveSameRevisions (groups records) (groups rest) → (b : Bool)
        → is_revision_record r ≡ b → HaveSameRevisions (groups (r ∷ records)) (groups (s ∷ rest))
    by_same s same later true is = rw (is, ap (has_header revision_name) same.headers ∙ is) (same, later)
    by_same s same later false is = rw (is, ap (has_header revision_name) same.headers ∙ is) later

    by_node : (b : Bool) → is_node r ≡ b → HaveSameRevisions (groups records) (groups rest)
        → HaveSameRevisions (groups (r ∷ records)) (groups (first ++ rest))
    by_node true node later =
        let n = node_of r fits node in
        rw (n.no_revision, groups_behind first rest (stand_nodes r stead first n here)) later
    by_node false other later =
        let (s, one, same) = other_stands r stead first other here in
        subst (λ (l : List DumpRecord). HaveSameRevisions (groups (r ∷ records)) (groups (l ++ rest))) (sym one)
        (by_same s same later (is_revision_record r) refl)

-- so their numbers are the same
pub same_numbers : (gs hs : List Group) → HaveSameRevisions gs hs → map group_number hs ≡ map group_number gs
same_numbers [] [] same = refl
same_numbers [] (h ∷ hs) same = absurd same
same_numbers (g ∷ gs) [] same = absurd same
same_numbers (g ∷ gs) (h ∷ hs) (one, more) =
    λ i. unwrap_or (header_number revision_name (one.headers i)) 0 ∷ same_numbers gs hs more i

-- the properties of a record are those of the same one
pub same_list : (r s : DumpRecord) (ps : List Property) → IsSameRecord r s → HasPropertyList r ps → HasPropertyList s ps
same_list r s ps same (block, deletes) = (
  subst (λ (t : List ℕ). IsPropertyBlock t ps) (sym same.props) block,
  λ some. (λ i. has_header path_name (same.headers i) && (same.version i == 3)) ∙ deletes some,
)

-- so the revisions have the same properties
pub same_properties : (gs hs : List Group) (props : List (List Property)) → HaveSameRevisions gs hs
    → AllZip (λ (g : Group) ps. HasPropertyList g.revision ps) gs props
    → AllZip (λ (g : Group) ps. HasPropertyList g.revision ps) hs props
same_properties [] [] props same have = have
same_properties [] (h ∷ hs) props same have = absurd same
same_properties (g ∷ gs) [] props same have = absurd same
same_properties (g ∷ gs) (h ∷ hs) [] same have = absurd have
same_properties (g ∷ gs) (h ∷ hs) (ps ∷ props) (one, more) (here, have) =
    (same_list g.revision h.revision ps one here, same_properties gs hs props more have)

-- order

-- if records replace records in order, they are in order too, whether or not a node may follow
pub same_order : (may : Bool) (records : List DumpRecord) (steads : List Stead) (again : List DumpRecord)
    → AllFit records → AllStandFor records steads again → has_ordered_nodes may records ≡ true
    → has_ordered_nodes may again ≡ true
same_order may [] [] again fit none order = ap (has_ordered_nodes may) none
same_order may [] (stead ∷ steads) again fit stand order = absurd stand
same_order may (r ∷ records) [] again fit stand order = absurd stand
same_order may (r ∷ records) (stead ∷ steads) again (fits, fit) (first, rest, is, here, more) order =
    ap (has_ordered_nodes may) is
    ∙ by_node (is_node r) refl (same_order (is_revision_record r || is_node r) records steads rest fit more
    (second_true (not (is_node r) || may) (has_ordered_nodes (is_revision_record r || is_node r) records) order))
  where
    follows : (not (is_node r) || may) ≡ true
    follows = first_true (not (is_node r) || may) (has_ordered_nodes (is_revision_record r || is_node r) records) order

    by_node : (b : Bool) → is_node r ≡ b → has_ordered_nodes (is_revision_record r || is_node r) rest ≡ true
        → has_ordered_nodes may (first ++ rest) ≡ true
    by_node true node done =
        ap (λ b. has_ordered_nodes b (first ++ rest)) (sym (ap (λ b. not b || may) node) ∙ follows)
        ∙ nodes_order first rest (stand_nodes r stead first (node_of r fits node) here)
        (sym (ap (λ b. has_ordered_nodes b rest) (ap (λ b. is_revision_record r || b) node
        ∙ or-true (is_revision_record r))) ∙ done)
    by_node false other done =
        let (s, one, same) = other_stands r stead first other here in
        ap (λ (l : List DumpRecord). has_ordered_nodes may (l ++ rest)) one
        ∙ and_from (not (is_node s) || may) (has_ordered_nodes (is_revision_record s || is_node s) rest)
        (ap (λ h. not (has_header path_name h) || may) same.headers ∙ follows)
        (ap (λ h. has_ordered_nodes (has_header revision_name h || has_header path_name h) rest) same.headers ∙ done)
