-- The properties that the changes of a trail set.
use Rattle.dump_changes.proofs.Prelude.{◌≡◌, inl, inr, is_revision_record, names_of, ℕ, zero, suc, ◌+◌, Bool, true, false, not, ◌&&◌, cond, List, [], ◌∷◌, ◌++◌, map, Option, Some, None, option_map, refl, sym, ap, ◌∙◌, subst, arith, AllZip, DumpRecord, is_node, Patching, MakesChange, IsPropertyBlock, Property}
use Rattle.std.proofs.Common.{get_or, reverse, slice_get, drop, unwrap_or, option_and_then}
use Rattle.std.proofs.lemmas.List.{reverse-append}
use Rattle.std.proofs.lemmas.Simd.{map-map}
use Rattle.std.proofs.lemmas.Option.{slice_get-map}
use Rattle.dump_filter.specs.Groups.{revision_number, group_of, groups}
use Rattle.dump_trees.specs.Changes.{Change, PropertyChange}
use Rattle.dump_trees.specs.steps.Looking.{Placed, end_of, look, placed_from}
use Rattle.dump_history.specs.RecordChanges.{change_of, has_known_action, has_undefined_delta, property_change_of}
use Rattle.dump_index.specs.steps.IndexLaws.{HasProps, IsListed, props_after, props_by, props_there}
use Rattle.dump_index.specs.steps.Listed.{Listed, listed_of}
use Rattle.dump_index.specs.declared.change.NodeChange.{NodeChange}
use Rattle.dump_index.specs.declared.change.Setting.{Setting}
use Rattle.dump_index.specs.steps.Settings.{IsTrail}
use Rattle.dump_index.specs.declared.trail.Part.TheVariants.{Props}
use Rattle.dump_index.proofs.PartLemmas.{props_found}
use Rattle.dump_changes.specs.steps.ListedDumps.{NoRecord, RevisionRecord, NodeRecord, OtherRecord, NodesMake}
use Rattle.dump_changes.specs.steps.NodeProperties.{PropertiesAreOfTrees, ArePropertiesAt, ListNodes, node_numbers, property_blocks}
use Rattle.dump_changes.specs.steps.ChangedProperties.{AreMadeOnTrail, AreChangedBy}
use Rattle.dump_changes.proofs.ChangeLemmas.{told_change}
use Rattle.dump_changes.proofs.ReadLemmas.{nodes_read, reads_revisions}
use Rattle.std.proofs.lemmas.Bool.{cases_Bool, or_parts}
use Rattle.std.specs.List.{list_any}
use Rattle.dump_history.specs.DumpChanges.{MakeChanges, MakeRevisions}
use Rattle.dump_history.proofs.restricted.LoadsOnce.{later_once}
use Rattle.dump_trees.specs.Trees.{root_alone}
use Rattle.dump_trees.proofs.expansions.LookLemmas.{look_finds_each}
use Rattle.dump_index.proofs.LawLemmas.{end_same}

-- the block of a record
module _ (blocks : List (List ℕ)) (records : List DumpRecord) (number : ℕ) (r : DumpRecord) where
  found_block : (found : Option (List ℕ)) → found ≡ slice_get blocks number → blocks ≡ property_blocks records
      → slice_get records number ≡ Some r → found ≡ Some r.props
  found_block found is are at =
      is ∙ ap (λ bs. slice_get bs number) are ∙ slice_get-map (λ (s : DumpRecord). s.props) records number
      ∙ ap (option_map (λ (s : DumpRecord). s.props)) at

  pub own_block : (block : List ℕ) → Some block ≡ slice_get blocks number → blocks ≡ property_blocks records
      → slice_get records number ≡ Some r → r.props ≡ block
  own_block block is are at = sym (ap (λ o. unwrap_or o []) (found_block (Some block) is are at))

  pub no_block : None ≡ slice_get blocks number → blocks ≡ property_blocks records → slice_get records number ≡ Some r → ⊥
  no_block is are at = let bad : None ≡ Some r.props = found_block None is are at in cc

-- the properties that a node's change sets
its_props : (patched : Patching) (r : DumpRecord) (ps : List Property) (c : Change) → change_of patched r ps ≡ Some c
    → property_change_of r ps ≡ c.props
its_props patched r ps c is = cases (has_known_action r && not (has_undefined_delta r)) is
  where
    set : Option Change → Option PropertyChange
    set None = None
    set (Some c) = c.props

    cases : (b : Bool) → cond b (Some (told_change patched r ps)) None ≡ Some c → property_change_of r ps ≡ c.props
    cases true is = ap set is
    cases false is = absurd (let bad : None ≡ Some c = is in cc)

pub changed_by : (patched : Patching) (r : DumpRecord) (c : Change) → MakesChange patched r c → (setting : Setting)
    → HasProps setting c.props → (old new : List Property)
    → ((ps : List Property) → IsPropertyBlock r.props ps → HasProps setting (property_change_of r ps)
    → props_by (property_change_of r ps) old ≡ Some new)
    → props_by c.props old ≡ Some new
changed_by patched r c (ps, has, plain, is) setting says old new made =
    let same = its_props patched r ps c is in
    subst (λ (change : Option PropertyChange). props_by change old ≡ Some new) same
    (made ps has.0 (subst (λ (change : Option PropertyChange). HasProps setting change) (sym same) says))

-- the listed change describes the change of a repository that a record makes; this many records are between it and the
-- first
pub record IsMadeBy (patched : Patching) (records : List DumpRecord) (number : ℕ) (l : Listed) (p : Placed) : Type 0 where
  pub further : ℕ
  pub number_is : l.record_number ≡ number + further
  pub r : DumpRecord
  pub at : slice_get records further ≡ Some r
  pub makes : MakesChange patched r p.change
  pub says : IsListed l p

module _ (patched : Patching) where
  -- the same with one more record before it
  with_record : (r : DumpRecord) (records : List DumpRecord) (number : ℕ) (l : Listed) (p : Placed)
      → IsMadeBy patched records (suc number) l p → IsMadeBy patched (r ∷ records) number l p
  with_record r records number l p made =
      let its = made.number_is in record {
        further = suc made.further;
        number_is = omega (arith, its);
        r = made.r;
        at = made.at;
        makes = made.makes;
        says = made.says;
      }

  no_number : (r : DumpRecord) (records : List DumpRecord) (number : ℕ) → is_node r ≡ false
      → node_numbers number (r ∷ records) ≡ node_numbers (suc number) records
  no_number r records number isnt =
      ap (λ b. cond b (number ∷ node_numbers (suc number) records) (node_numbers (suc number) records)) isnt

  own_number : (r : DumpRecord) (records : List DumpRecord) (number : ℕ) → is_node r ≡ true
      → node_numbers number (r ∷ records) ≡ number ∷ node_numbers (suc number) records
  own_number r records number is =
      ap (λ b. cond b (number ∷ node_numbers (suc number) records) (node_numbers (suc number) records)) is

  abbrev numbers_of : List Listed → List ℕ
  numbers_of listed = map (λ (l : Listed). l.record_number) listed

  pub made_by : (present : Option ℕ) (number : ℕ) (records : List DumpRecord) (placed : List Placed) (listed : List Listed)
      → NodesMake patched present records placed → AllZip IsListed listed placed
      → numbers_of listed ≡ node_numbers number records → (place : ℕ) (l : Listed) → slice_get listed place ≡ Some l
      → (p : Placed) × (slice_get placed place ≡ Some p) × IsMadeBy patched records number l p
  made_by present number _ _ [] (NoRecord _) zip same place l is = absurd (let bad : None ≡ Some l = is in cc)
  made_by present number _ _ (k ∷ listed) (NoRecord _) zip same place l is = absurd zip
  made_by present number _ placed listed (RevisionRecord _ r records _ revision isnt rest) zip same place l is =
      let its = made_by (Some (revision_number r)) (suc number) records placed listed rest zip
      (same ∙ no_number r records number isnt) place l is in
      (its.0, its.1, with_record r records number l its.0 its.2)
  made_by present number _ placed listed (OtherRecord _ r records _ other isnt rest) zip same place l is =
      let its = made_by None (suc number) records placed listed rest zip (same ∙ no_number r records number isnt) place l is in
      (its.0, its.1, with_record r records number l its.0 its.2)
  made_by _ number _ _ [] (NodeRecord revision r records placed c other node makes some rest) zip same place l is = absurd zip
  made_by _ number _ _ (k ∷ listed) (NodeRecord revision r records placed c other node makes some rest) zip same zero l is =
      let numbers = same ∙ own_number r records number node in
      let own : l ≡ k = sym (ap (λ o. unwrap_or o k) is) in
      let its : l.record_number ≡ number = ap (λ (x : Listed). x.record_number) own ∙ ap (λ ns. get_or ns 0 0) numbers in (
        record { revision = revision; change = c },
        refl,
        record {
          further = 0;
          number_is = omega (arith, its);
          r = r;
          at = refl;
          makes = makes;
          says = subst (λ (x : Listed). IsListed x (record { revision = revision; change = c })) (sym own) zip.0;
        },
      )
  made_by _ number _ _ (k ∷ listed) (NodeRecord revision r records placed c other node makes some rest) zip same (suc place) l
      is =
      let numbers = same ∙ own_number r records number node in
      let its = made_by (Some revision) (suc number) records placed listed rest zip.1 (ap (drop 1) numbers) place l is in
      (its.0, its.1, with_record r records number l its.0 its.2)

-- if one list has no change at a place, the other list has none there
pub none_placed : (listed : List Listed) (placed : List Placed) → AllZip IsListed listed placed → (place : ℕ)
    → slice_get listed place ≡ None → slice_get placed place ≡ None
none_placed [] [] zip place none = refl
none_placed [] (p ∷ placed) zip place none = absurd zip
none_placed (l ∷ listed) [] zip place none = absurd zip
none_placed (l ∷ listed) (p ∷ placed) zip zero none = absurd (let bad : Some l ≡ None = none in cc)
none_placed (l ∷ listed) (p ∷ placed) zip (suc place) none = none_placed listed placed zip.1 place none

-- the changes of a dump at these places set these properties
abbrev pub AreSetAt : List (List ℕ) → List Listed → List ℕ → List Property → Type 0
AreSetAt blocks listed places props =
    (patched : Patching) (records : List DumpRecord) (changes : List NodeChange) (placed : List Placed) →
    blocks ≡ property_blocks records → listed ≡ map listed_of changes → ListNodes patched records changes placed
    → props_after placed (reverse places) ≡ Some props

module _ (blocks : List (List ℕ)) (listed : List Listed) (places : List ℕ) (old : List Property)
    (so_far : AreSetAt blocks listed places old) (place : ℕ) where
  -- the properties after one more place
  after_place : (placed : List Placed) (new : List Property) → props_after placed (reverse places) ≡ Some old
      → props_there (slice_get placed place) old ≡ Some new
      → props_after placed (reverse (places ++ place ∷ [])) ≡ Some new
  after_place placed new before made =
      ap (props_after placed) (reverse-append places (place ∷ []))
      ∙ ap (λ o. option_and_then (props_there (slice_get placed place)) o) before ∙ made

  pub set_by_change : (l : Listed) (new : List Property) → Some l ≡ slice_get listed place → AreChangedBy blocks l old new
      → AreSetAt blocks listed (places ++ place ∷ []) new
  set_by_change l new there changed patched records changes placed are listed_is nodes =
      let numbers : numbers_of patched (map listed_of changes) ≡ node_numbers 0 records =
      map-map (λ (l : Listed). l.record_number) listed_of changes ∙ nodes.numbers in
      let its = made_by patched None 0 records placed (map listed_of changes) nodes.make nodes.listed numbers place l
      (sym (there ∙ ap (λ ls. slice_get ls place) listed_is)) in
      let made = its.2 in
      let further : 0 + made.further ≡ made.further = omega arith in
      after_place placed new (so_far patched records changes placed are listed_is nodes)
      (ap (λ o. props_there o old) its.1
      ∙ changed patched records made.r its.0.change are (ap (slice_get records) (made.number_is ∙ further) ∙ made.at) made.makes
      made.says.props)

  pub set_by_none : None ≡ slice_get listed place → AreSetAt blocks listed (places ++ place ∷ []) old
  set_by_none none patched records changes placed are listed_is nodes =
      after_place placed old (so_far patched records changes placed are listed_is nodes)
      (ap (λ o. props_there o old) (none_placed (map listed_of changes) placed nodes.listed place
      (sym (none ∙ ap (λ ls. slice_get ls place) listed_is))))

-- the places of a trail, from the oldest on
pub of_trail : (blocks : List (List ℕ)) (listed : List Listed) (path : List ℕ) (count : ℕ) (places : List ℕ)
    (props : List Property) → IsTrail Props listed count path (reverse places) → AreSetAt blocks listed places props
    → AreMadeOnTrail blocks listed path count props
of_trail blocks listed path count places props is set = (reverse places, is, set)

-- the properties of a trail are the node's properties
pub of_node : (blocks : List (List ℕ)) (listed : List Listed) (path : List ℕ) (count : ℕ) (props : List Property)
    → AreMadeOnTrail blocks listed path count props → ArePropertiesAt blocks listed path count props
of_node blocks listed path count props (trail, is, set) patched records changes placed node are listed_is nodes ordered
    there =
    let found = props_found changes placed count path trail node ordered nodes.listed
    (subst (λ ls. IsTrail Props ls count path trail) listed_is is) there in
    ap (λ o. unwrap_or o []) (sym found ∙ set patched records changes placed are listed_is nodes)

-- without a revision record there are no groups
some_group : (records : List DumpRecord) → list_any is_revision_record records ≡ false → groups records ≡ []
some_group [] none = refl
some_group (r ∷ records) none =
    let both = or_parts (is_revision_record r) (list_any is_revision_record records) none in
    ap (λ b. cond b (group_of r records ∷ groups records) (groups records)) both.0 ∙ some_group records both.1

pub has_revision : (patched : Patching) (records : List DumpRecord) (revisions : List (List Change))
    → MakeRevisions patched records revisions → list_any is_revision_record records ≡ true
has_revision patched records revisions makes = elim (cases_Bool (list_any is_revision_record records)) [
  | inl is ↦ is
  | inr none ↦ absurd (subst (λ gs. AllZip (MakeChanges patched) gs ([] ∷ revisions)) (some_group records none) makes.changes)
]

-- the nodes of a dump make the changes of its revisions
pub nodes_are : (patched : Patching) (records : List DumpRecord) (revisions : List (List Change)) (placed : List Placed)
    → MakeRevisions patched records revisions → NodesMake patched None records placed → placed ≡ placed_from 1 revisions
nodes_are patched records revisions placed makes nodes =
    let reads = nodes_read patched 0 None records placed nodes makes.numbered tt
    (inl (has_revision patched records revisions makes)) in
    let made = reads_revisions patched records placed reads in
    made.2 ∙ ap (placed_from 1) (later_once patched (groups records) [] made.0 revisions made.1.changes makes.changes)

pub properties_of_trees : PropertiesAreOfTrees
properties_of_trees patched records changes revisions trees number tree path node props listed numbers ordered makes loads at
    there are =
    let (placed, nodes, zip) = listed patched in
    let names = names_of path in
    are patched records changes placed node refl refl (record { make = nodes; listed = zip; numbers = numbers }) ordered
    (ap (λ n. look root_alone placed n names) (sym (end_same (map listed_of changes) placed zip number))
    ∙ ap (λ ps. look root_alone ps (end_of ps number) names) (nodes_are patched records revisions placed makes nodes)
    ∙ look_finds_each root_alone revisions trees number tree names loads at ∙ there)
