-- Records that are read one by one make the revisions of the dump.
use Rattle.std.specs.Prelude.{⊤}
use Rattle.std.proofs.Common.{◌≡◌, ◌<◌, ℕ, zero, suc, Bool, true, false, not, ◌&&◌, ◌||◌, cond, List, [], ◌∷◌, ◌++◌, map, Option, Some, None, nat_eq, nat_le, refl, sym, ap, ap₂, ◌∙◌, subst, inl, inr, ◌⊎◌, eq-eqb, eqb-true, arith}
use Rattle.std.specs.List.{AllZip, list_any, take_while}
use Rattle.std.proofs.lemmas.List.Sums.{take_while-cons}
use Rattle.std.proofs.lemmas.Bool.{and_from, and_parts}
use Rattle.dump_records.specs.DumpText.{Ending, HasRecords}
use Rattle.dump_records.specs.RecordText.{DumpRecord}
use Rattle.dump_digest.specs.RecordParts.{is_revision_record, is_node}
use Rattle.dump_filter.specs.Groups.{Group, group_of, groups, group_number, revision_number, revision_numbers}
use Rattle.dump_trees.specs.Changes.{Change}
use Rattle.dump_trees.specs.steps.Looking.{Placed, placed_from}
use Rattle.dump_history.specs.RecordChanges.{Patching, MakesChange}
use Rattle.dump_history.specs.DumpChanges.{counts_from, has_ordered_nodes, MakeChanges, MakeRevisions}
use Rattle.dump_index.specs.steps.IndexLaws.{AreListed, IsListed}
use Rattle.dump_index.specs.steps.Listed.{listed_of}
use Rattle.dump_index.specs.declared.change.NodeChange.{NodeChange}
use Rattle.dump_changes.specs.ListedDumps.{rise_from}
use Rattle.dump_changes.specs.steps.ListedDumps.{NoRecord, RevisionRecord, NodeRecord, OtherRecord, AreListedIn, NodesMake, are_numbered}
use Rattle.dump_changes.specs.steps.Reading.{Reads, NoMore, Revision, Node, Other}

abbrev of_one : ℕ → List Change → List Placed
of_one number changes = map (λ (c : Change). record { revision = number; change = c }) changes

module _ (patched : Patching) where
  -- what the records make, if nodes of the revision with this number may come first
  record OpenParts (number : ℕ) (records : List DumpRecord) (placed : List Placed) : Type 0 where
    own : List Change
    revisions : List (List Change)
    own_are : AllZip (MakesChange patched) (take_while is_node records) own
    others : AllZip (MakeChanges patched) (groups records) revisions
    placed_is : placed ≡ of_one number own ++ placed_from (suc number) revisions
    numbered : counts_from (suc number) (revision_numbers records) ≡ true
    ordered : has_ordered_nodes true records ≡ true
    none : number ≡ 0 → own ≡ []

  -- what the records make, if no node may come first
  record ClosedParts (next : ℕ) (records : List DumpRecord) (placed : List Placed) : Type 0 where
    revisions : List (List Change)
    others : AllZip (MakeChanges patched) (groups records) revisions
    placed_is : placed ≡ placed_from next revisions
    numbered : counts_from next (revision_numbers records) ≡ true
    ordered : has_ordered_nodes false records ≡ true
    first : next ≡ 0 → (groups records ≡ []) ⊎ ((behind : List (List Change)) × (revisions ≡ [] ∷ behind))

  abbrev Parts : Option ℕ → ℕ → List DumpRecord → List Placed → Type 0
  Parts None next records placed = ClosedParts next records placed
  Parts (Some number) next records placed = next ≡ suc number → OpenParts number records placed

  module _ (r : DumpRecord) (records : List DumpRecord) where
    -- no node is at the front if this record is none
    no_front : is_node r ≡ false → take_while is_node (r ∷ records) ≡ []
    no_front isnt =
        take_while-cons is_node r records ∙ ap (λ b. cond b (r ∷ take_while is_node records) []) isnt

    front : is_node r ≡ true → take_while is_node (r ∷ records) ≡ r ∷ take_while is_node records
    front is = take_while-cons is_node r records ∙ ap (λ b. cond b (r ∷ take_while is_node records) []) is

    own_group : is_revision_record r ≡ true → groups (r ∷ records) ≡ group_of r records ∷ groups records
    own_group is = ap (λ b. cond b (group_of r records ∷ groups records) (groups records)) is

    no_group : is_revision_record r ≡ false → groups (r ∷ records) ≡ groups records
    no_group isnt = ap (λ b. cond b (group_of r records ∷ groups records) (groups records)) isnt

    ordered_is : (ready revision node : Bool) → is_revision_record r ≡ revision → is_node r ≡ node
        → has_ordered_nodes ready (r ∷ records) ≡ ((not node || ready) && has_ordered_nodes (revision || node) records)
    ordered_is ready revision node one two =
        ap₂ (λ a b. (not b || ready) && has_ordered_nodes (a || b) records) one two

    -- a revision
    module _ (next : ℕ) (placed : List Placed) (is : is_revision_record r ≡ true) (isnt : is_node r ≡ false)
        (number : revision_number r ≡ next) (rest : OpenParts next records placed) where
      counted : counts_from next (revision_numbers (r ∷ records)) ≡ true
      counted =
          ap (λ (gs : List Group). counts_from next (map group_number gs)) (own_group is)
          ∙ and_from (nat_eq (revision_number r) next) (counts_from (suc next) (revision_numbers records))
          (eq-eqb (revision_number r) next number) rest.numbered

      its_others : AllZip (MakeChanges patched) (groups (r ∷ records)) (rest.own ∷ rest.revisions)
      its_others =
          subst (λ (gs : List Group). AllZip (MakeChanges patched) gs (rest.own ∷ rest.revisions)) (sym (own_group is))
          (rest.own_are, rest.others)

      closed_revision : ClosedParts next (r ∷ records) placed
      closed_revision = record {
        revisions = rest.own ∷ rest.revisions;
        others = its_others;
        placed_is = rest.placed_is;
        numbered = counted;
        ordered = ordered_is false true false is isnt ∙ rest.ordered;
        first = λ zero_is. inr (rest.revisions, ap (λ (cs : List Change). cs ∷ rest.revisions) (rest.none zero_is));
      }

      open_revision : (before : ℕ) → next ≡ suc before → OpenParts before (r ∷ records) placed
      open_revision before follows = record {
        own = [];
        revisions = rest.own ∷ rest.revisions;
        own_are = subst (λ (rs : List DumpRecord). AllZip (MakesChange patched) rs []) (sym (no_front isnt)) tt;
        others = its_others;
        placed_is = rest.placed_is ∙ ap (λ n. placed_from n (rest.own ∷ rest.revisions)) follows;
        numbered = sym (ap (λ n. counts_from n (revision_numbers (r ∷ records))) follows) ∙ counted;
        ordered = ordered_is true true false is isnt ∙ rest.ordered;
        none = λ zero_is. refl;
      }

    -- a node
    open_node : (number : ℕ) (placed : List Placed) (c : Change) → is_revision_record r ≡ false → is_node r ≡ true
        → MakesChange patched r c → OpenParts (suc number) records placed
        → OpenParts (suc number) (r ∷ records) (record { revision = suc number; change = c } ∷ placed)
    open_node number placed c isnt is makes rest = record {
      own = c ∷ rest.own;
      revisions = rest.revisions;
      own_are =
          subst (λ (rs : List DumpRecord). AllZip (MakesChange patched) rs (c ∷ rest.own)) (sym (front is))
          (makes, rest.own_are);
      others = subst (λ (gs : List Group). AllZip (MakeChanges patched) gs rest.revisions) (sym (no_group isnt)) rest.others;
      placed_is = ap (λ (ps : List Placed). record { revision = suc number; change = c } ∷ ps) rest.placed_is;
      numbered = ap (λ (gs : List Group). counts_from (suc (suc number)) (map group_number gs)) (no_group isnt) ∙ rest.numbered;
      ordered = ordered_is true false true isnt is ∙ rest.ordered;
      none = λ bad. absurd (let worse : suc number ≡ 0 = bad in omega arith);
    }

    -- another record
    module _ (next : ℕ) (placed : List Placed) (no_revision : is_revision_record r ≡ false) (no_node : is_node r ≡ false)
        (rest : ClosedParts next records placed) where
      abbrev closed_other : ClosedParts next (r ∷ records) placed
      closed_other = record {
        revisions = rest.revisions;
        others = subst (λ (gs : List Group). AllZip (MakeChanges patched) gs rest.revisions) (sym (no_group no_revision)) rest.others;
        placed_is = rest.placed_is;
        numbered = ap (λ (gs : List Group). counts_from next (map group_number gs)) (no_group no_revision) ∙ rest.numbered;
        ordered = ordered_is false false false no_revision no_node ∙ rest.ordered;
        first = λ zero_is. subst (λ (gs : List Group). (gs ≡ []) ⊎ ((behind : List (List Change)) × (rest.revisions ≡ [] ∷ behind)))
            (sym (no_group no_revision)) (rest.first zero_is);
      }

      open_other : (number : ℕ) → next ≡ suc number → OpenParts number (r ∷ records) placed
      open_other number follows = record {
        own = [];
        revisions = rest.revisions;
        own_are = subst (λ (rs : List DumpRecord). AllZip (MakesChange patched) rs []) (sym (no_front no_node)) tt;
        others = closed_other.others;
        placed_is = rest.placed_is ∙ ap (λ n. placed_from n rest.revisions) follows;
        numbered = sym (ap (λ n. counts_from n (revision_numbers (r ∷ records))) follows) ∙ closed_other.numbered;
        ordered = ordered_is true false false no_revision no_node ∙ rest.ordered;
        none = λ zero_is. refl;
      }

  parts : (next : ℕ) (present : Option ℕ) (records : List DumpRecord) (placed : List Placed)
      → Reads patched next present records placed → Parts present next records placed
  parts _ None _ _ (NoMore next _) = record {
    revisions = [];
    others = tt;
    placed_is = refl;
    numbered = refl;
    ordered = refl;
    first = λ zero_is. inl refl;
  }
  parts _ (Some number) _ _ (NoMore next _) = λ follows. record {
    own = [];
    revisions = [];
    own_are = tt;
    others = tt;
    placed_is = refl;
    numbered = refl;
    ordered = refl;
    none = λ zero_is. refl;
  }
  parts next None _ placed (Revision _ _ r records _ is isnt number rest) =
      closed_revision r records next placed is isnt number (parts (suc next) (Some next) records placed rest refl)
  parts next (Some before) _ placed (Revision _ _ r records _ is isnt number rest) = λ follows.
      open_revision r records next placed is isnt number (parts (suc next) (Some next) records placed rest refl) before follows
  parts next (Some _) _ _ (Node _ number r records placed c isnt is makes rest) = λ follows.
      open_node r records number placed c isnt is makes (parts next (Some (suc number)) records placed rest follows)
  parts next None _ placed (Other _ _ r records _ one two rest) =
      closed_other r records next placed one two (parts next None records placed rest)
  parts next (Some number) _ placed (Other _ _ r records _ one two rest) = λ follows.
      open_other r records next placed one two (parts next None records placed rest) number follows

  -- if no revision follows, one came before
  no_groups : (next : ℕ) (present : Option ℕ) (records : List DumpRecord) (placed : List Placed)
      → Reads patched next present records placed → groups records ≡ [] → next ≡ 0 → ⊥
  no_groups _ present _ _ (NoMore next _) none zero_is = let bad : suc next ≡ 0 = zero_is in absurd (omega arith)
  no_groups next present _ placed (Revision _ _ r records _ is isnt number rest) none zero_is =
      let bad : group_of r records ∷ groups records ≡ [] = sym (own_group r records is) ∙ none in absurd (cc)
  no_groups next _ _ _ (Node _ number r records placed c isnt is makes rest) none zero_is =
      no_groups next (Some (suc number)) records placed rest (sym (no_group r records isnt) ∙ none) zero_is
  no_groups next present _ placed (Other _ _ r records _ one two rest) none zero_is =
      no_groups next None records placed rest (sym (no_group r records one) ∙ none) zero_is

  -- all records of a dump
  pub reads_revisions : (records : List DumpRecord) (placed : List Placed) → Reads patched 0 None records placed
      → (revisions : List (List Change)) × MakeRevisions patched records revisions × (placed ≡ placed_from 1 revisions)
  reads_revisions records placed reads = cases (all.first refl)
    where
      all : ClosedParts 0 records placed
      all = parts 0 None records placed reads

      cases : (groups records ≡ []) ⊎ ((behind : List (List Change)) × (all.revisions ≡ [] ∷ behind))
          → (revisions : List (List Change)) × MakeRevisions patched records revisions × (placed ≡ placed_from 1 revisions)
      cases (inl none) = absurd (no_groups 0 None records placed reads none refl)
      cases (inr (behind, is)) = (
        behind,
        record {
          numbered = all.numbered;
          ordered = all.ordered;
          changes = subst (λ (rs : List (List Change)). AllZip (MakeChanges patched) (groups records) rs) is all.others;
        },
        all.placed_is ∙ ap (placed_from 0) is,
      )

-- a revision counts, and other records don't
pub counts_revision : (next : ℕ) (r : DumpRecord) (records : List DumpRecord) → is_revision_record r ≡ true
    → counts_from next (revision_numbers (r ∷ records))
    ≡ (nat_eq (revision_number r) next && counts_from (suc next) (revision_numbers records))
counts_revision next r records is =
    ap (λ (b : Bool). counts_from next (map group_number (cond b (group_of r records ∷ groups records) (groups records)))) is

pub counts_other : (next : ℕ) (r : DumpRecord) (records : List DumpRecord) → is_revision_record r ≡ false
    → counts_from next (revision_numbers (r ∷ records)) ≡ counts_from next (revision_numbers records)
counts_other next r records isnt =
    ap (λ (b : Bool). counts_from next (map group_number (cond b (group_of r records ∷ groups records) (groups records)))) isnt

pub numbers_revision : (r : DumpRecord) (records : List DumpRecord) → is_revision_record r ≡ true
    → revision_numbers (r ∷ records) ≡ revision_number r ∷ revision_numbers records
numbers_revision r records is =
    ap (λ (b : Bool). map group_number (cond b (group_of r records ∷ groups records) (groups records))) is

pub rises_revision : (next : ℕ) (r : DumpRecord) (records : List DumpRecord) → is_revision_record r ≡ true
    → rise_from next (revision_numbers (r ∷ records))
    ≡ (nat_le next (revision_number r) && rise_from (suc (revision_number r)) (revision_numbers records))
rises_revision next r records is =
    ap (λ (b : Bool). rise_from next (map group_number (cond b (group_of r records ∷ groups records) (groups records)))) is

-- the number of the present revision is the one before the next
abbrev Fits : ℕ → Option ℕ → Type 0
Fits next None = ⊤
Fits next (Some number) = next ≡ suc number

-- what nodes make, if the revisions are numbered one by one
module _ (patched : Patching) where
  a_node : (next number : ℕ) (r : DumpRecord) (records : List DumpRecord) (placed : List Placed) (c : Change)
      → is_revision_record r ≡ false → is_node r ≡ true → MakesChange patched r c → 0 < number
      → Reads patched next (Some number) records placed
      → Reads patched next (Some number) (r ∷ records) (record { revision = number; change = c } ∷ placed)
  a_node next zero r records placed c isnt is makes some rest = absurd (omega arith)
  a_node next (suc number) r records placed c isnt is makes some rest = Node next number r records placed c isnt is makes rest

  the_end : (next : ℕ) (present : Option ℕ) → (false ≡ true) ⊎ (0 < next) → Reads patched next present [] []
  the_end next present (inl bad) = absurd (cc)
  the_end zero present (inr some) = absurd (omega arith)
  the_end (suc next) present (inr some) = NoMore next present

  some_left : (next : ℕ) (r : DumpRecord) (records : List DumpRecord) → is_revision_record r ≡ false
      → (list_any is_revision_record (r ∷ records) ≡ true) ⊎ (0 < next)
      → (list_any is_revision_record records ≡ true) ⊎ (0 < next)
  some_left next r records isnt (inl some) = inl (sym (ap (λ b. b || list_any is_revision_record records) isnt) ∙ some)
  some_left next r records isnt (inr more) = inr more

  pub nodes_read : (next : ℕ) (present : Option ℕ) (records : List DumpRecord) (placed : List Placed)
      → NodesMake patched present records placed → counts_from next (revision_numbers records) ≡ true → Fits next present
      → (list_any is_revision_record records ≡ true) ⊎ (0 < next) → Reads patched next present records placed
  nodes_read next present _ _ (NoRecord _) counts fits some = the_end next present some
  nodes_read next present _ placed (RevisionRecord _ r records _ is isnt rest) counts fits some =
      let both = and_parts (nat_eq (revision_number r) next) (counts_from (suc next) (revision_numbers records))
      (sym (counts_revision next r records is) ∙ counts) in
      let number : revision_number r ≡ next = eqb-true (revision_number r) next both.0 in
      Revision next present r records placed is isnt number
      (subst (λ n. Reads patched (suc next) (Some n) records placed) number
      (nodes_read (suc next) (Some (revision_number r)) records placed rest both.1 (ap suc (sym number))
      (inr (omega arith))))
  nodes_read next (Some _) _ _ (NodeRecord number r records placed c isnt is makes positive rest) counts fits some =
      a_node next number r records placed c isnt is makes positive
      (nodes_read next (Some number) records placed rest (sym (counts_other next r records isnt) ∙ counts) fits
      (some_left next r records isnt some))
  nodes_read next present _ placed (OtherRecord _ r records _ one two rest) counts fits some =
      Other next present r records placed one two
      (nodes_read next None records placed rest (sym (counts_other next r records one) ∙ counts) tt
      (some_left next r records one some))

-- the records reach the end of the dump, and they make revisions with these changes, whatever text deltas make
abbrev pub MakesListed : List ℕ → List NodeChange → Type 0
MakesListed dump changes = (records : List DumpRecord) × HasRecords dump records Ending.Whole
    × ((patched : Patching) → (revisions : List (List Change)) × MakeRevisions patched records revisions
    × AreListed changes (placed_from 1 revisions))

-- the changes of a dump's nodes are those of its revisions, if these are numbered one by one
pub numbered_makes : (dump : List ℕ) (records : List DumpRecord) (changes : List NodeChange)
    → HasRecords dump records Ending.Whole → are_numbered records ≡ true → AreListedIn records changes
    → MakesListed dump changes
numbered_makes dump records changes whole numbered listed = (
  records,
  whole,
  λ patched.
      let (placed, nodes, are) = listed patched in
      let both = and_parts (list_any is_revision_record records) (counts_from 0 (revision_numbers records)) numbered in
      let reads = nodes_read patched 0 None records placed nodes both.1 tt (inl both.0) in
      let made = reads_revisions patched records placed reads in
      (made.0, made.1, subst (λ (ps : List Placed). AllZip IsListed (map listed_of changes) ps) made.2 are),
)
