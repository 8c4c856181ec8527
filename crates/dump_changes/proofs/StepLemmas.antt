-- What has been read of a dump so far.
use Rattle.dump_changes.proofs.Prelude.{◌≡◌, ℕ, zero, suc, ◌+◌, ◌<◌, ◌≤◌, true, false, List, [], ◌∷◌, ◌++◌, map, Option, Some, None, refl, sym, ap, ◌∙◌, subst, arith, append-nil, append_assoc, AllZip, DumpRecord, CutterState, CutStep, record_item, record_number, Record, Patching, MakesChange, is_node, is_revision_record}
use Rattle.dump_records.proofs.CutterLemmas.{ReadSoFar}
use Rattle.dump_records.proofs.CutterLemmas as cutters
use Rattle.dump_records.specs.declared.cutter.Cut.TheVariants as cuts
use Rattle.std.proofs.lemmas.List.{map-append}
use Rattle.dump_trees.specs.Changes.{Change}
use Rattle.dump_trees.specs.steps.Looking.{Placed}
use Rattle.dump_index.specs.steps.Listed.{Listed, listed_of}
use Rattle.dump_index.specs.steps.IndexLaws.{IsListed}
use Rattle.dump_index.specs.declared.change.NodeChange.{NodeChange}
use Rattle.dump_changes.specs.declared.read.Position.{Position}
use Rattle.dump_changes.specs.declared.read.Step.TheVariants as steps
use Rattle.dump_changes.specs.ListedDumps.{rise_from}
use Rattle.dump_changes.specs.steps.ListedDumps.{NoRecord, RevisionRecord, NodeRecord, AreListedIn, NodesMake, IsOutOfPlace, are_numbered, revision_behind, present_behind, takes_nodes}
use Rattle.dump_changes.specs.steps.NodeProperties.{node_numbers}
use Rattle.dump_changes.specs.declared.read.End.{End}
use Rattle.dump_changes.specs.declared.read.Reading.{Reading}
use Rattle.dump_changes.specs.steps.DumpReading.{EndsReading, IsNext, IsReadingOfDump}
use Rattle.dump_changes.specs.steps.Reading.{CountsTo, EndsAt, GoesOnFrom, IsBeforeNext, IsCountingStep, IsNumberedStep, IsOutOfPlaceAt, IsReadingStep, counts_on}
use Rattle.std.specs.Global.{Vec}
use Rattle.std.proofs.Common.{cond, ◌||◌, ◌&&◌, ◌==◌, Bool, ap₂, eqb-true, inl, inr, lt-ltb, nat_le, nat_lt, unwrap_or}
use Rattle.std.proofs.lemmas.Bool.{cases_Bool, or_parts}
use Rattle.dump_filter.specs.Groups.{revision_numbers}
use Rattle.dump_history.specs.DumpChanges.{counts_from}
use Rattle.std.proofs.lemmas.List.Folds.{list_any-append}
use Rattle.std.specs.List.{list_any}
use Rattle.dump_text.specs.Names.{revision_name}
use Rattle.dump_records.specs.HeaderRules.{header_number}
use Rattle.dump_records.specs.declared.kind.RecordKind.{RecordKind}
use Rattle.dump_records.specs.declared.kind.RecordKind.TheVariants as kinds
use Rattle.dump_filter.proofs.groups.KindLemmas.{IsOfKind}
use Rattle.dump_changes.proofs.ReadLemmas.{counts_revision, numbers_revision, rises_revision}
use Rattle.std.proofs.Math.Bool.{and-true, and_comm}

-- what the records make that the cutter has returned
pub record ChangesSoFar (dump : List ℕ) (cutter : CutterState) (at : Position) (changes : List NodeChange) (numbers : List ℕ)
    : Type 0 where
  pub read : ReadSoFar dump cutter
  pub no_revision : at.next ≡ 0 → list_any is_revision_record read.before ≡ false
  pub before_first : list_any is_revision_record read.before ≡ false → at.next ≡ 0
  pub counts : (records : List DumpRecord)
      → counts_from 0 (revision_numbers (read.before ++ records)) ≡ counts_on at records
  pub numbers_are : (records : List DumpRecord)
      → revision_numbers (read.before ++ records) ≡ numbers ++ revision_numbers records
  pub present : present_behind None read.before ≡ at.present
  pub rises : (records : List DumpRecord)
      → rise_from 0 (revision_numbers (read.before ++ records)) ≡ rise_from at.next (revision_numbers records)
  pub nodes : (records : List DumpRecord) → node_numbers 0 (read.before ++ records)
      ≡ map (λ (c : NodeChange). c.record_number) changes ++ node_numbers cutter.number records
  pub reads : (patched : Patching) → (placed : List Placed) × AllZip IsListed (map listed_of changes) placed
      × ((records : List DumpRecord) (more : List Placed) → NodesMake patched at.present records more
      → NodesMake patched None (read.before ++ records) (placed ++ more))

pub none_read : (dump : List ℕ) (cutter : CutterState) (at : Position) (changes : List NodeChange) (numbers : List ℕ)
    → cutter ≡ record { dump = dump; number = 0 } → at ≡ record { next = 0; present = None; numbered = true }
    → changes ≡ [] → numbers ≡ [] → ChangesSoFar dump cutter at changes numbers
none_read dump cutter at changes numbers is first none no_number = record {
  read = cutters.none_read dump cutter is;
  no_revision = λ none. refl;
  before_first = λ none. ap (λ (p : Position). p.next) first;
  counts = λ records. ap (λ p. counts_on p records) (sym first);
  numbers_are = λ records. ap (λ ns. ns ++ revision_numbers records) (sym no_number);
  present = sym (ap (λ (p : Position). p.present) first);
  rises = λ records. ap (λ (p : Position). rise_from p.next (revision_numbers records)) (sym first);
  nodes = λ records.
      ap (λ (c : CutterState). node_numbers c.number records) (sym is)
      ∙ ap (λ (cs : List NodeChange). map (λ (c : NodeChange). c.record_number) cs ++ node_numbers cutter.number records)
      (sym none);
  reads = λ patched. (
    [],
    subst (λ (cs : List NodeChange). AllZip IsListed (map listed_of cs) []) (sym none) tt,
    λ records more reads. subst (λ (p : Position). NodesMake patched p.present records more) first reads,
  );
}

zip_push : (listed : List Listed) (placed : List Placed) → AllZip IsListed listed placed → (l : Listed) (p : Placed)
    → IsListed l p → AllZip IsListed (listed ++ l ∷ []) (placed ++ p ∷ [])
zip_push [] [] all l p is = (is, tt)
zip_push [] (q ∷ placed) all l p is = absurd all
zip_push (k ∷ listed) [] all l p is = absurd all
zip_push (k ∷ listed) (q ∷ placed) all l p is = (all.0, zip_push listed placed all.1 l p is)

-- the revision to which nodes belong after one more record
present_next : (present : Option ℕ) (before : List DumpRecord) (r : DumpRecord)
    → present_behind present (before ++ r ∷ []) ≡ revision_behind r (present_behind present before)
present_next present [] r = refl
present_next present (b ∷ before) r = present_next (revision_behind b present) before r

module _ (dump : List ℕ) (cutter after : CutterState) (at : Position) (changes : List NodeChange) (numbers : List ℕ)
    (so_far : ChangesSoFar dump cutter at changes numbers) where
  module _ (item : Record) (step : CutStep cutter (cuts.Item item) after) where
    -- the record has the next number
    pub is_next : (number : ℕ) → number ≡ record_number item → IsNext dump so_far.read.before number (record_item item)
    is_next number is =
        (cutters.begins_more dump cutter after so_far.read item step, so_far.read.count ∙ sym (is ∙ step.1))

    -- there is no revision yet if the record is none
    none_next : at.next ≡ 0 → is_revision_record (record_item item) ≡ false
        → list_any is_revision_record (so_far.read.before ++ record_item item ∷ []) ≡ false
    none_next none other = list_any-append is_revision_record so_far.read.before (record_item item ∷ [])
        ∙ ap₂ (λ a b. a || (b || false)) (so_far.no_revision none) other

    -- if there is no revision even with the record, the record is none, and there was none before
    neither : list_any is_revision_record (so_far.read.before ++ record_item item ∷ []) ≡ false
        → (list_any is_revision_record so_far.read.before ≡ false) × (is_revision_record (record_item item) ≡ false)
    neither none =
        let its = or_parts (list_any is_revision_record so_far.read.before) (is_revision_record (record_item item) || false)
        (sym (list_any-append is_revision_record so_far.read.before (record_item item ∷ [])) ∙ none) in
        (its.0, (or_parts (is_revision_record (record_item item)) false its.1).0)

    -- and no record is out of order
    pub not_in_order : IsOutOfPlaceAt (record_item item) at → IsOutOfPlace so_far.read.before (record_item item)
    not_in_order (inl (node, none)) = inl (node, ap takes_nodes so_far.present ∙ none)
    not_in_order (inr (revision, below)) =
        inr (revision, λ number is small. so_far.rises (record_item item ∷ []) ∙ below number is small)

    counts_next : (next : Position) → CountsTo (record_item item) at next → (records : List DumpRecord)
        → counts_from 0 (revision_numbers ((so_far.read.before ++ record_item item ∷ []) ++ records)) ≡ counts_on next records
    counts_next next counting records =
        ap (λ rs. counts_from 0 (revision_numbers rs)) (append_assoc so_far.read.before (record_item item ∷ []) records)
        ∙ so_far.counts (record_item item ∷ records) ∙ (counting records).0

    rises_next : (next : Position) → CountsTo (record_item item) at next → (records : List DumpRecord)
        → rise_from 0 (revision_numbers ((so_far.read.before ++ record_item item ∷ []) ++ records))
        ≡ rise_from next.next (revision_numbers records)
    rises_next next counting records =
        ap (λ rs. rise_from 0 (revision_numbers rs)) (append_assoc so_far.read.before (record_item item ∷ []) records)
        ∙ so_far.rises (record_item item ∷ records) ∙ (counting records).1

    numbers_next : (records : List DumpRecord)
        → revision_numbers ((so_far.read.before ++ record_item item ∷ []) ++ records)
        ≡ numbers ++ revision_numbers (record_item item ∷ records)
    numbers_next records =
        ap revision_numbers (append_assoc so_far.read.before (record_item item ∷ []) records)
        ∙ so_far.numbers_are (record_item item ∷ records)

    -- the numbers of the nodes with one more record
    nodes_next : (records : List DumpRecord)
        → node_numbers 0 ((so_far.read.before ++ record_item item ∷ []) ++ records)
        ≡ map (λ (c : NodeChange). c.record_number) changes
        ++ cond (is_node (record_item item)) (cutter.number ∷ node_numbers after.number records)
        (node_numbers after.number records)
    nodes_next records =
        let number = ap (λ (c : CutterState). c.number) step.3 in
        let more : suc cutter.number ≡ after.number = omega (arith, number) in
        ap (node_numbers 0) (append_assoc so_far.read.before (record_item item ∷ []) records)
        ∙ so_far.nodes (record_item item ∷ records)
        ∙ ap (λ n. map (λ (c : NodeChange). c.record_number) changes
        ++ cond (is_node (record_item item)) (cutter.number ∷ node_numbers n records) (node_numbers n records)) more

    present_there : (present : Option ℕ) → revision_behind (record_item item) at.present ≡ present
        → present_behind None (so_far.read.before ++ record_item item ∷ []) ≡ present
    present_there present is =
        present_next None so_far.read.before (record_item item)
        ∙ ap (revision_behind (record_item item)) so_far.present ∙ is

    -- after a record that makes no change, there are these numbers
    read_on : (next : Position) (all : List ℕ) → is_node (record_item item) ≡ false
        → GoesOnFrom (record_item item) at next → IsBeforeNext (record_item item) at next
        → CountsTo (record_item item) at next → revision_behind (record_item item) at.present ≡ next.present
        → ((records : List DumpRecord) → numbers ++ revision_numbers (record_item item ∷ records) ≡ all ++ revision_numbers records)
        → ChangesSoFar dump after next changes all
    read_on next all no_node goes first counting there its = record {
      read = cutters.read_more dump cutter after so_far.read item step;
      no_revision = λ none. let its = first.0 none in none_next its.0 its.1;
      before_first = λ none. let its = neither none in first.1 (so_far.before_first its.0) its.1;
      counts = counts_next next counting;
      numbers_are = λ records. numbers_next records ∙ its records;
      present = present_there next.present there;
      rises = rises_next next counting;
      nodes = λ records.
          nodes_next records
          ∙ ap (λ b. map (λ (c : NodeChange). c.record_number) changes
          ++ cond b (cutter.number ∷ node_numbers after.number records) (node_numbers after.number records)) no_node;
      reads = λ patched.
          let front = so_far.reads patched in (
            front.0,
            front.1,
            λ records more reads.
                subst (λ (rs : List DumpRecord). NodesMake patched None rs (front.0 ++ more))
                (sym (append_assoc so_far.read.before (record_item item ∷ []) records))
                (front.2 (record_item item ∷ records) more (goes patched records more reads)),
          );
    }

    pub read_revision : (number : ℕ) (next : Position) (all : List ℕ)
        → IsReadingStep (record_item item) at (steps.Revision number next) → IsBeforeNext (record_item item) at next
        → IsCountingStep (record_item item) at (steps.Revision number next)
        → revision_behind (record_item item) at.present ≡ next.present → is_node (record_item item) ≡ false
        → all ≡ numbers ++ number ∷ [] → ChangesSoFar dump after next changes all
    read_revision number next all goes first counting there no_node all_is =
        read_on next all no_node goes first counting.0 there (λ records.
        ap (λ ns. numbers ++ ns) (counting.1 records)
        ∙ sym (append_assoc numbers (number ∷ []) (revision_numbers records))
        ∙ ap (λ ns. ns ++ revision_numbers records) (sym all_is))

    pub read_other : (next : Position) → IsReadingStep (record_item item) at (steps.Other next)
        → IsBeforeNext (record_item item) at next → IsCountingStep (record_item item) at (steps.Other next)
        → revision_behind (record_item item) at.present ≡ next.present → is_node (record_item item) ≡ false
        → ChangesSoFar dump after next changes numbers
    read_other next goes first counting there no_node =
        read_on next numbers no_node goes first counting.0 there (λ records. ap (λ ns. numbers ++ ns) (counting.1 records))

    -- a record that makes a change
    pub read_more : (c : NodeChange) (all : List NodeChange) → IsReadingStep (record_item item) at (steps.Makes c)
        → is_revision_record (record_item item) ≡ false → IsCountingStep (record_item item) at (steps.Makes c)
        → revision_behind (record_item item) at.present ≡ at.present
        → IsNumberedStep (record_item item) (record_number item) (steps.Makes c)
        → all ≡ changes ++ c ∷ [] → ChangesSoFar dump after at all numbers
    read_more c all makes other counting there numbered all_is = record {
      read = cutters.read_more dump cutter after so_far.read item step;
      no_revision = λ none. none_next none other;
      before_first = λ none. so_far.before_first (neither none).0;
      counts = counts_next at counting.0;
      numbers_are = λ records. numbers_next records ∙ ap (λ ns. numbers ++ ns) (counting.1 records);
      present = present_there at.present there;
      rises = rises_next at counting.0;
      nodes = λ records.
          nodes_next records
          ∙ ap (λ b. map (λ (c : NodeChange). c.record_number) changes
          ++ cond b (cutter.number ∷ node_numbers after.number records) (node_numbers after.number records)) numbered.0
          ∙ ap (λ n. map (λ (c : NodeChange). c.record_number) changes ++ n ∷ node_numbers after.number records)
          (sym (numbered.1 ∙ step.1))
          ∙ sym (append_assoc (map (λ (c : NodeChange). c.record_number) changes) (c.record_number ∷ [])
          (node_numbers after.number records))
          ∙ ap (λ ns. ns ++ node_numbers after.number records)
          (sym (ap (map (λ (c : NodeChange). c.record_number)) all_is
          ∙ map-append (λ (c : NodeChange). c.record_number) changes (c ∷ [])));
      reads = λ patched.
          let front = so_far.reads patched in
          let made = makes patched in
          let new : Placed = record { revision = c.revision; change = made.0 } in (
            front.0 ++ new ∷ [],
            subst (λ (cs : List Listed). AllZip IsListed cs (front.0 ++ new ∷ []))
                (sym (ap (map listed_of) all_is ∙ map-append listed_of changes (c ∷ [])))
                (zip_push (map listed_of changes) front.0 front.1 (listed_of c) new made.1),
            λ records more reads.
                subst (λ (ps : List Placed). NodesMake patched None ((so_far.read.before ++ record_item item ∷ []) ++ records) ps)
                (sym (append_assoc front.0 (new ∷ []) more))
                (subst (λ (rs : List DumpRecord). NodesMake patched None rs (front.0 ++ new ∷ more))
                (sym (append_assoc so_far.read.before (record_item item ∷ []) records))
                (front.2 (record_item item ∷ records) (new ∷ more) (made.2 records more reads))),
          );
    }

  -- all nodes that were read make these changes
  pub nodes_made : AreListedIn so_far.read.before changes
  nodes_made patched =
      let front = so_far.reads patched in (
        front.0,
        subst (λ (rs : List DumpRecord). NodesMake patched None rs front.0) (append-nil so_far.read.before)
            (subst (λ (ps : List Placed). NodesMake patched None (so_far.read.before ++ []) ps) (append-nil front.0)
            (front.2 [] [] (NoRecord at.present))),
        front.1,
      )

  -- they are numbered one by one if the position says so
  counted : counts_from 0 (revision_numbers so_far.read.before) ≡ at.numbered
  counted =
      ap (λ rs. counts_from 0 (revision_numbers rs)) (sym (append-nil so_far.read.before)) ∙ so_far.counts [] ∙ and-true at.numbered

  -- and there is a revision if the next one isn't the first
  some_revision : list_any is_revision_record so_far.read.before ≡ nat_lt 0 at.next
  some_revision = elim (cases_Bool (list_any is_revision_record so_far.read.before)) [
    | inl is ↦ is ∙ sym (positive at.next (λ none.
        let bad : true ≡ false = sym is ∙ so_far.no_revision none in absurd (cc)))
    | inr none ↦ none ∙ sym (ap (nat_lt 0) (so_far.before_first none))
  ]
    where
      positive : (n : ℕ) → (n ≡ 0 → ⊥) → nat_lt 0 n ≡ true
      positive zero some = absurd (some refl)
      positive (suc n) some = lt-ltb 0 (suc n) (omega arith)

  pub numbered_is : are_numbered so_far.read.before ≡ (at.numbered && nat_lt 0 at.next)
  numbered_is = ap₂ (λ a b. a && b) some_revision counted ∙ and_comm (nat_lt 0 at.next) at.numbered

  pub read_so_far : (all : Vec NodeChange) (its : Vec ℕ) (end : End) (reading : Reading) → all.items ≡ changes
      → its.items ≡ numbers → EndsAt at all its end reading → EndsReading dump so_far.read.before end
      → IsReadingOfDump dump reading
  read_so_far all its end reading all_are numbers_are (changes_is, numbers_is, numbered, ended) ends = record {
    records = so_far.read.before;
    begins = so_far.read.begins;
    numbers =
        ap (λ (v : Vec ℕ). v.items) numbers_is ∙ numbers_are ∙ sym (append-nil numbers)
        ∙ sym (so_far.numbers_are []) ∙ ap revision_numbers (append-nil so_far.read.before);
    numbered = numbered ∙ sym numbered_is;
    rise = ap (λ rs. rise_from 0 (revision_numbers rs)) (sym (append-nil so_far.read.before)) ∙ so_far.rises [];
    nodes =
        ap (λ (v : Vec NodeChange). map (λ (c : NodeChange). c.record_number) v.items) changes_is
        ∙ ap (map (λ (c : NodeChange). c.record_number)) all_are
        ∙ sym (append-nil (map (λ (c : NodeChange). c.record_number) changes)) ∙ sym (so_far.nodes [])
        ∙ ap (node_numbers 0) (append-nil so_far.read.before);
    listed = subst (AreListedIn so_far.read.before) (sym (ap (λ (v : Vec NodeChange). v.items) changes_is ∙ all_are)) nodes_made;
    ends = subst (EndsReading dump so_far.read.before) (sym ended) ends;
  }

-- one record

-- a node of a revision after the first one
pub node_reads : (patched : Patching) (present : Option ℕ) (number : ℕ) (r : DumpRecord) (change : Change)
    (revision : ℕ) (records : List DumpRecord) (placed : List Placed) → is_revision_record r ≡ false → is_node r ≡ true
    → MakesChange patched r change → present ≡ Some number → 0 < number → number ≡ revision
    → NodesMake patched present records placed
    → NodesMake patched present (r ∷ records) (record { revision = revision; change = change } ∷ placed)
node_reads patched present number r change revision records placed isnt is makes here some same reads =
    subst (λ n. NodesMake patched present (r ∷ records) (record { revision = n; change = change } ∷ placed)) same
    (subst (λ p. NodesMake patched p (r ∷ records) (record { revision = number; change = change } ∷ placed)) (sym here)
    (NodeRecord number r records placed change isnt is makes some (subst (λ p. NodesMake patched p records placed) here reads)))

-- a revision
pub revision_reads : (patched : Patching) (present : Option ℕ) (number : ℕ) (r : DumpRecord)
    (records : List DumpRecord) (placed : List Placed) → is_revision_record r ≡ true → is_node r ≡ false
    → Some number ≡ header_number revision_name r.headers
    → NodesMake patched (Some number) records placed → NodesMake patched present (r ∷ records) placed
revision_reads patched present number r records placed is isnt its reads =
    RevisionRecord present r records placed is isnt
    (subst (λ n. NodesMake patched (Some n) records placed) (ap (λ o. unwrap_or o 0) its) reads)

-- the revision is the next one, or it has another number
pub revision_counts : (numbered : Bool) (next number : ℕ) (r : DumpRecord) (records : List DumpRecord)
    → is_revision_record r ≡ true → Some number ≡ header_number revision_name r.headers
    → (numbered && counts_from next (revision_numbers (r ∷ records)))
    ≡ ((numbered && (number == next)) && counts_from (number + 1) (revision_numbers records))
revision_counts false next number r records is its = refl
revision_counts true next number r records is its =
    counts_revision next r records is
    ∙ ap (λ n. (n == next) && counts_from (suc next) (revision_numbers records)) (sym (ap (λ o. unwrap_or o 0) its))
    ∙ same (number == next) refl
  where
    same : (b : Bool) → (number == next) ≡ b
        → (b && counts_from (suc next) (revision_numbers records)) ≡ (b && counts_from (number + 1) (revision_numbers records))
    same false is = refl
    same true is =
        let its : number ≡ next = eqb-true number next is in
        let more : number + 1 ≡ suc next = omega arith in
        ap (λ n. counts_from n (revision_numbers records)) (sym more)

-- and its number is above the earlier ones
pub revision_rises : (next number : ℕ) (r : DumpRecord) (records : List DumpRecord) → is_revision_record r ≡ true
    → Some number ≡ header_number revision_name r.headers → nat_le next number ≡ true
    → rise_from next (revision_numbers (r ∷ records)) ≡ rise_from (number + 1) (revision_numbers records)
revision_rises next number r records is its above =
    rises_revision next r records is
    ∙ ap (λ n. nat_le next n && rise_from (suc n) (revision_numbers records)) (sym (ap (λ o. unwrap_or o 0) its))
    ∙ ap (λ b. b && rise_from (suc number) (revision_numbers records)) above
    ∙ ap (λ n. rise_from n (revision_numbers records)) (let more : suc number ≡ number + 1 = omega arith in more)

-- the number of the revision
pub own_number : (number : ℕ) (r : DumpRecord) (records : List DumpRecord) → is_revision_record r ≡ true
    → Some number ≡ header_number revision_name r.headers
    → revision_numbers (r ∷ records) ≡ number ∷ revision_numbers records
own_number number r records is its =
    numbers_revision r records is ∙ ap (λ n. n ∷ revision_numbers records) (sym (ap (λ o. unwrap_or o 0) its))

pub is_other : (r : DumpRecord) (which : RecordKind) → IsOfKind r which → (which ≡ kinds.Revision → ⊥)
    → (which ≡ kinds.Node → ⊥) → (is_node r ≡ false) × (is_revision_record r ≡ false)
is_other r kinds.Version of one two = of
is_other r kinds.Uuid of one two = of
is_other r kinds.Revision of one two = absurd (one refl)
is_other r kinds.Node of one two = absurd (two refl)
