-- What has been written so far of a dump with other nodes in place of some.
use Rattle.std.proofs.Common.{◌≡◌, ℕ, ◌+◌, ◌-◌, ◌≤◌, Bool, true, false, List, [], ◌∷◌, ◌++◌, length, length-append, take, drop, flat_map, refl, sym, ap, ap₂, ◌∙◌, subst, arith, append-nil, append_assoc}
use Rattle.std.proofs.lemmas.List.{drop-drop, drop_all, length-drop, take-append-drop}
use Rattle.std.proofs.Math.Seq.{drop-append_seam, take-append_seam}
use Rattle.dump_text.specs.HeaderBlock.{block_text}
use Rattle.dump_records.specs.DumpText.{Ending, HasRecords}
use Rattle.dump_records.specs.RecordText.{DumpRecord, record_text}
use Rattle.dump_records.specs.declared.cutter.Cut.{Cut}
use Rattle.dump_records.specs.declared.cutter.Cut.TheVariants as cuts
use Rattle.dump_records.specs.declared.record.Record.{Record}
use Rattle.dump_records.specs.steps.CutRecords.{EndsAfter, IsRecordOf}
use Rattle.dump_records.specs.steps.CutterState.{CutterState}
use Rattle.dump_records.specs.steps.RecordPlaces.{place_after}
use Rattle.dump_records.specs.steps.RecordViews.{CutStep, record_item}
use Rattle.dump_records.proofs.CutLemmas.{count_fits}
use Rattle.dump_records.proofs.ListLaw.{each_dump_has_one_list}
use Rattle.dump_records.proofs.Prefixes.{is_front}
use Rattle.dump_records.proofs.Unique.{records_once}
use Rattle.dump_history.specs.steps.ExpandedDumps.{own_records}
use Rattle.dump_history.specs.WrittenNodes.{WrittenNode}
use Rattle.dump_expansion.specs.steps.GivenSteads.{GivenStead, IsExpandedBy, own_form, steads_in}
use Rattle.dump_expansion.specs.steps.ExpandedBytes.{IsExactlyExpandedBy, expanded_bytes, first_lfs, lfs_behind, stead_bytes, unread_bytes}
use Rattle.dump_expansion.specs.steps.Given.{can_all_be_written}
use Rattle.dump_expansion.specs.steps.LeftParts.{IsLeftFrom}
use Rattle.dump_expansion.specs.steps.NodeTexts.{nodes_text}
use Rattle.dump_expansion.proofs.ByteLemmas.{AllStand, behind_gap, dump_bytes, own_bytes}
use Rattle.dump_expansion.proofs.JoinLemmas.{are_texts}
use Rattle.dump_expansion.proofs.SteadLemmas.{bytes_with, may_all, none_given, own_with_lfs}

-- the byte after a record
after_is : (r : DumpRecord) → place_after r ≡ r.place + length (record_text r)
after_is r =
    let all = length-append (block_text r.headers ++ r.props) r.text in
    let front = length-append (block_text r.headers) r.props in
    omega arith

-- The text is the expanded dump up to the byte `from`. After that the dump has some bytes that are not written yet,
-- then the records that the cutter returns next, and then what can't be read.
pub record ExpandedSoFar (given : List GivenStead) (dump : List ℕ) (cutter : CutterState) (text : List ℕ)
    (left : List GivenStead) (from : ℕ) : Type 0 where
  pub dump_is : cutter.dump ≡ dump
  pub records : List DumpRecord
  pub ending : Ending
  pub has : HasRecords dump records ending
  pub stand : AllStand dump (unread_bytes dump ending) (drop cutter.number records)
  pub inside : from ≤ length dump
  pub pending : List ℕ
  pub left_is : drop from dump
      ≡ pending ++ (own_bytes dump (drop cutter.number records) ++ unread_bytes dump ending)
  pub is : expanded_bytes dump records ending (steads_in 0 records given)
      ≡ text ++ (pending ++ (bytes_with dump cutter.number (drop cutter.number records) left ++ unread_bytes dump ending))

pub none_written : (given : List GivenStead) (dump : List ℕ) (cutter : CutterState) (text : List ℕ)
    → cutter ≡ record { dump = dump; number = 0 } → text ≡ [] → ExpandedSoFar given dump cutter text given 0
none_written given dump cutter text is none =
    let law = each_dump_has_one_list dump in
    let bytes = dump_bytes dump law.0 law.1 law.2 in
    subst (λ (c : CutterState). ExpandedSoFar given dump c text given 0) (sym is) record {
      dump_is = refl;
      records = law.0;
      ending = law.1;
      has = law.2;
      stand = bytes.1;
      inside = omega arith;
      pending = first_lfs dump;
      left_is = bytes.0;
      is = ap (λ t. t ++ expanded_bytes dump law.0 law.1 (steads_in 0 law.0 given)) (sym none);
    }

module _ (given : List GivenStead) (dump : List ℕ) (cutter after : CutterState) (text : List ℕ)
    (left : List GivenStead) (from : ℕ) (so_far : ExpandedSoFar given dump cutter text left from) where
  -- what can't be read
  abbrev end : List ℕ
  end = unread_bytes dump so_far.ending

  module _ (item : Record) (step : CutStep cutter (cuts.Item item) after) where
    abbrev pub found : DumpRecord
    found = record_item item

    -- the records after it
    abbrev later : List DumpRecord
    later = drop (cutter.number + 1) so_far.records

    -- the next record is the one that the cutter returns
    next_is : drop cutter.number so_far.records ≡ found ∷ later
    next_is =
        let (before, begins, count) = subst (λ d. IsRecordOf d cutter.number found) so_far.dump_is step.2 in
        let front = is_front dump so_far.records so_far.ending so_far.has (before ++ found ∷ []) begins in
        let n = length (before ++ found ∷ []) in
        let size : n ≡ cutter.number + 1 = length-append before (found ∷ []) ∙ ap (λ k. k + 1) count in
        let whole : so_far.records ≡ before ++ found ∷ drop n so_far.records =
        sym (take-append-drop n so_far.records)
        ∙ ap (λ (rs : List DumpRecord). rs ++ drop n so_far.records) (sym front)
        ∙ append_assoc before (found ∷ []) (drop n so_far.records) in
        ap (λ k. drop k so_far.records) (sym count)
        ∙ ap (drop (length before)) whole
        ∙ drop-append_seam before (found ∷ drop n so_far.records)
        ∙ ap (λ k. found ∷ drop k so_far.records) size

    -- the cutter is nearer to the end
    pub nearer : (after.number ≡ cutter.number + 1) × (after.number ≤ length dump)
    nearer =
        let number = ap (λ (c : CutterState). c.number) step.3 in
        let fits = count_fits 0 0 dump so_far.has.0 so_far.records so_far.has.1 in
        let size = length-drop cutter.number so_far.records in
        let some = ap length next_is in
        (number, omega arith)

    -- the state after one more record that the cutter returned; nothing more is written yet
    moved : (more : List ℕ) (others : List GivenStead) (start : ℕ)
        → ExpandedSoFar given dump (record { dump = cutter.dump; number = cutter.number + 1 }) more others start
        → ExpandedSoFar given dump after more others start
    moved more others start = subst (λ (c : CutterState). ExpandedSoFar given dump c more others start) (sym step.3)

    stand_next : AllStand dump end (found ∷ later)
    stand_next = subst (AllStand dump end) next_is so_far.stand

    left_next : drop from dump ≡ so_far.pending ++ (own_bytes dump (found ∷ later) ++ end)
    left_next =
        so_far.left_is ∙ ap (λ (rs : List DumpRecord). so_far.pending ++ (own_bytes dump rs ++ end)) next_is

    is_next : expanded_bytes dump so_far.records so_far.ending (steads_in 0 so_far.records given)
        ≡ text ++ (so_far.pending ++ (bytes_with dump cutter.number (found ∷ later) left ++ end))
    is_next =
        so_far.is
        ∙ ap (λ (rs : List DumpRecord). text ++ (so_far.pending ++ (bytes_with dump cutter.number rs left ++ end))) next_is

    -- the record is written as it is
    pub pass_on : (others : List GivenStead)
        → ((rest : List DumpRecord) → bytes_with dump cutter.number (found ∷ rest) left
        ≡ own_with_lfs dump found ++ bytes_with dump (cutter.number + 1) rest others)
        → ExpandedSoFar given dump after text others from
    pass_on others passes = moved text others from record {
      dump_is = so_far.dump_is;
      records = so_far.records;
      ending = so_far.ending;
      has = so_far.has;
      stand = stand_next.2;
      inside = so_far.inside;
      pending = so_far.pending ++ own_with_lfs dump found;
      left_is = left_next ∙ regrouped so_far.pending (own_with_lfs dump found) (own_bytes dump later) end;
      is = is_next
          ∙ ap (λ t. text ++ (so_far.pending ++ (t ++ end))) (passes later)
          ∙ ap (λ t. text ++ t) (regrouped so_far.pending (own_with_lfs dump found)
          (bytes_with dump (cutter.number + 1) later others) end);
    }
      where
        regrouped : (a b c d : List ℕ) → a ++ ((b ++ c) ++ d) ≡ (a ++ b) ++ (c ++ d)
        regrouped a b c d = simp append_assoc

    module _ (place : ℕ) (place_is : place ≡ found.place) where
      -- the dump from the record on
      own_is : drop place dump ≡ own_bytes dump (found ∷ later) ++ end
      own_is = ap (λ n. drop n dump) place_is ∙ stand_next.1

      pub high : place ≤ length dump
      high = let fits = stand_next.0 in omega arith

      -- the number of bytes before it that are not written yet
      before_is : from + length so_far.pending ≡ place
      before_is =
          let sizes = ap length left_next ∙ length-append so_far.pending (own_bytes dump (found ∷ later) ++ end) in
          let size = length-drop from dump in
          let rest = ap length own_is in
          let rest_size = length-drop place dump in
          let inside = so_far.inside in
          let fits = high in
          omega arith

      pub low : from ≤ place
      low = let at = before_is in omega arith

      -- what the dump has before it and after the byte `from`
      lent : take (place - from) (drop from dump) ≡ so_far.pending
      lent =
          let at = before_is in
          let size : place - from ≡ length so_far.pending = omega arith in
          ap (λ n. take n (drop from dump)) size
          ∙ ap (take (length so_far.pending)) left_next
          ∙ take-append_seam so_far.pending (own_bytes dump (found ∷ later) ++ end)

      -- the dump after it
      rest_is : drop (place_after found) dump ≡ lfs_behind dump found ++ (own_bytes dump later ++ end)
      rest_is =
          ap (λ n. drop n dump) (after_is found) ∙ sym (drop-drop (length (record_text found)) found.place dump)
          ∙ ap (drop (length (record_text found))) (stand_next.1
          ∙ regrouped (record_text found) (lfs_behind dump found) (own_bytes dump later) end)
          ∙ drop-append_seam (record_text found) (lfs_behind dump found ++ (own_bytes dump later ++ end))
        where
          regrouped : (a b c d : List ℕ) → ((a ++ b) ++ c) ++ d ≡ a ++ (b ++ (c ++ d))
          regrouped a b c d = simp append_assoc

      module _ (nodes : List WrittenNode) (others : List GivenStead) (more : List ℕ)
          (more_is : more ≡ (text ++ take (place - from) (drop from dump)) ++ nodes_text nodes) where
        -- what remains of the record
        abbrev kept : Bool → List ℕ
        kept keeps = flat_map (λ own. record_text own ++ lfs_behind dump found) (own_records found (own_form keeps))

        is_now : (keeps : Bool)
            → bytes_with dump cutter.number (found ∷ later) left
            ≡ stead_bytes dump found (record { nodes = nodes; own = own_form keeps })
            ++ bytes_with dump (cutter.number + 1) later others
            → expanded_bytes dump so_far.records so_far.ending (steads_in 0 so_far.records given)
            ≡ more ++ (kept keeps ++ (bytes_with dump (cutter.number + 1) later others ++ end))
        is_now keeps takes =
            is_next
            ∙ ap (λ t. text ++ (so_far.pending ++ (t ++ end))) takes
            ∙ regrouped text so_far.pending (nodes_text nodes) (kept keeps)
            (bytes_with dump (cutter.number + 1) later others) end
            ∙ ap (λ t. t ++ (kept keeps ++ (bytes_with dump (cutter.number + 1) later others ++ end)))
            (sym (more_is ∙ ap (λ t. (text ++ t) ++ nodes_text nodes) lent))
          where
            regrouped : (a b c d e f : List ℕ) → a ++ (b ++ (((c ++ d) ++ e) ++ f)) ≡ ((a ++ b) ++ c) ++ (d ++ (e ++ f))
            regrouped a b c d e f = simp append_assoc

        -- other nodes are written, and the record is kept or not
        pub expand_on : (keeps : Bool) (start : ℕ)
            → ((rest : List DumpRecord) → bytes_with dump cutter.number (found ∷ rest) left
            ≡ stead_bytes dump found (record { nodes = nodes; own = own_form keeps })
            ++ bytes_with dump (cutter.number + 1) rest others)
            → IsLeftFrom dump found keeps start
            → ExpandedSoFar given dump after more others start
        expand_on true start takes is =
            let inside = high in
            moved more others start record {
              dump_is = so_far.dump_is;
              records = so_far.records;
              ending = so_far.ending;
              has = so_far.has;
              stand = stand_next.2;
              inside = omega arith;
              pending = own_with_lfs dump found ++ [];
              left_is = ap (λ n. drop n dump) is ∙ stand_next.1
                  ∙ append_assoc (own_with_lfs dump found) (own_bytes dump later) end
                  ∙ ap (λ t. t ++ (own_bytes dump later ++ end)) (sym (append-nil (own_with_lfs dump found)));
              is = is_now true (takes later);
            }
        expand_on false start takes (lfs, gap, is) =
            let fits = stand_next.0 in
            let at = after_is found in
            let bound = gap.bound in
            let size = length-drop (place_after found) dump in
            moved more others start record {
              dump_is = so_far.dump_is;
              records = so_far.records;
              ending = so_far.ending;
              has = so_far.has;
              stand = stand_next.2;
              inside = omega arith;
              pending = [];
              left_is = ap (λ n. drop n dump) is ∙ sym (drop-drop lfs (place_after found) dump)
                  ∙ behind_gap (drop (place_after found) dump) (own_bytes dump later ++ end) lfs gap
                  (rest_is ∙ ap (λ n. first_lfs (drop n dump) ++ (own_bytes dump later ++ end)) (sym (after_is found)));
              is = is_now false (takes later);
            }

  -- the end

  -- if nothing is given for the rest, everything is written with the rest of the dump
  with_rest : bytes_with dump cutter.number (drop cutter.number so_far.records) left
      ≡ own_bytes dump (drop cutter.number so_far.records)
      → IsExactlyExpandedBy given dump (text ++ drop from dump)
  with_rest none records ending has =
      let same = records_once dump records so_far.records ending so_far.ending has so_far.has in
      ap (λ t. text ++ t) so_far.left_is
      ∙ ap (λ t. text ++ (so_far.pending ++ (t ++ end))) (sym none)
      ∙ sym so_far.is
      ∙ sym (ap₂ (λ (rs : List DumpRecord) (e : Ending). expanded_bytes dump rs e (steads_in 0 rs given)) same.0 same.1)

  -- the same if the dump has no more records
  no_more : (ending : Ending) → EndsAfter cutter.dump cutter.number ending
      → IsExactlyExpandedBy given dump (text ++ drop from dump)
  no_more ending ends =
      let (all, has, count) = subst (λ d. EndsAfter d cutter.number ending) so_far.dump_is ends in
      let equal = (records_once dump so_far.records all so_far.ending ending so_far.has has).0 in
      let size = ap length equal in
      let none : drop cutter.number so_far.records ≡ [] = drop_all cutter.number so_far.records (omega arith) in
      with_rest (subst (λ (rs : List DumpRecord). bytes_with dump cutter.number rs left ≡ own_bytes dump rs) (sym none) refl)

  -- nothing remains to be written
  pub expanded_early : left ≡ [] → IsExactlyExpandedBy given dump (text ++ drop from dump)
  expanded_early none =
      let rest = drop cutter.number so_far.records in
      with_rest (ap (bytes_with dump cutter.number rest) none ∙ none_given dump cutter.number rest)

  -- the cutter returns no record
  pub expanded_late : (found : Cut) → CutStep cutter found after → ((item : Record) → found ≡ cuts.Item item → ⊥)
      → IsExactlyExpandedBy given dump (text ++ drop from dump)
  expanded_late (cuts.Item item) step other = absurd (other item refl)
  expanded_late (cuts.Fault fault place) step other = no_more (Ending.Broken fault place) step.0
  expanded_late cuts.Finished step other = no_more Ending.Whole step.0

-- such a text of a whole dump has the records that replace the dump's records
pub has_its_records : (given : List GivenStead) (dump text : List ℕ) → can_all_be_written given ≡ true
    → IsExactlyExpandedBy given dump text → IsExpandedBy given dump text
has_its_records given dump text written is records has =
    let (lfs, front, spelled, texts) = are_texts dump records (steads_in 0 records given) in
    record {
      may = may_all 0 records given written;
      lfs = lfs;
      front = front;
      spelled = is records Ending.Whole has ∙ spelled;
      texts = texts;
    }
