-- What is written for a dump without a fault is such a dump, and is unchanged if everything is kept.
use Rattle.dump_filter.proofs.Prelude.{◌≡◌, ℕ, ◌+◌, ◌<◌, ◌≤◌, ◌^◌, Bool, true, false, ◌&&◌, ◌||◌, not, MatchBool, List, [], ◌∷◌, ◌++◌, length, refl, subst, arith, Option, Some, None, unwrap_or, if◌then◌else◌, revision_name, block_text, Ending, IsCutInto, HasRecords, header_number, DumpRecord, record_text, BeginsWithRecord, Settings, KeptRevisions, new_number, RiseFrom, own_value, new_number_fits, is_revision_record, is_node, is_kept_node, has_lost_source, LengthsFit, keep_all, KeepsItsOwnText, group_of, has_kept_node, keeps_group, revision_number, kept_revisions, is_whole_file, IsRevisionOutput, IsNodeOutput, IsCleanText, is_open, absurd_bool, false_from_ne_true}
use Rattle.dump_filter.proofs.knowing.Answered.{AllLawful, all_lawful}
use Rattle.dump_filter.proofs.groups.KindLemmas.{alone}
use Rattle.dump_filter.proofs.again.ReadAgain.{StandsAgain, AreReadAgain, AtEach}
use Rattle.dump_filter.proofs.again.Output.{header_small, other_again, IsSmall, revision_again, OwnValues, node_again}
use Rattle.dump_filter.proofs.again.Numbers.{kept_rise, positive, revisions_above}
use Rattle.dump_filter.proofs.again.RecordList.{at_each, versions_again, HasAgain, records_again, some_again, all_paths, outputs_again}
use Rattle.dump_filter.proofs.again.Free.{free_again}
use Rattle.dump_text.specs.declared.fault.FaultKind.TheVariants as faults

-- about one record of the list
at_split : (Q : DumpRecord → List DumpRecord → Type 0) (done before after : List DumpRecord) (r : DumpRecord)
    → AtEach (λ b x a. Q x a) done (before ++ r ∷ after) → Q r after
at_split Q done [] after r each = each.0
at_split Q done (x ∷ before) after r each = at_split Q (done ++ x ∷ []) before after r each.1

-- its place in its dump
abbrev Stands : DumpRecord → Type 0
Stands r = (number : ℕ) × (front behind : List ℕ) × BeginsWithRecord number front r behind

stands_in : (number place : ℕ) (dump rest : List ℕ) (before after : List DumpRecord) (r : DumpRecord)
    → IsCutInto number place dump (before ++ r ∷ after) rest → Stands r
stands_in number place dump rest [] after r (lfs, front, behind, is, at, b, more) = (number, front, behind, b)
stands_in number place dump rest (x ∷ before) after r (lfs, front, behind, is, at, b, more) =
    stands_in (number + 1) (x.place + length (record_text x)) behind rest before after r more

revision_small : (r : DumpRecord) → revision_number r < 10 ^ 18
revision_small r = by_number (header_number revision_name r.headers) refl
  where
    by_number : (o : Option ℕ) → header_number revision_name r.headers ≡ o → unwrap_or o 0 < 10 ^ 18
    by_number None is = omega arith
    by_number (Some n) is = header_small revision_name r.headers n is

-- a kept node that loses its copy source without a fault is a whole file
whole_where_lost : (settings : Settings) (r : DumpRecord) → is_kept_node settings r ≡ true
    → ((is_kept_node settings r && has_lost_source settings r && not (is_whole_file r)) ≡ true → ⊥)
    → has_lost_source settings r ≡ true → is_whole_file r ≡ true
whole_where_lost settings r keep fine lost = cases (is_whole_file r) refl
  where
    cases : (b : Bool) → is_whole_file r ≡ b → is_whole_file r ≡ true
    cases true is = is
    cases false is = absurd (fine (rw (keep, lost, is) refl))

module _ (settings : Settings) (dump text : List ℕ) (records : List DumpRecord)
    (clean : IsCleanText settings dump records text) (fit : LengthsFit settings records) where
  abbrev kept : KeptRevisions
  kept = kept_revisions settings records

  cut : IsCutInto 0 0 dump records []
  cut = subst (λ (rest : List ℕ). IsCutInto 0 0 dump records rest) clean.whole.3.0 clean.whole.1

  rise : RiseFrom kept.first kept.numbers
  rise = kept_rise settings records clean.fault_free

  values : OwnValues settings kept
  values old new is =
      let own = λ (again : KeptRevisions). own_value settings kept old new rise
      (positive settings records) is keep_all again refl all_paths in
      ((own kept).0, λ again. (own again).1)

  -- each record that is written is read again
  pub record_again : (before after : List DumpRecord) (r : DumpRecord) → records ≡ before ++ r ∷ after
      → HasAgain settings kept r after
  record_again before after r at front written output = by_kind (is_revision_record r) (is_node r) refl refl written
      output
    where
      stands : Stands r
      stands = stands_in 0 0 dump [] before after r (subst (λ (l : List DumpRecord). IsCutInto 0 0 dump l []) at cut)

      b : BeginsWithRecord stands.0 stands.1 r stands.2
      b = stands.3

      sizes : IsSmall settings kept r after
      sizes block is = fit before after r block at written is

      above : is_revision_record r ≡ true → kept.first ≤ revision_number r
      above =
          at_split (λ x more. is_revision_record x ≡ true → kept.first ≤ revision_number x) [] before after r
          (subst (λ (l : List DumpRecord). AtEach (λ done x more. is_revision_record x ≡ true
          → kept.first ≤ revision_number x) [] l) at
          (revisions_above settings records clean.fault_free))

      number_small : is_revision_record r ≡ true → (renumber : Bool)
          → (if renumber then new_number kept (revision_number r) else revision_number r) < 10 ^ 18
      number_small rev true =
          let below = new_number_fits kept (revision_number r) rise (above rev) in
          let small = revision_small r in
          omega (arith, below, small)
      number_small rev false = revision_small r

      by_kind : (v n : Bool) → is_revision_record r ≡ v → is_node r ≡ n
          → (if v then keeps_group settings (group_of r after)
          && (true || not (is_open after) || has_kept_node settings (group_of r after))
          else if n then is_kept_node settings r else true) ≡ true
          → MatchBool v (IsRevisionOutput settings kept (group_of r after) front)
          (MatchBool n (IsNodeOutput settings kept r front) (front ≡ block_text r.headers))
          → StandsAgain settings kept r after front
      by_kind true n rev node kept_group out =
          let no_node : is_node r ≡ false = false_from_ne_true (is_node r)
          (λ is. absurd_bool (is_revision_record r) rev (alone stands.0 r b.lawful is)) in
          revision_again settings kept after front b rev no_node (number_small rev settings.renumber) sizes out
      by_kind false true no_rev node keep out =
          node_again settings kept after front b no_rev keep rise values
          (clean.fault_free before after r at faults.Md5) (clean.fault_free before after r at faults.Sha1)
          (whole_where_lost settings r keep (clean.fault_free before after r at faults.CopySource)) sizes out
      by_kind false false no_rev no_node always out = other_again settings kept after front b no_rev no_node out

  lawful : AllLawful records
  lawful = all_lawful 0 0 dump [] records cut

  -- the text is a dump of the records that are read again
  pub reads_again : (again : List DumpRecord) × HasRecords text again Ending.Whole
      × AreReadAgain settings (kept_revisions settings records) records text again
  reads_again =
      let each = at_each (λ before r after. HasAgain settings kept r after) records record_again in
      let found = records_again settings kept dump text records cut each clean.written in
      let have = versions_again settings kept 0 records text found.0 lawful clean.whole.2 found.2 in
      let some = some_again settings kept dump text records found.0 cut clean.whole.3.1 found.2 in
      (found.0, ([], found.1, have, (refl, some)), found.2)

  whole_again : (again : List DumpRecord) × IsCleanText keep_all text again text
  whole_again =
      let found = reads_again in (
        found.0,
        record {
          whole = found.1;
          fault_free = free_again settings records text found.0 lawful clean.fault_free found.2;
          written = outputs_again settings kept records text found.0 found.2 (kept_revisions keep_all found.0);
        },
      )

-- what the filter writes for a dump without a fault is such a dump, which the filter leaves unchanged if it keeps
-- everything
pub keeps_its_own_text : KeepsItsOwnText
keeps_its_own_text settings dump text records clean fit = whole_again settings dump text records clean fit
