-- The kept revisions that are found record by record are those of the groups.
use Rattle.dump_survey.proofs.Prelude.{◌≡◌, ℕ, ◌+◌, ◌<◌, ◌^◌, ◌==◌, Bool, true, false, not, ◌&&◌, ◌||◌, List, [], ◌∷◌, ◌++◌, length, map, filter, Option, Some, None, if◌then◌else◌, cond, refl, sym, ap, ap₂, ◌∙◌, subst, arith, append-nil, append_assoc, codes, decimal, or_assoc, concat, list_all, list_any, IsPermutation, sum_by-IsPermutation, and_parts, revision_name, Record, header_number, DumpRecord, Ending, record_item, KeptRevisions, Settings, is_revision_record, is_node, is_kept_node, Group, group_of, groups, group_number, revision_number, revision_numbers, first_number, keeps_group, keeps_empty, written_number, header_small, copies_from_before, Present, Tally, no_tally, revision_tally, node_tally, other_tally, next_tally, AreKeptIn, Bor, HasRecords, HasKept, IsVisitedAfter, NumberCollector, ended_numbers, kept_by, numbers_before}
use Rattle.std.proofs.Common.{unwrap_or, nat_lt}
use Rattle.dump_survey.specs.RevisionMap.{map_line}
use Rattle.dump_survey.proofs.SurveyorLemmas.{begun_single}
use Rattle.dump_survey.proofs.TallyLemmas.{begins_at_is, closes, closes_none, count_within, is_single, nodes, nodes_more, nodes_none, some_left, tally_more}

-- the number of the present revision, if it is kept when these nodes follow
abbrev closing : Settings → Option Present → List DumpRecord → List ℕ
closing settings None ns = []
closing settings (Some p) ns = cond (closes settings (Some p) ns) (p.number ∷ []) []

-- the numbers of the kept revisions of the groups
abbrev kept_of : Settings → List Group → List ℕ
kept_of settings gs = map group_number (filter (keeps_group settings) gs)

ended_is : (settings : Settings) (p : Option Present) → ended_numbers settings p ≡ closing settings p []
ended_is settings None = refl
ended_is settings (Some p) = ap (λ b. cond b (p.number ∷ []) []) (sym (closes_none settings (Some p)))

module _ (settings : Settings) (t : Tally) (r : DumpRecord) (records : List DumpRecord)
    (more : (u : Tally) → kept_by settings u records
    ≡ closing settings u.present (nodes records) ++ kept_of settings (groups records)) where
  -- after a record that is no node, the present revision has all its nodes
  ends_before : is_node r ≡ false → ended_numbers settings t.present ≡ closing settings t.present (nodes (r ∷ records))
  ends_before other = ended_is settings t.present ∙ ap (closing settings t.present) (sym (nodes_none r records other))

  one_group : (b : Bool) → cond b (revision_number r ∷ []) [] ++ kept_of settings (groups records)
      ≡ map group_number (cond b (group_of r records ∷ filter (keeps_group settings) (groups records))
      (filter (keeps_group settings) (groups records)))
  one_group true = refl
  one_group false = refl

  numbers_revision : is_node r ≡ false
      → ended_numbers settings t.present ++ kept_by settings (revision_tally settings t (revision_number r)) records
      ≡ closing settings t.present (nodes (r ∷ records)) ++ kept_of settings (group_of r records ∷ groups records)
  numbers_revision other =
      ap₂ (λ xs ys. xs ++ ys) (ends_before other)
      (more (revision_tally settings t (revision_number r)) ∙ one_group (keeps_group settings (group_of r records)))

  numbers_other : is_node r ≡ false
      → ended_numbers settings t.present ++ kept_by settings (other_tally settings t) records
      ≡ closing settings t.present (nodes (r ∷ records)) ++ kept_of settings (groups records)
  numbers_other other = ap₂ (λ xs ys. xs ++ ys) (ends_before other) (more (other_tally settings t))

  node_closing : (p : Option Present) → is_node r ≡ true → t.present ≡ p
      → closing settings (node_tally t (is_kept_node settings r) (copies_from_before t.first r) p).present (nodes records)
      ≡ closing settings p (nodes (r ∷ records))
  node_closing None node is = ap (λ q. closing settings q (nodes records)) is
  node_closing (Some p) node is =
      ap₂ (λ k b. cond (p.number == 0 || k || keeps_empty settings.empty b) (p.number ∷ []) [])
      (or_assoc p.kept (is_kept_node settings r) (list_any (is_kept_node settings) (nodes records)))
      (sym (some_left (length (nodes records)) p.bare))
      ∙ ap (λ ns. closing settings (Some p) ns) (sym (nodes_more r records node))

  numbers_node : is_node r ≡ true
      → kept_by settings (node_tally t (is_kept_node settings r) (copies_from_before t.first r) t.present) records
      ≡ closing settings t.present (nodes (r ∷ records)) ++ kept_of settings (groups records)
  numbers_node node = more (node_tally t (is_kept_node settings r) (copies_from_before t.first r) t.present)
      ∙ ap (λ xs. xs ++ kept_of settings (groups records)) (node_closing t.present node refl)

  numbers_step : (v n : Bool) → is_node r ≡ n → not (n && v) ≡ true
      → (if n then [] else ended_numbers settings t.present) ++ kept_by settings (if v then revision_tally settings t (revision_number r)
      else if n then node_tally t (is_kept_node settings r) (copies_from_before t.first r) t.present else other_tally settings t) records
      ≡ closing settings t.present (nodes (r ∷ records))
      ++ kept_of settings (if v then group_of r records ∷ groups records else groups records)
  numbers_step true true node single = cc
  numbers_step true false other single = numbers_revision other
  numbers_step false true node single = numbers_node node
  numbers_step false false other single = numbers_other other

-- the added numbers are those of the present revision and of the groups
numbers_are : (settings : Settings) (t : Tally) (records : List DumpRecord) → list_all is_single records ≡ true
    → kept_by settings t records ≡ closing settings t.present (nodes records) ++ kept_of settings (groups records)
numbers_are settings t [] single = ended_is settings t.present ∙ sym (append-nil (closing settings t.present []))
numbers_are settings t (r ∷ records) single =
    let parts = and_parts (is_single r) (list_all is_single records) single in
    numbers_step settings t r records (λ u. numbers_are settings u records parts.1) (is_revision_record r) (is_node r)
    refl parts.0

revision_below : (r : DumpRecord) → revision_number r < 10 ^ 18
revision_below r = by_number (header_number revision_name r.headers) refl
  where
    by_number : (o : Option ℕ) → header_number revision_name r.headers ≡ o → unwrap_or o 0 < 10 ^ 18
    by_number None is = omega arith
    by_number (Some n) is = header_small revision_name r.headers n is

first_below : (records : List DumpRecord) → first_number (revision_numbers records) < 10 ^ 18
first_below [] = omega arith
first_below (r ∷ records) = by (is_revision_record r) (first_below records)
  where
    by : (b : Bool) → first_number (revision_numbers records) < 10 ^ 18
        → first_number (map group_number (if b then group_of r records ∷ groups records else groups records)) < 10 ^ 18
    by true more = revision_below r
    by false more = more

-- one more record
module _ (first old : NumberCollector) (before : List DumpRecord) (item : Record) (next : IsVisitedAfter item before)
    (so_far : HasKept first before old) where
  -- the tally has room for one more revision
  pub tally_room : old.tally.count + 1 < 2 ^ 64
  tally_room =
      let within = count_within first.options.now no_tally before in
      let same = ap (λ (t : Tally). t.count) so_far.tallied in
      let number = next.1 in
      let fits = item.counted in
      omega arith

  pub kept_more : (now : NumberCollector) → now.options ≡ old.options
      → now.numbers.items ≡ old.numbers.items ++ numbers_before old.options.now old.tally.present (record_item item)
      → now.tally ≡ next_tally old.options.now old.tally (record_item item)
      → HasKept first (before ++ record_item item ∷ []) now
  kept_more now options are is =
      let settings = first.options.now in
      let r = record_item item in
      let same : now.tally ≡ next_tally settings old.tally r = is ∙ ap (λ s. next_tally s old.tally r) so_far.options in
      record {
        none = so_far.none;
        options = ap (λ (o : Bor Settings). o.now) options ∙ so_far.options;
        tallied = same ∙ ap (λ t. next_tally settings t r) so_far.tallied
            ∙ sym (tally_more settings no_tally before r);
        kept = λ rest. ap (kept_by settings no_tally) (append_assoc before (r ∷ []) rest)
            ∙ so_far.kept (r ∷ rest)
            ∙ sym (append_assoc old.numbers.items (numbers_before settings old.tally.present r)
            (kept_by settings (next_tally settings old.tally r) rest))
            ∙ ap₂ (λ (ns : List ℕ) (t : Tally). ns ++ kept_by settings t rest)
            (sym (are ∙ ap (λ s. old.numbers.items ++ numbers_before s old.tally.present r) so_far.options)) (sym same);
      }

-- the kept revisions when the records end
pub all_kept_in : (first now : NumberCollector) (dump : List ℕ) (records : List DumpRecord) (ending : Ending)
    → HasRecords dump records ending → HasKept first records now → (numbers : List ℕ)
    → numbers ≡ now.numbers.items ++ ended_numbers first.options.now now.tally.present
    → AreKeptIn first.options.now dump (record { first = now.tally.first; numbers = numbers })
all_kept_in first now dump records ending has so_far numbers are = record {
  records = records;
  ending = ending;
  has = has;
  kept_are = ap₂ (λ f ns. record { first = f; numbers = ns }) begins
      (are ∙ sym (so_far.kept []) ∙ ap (kept_by settings no_tally) (append-nil records)
      ∙ numbers_are settings no_tally records (begun_single dump records (has.0, has.1, has.2)));
  small = subst (λ n. n < 10 ^ 18) (sym begins) (first_below records);
}
  where
    settings : Settings
    settings = first.options.now

    begins : now.tally.first ≡ first_number (revision_numbers records)
    begins = ap (λ (t : Tally). t.first) so_far.tallied ∙ begins_at_is settings records

-- a new number doesn't depend on the order of the kept numbers
written_sorted : (settings : Settings) (first number : ℕ) (numbers sorted : List ℕ) → IsPermutation numbers sorted
    → written_number settings (record { first = first; numbers = sorted }) number
    ≡ written_number settings (record { first = first; numbers = numbers }) number
written_sorted settings first number numbers sorted same =
    ap (λ c. if settings.renumber then first + c else number)
    (sum_by-IsPermutation (λ k. cond (nat_lt k number) 1 0) numbers sorted same)

-- the line of a kept revision, with the number that is found for it
pub line_pushed : (settings : Settings) (kept : KeptRevisions) (sorted : List ℕ) (number written : ℕ)
    (old new : List ℕ) → IsPermutation kept.numbers sorted
    → written ≡ written_number settings (record { first = kept.first; numbers = sorted }) number
    → new ≡ old ++ concat (codes "r" ∷ decimal number ∷ codes " becomes r" ∷ decimal written ∷ codes "\n" ∷ [])
    → new ≡ old ++ map_line settings kept number
unfolding map_line
line_pushed settings kept sorted number written old new same is pushed = pushed
    ∙ ap (λ n. old ++ concat (codes "r" ∷ decimal number ∷ codes " becomes r" ∷ decimal n ∷ codes "\n" ∷ []))
    (is ∙ written_sorted settings kept.first number kept.numbers sorted same)
