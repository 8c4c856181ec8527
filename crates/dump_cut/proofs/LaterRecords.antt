-- The records before the first one of a kind, and those from there on: their texts, versions, groups and order.
use Rattle.std.proofs.Common.{◌≡◌, ℕ, suc, ◌+◌, ◌<◌, ◌≤◌, ◌==◌, Bool, true, false, not, ◌&&◌, ◌||◌, List, [], ◌∷◌, ◌++◌, if◌then◌else◌, length, length-append, map, take, drop, refl, sym, ap, ◌∙◌, subst, arith, append-nil, append_assoc}
use Rattle.std.proofs.lemmas.Bool.{and_from, and_parts, eqb-true, false_from_ne_true, ltb-false, ltb-true}
use Rattle.std.proofs.Math.Seq.{drop-append_seam, take-append_seam}
use Rattle.std.specs.Prelude.{nat_lt, unwrap_or}
use Rattle.std.specs.List.{AllZip}
use Rattle.dump_text.specs.HeaderLine.{has_header}
use Rattle.dump_text.specs.Names.{revision_name}
use Rattle.dump_text.proofs.BoolLemmas.{absurd_bool}
use Rattle.dump_records.specs.DumpText.{Ending, HasRecords, HaveVersions, IsCutInto, line_feeds}
use Rattle.dump_records.specs.HeaderRules.{header_number}
use Rattle.dump_records.specs.RecordText.{DumpRecord, is_lawful, record_text}
use Rattle.dump_records.specs.steps.CutterState.{last_version}
use Rattle.dump_records.proofs.CutLemmas.{lfs_length}
use Rattle.dump_records.proofs.Unique as unique
use Rattle.dump_records.proofs.Versions.{versions_prefix}
use Rattle.dump_digest.specs.RecordParts.{is_node, is_revision_record}
use Rattle.dump_filter.specs.Groups.{group_number, group_of, groups, revision_number}
use Rattle.dump_filter.proofs.again.Headers.{no_others}
use Rattle.dump_filter.proofs.groups.GroupLemmas.{groups_before}
use Rattle.dump_filter.proofs.groups.KindLemmas.{alone}
use Rattle.dump_history.specs.DumpChanges.{counts_from, has_ordered_nodes}
use Rattle.dump_history.specs.steps.ExpandedDumps.{IsSameRecord}
use Rattle.dump_history.specs.ExpandedText.{AreRecordTexts}
use Rattle.dump_history.proofs.expanded.FormLemmas.{AllFit, Fits}
use Rattle.dump_history.proofs.expanded.TextLemmas.{joins_behind, put_one, some_same}
use Rattle.dump_cut.specs.LaterParts.{is_later_revision, part_up_to, place_of_first, version_before_first}
use Rattle.dump_cut.proofs.TrimmedTextLemmas.{cut_texts}

-- lists in two parts

-- if two lists joined are zipped with a third one, each is zipped with its part of that
pub zip_parts : {A B : Type 0} (R : A → B → Type 0) (xs ys : List A) (zs : List B) → AllZip R (xs ++ ys) zs
    → AllZip R xs (take (length xs) zs) × AllZip R ys (drop (length xs) zs)
zip_parts R [] ys zs all = (tt, all)
zip_parts R (x ∷ xs) ys [] all = absurd all
zip_parts R (x ∷ xs) ys (z ∷ zs) (one, all) =
    let parts = zip_parts R xs ys zs all in ((one, parts.0), parts.1)

-- consecutive numbers, in two parts
pub counted_parts : (n : ℕ) (xs ys : List ℕ) → counts_from n (xs ++ ys) ≡ true
    → (counts_from n xs ≡ true) × (counts_from (n + length xs) ys ≡ true)
counted_parts n [] ys all =
    (refl, ap (λ m. counts_from m ys) (let none : n + 0 ≡ n = omega arith in none) ∙ all)
counted_parts n (x ∷ xs) ys all =
    let here = and_parts (x == n) (counts_from (suc n) (xs ++ ys)) all in
    let parts = counted_parts (suc n) xs ys here.1 in (
      and_from (x == n) (counts_from (suc n) xs) here.0 parts.0,
      ap (λ m. counts_from m ys) (let same : n + suc (length xs) ≡ suc n + length xs = omega arith in same) ∙ parts.1,
    )

-- records that fit, in two parts
pub fit_parts : (xs ys : List DumpRecord) → AllFit (xs ++ ys) → AllFit xs × AllFit ys
fit_parts [] ys fit = (tt, fit)
fit_parts (x ∷ xs) ys (fits, fit) = let parts = fit_parts xs ys fit in ((fits, parts.0), parts.1)

-- records after others have their versions
pub versions_rest : (version : ℕ) (rs ss : List DumpRecord) → HaveVersions version (rs ++ ss)
    → HaveVersions (last_version version rs) ss
versions_rest version [] ss have = have
versions_rest version (r ∷ rs) ss (is, have) = versions_rest r.version rs ss have

-- a revision is no node
pub no_node : (r : DumpRecord) → Fits r → is_revision_record r ≡ true → is_node r ≡ false
no_node r fits revision =
    false_from_ne_true (is_node r) (λ node. absurd_bool (is_revision_record r) revision (alone fits.number r fits.lawful node))

-- the first record of a dump is no revision
pub first_no_revision : (r : DumpRecord) → is_lawful 0 r.headers ≡ true → is_revision_record r ≡ false
first_no_revision r lawful =
    let keeps = unique.keeps 0 r.headers lawful in
    false_from_ne_true (is_revision_record r) (λ revision. keeps.version
    (rw ((no_others r.headers (false_from_ne_true _ keeps.kind) (ap (λ b. b || is_node r) revision)).0) refl))

-- the first record, if there is one, is no node
abbrev pub BeginsGroup : List DumpRecord → Type 0
BeginsGroup [] = Unit {0}
BeginsGroup (r ∷ records) = is_node r ≡ false

-- the groups before such records end there
pub groups_join : (xs ys : List DumpRecord) → BeginsGroup ys → groups (xs ++ ys) ≡ groups xs ++ groups ys
groups_join xs [] begins = ap groups (append-nil xs) ∙ sym (append-nil (groups xs))
groups_join xs (y ∷ ys) begins = groups_before xs ys y begins

-- so each part is in order by itself
pub ordered_join : (may : Bool) (xs ys : List DumpRecord) → BeginsGroup ys
    → has_ordered_nodes may (xs ++ ys) ≡ (has_ordered_nodes may xs && has_ordered_nodes false ys)
ordered_join may [] [] begins = refl
ordered_join may [] (y ∷ ys) begins = rw begins refl
ordered_join may (x ∷ xs) ys begins =
    ap (λ b. (not (is_node x) || may) && b) (ordered_join (is_revision_record x || is_node x) xs ys begins)
    ∙ regroup (not (is_node x) || may) (has_ordered_nodes (is_revision_record x || is_node x) xs) (has_ordered_nodes false ys)
  where
    regroup : (a b c : Bool) → (a && (b && c)) ≡ ((a && b) && c)
    regroup true b c = refl
    regroup false b c = refl

-- the records before the first one of a kind

-- the records before the first such record
abbrev pub before_first : (DumpRecord → Bool) → List DumpRecord → List DumpRecord
before_first is_such [] = []
before_first is_such (r ∷ records) = if is_such r then [] else r ∷ before_first is_such records

-- the records from the first such record on
abbrev pub from_first : (DumpRecord → Bool) → List DumpRecord → List DumpRecord
from_first is_such [] = []
from_first is_such (r ∷ records) = if is_such r then r ∷ records else from_first is_such records

module _ (is_such : DumpRecord → Bool) where
  -- both parts together are all records
  pub both_parts : (records : List DumpRecord) → before_first is_such records ++ from_first is_such records ≡ records
  both_parts [] = refl
  both_parts (r ∷ records) = cases (is_such r) (both_parts records)
    where
      cases : (b : Bool) → before_first is_such records ++ from_first is_such records ≡ records
          → (if b then [] else r ∷ before_first is_such records)
          ++ (if b then r ∷ records else from_first is_such records) ≡ r ∷ records
      cases true more = refl
      cases false more = ap (λ (rs : List DumpRecord). r ∷ rs) more

  -- the version in force after the first records
  pub version_before : (version : ℕ) (records : List DumpRecord)
      → last_version version (before_first is_such records) ≡ version_before_first is_such version records
  version_before version [] = refl
  version_before version (r ∷ records) = cases (is_such r) (version_before r.version records)
    where
      cases : (b : Bool)
          → last_version r.version (before_first is_such records) ≡ version_before_first is_such r.version records
          → last_version version (if b then [] else r ∷ before_first is_such records)
          ≡ (if b then version else version_before_first is_such r.version records)
      cases true more = refl
      cases false more = more

  -- if they are revisions, the other records begin with no node
  pub begins_group : ((r : DumpRecord) → is_such r ≡ true → is_revision_record r ≡ true) → (records : List DumpRecord)
      → AllFit records → BeginsGroup (from_first is_such records)
  begins_group revision [] fit = tt
  begins_group revision (r ∷ records) (fits, fit) = cases (is_such r) refl (begins_group revision records fit)
    where
      cases : (b : Bool) → is_such r ≡ b → BeginsGroup (from_first is_such records)
          → BeginsGroup (if b then r ∷ records else from_first is_such records)
      cases true is more = no_node r fits (revision r is)
      cases false is more = more

  -- a text that is cut before the first such record
  pub record CutBefore (number place size : ℕ) (text : List ℕ) (records : List DumpRecord) : Type 0 where
    pub front : List ℕ
    pub after : List ℕ
    pub is : text ≡ front ++ after
    pub count : place + length front ≡ place_of_first is_such size records
    pub cut : IsCutInto number place front (before_first is_such records) []
    pub texts : AreRecordTexts (from_first is_such records) after

  pub cut_before : (number place size : ℕ) (text : List ℕ) (records : List DumpRecord) → place + length text ≡ size
      → IsCutInto number place text records [] → CutBefore number place size text records
  cut_before number place size text [] fits (lfs, is, stop) = record {
    front = text;
    after = [];
    is = sym (append-nil text);
    count = fits;
    cut = (lfs, is, stop);
    texts = refl;
  }
  cut_before number place size text (r ∷ records) fits (lfs, front, after, is, at, b, more) =
      cases (is_such r) refl
      (cut_before (number + 1) (r.place + length (record_text r)) size after records (omega (arith, fits, sizes, parts, at)) more)
    where
      gap : length (line_feeds lfs) ≡ lfs
      gap = lfs_length lfs

      sizes : length text ≡ lfs + length front
      sizes = ap length is ∙ length-append (line_feeds lfs) front ∙ ap (λ n. n + length front) gap

      parts : length front ≡ length (record_text r) + length after
      parts = ap length b.spelled ∙ length-append (record_text r) after

      cases : (t : Bool) → is_such r ≡ t
          → CutBefore (number + 1) (r.place + length (record_text r)) size after records
          → CutBefore number place size text (r ∷ records)
      cases true such behind =
          let (n, rest, spelled, texts) = cut_texts (number + 1) (r.place + length (record_text r)) after records more in
          record {
            front = line_feeds lfs;
            after = front;
            is = is;
            count = rw such (ap (λ n. place + n) gap ∙ sym at);
            cut = rw such (lfs, sym (append-nil (line_feeds lfs)), refl);
            texts = rw such (n, rest, b.spelled ∙ ap (λ t. record_text r ++ t) spelled, texts);
          }
      cases false other behind =
          let own = record_text r ++ behind.front in
          let joined = length-append (line_feeds lfs) own in
          let size_own = length-append (record_text r) behind.front in
          record {
            front = line_feeds lfs ++ own;
            after = behind.after;
            is = is ∙ ap (λ t. line_feeds lfs ++ t) (b.spelled ∙ ap (λ t. record_text r ++ t) behind.is
                ∙ sym (append_assoc (record_text r) behind.front behind.after))
                ∙ sym (append_assoc (line_feeds lfs) own behind.after);
            count = rw other ((let same : place + length (line_feeds lfs ++ own)
                ≡ r.place + length (record_text r) + length behind.front = omega (arith, joined, size_own, gap, at) in same)
                ∙ behind.count);
            cut = rw other (
              lfs,
              own,
              behind.front,
              refl,
              at,
              record { block = b.block; lawful = b.lawful; props_fit = b.props_fit; text_fits = b.text_fits; spelled = refl },
              behind.cut,
            );
            texts = rw other behind.texts;
          }

  -- the bytes before the first such record, and the bytes from it on
  pub cut_at : (dump : List ℕ) (records : List DumpRecord) (c : CutBefore 0 0 (length dump) dump records)
      → (take (place_of_first is_such (length dump) records) dump ≡ c.front)
      × (drop (place_of_first is_such (length dump) records) dump ≡ c.after)
  cut_at dump records c =
      let at : place_of_first is_such (length dump) records ≡ length c.front = sym c.count ∙ omega arith in (
        (λ i. take (at i) (c.is i)) ∙ take-append_seam c.front c.after,
        (λ i. drop (at i) (c.is i)) ∙ drop-append_seam c.front c.after,
      )

  -- if they are revisions, the bytes before the first one are a dump
  before_is_dump : ((r : DumpRecord) → is_such r ≡ true → is_revision_record r ≡ true) → (dump : List ℕ)
      (records : List DumpRecord) → HasRecords dump records Ending.Whole
      → HasRecords (take (place_of_first is_such (length dump) records) dump) (before_first is_such records) Ending.Whole
  before_is_dump revision dump [] has = absurd (omega (arith, has.3.1))
  before_is_dump revision dump (r ∷ records) has =
      let cut = subst (λ (l : List ℕ). IsCutInto 0 0 dump (r ∷ records) l) has.3.0 has.1 in
      let c = cut_before 0 0 (length dump) dump (r ∷ records) (omega arith) cut in
      let other : is_such r ≡ false = false_from_ne_true (is_such r) (λ such. absurd_bool (is_revision_record r) (revision r such)
      (first_no_revision r cut.5.lawful)) in (
        [],
        subst (λ t. IsCutInto 0 0 t (before_first is_such (r ∷ records)) []) (sym (cut_at dump (r ∷ records) c).0) c.cut,
        versions_prefix 0 (before_first is_such (r ∷ records)) (from_first is_such (r ∷ records))
            (subst (HaveVersions 0) (sym (both_parts (r ∷ records))) has.2),
        (refl, subst (λ b. 0 < length (if b then [] else r ∷ before_first is_such records)) (sym other) (omega arith)),
      )

-- there is no group before the first revision
pub no_groups_before : (records : List DumpRecord) → groups (before_first is_revision_record records) ≡ []
no_groups_before [] = refl
no_groups_before (r ∷ records) = cases (is_revision_record r) refl (no_groups_before records)
  where
    cases : (b : Bool) → is_revision_record r ≡ b → groups (before_first is_revision_record records) ≡ []
        → groups (if b then [] else r ∷ before_first is_revision_record records) ≡ []
    cases true is more = refl
    cases false is more = rw is more

-- a revision above a number is a revision
pub later_revision : (number : ℕ) (r : DumpRecord) → is_later_revision number r ≡ true → is_revision_record r ≡ true
later_revision number r later = (and_parts (is_revision_record r) _ later).0

-- the lines of a record say whether it is such a revision
pub same_later : (number : ℕ) (r s : DumpRecord) → s.headers ≡ r.headers
    → is_later_revision number s ≡ is_later_revision number r
same_later number r s same =
    ap (λ lines. has_header revision_name lines && nat_lt number (unwrap_or (header_number revision_name lines) 0)) same

-- what a dump has up to a revision is a dump, whose records are those before the first revision above it
pub first_is_dump : (number : ℕ) (dump first : List ℕ) (records : List DumpRecord) → HasRecords dump records Ending.Whole
    → first ≡ part_up_to number dump records
    → HasRecords first (before_first (is_later_revision number) records) Ending.Whole
first_is_dump number dump first records has is =
    subst (λ t. HasRecords t (before_first (is_later_revision number) records) Ending.Whole) (sym is)
    (before_is_dump (is_later_revision number) (later_revision number) dump records has)

-- the number of groups before the first revision above a number
pub groups_up_to : (number n : ℕ) (records : List DumpRecord) → counts_from n (map group_number (groups records)) ≡ true
    → n ≤ suc number → number < n + length (groups records)
    → n + length (groups (before_first (is_later_revision number) records)) ≡ suc number
groups_up_to number n [] counts low high = omega arith
groups_up_to number n (r ∷ records) counts low high =
    cases (is_revision_record r) refl counts high (λ m. groups_up_to number m records)
  where
    before : List DumpRecord
    before = before_first (is_later_revision number) records

    cases : (b : Bool) → is_revision_record r ≡ b
        → counts_from n (map group_number (if b then group_of r records ∷ groups records else groups records)) ≡ true
        → number < n + length (if b then group_of r records ∷ groups records else groups records)
        → ((m : ℕ) → counts_from m (map group_number (groups records)) ≡ true → m ≤ suc number
        → number < m + length (groups records) → m + length (groups before) ≡ suc number)
        → n + length (groups (if b && nat_lt number (revision_number r) then [] else r ∷ before)) ≡ suc number
    cases false is counting above more = rw is (more n counting low above)
    cases true is counting above more =
        let here = and_parts (revision_number r == n) (counts_from (suc n) (map group_number (groups records))) counting in
        by_above (eqb-true (revision_number r) n here.0) here.1 (nat_lt number (revision_number r)) refl
      where
        by_above : revision_number r ≡ n → counts_from (suc n) (map group_number (groups records)) ≡ true
            → (t : Bool) → nat_lt number (revision_number r) ≡ t
            → n + length (groups (if t then [] else r ∷ before)) ≡ suc number
        by_above its further true later =
            let beyond = ltb-true number (revision_number r) later in omega (arith, beyond, its, low)
        by_above its further false early =
            let within = ltb-false number (revision_number r) early in
            rw is (let all = more (suc n) further (omega (arith, within, its)) (omega (arith, above)) in omega (arith, all))

-- texts that are a dump

-- the texts of a first record and of others are a dump
pub texts_are_dump : (text front : List ℕ) (r : DumpRecord) (rest : List DumpRecord) (lfs : ℕ) → AllFit (r ∷ rest)
    → is_lawful 0 r.headers ≡ true → HaveVersions 0 (r ∷ rest) → text ≡ line_feeds lfs ++ front
    → AreRecordTexts (r ∷ rest) front
    → (again : List DumpRecord) × HasRecords text again Ending.Whole × AllZip IsSameRecord (r ∷ rest) again
texts_are_dump text front r rest lfs (fits, fit) lawful (in_force, have) is (gap, after, at, texts) =
    let (again, cut, versions, same) =
    put_one r 0 gap front after rest fits in_force at (joins_behind r.version rest after fit have texts) 0 0 lfs lawful in (
      again,
      ([], subst (λ t. IsCutInto 0 0 t again []) (sym is) cut, versions, (refl, some_same r rest again same)),
      same,
    )
