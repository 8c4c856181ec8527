-- What the filter writes of the first part of a dump.
use Rattle.std.proofs.Common.{◌≡◌, ℕ, ◌+◌, ◌==◌, Bool, true, false, ◌&&◌, ◌||◌, List, [], ◌∷◌, ◌++◌, if◌then◌else◌, length, length-append, take, Some, MatchBool, refl, sym, ap, ◌∙◌, subst, arith, append-nil, append_assoc}
use Rattle.std.proofs.lemmas.Bool.{MatchBool-at_false, MatchBool-at_true, or_right}
use Rattle.std.proofs.Math.Seq.{take-append_seam}
use Rattle.std.specs.Prelude.{nat_lt}
use Rattle.dump_text.specs.HeaderBlock.{BeginsWithBlock, block_text, starts_with_lf}
use Rattle.dump_text.specs.HeaderLine.{Header, with_header_value}
use Rattle.dump_text.specs.Names.{copy_revision_name}
use Rattle.dump_text.specs.Number.{spelled_number}
use Rattle.dump_text.specs.PropertyList.{Property}
use Rattle.dump_text.proofs.Unique.{blank_once, block_some}
use Rattle.dump_records.specs.DumpText.{IsCutInto, line_feeds}
use Rattle.dump_records.specs.HeaderRules.{header_number}
use Rattle.dump_records.specs.RecordText.{BeginsWithRecord, DumpRecord, record_text}
use Rattle.dump_records.proofs.CutLemmas.{lfs_length}
use Rattle.dump_records.proofs.Unique as unique
use Rattle.dump_rules.specs.declared.options.Empty.TheVariants.{Pad}
use Rattle.dump_rules.specs.Mergeinfo.{MergeLine}
use Rattle.dump_rules.specs.Renumbering.{KeptRevisions}
use Rattle.dump_rules.specs.Rewriting.{IsNewLine, IsNewMergeinfo, staying_lines}
use Rattle.dump_rules.specs.Settings.{Settings}
use Rattle.dump_rules.proofs.reading.RangeListLemmas.{zip_map}
use Rattle.dump_digest.specs.RecordParts.{is_copy, is_kept_node, is_mergeinfo, is_node, is_revision_record, value_of}
use Rattle.dump_filter.specs.Groups.{Group, group_of, has_kept_node, is_bare, keeps_empty, keeps_group, kept_revisions, revision_number}
use Rattle.dump_filter.specs.NewContent.{IsNewProperty}
use Rattle.dump_filter.specs.NewHeaders.{IsNewCopy, IsWrittenCopyNumber, becomes_plain, without_copy_headers, written_number}
use Rattle.dump_filter.specs.RecordFaults.{AreFaultFree}
use Rattle.dump_filter.specs.RecordOutput.{IsNodeOutput, IsOutput, IsRevisionOutput}
use Rattle.dump_filter.specs.Written.{AreOutputs, is_written}
use Rattle.dump_filter.proofs.again.OwnTextLaw.{reads_again, record_again}
use Rattle.dump_filter.proofs.again.ReadAgain.{AtEach, IsReadAgain}
use Rattle.dump_filter.proofs.again.RecordList.{HasAgain, at_each}
use Rattle.dump_filter.proofs.groups.GroupLemmas.{group_before}
use Rattle.dump_filter.proofs.knowing.GrowthLaw.{front_free}
use Rattle.dump_history.proofs.expanded.FormLemmas.{AllFit, all_fit}
use Rattle.dump_cut.specs.FirstParts.{FirstPartsAreFiltered}
use Rattle.dump_cut.specs.LaterParts.{is_later_revision, place_of_first}
use Rattle.dump_cut.proofs.LaterRecords.{BeginsGroup, before_first, begins_group, both_parts, first_is_dump, from_first, later_revision, same_later}

-- if the numbers don't change, what is written is the same for all kept revisions

module _ (settings : Settings) (stays : settings.renumber ≡ false) (k l : KeptRevisions) where
  -- what is true without renumbering
  unnumbered : (A B C : Type 0) → MatchBool settings.renumber A C → MatchBool settings.renumber B C
  unnumbered A B C is = subst (λ b. MatchBool b B C) (sym stays) (MatchBool-at_false A C stays is)

  same_line : (old new : MergeLine) → IsNewLine settings k old new → IsNewLine settings l old new
  same_line old new is = record { path = is.path; runs = is.runs; numbers = unnumbered _ _ _ is.numbers }

  same_property : (old new : Property) → IsNewProperty settings k old new → IsNewProperty settings l old new
  same_property old new (name, is) = (name, cases (is_mergeinfo old) is)
    where
      Merged : KeptRevisions → Type 0
      Merged kept = (value : List ℕ) × (new.value ≡ Some value) × IsNewMergeinfo settings kept (value_of old) value

      cases : (b : Bool) → MatchBool b (Merged k) (new.value ≡ old.value) → MatchBool b (Merged l) (new.value ≡ old.value)
      cases true (value, at, (lines, new_lines, reads, all, spelled)) =
          let stay = staying_lines settings lines in
          let moved = zip_map (IsNewLine settings k) (IsNewLine settings l) same_line stay new_lines all in
          (value, at, (lines, new_lines, reads, moved, spelled))
      cases false same = same

  same_copy : (r : DumpRecord) (headers : List Header) → IsNewCopy settings k r headers → IsNewCopy settings l r headers
  same_copy r headers is = cases (becomes_plain settings r) (is_copy r) is
    where
      Plain : Type 0
      Plain = headers ≡ without_copy_headers r.headers

      Copied : KeptRevisions → Type 0
      Copied kept = (old new : ℕ) × (header_number copy_revision_name r.headers ≡ Some old)
          × IsWrittenCopyNumber settings kept old new
          × (headers ≡ with_header_value copy_revision_name (spelled_number new) r.headers)

      cases : (p c : Bool) → MatchBool p Plain (MatchBool c (Copied k) (headers ≡ r.headers))
          → MatchBool p Plain (MatchBool c (Copied l) (headers ≡ r.headers))
      cases true c plain = plain
      cases false true (old, new, at, number, spelled) = (old, new, at, unnumbered _ _ _ number, spelled)
      cases false false same = same

  -- what is written of a record, by its group
  abbrev OutputBy : KeptRevisions → DumpRecord → Group → List ℕ → Type 0
  OutputBy kept r g text = MatchBool (is_revision_record r) (IsRevisionOutput settings kept g text)
      (MatchBool (is_node r) (IsNodeOutput settings kept r text) (text ≡ block_text r.headers))

  same_output : (r : DumpRecord) (g : Group) (text : List ℕ) → OutputBy k r g text → OutputBy l r g text
  same_output r g text is = cases (is_revision_record r) (is_node r) is
    where
      cases : (v n : Bool) → MatchBool v (IsRevisionOutput settings k g text)
          (MatchBool n (IsNodeOutput settings k r text) (text ≡ block_text r.headers))
          → MatchBool v (IsRevisionOutput settings l g text)
          (MatchBool n (IsNodeOutput settings l r text) (text ≡ block_text r.headers))
      cases true n (ps, has, spelled) = (ps, has, spelled ∙ rw stays refl)
      cases false true (headers, old, new, copy, has, props, spelled) = (
        headers,
        old,
        new,
        same_copy r headers copy,
        has,
        zip_map (IsNewProperty settings k) (IsNewProperty settings l) same_property old new props,
        spelled,
      )
      cases false false same = same

  -- and by its group the record is written or not
  same_written : (r : DumpRecord) (after before : List DumpRecord) (text : List ℕ) → group_of r after ≡ group_of r before
      → MatchBool (is_written settings true r after) (IsOutput settings k r after text) (text ≡ [])
      → MatchBool (is_written settings true r before) (IsOutput settings l r before text) (text ≡ [])
  same_written r after before text group is =
      subst (λ (g : Group). MatchBool (written_by g) (OutputBy l r g text) (text ≡ [])) group
      (cases (written_by (group_of r after)) is)
    where
      written_by : Group → Bool
      written_by g =
          if is_revision_record r then keeps_group settings g && true
          else if is_node r then is_kept_node settings r
          else true

      cases : (w : Bool) → MatchBool w (OutputBy k r (group_of r after) text) (text ≡ [])
          → MatchBool w (OutputBy l r (group_of r after) text) (text ≡ [])
      cases true out = same_output r (group_of r after) text out
      cases false none = none

-- a list of records begins with this record s, which is at this place, and before this text
record IsFirst (place n : ℕ) (s : DumpRecord) (after : List ℕ) (again : List DumpRecord) : Type 0 where
  x : DumpRecord
  more : List DumpRecord
  is : again ≡ x ∷ more
  at : x.place ≡ place
  headers : s.headers ≡ x.headers
  cut : IsCutInto (n + 1) (place + length (record_text s)) after more []

-- an empty text has no record
no_record : (n : ℕ) (text : List ℕ) (r : DumpRecord) (after : List ℕ) → BeginsWithRecord n text r after → text ≡ [] → ⊥
no_record n text r after b none = block_some r.headers (unique.content r after)
    (subst (λ t. BeginsWithBlock t r.headers (unique.content r after)) none (unique.begins n text r after b))

-- a text that begins with a record is cut into that one first
first_of_cut : (m n place pending : ℕ) (text after : List ℕ) (s : DumpRecord) (again : List DumpRecord)
    → BeginsWithRecord m text s after → IsCutInto n place (line_feeds pending ++ text) again []
    → IsFirst (place + pending) n s after again
first_of_cut m n place pending text after s [] b (lfs, is, stop) =
    let gaps = blank_once pending lfs text [] (unique.front_of m text s after b) stop is in
    absurd (no_record m text s after b gaps.1)
first_of_cut m n place pending text after s (x ∷ more) b (lfs, front, behind, is, at, c, cut) =
    let gaps = blank_once pending lfs text front (unique.front_of m text s after b) (unique.front_of n front x behind c) is in
    let same = unique.parts_once m n front s x after behind
    (subst (λ t. BeginsWithRecord m t s after) gaps.1 b) c in
    let texts : record_text s ≡ record_text x = λ i. (block_text (same.0 i) ++ same.1 i) ++ same.2 i in
    let place_is : x.place ≡ place + pending = at ∙ ap (λ k. place + k) (sym gaps.0) in
    record {
      x = x;
      more = more;
      is = refl;
      at = place_is;
      headers = same.0;
      cut = subst (λ t. IsCutInto (n + 1) (place + pending + length (record_text s)) t more []) (sym same.3)
          (subst (λ k. IsCutInto (n + 1) k behind more []) (λ i. place_is i + length (sym texts i)) cut);
    }

-- where the first record of a kind begins, whether it is this one or not

first_place : (is_such : DumpRecord → Bool) (place n size : ℕ) (s : DumpRecord) (after : List ℕ) (again : List DumpRecord)
    (f : IsFirst place n s after again) → is_such f.x ≡ true → place ≡ place_of_first is_such size again
first_place is_such place n size s after again f such =
    sym f.at ∙ subst (λ (rs : List DumpRecord). f.x.place ≡ place_of_first is_such size rs) (sym f.is) (rw such refl)

later_place : (is_such : DumpRecord → Bool) (place n size : ℕ) (s : DumpRecord) (after : List ℕ) (again : List DumpRecord)
    (f : IsFirst place n s after again) → is_such f.x ≡ false
    → place_of_first is_such size f.more ≡ place_of_first is_such size again
later_place is_such place n size s after again f other =
    subst (λ (rs : List DumpRecord). place_of_first is_such size f.more ≡ place_of_first is_such size rs) (sym f.is)
    (rw other refl)

-- the group of a revision ends before records that begin with no node
group_join : (x : DumpRecord) (xs ys : List DumpRecord) → BeginsGroup ys → group_of x (xs ++ ys) ≡ group_of x xs
group_join x xs [] begins = ap (group_of x) (append-nil xs)
group_join x xs (y ∷ ys) begins = group_before x xs ys y begins

-- so the group is the same in the first part
group_stays : (number : ℕ) (r : DumpRecord) (rest : List DumpRecord) → AllFit rest
    → group_of r rest ≡ group_of r (before_first (is_later_revision number) rest)
group_stays number r rest fit =
    ap (group_of r) (sym (both_parts (is_later_revision number) rest))
    ∙ group_join r (before_first (is_later_revision number) rest) (from_first (is_later_revision number) rest)
    (begins_group (is_later_revision number) (later_revision number) rest fit)

-- the text in two parts

module _ (settings : Settings) (k l : KeptRevisions) (number : ℕ) (stays : settings.renumber ≡ false)
    (pad : settings.empty ≡ Pad) where
  -- each revision is written
  revision_written : (r : DumpRecord) (after : List DumpRecord) → is_revision_record r ≡ true
      → is_written settings true r after ≡ true
  revision_written r after revision =
      let g = group_of r after in
      rw revision (ap (λ b. b && true) (or_right (revision_number r == 0 || has_kept_node settings g)
      (keeps_empty settings.empty (is_bare g)) (ap (λ e. keeps_empty e (is_bare g)) pad)))

  -- what is read again of a record is such a revision exactly if the record is
  again_later : (r s : DumpRecord) (after : List DumpRecord) (front : List ℕ) → IsReadAgain settings k r after front s
      → is_later_revision number s ≡ is_later_revision number r
  again_later r s after front read = cases (is_revision_record r) refl
    where
      own : written_number settings k (revision_number r) ≡ revision_number r
      own = rw stays refl

      cases : (b : Bool) → is_revision_record r ≡ b → is_later_revision number s ≡ is_later_revision number r
      cases true revision =
          let number_is : revision_number s ≡ revision_number r = read.number revision ∙ own in
          λ i. read.revision i && nat_lt number (number_is i)
      cases false other = rw (read.revision, other) refl

  -- the first record that is read again is what is written of the record
  record FirstRead (n place : ℕ) (r : DumpRecord) (rest : List DumpRecord) (front behind : List ℕ) (again : List DumpRecord)
      : Type 0 where
    s : DumpRecord
    reads : IsReadAgain settings k r rest front s
    feeds : ℕ
    sizes : length front ≡ length (record_text s) + feeds
    first : IsFirst place n s (line_feeds feeds ++ behind) again

  -- what is written of the records before the first such revision, and of the others
  record FirstWritten (place size : ℕ) (text : List ℕ) (records again : List DumpRecord) : Type 0 where
    front : List ℕ
    after : List ℕ
    is : text ≡ front ++ after
    count : place + length front ≡ place_of_first (is_later_revision number) size again
    written : AreOutputs settings true l (before_first (is_later_revision number) records) front

  -- one more record before them
  one_written : (place next size : ℕ) (text front behind : List ℕ) (r : DumpRecord) (records others again : List DumpRecord)
      → AllFit records → is_later_revision number r ≡ false → text ≡ front ++ behind → place + length front ≡ next
      → MatchBool (is_written settings true r records) (IsOutput settings k r records front) (front ≡ [])
      → place_of_first (is_later_revision number) size others ≡ place_of_first (is_later_revision number) size again
      → FirstWritten next size behind records others → FirstWritten place size text (r ∷ records) again
  one_written place next size text front behind r records others again fit other is ends this same left =
      let joined = length-append front left.front in
      record {
        front = front ++ left.front;
        after = left.after;
        is = is ∙ ap (λ t. front ++ t) left.is ∙ sym (append_assoc front left.front left.after);
        count = (let size_is : place + length (front ++ left.front) ≡ next + length left.front = omega (arith, joined, ends)
            in size_is) ∙ left.count ∙ same;
        written = rw other (
          front,
          left.front,
          refl,
          same_written settings stays k l r records (before_first (is_later_revision number) records) front
              (group_stays number r records fit) this,
          left.written,
        );
      }

  first_written : (n place pending size : ℕ) (text : List ℕ) (done records again : List DumpRecord) → AllFit records
      → AtEach (λ before r after. HasAgain settings k r after) done records → AreOutputs settings true k records text
      → IsCutInto n place (line_feeds pending ++ text) again [] → place + pending + length text ≡ size
      → FirstWritten (place + pending) size text records again
  first_written n place pending size text done [] again fit each none cut fits = by_cut again cut
    where
      by_cut : (again : List DumpRecord) → IsCutInto n place (line_feeds pending ++ text) again []
          → FirstWritten (place + pending) size text [] again
      by_cut [] ended =
          let empty : length text ≡ 0 = ap length none in
          record { front = []; after = []; is = none; count = omega (arith, fits, empty); written = refl }
      by_cut (x ∷ more) (lfs, front, behind, is, at, b, cut) =
          let gaps = blank_once pending lfs text front (ap starts_with_lf none) (unique.front_of n front x behind b) is in
          absurd (no_record n front x behind b (sym gaps.1 ∙ none))
  first_written n place pending size text done (r ∷ rest) again (one, fit) (own, each) (front, behind, is, this, more) cut
      fits =
      cases (is_later_revision number r) (is_written settings true r rest) refl refl
      (λ m at gap others. first_written m at gap size behind (done ++ r ∷ []) rest others fit each more)
    where
      read : is_written settings true r rest ≡ true → FirstRead n (place + pending) r rest front behind again
      read written =
          let (s, place_is, reads) = own front written (MatchBool-at_true _ _ written this) (place + pending) in
          let (feeds, begins) = reads.begins in
          let b = begins 1 text behind is (λ none. absurd (let bad : 1 ≡ 0 = none in omega arith)) in
          let gap = lfs_length feeds in
          let whole = ap length (sym is ∙ b.spelled) in
          let own_size = length-append front behind in
          let text_size = length-append (record_text s) (line_feeds feeds ++ behind) in
          let gap_size = length-append (line_feeds feeds) behind in
          record {
            s = s;
            reads = reads;
            feeds = feeds;
            sizes = omega (arith, gap, whole, own_size, text_size, gap_size);
            first = first_of_cut 1 n place pending text (line_feeds feeds ++ behind) s again b cut;
          }

      total : length text ≡ length front + length behind
      total = ap length is ∙ length-append front behind

      cases : (t w : Bool) → is_later_revision number r ≡ t → is_written settings true r rest ≡ w
          → ((m at gap : ℕ) (others : List DumpRecord) → IsCutInto m at (line_feeds gap ++ behind) others []
          → at + gap + length behind ≡ size → FirstWritten (at + gap) size behind rest others)
          → FirstWritten (place + pending) size text (r ∷ rest) again
      cases true w later written further =
          let f = read (revision_written r rest (later_revision number r later)) in
          let such : is_later_revision number f.first.x ≡ true =
          same_later number f.s f.first.x (sym f.first.headers) ∙ again_later r f.s rest front f.reads ∙ later in
          record {
            front = [];
            after = text;
            is = refl;
            count = (let same : place + pending + 0 ≡ place + pending = omega arith in same)
                ∙ first_place (is_later_revision number) (place + pending) n size f.s (line_feeds f.feeds ++ behind) again
                f.first such;
            written = rw later refl;
          }
      cases false true other written further =
          let f = read written in
          let no_such : is_later_revision number f.first.x ≡ false =
          same_later number f.s f.first.x (sym f.first.headers) ∙ again_later r f.s rest front f.reads ∙ other in
          let sizes = f.sizes in
          let next = place + pending + length (record_text f.s) in
          one_written (place + pending) (next + f.feeds) size text front behind r rest f.first.more again fit other is
          (omega (arith, sizes)) this
          (later_place (is_later_revision number) (place + pending) n size f.s (line_feeds f.feeds ++ behind) again f.first
          no_such)
          (further (n + 1) next f.feeds f.first.more f.first.cut (omega (arith, sizes, total, fits)))
      cases false false other dropped further =
          let none : front ≡ [] = MatchBool-at_false _ _ dropped this in
          let same : text ≡ behind = is ∙ ap (λ t. t ++ behind) none in
          let empty : length front ≡ 0 = ap length none in
          one_written (place + pending) (place + pending) size text front behind r rest again again fit other is
          (omega (arith, empty)) this refl
          (further n place pending again (subst (λ t. IsCutInto n place (line_feeds pending ++ t) again []) same cut)
          (omega (arith, total, empty, fits)))

-- if each revision is written under its own number, the first part of what is written is what is written of the first
-- part
pub first_parts_are_filtered : FirstPartsAreFiltered
first_parts_are_filtered settings number dump text first part records clean fit stays pad is_first is_part =
    let is_later = is_later_revision number in
    let firsts = before_first is_later records in
    let kept = kept_revisions settings records in
    let cut = subst (λ (rest : List ℕ). IsCutInto 0 0 dump records rest) clean.whole.3.0 clean.whole.1 in
    let (again, has_again, reads) = reads_again settings dump text records clean fit in
    let cut_again = subst (λ (rest : List ℕ). IsCutInto 0 0 text again rest) has_again.3.0 has_again.1 in
    let w = first_written settings kept (kept_revisions settings firsts) number stays pad 0 0 0 (length text) text [] records
    again (all_fit 0 0 dump [] records cut) (at_each (λ before r after. HasAgain settings kept r after) records
    (record_again settings dump text records clean fit)) clean.written cut_again (omega arith) in
    let at : place_of_first is_later (length text) again ≡ length w.front = sym w.count ∙ omega arith in
    let part_is : part ≡ w.front =
    is_part again has_again ∙ (λ i. take (at i) (w.is i)) ∙ take-append_seam w.front w.after in (
      firsts,
      record {
        whole = first_is_dump number dump first records clean.whole (is_first records clean.whole);
        fault_free = front_free settings firsts (from_first is_later records)
            (subst (AreFaultFree settings) (sym (both_parts is_later records)) clean.fault_free);
        written = subst (AreOutputs settings true (kept_revisions settings firsts) firsts) (sym part_is) w.written;
      },
    )
