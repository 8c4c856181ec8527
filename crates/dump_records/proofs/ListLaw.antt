-- Each dump has a list of records: at each place there is either a record or a fault, and a record takes bytes.
use Rattle.dump_records.proofs.Prelude.{◌≡◌, ◌≢◌, ◌⊎◌, ℕ, zero, suc, ◌+◌, ◌<◌, ◌≤◌, nat_lt, Bool, true, false, ◌==◌, List, [], ◌∷◌, ◌++◌, take, drop, length, refl, sym, ap, ◌∙◌, subst, arith, append_assoc, length-append, inl, inr, list_all, length-drop, take-append-drop, length-take-le, nil_from_length, eqb-true, eqb-false, FaultKind, has_byte, header_text, is_header, is_block, lines_bytes, block_text, BeginsWithBlock, HasBlock, block_fault, IsFirstLine, IsCutAtColon, IsNoHeader, HasLines, Split, split, Cut, Lacks, first_of, lawful, split_once, lawful_lines, lines_once, regroup, clash, lines_behind, no_line_here, header_text-is, is_line, version_from, property_length, text_length, DumpRecord, record_text, BeginsWithRecord, is_lawful, IsCutFault, Ending, line_feeds, IsCutInto, HaveVersions, HasEnding, HasRecords, EachDumpHasOneList, header_fault, no_block-lines}
use borrow.Author.Tests.{ltb-true, ltb-false}
use Rattle.dump_text.specs.declared.fault.FaultKind.TheVariants as faults
use Rattle.dump_text.specs.HeaderLine as line
use Rattle.dump_records.proofs.Unique.{EndsWith, records_once}
use Rattle.dump_records.proofs.PartLemmas.{no_block, unlawful, cut_short}
use Rattle.dump_records.proofs.CutLemmas.{Stripped, strip, lfs_length, record_some}

-- a line without LF is a header line, or it isn't
data Judged (whole : List ℕ) : Type 0 where
  Header : (h : line.Header) → is_header h ≡ true → whole ≡ header_text h → Judged whole
  Other : IsNoHeader whole → Judged whole

judge : (whole : List ℕ) → has_byte 10 whole ≡ false → Judged whole
judge whole none = by_colon (split 58 whole)
  where
    by_colon : Split 58 whole → Judged whole
    by_colon (Lacks no_colon) = Other (λ h good is. clash 58 h.name (32 ∷ h.value) whole no_colon
        (is ∙ header_text-is h))
    by_colon (Cut [] rest cut no_colon) = Other (λ h good is.
        let l = lawful h good in
        let same = split_once 58 [] h.name rest (32 ∷ h.value) refl l.no_colon (sym cut ∙ is ∙ header_text-is h) in
        let some = l.some in
        let bad : true ≡ false = sym some ∙ ap (λ (n : List ℕ). nat_lt 0 (length n)) (sym same.0) in
        cc)
    by_colon (Cut (c ∷ name) [] cut no_colon) = Other (λ h good is.
        let l = lawful h good in
        let same = split_once 58 (c ∷ name) h.name [] (32 ∷ h.value) no_colon l.no_colon
        (sym cut ∙ is ∙ header_text-is h) in
        let bad = same.1 in
        cc)
    by_colon (Cut (c ∷ name) (d ∷ value) cut no_colon) = by_space (d == 32) refl
      where
        by_space : (t : Bool) → (d == 32) ≡ t → Judged whole
        by_space true is =
            let e = eqb-true d 32 is in
            let spelled : whole ≡ (c ∷ name) ++ 58 ∷ 32 ∷ value = cut ∙ ap (λ x. (c ∷ name) ++ 58 ∷ x ∷ value) e in
            let found : IsCutAtColon whole
            (c ∷ name) value = record { spelled = spelled; named = grind arith; no_colon = no_colon } in
            Header (record { name = c ∷ name; value = value }) (is_line whole (c ∷ name) value none found)
            (spelled ∙ sym (append_assoc (c ∷ name) (58 ∷ 32 ∷ []) value))
        by_space false is = Other (λ h good at.
            let l = lawful h good in
            let same = split_once 58 (c ∷ name) h.name (d ∷ value) (32 ∷ h.value) no_colon l.no_colon
            (sym cut ∙ at ∙ header_text-is h) in
            let e : d ≡ 32 = first_of d 32 value h.value same.1 in
            eqb-false d 32 is e)

-- the header lines before an empty line, or that there are none
data Scanned (text : List ℕ) : Type 0 where
  Lines : (headers : List line.Header) (rest : List ℕ) → list_all is_header headers ≡ true
      → text ≡ lines_bytes headers ++ 10 ∷ rest → Scanned text
  NoLines : ¬ HasLines text → Scanned text

scan_step : (text : List ℕ) → ((rest : List ℕ) → length rest < length text → Scanned rest) → Scanned text
scan_step text more = by_line (split 10 text)
  where
    by_line : Split 10 text → Scanned text
    by_line (Lacks none) = NoLines (λ (hs, rest, all, is). clash 10 (lines_bytes hs) rest text none is)
    by_line (Cut [] rest cut one_line) = Lines [] rest refl cut
    by_line (Cut (c ∷ whole) rest cut one_line) = by_kind (judge (c ∷ whole) one_line)
        (more rest (shorter (ap length cut ∙ length-append (c ∷ whole) (10 ∷ rest))))
      where
        shorter : length text ≡ length (c ∷ whole) + length (10 ∷ rest) → length rest < length text
        shorter sizes = omega arith

        first : IsFirstLine text (c ∷ whole) rest
        first = record { cut = cut; one_line = one_line }

        by_kind : Judged (c ∷ whole) → Scanned rest → Scanned text
        by_kind (Other other) left = NoLines (λ (hs, behind, all, is). no_line_here hs text
            (c ∷ whole) rest behind all first is (grind arith) other)
        by_kind (Header h good is) (Lines hs behind all at) = Lines (h ∷ hs) behind (rw (good, all) refl)
            (cut ∙ ap (λ w. w ++ 10 ∷ rest) is ∙ ap (λ t. header_text h ++ 10 ∷ t) at
            ∙ sym (regroup h hs (10 ∷ behind)))
        by_kind (Header h good is) (NoLines none) = NoLines (λ (hs, behind, all, at).
            let one : list_all is_header (h ∷ []) ≡ true = rw good refl in
            let left = lines_behind (h ∷ []) hs rest behind one all
            (regroup h [] rest ∙ ap (λ w. w ++ 10 ∷ rest) (sym is) ∙ sym cut ∙ at) in
            none (left.0, behind, left.1, left.2))

scan : (fuel : ℕ) (text : List ℕ) → length text ≤ fuel → Scanned text
scan zero text small = scan_step text (λ rest less. absurd (omega arith))
scan (suc fuel) text small = scan_step text (λ rest less. scan fuel rest (omega arith))

-- the block at the front of a text, or the fact that there is none
data Found (text : List ℕ) : Type 0 where
  Block : (headers : List line.Header) (rest : List ℕ) → BeginsWithBlock text headers rest → Found text
  NoBlock : ¬ HasBlock text → Found text

find_block : (text : List ℕ) → Found text
find_block text = by_lines (scan (length text) text (omega arith))
  where
    by_lines : Scanned text → Found text
    by_lines (NoLines none) = NoBlock (no_block-lines text none)
    by_lines (Lines hs rest all is) = by_names (is_block hs) refl
      where
        spelled : text ≡ block_text hs ++ rest
        spelled = is ∙ sym (append_assoc (lines_bytes hs) (10 ∷ []) rest)

        by_names : (t : Bool) → is_block hs ≡ t → Found text
        by_names true good = Block hs rest record { block = good; spelled = spelled }
        by_names false bad = NoBlock (λ (ks, more, b).
            let same = (lines_once hs ks rest more all (lawful_lines ks b.block)
            (sym is ∙ b.spelled ∙ append_assoc (lines_bytes ks) (10 ∷ []) more)).0 in
            let no_way : false ≡ true = sym bad ∙ ap is_block same ∙ b.block in
            cc)

-- the record with this number at the front of a text at this place, if this version was in force before; or the reason
-- that there is none
data Stands (number place version : ℕ) (text : List ℕ) : Type 0 where
  Here : (r : DumpRecord) (after : List ℕ) → r.place ≡ place → r.version ≡ version_from version r.headers
      → BeginsWithRecord number text r after → Stands number place version text
  Broken : (fault : FaultKind) → IsCutFault number text fault → Stands number place version text

stand : (number place version : ℕ) (text : List ℕ) → Stands number place version text
stand number place version text = by_block (find_block text)
  where
    by_block : Found text → Stands number place version text
    by_block (NoBlock none) = Broken (block_fault text) (no_block number text none)
    by_block (Block headers rest b) = by_rules (is_lawful number headers) refl
        (nat_lt (length rest) (property_length headers + text_length headers)) refl
      where
        by_rules : (t : Bool) → is_lawful number headers ≡ t → (short : Bool)
            → nat_lt (length rest) (property_length headers + text_length headers) ≡ short
            → Stands number place version text
        by_rules false bad short is = Broken (header_fault number headers) (unlawful number text headers rest b bad)
        by_rules true good true is = Broken faults.ContentCut
            (cut_short number text headers rest b good (ltb-true _ _ is))
        by_rules true good false is =
            let props = property_length headers in
            let size = text_length headers in
            let room : props + size ≤ length rest = ltb-false (length rest) (props + size) is in
            let behind = length-drop props rest in
            Here (record {
              place = place;
              version = version_from version headers;
              headers = headers;
              props = take props rest;
              text = take size (drop props rest);
            }) (drop size (drop props rest)) refl refl record {
              block = b.block;
              lawful = good;
              props_fit = length-take-le props rest (omega arith);
              text_fits = length-take-le size (drop props rest) (omega arith);
              spelled = b.spelled
                  ∙ ap (λ t. block_text headers ++ t)
                  (sym (take-append-drop props rest) ∙ ap (λ t. take props rest ++ t)
                  (sym (take-append-drop size (drop props rest))))
                  ∙ sym (append_assoc (block_text headers) (take props rest)
                  (take size (drop props rest) ++ drop size (drop props rest)))
                  ∙ sym (append_assoc (block_text headers ++ take props rest) (take size (drop props rest))
                  (drop size (drop props rest)));
            }

-- the records from a place on, and how they end
record Listed (size number place version : ℕ) (text : List ℕ) : Type 0 where
  records : List DumpRecord
  rest : List ℕ
  ending : Ending
  cut : IsCutInto number place text records rest
  versions : HaveVersions version records
  ends : EndsWith size (number + length records) rest ending

list_step : (size number place version : ℕ) (text : List ℕ) → place + length text ≡ size
    → ((at before : ℕ) (rest : List ℕ) → at + length rest ≡ size → length rest < length text
    → Listed size (number + 1) at before rest)
    → Listed size number place version text
list_step size number place version text fits more = by_gap (strip text)
  where
    by_gap : Stripped text → Listed size number place version text
    by_gap gap = by_stand (stand number (place + gap.count) version gap.rest)
      where
        sizes : length text ≡ gap.count + length gap.rest
        sizes = ap length gap.is ∙ length-append (line_feeds gap.count) gap.rest ∙ ap (λ n. n + length gap.rest)
            (lfs_length gap.count)

        nothing : IsCutInto number place text [] gap.rest
        nothing = (gap.count, gap.is, gap.stop)

        by_stand : Stands number (place + gap.count) version gap.rest → Listed size number place version text
        by_stand (Here r after at in_force b) =
            let parts = ap length b.spelled ∙ length-append (record_text r) after in
            let some = record_some r in
            let left = more (r.place + length (record_text r)) r.version after (let s = sizes in omega arith)
            (let s = sizes in omega arith) in
            record {
              records = r ∷ left.records;
              rest = left.rest;
              ending = left.ending;
              cut = (gap.count, gap.rest, after, gap.is, at, b, left.cut);
              versions = (in_force, left.versions);
              ends = subst (λ (n : ℕ). EndsWith size n left.rest left.ending) (omega arith) left.ends;
            }
        by_stand (Broken fault cause) = by_end gap.rest refl number refl
          where
            broken : (gap.rest ≢ []) ⊎ (number + 0 ≡ 0) → Listed size number place version text
            broken why = record {
              records = [];
              rest = gap.rest;
              ending = Ending.Broken fault (place + gap.count);
              cut = nothing;
              versions = tt;
              ends = (
                why,
                (let s = sizes in omega arith),
                subst (λ (n : ℕ). IsCutFault n gap.rest fault)
                    (let e : number ≡ number + 0 = omega arith in e) cause,
              );
            }

            by_end : (rest : List ℕ) → gap.rest ≡ rest → (n : ℕ) → number ≡ n → Listed size number place version text
            by_end (c ∷ rest) is n count = broken (inl (λ none. let bad = sym is ∙ none in cc))
            by_end [] is zero count = broken (inr (omega arith))
            by_end [] is (suc n) count = record {
              records = [];
              rest = gap.rest;
              ending = Ending.Whole;
              cut = nothing;
              versions = tt;
              ends = (is, omega arith);
            }

list : (fuel size number place version : ℕ) (text : List ℕ) → place + length text ≡ size → length text ≤ fuel
    → Listed size number place version text
list zero size number place version text fits small =
    list_step size number place version text fits (λ at before rest fits' less. absurd (omega arith))
list (suc fuel) size number place version text fits small = list_step size number place version text fits
    (λ at before rest fits' less. list fuel size (number + 1) at before rest fits' (omega arith))

-- each dump has a list of records, and no other
pub each_dump_has_one_list : EachDumpHasOneList
each_dump_has_one_list dump =
    let l = list (length dump) (length dump) 0 0 0 dump (omega arith) (omega arith) in
    let has : HasRecords dump l.records l.ending =
    (l.rest, l.cut, l.versions, has_ending l.records l.rest l.ending l.ends) in
    (l.records, l.ending, has, λ others end other. records_once dump others l.records end l.ending other has)
  where
    has_ending : (records : List DumpRecord) (rest : List ℕ) (ending : Ending)
        → EndsWith (length dump) (0 + length records) rest ending → HasEnding dump records rest ending
    has_ending records rest Ending.Whole (none, some) = (none, omega arith)
    has_ending records rest (Ending.Broken fault place) (why, at, cause) = (
      (elim why [ inl some ↦ inl some | inr none ↦ inr (nil_from_length records (omega arith)) ]),
      at,
      subst (λ (n : ℕ). IsCutFault n rest fault) (let e : 0 + length records ≡ length records = omega arith in e) cause,
    )
