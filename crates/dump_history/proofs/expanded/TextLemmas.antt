-- The text that replaces a dump's records is a dump of the records that replace them.
use Rattle.dump_history.proofs.Prelude.{◌≡◌, ◌+◌, ◌<◌, Bool, true, ◌++◌, length, map, refl, sym, ap, ◌∙◌, subst, arith, append_assoc, AllZip, list_all, first_true, second_true, absurd_bool, Ending, HasRecords, IsCutInto, BeginsWithRecord, DumpRecord, record_text, is_lawful, is_node, has_header}
use Rattle.std.proofs.Common.{ℕ, false, List, [], ◌∷◌, codes}
use Rattle.dump_records.specs.DumpText.{HaveVersions, line_feeds}
use Rattle.dump_records.specs.HeaderRules.{version_from}
use Rattle.dump_records.proofs.Unique as unique
use Rattle.dump_text.specs.HeaderLine.{Header}
use Rattle.dump_text.specs.Names.{version_name}
use Rattle.dump_filter.proofs.again.Record.{any_number}
use Rattle.dump_history.specs.RecordChanges.{has_action}
use Rattle.dump_history.specs.WrittenNodes.{WrittenNode, node_record, can_be_written}
use Rattle.dump_history.specs.steps.ExpandedDumps.{OwnForm, Stead, own_records, stead_records, expanded_records, may_be_left, may_precede, may_stand, IsSameRecord}
use Rattle.dump_history.specs.ExpandedText.{AreRecordTexts}
use Rattle.dump_history.proofs.expanded.FormLemmas.{Fits, AllFit, all_fit, written_fits, replacing_fits}
use Rattle.dump_history.proofs.expanded.StandLemmas.{precedes, is_left, other_records, AllNodes, node_records, node_of}

-- the record, at another place
abbrev pub moved : ℕ → DumpRecord → DumpRecord
moved place r = record { place = place; version = r.version; headers = r.headers; props = r.props; text = r.text }

pub moved_same : (place : ℕ) (r : DumpRecord) → IsSameRecord r (moved place r)
moved_same place r = record { version = refl; headers = refl; props = refl; text = refl }

-- the records of a text

-- the text at this place is split into the records, and the first one has this number
abbrev pub Joined : List DumpRecord → ℕ → ℕ → ℕ → List ℕ → Type 0
Joined records version number place text = (again : List DumpRecord) × IsCutInto number place text again []
    × HaveVersions version again × AllZip IsSameRecord records again

-- lines that break no rule break none after the first record
later_lawful : (r : DumpRecord) → Fits r → (number : ℕ) → 0 < number → is_lawful number r.headers ≡ true
later_lawful r f number above =
    any_number f.number number r.headers f.lawful (λ zero. absurd (let bad : 0 < 0 = subst (λ n. 0 < n) zero above in
    omega (arith, bad)))

-- one record with line feeds after it, and the records after that one
pub put_one : (r : DumpRecord) (version lfs : ℕ) (text rest : List ℕ) (records : List DumpRecord) → Fits r
    → r.version ≡ version_from version r.headers → text ≡ record_text r ++ (line_feeds lfs ++ rest)
    → ((number place pending : ℕ) → 0 < number → Joined records r.version number place (line_feeds pending ++ rest))
    → (number place pending : ℕ) → is_lawful number r.headers ≡ true
    → Joined (r ∷ records) version number place (line_feeds pending ++ text)
put_one r version lfs text rest records f in_force is behind number place pending lawful =
    let (again, cut, have, same) =
    behind (number + 1) (place + pending + length (record_text r)) lfs (omega arith) in (
      moved (place + pending) r ∷ again,
      (
        pending,
        record_text r ++ (line_feeds lfs ++ rest),
        line_feeds lfs ++ rest,
        ap (λ t. line_feeds pending ++ t) is,
        refl,
        record {
          block = f.block;
          lawful = lawful;
          props_fit = f.props_fit;
          text_fits = f.text_fits;
          spelled = refl;
        },
        cut,
      ),
      (in_force, have),
      (moved_same (place + pending) r, same),
    )

-- after the first record they are correct at any place, after any number of line feeds
pub joins_behind : (version : ℕ) (records : List DumpRecord) (text : List ℕ) → AllFit records
    → HaveVersions version records → AreRecordTexts records text → (number place pending : ℕ) → 0 < number
    → Joined records version number place (line_feeds pending ++ text)
joins_behind version [] text fit have none number place pending above =
    ([], (pending, ap (λ t. line_feeds pending ++ t) none, refl), tt, tt)
joins_behind version (r ∷ records) text (fits, fit) (in_force, have) (lfs, rest, is, texts) number place pending above =
    put_one r version lfs text rest records fits in_force is (joins_behind r.version records rest fit have texts)
    number place pending (later_lawful r fits number above)

-- the texts of records, and of other records after them
pub texts_grow : (xs ys : List DumpRecord) (text own : List ℕ) → AreRecordTexts xs text → AreRecordTexts ys own
    → AreRecordTexts (xs ++ ys) (text ++ own)
texts_grow [] ys text own none more = subst (λ t. AreRecordTexts ys (t ++ own)) (sym none) more
texts_grow (x ∷ xs) ys text own (lfs, rest, is, texts) more = (
  lfs,
  rest ++ own,
  ap (λ t. t ++ own) is ∙ append_assoc (record_text x) (line_feeds lfs ++ rest) own
      ∙ ap (λ t. record_text x ++ t) (append_assoc (line_feeds lfs) rest own),
  texts_grow xs ys rest own texts more,
)

-- what replaces records fits, and has the versions in force

pub both_fit : (first rest : List DumpRecord) → AllFit first → AllFit rest → AllFit (first ++ rest)
both_fit [] rest all more = more
both_fit (s ∷ first) rest (one, all) more = (one, both_fit first rest all more)

stead_fits : (r : DumpRecord) (stead : Stead) → Fits r → may_stand r stead ≡ true → AllFit (stead_records r stead)
stead_fits r stead fits may =
    both_fit (map (node_record r.place r.version) stead.nodes) (own_records r stead.own)
    (preceding stead.nodes (precedes r stead may)) (own stead.own (is_left r stead may))
  where
    written : (nodes : List WrittenNode) → list_all can_be_written nodes ≡ true
        → AllFit (map (node_record r.place r.version) nodes)
    written [] can = tt
    written (w ∷ nodes) can = (
      written_fits r.place r.version w (first_true (can_be_written w) (list_all can_be_written nodes) can),
      written nodes (second_true (can_be_written w) (list_all can_be_written nodes) can),
    )

    preceding : (nodes : List WrittenNode) → may_precede r nodes ≡ true
        → AllFit (map (node_record r.place r.version) nodes)
    preceding [] may = tt
    preceding (w ∷ nodes) may =
        written (w ∷ nodes) (second_true (is_node r) (list_all can_be_written (w ∷ nodes)) may)

    own : (form : OwnForm) → may_be_left r form ≡ true → AllFit (own_records r form)
    own OwnForm.AsItIs may = (fits, tt)
    own OwnForm.Replacing may = (replacing_fits r fits (first_true (is_node r) (has_action (codes "add") r) may), tt)
    own OwnForm.LeftOut may = tt

expanded_fit : (records : List DumpRecord) (steads : List Stead) → AllFit records
    → AllZip (λ r stead. may_stand r stead ≡ true) records steads → AllFit (expanded_records records steads)
expanded_fit [] steads fit may = tt
expanded_fit (r ∷ records) [] fit may = tt
expanded_fit (r ∷ records) (stead ∷ steads) (fits, fit) (one, may) =
    both_fit (stead_records r stead) (expanded_records records steads) (stead_fits r stead fits one)
    (expanded_fit records steads fit may)

-- a record whose lines aren't those of a version record has the version in force
same_force : (version : ℕ) (headers : List Header) → has_header version_name headers ≡ false
    → version ≡ version_from version headers
same_force version headers none = rw none refl

-- each of them is read under this version
abbrev pub AllUnder : ℕ → List DumpRecord → Type 0
AllUnder version [] = Unit {0}
AllUnder version (s ∷ again) = (s.version ≡ version) × AllUnder version again

pub nodes_under : (version : ℕ) (first rest : List DumpRecord) → AllNodes first → AllUnder version first
    → HaveVersions version rest → HaveVersions version (first ++ rest)
nodes_under version [] rest all under have = have
nodes_under version (s ∷ first) rest (n, all) (one, under) have = (
  one ∙ same_force version s.headers n.no_version,
  subst (λ v. HaveVersions v (first ++ rest)) (sym one) (nodes_under version first rest all under have),
)

stead_under : (r : DumpRecord) (stead : Stead) → AllUnder r.version (stead_records r stead)
stead_under r stead = written stead.nodes
  where
    own : (form : OwnForm) → AllUnder r.version (own_records r form)
    own OwnForm.AsItIs = (refl, tt)
    own OwnForm.Replacing = (refl, tt)
    own OwnForm.LeftOut = tt

    written : (nodes : List WrittenNode)
        → AllUnder r.version (map (node_record r.place r.version) nodes ++ own_records r stead.own)
    written [] = own stead.own
    written (w ∷ nodes) = (refl, written nodes)

expanded_versions : (version : ℕ) (records : List DumpRecord) (steads : List Stead) → AllFit records
    → HaveVersions version records → AllZip (λ r stead. may_stand r stead ≡ true) records steads
    → HaveVersions version (expanded_records records steads)
expanded_versions version [] steads fit have may = tt
expanded_versions version (r ∷ records) [] fit have may = tt
expanded_versions version (r ∷ records) (stead ∷ steads) (fits, fit) (in_force, have) (one, may) =
    by_node (is_node r) refl (expanded_versions r.version records steads fit have may)
  where
    by_node : (b : Bool) → is_node r ≡ b → HaveVersions r.version (expanded_records records steads)
        → HaveVersions version (stead_records r stead ++ expanded_records records steads)
    by_node true node later =
        let n = node_of r fits node in
        subst (λ v. HaveVersions v (stead_records r stead ++ expanded_records records steads))
        (in_force ∙ sym (same_force version r.headers n.no_version))
        (nodes_under r.version (stead_records r stead) (expanded_records records steads) (node_records r stead n)
        (stead_under r stead) later)
    by_node false other later =
        subst (λ (l : List DumpRecord). HaveVersions version (l ++ expanded_records records steads))
        (sym (other_records r stead other one)) (in_force, later)

-- the first record

-- the first record of a dump is a version record
first_version : (dump after : List ℕ) (r : DumpRecord) → BeginsWithRecord 0 dump r after
    → has_header version_name r.headers ≡ true
first_version dump after r b = by_case (has_header version_name r.headers) refl
  where
    by_case : (v : Bool) → has_header version_name r.headers ≡ v → has_header version_name r.headers ≡ true
    by_case true is = is
    by_case false is = absurd ((unique.keeps 0 r.headers b.lawful).version (rw is refl))

pub some_same : (r : DumpRecord) (records again : List DumpRecord) → AllZip IsSameRecord (r ∷ records) again
    → 0 < length again
some_same r records [] same = absurd same
some_same r records (s ∷ again) same = omega arith

-- the text that replaces the records of a whole dump is a whole dump
pub expansion_is_dump : (dump text front : List ℕ) (records : List DumpRecord) (steads : List Stead) (lfs : ℕ)
    → HasRecords dump records Ending.Whole → AllZip (λ r stead. may_stand r stead ≡ true) records steads
    → text ≡ line_feeds lfs ++ front → AreRecordTexts (expanded_records records steads) front
    → (again : List DumpRecord) × HasRecords text again Ending.Whole
    × AllZip IsSameRecord (expanded_records records steads) again
expansion_is_dump dump text front [] steads lfs has may is texts = absurd (omega (arith, has.3.1))
expansion_is_dump dump text front (r ∷ records) [] lfs has may is texts = absurd may
expansion_is_dump dump text front (r ∷ records) (stead ∷ steads) lfs has (can, may) is texts =
    let (again, cut_again, have, same) = joined begins in (
      again,
      (
        [],
        subst (λ t. IsCutInto 0 0 t again []) (sym is) cut_again,
        have,
        (refl, some_same r (expanded_records records steads) again same),
      ),
      subst (λ (l : List DumpRecord). AllZip IsSameRecord l again) (sym as_first) same,
    )
  where
    cut : IsCutInto 0 0 dump (r ∷ records) []
    cut = subst (λ (l : List ℕ). IsCutInto 0 0 dump (r ∷ records) l) has.3.0 has.1

    fits : AllFit (r ∷ records)
    fits = all_fit 0 0 dump [] (r ∷ records) cut

    other : is_node r ≡ false
    other = by_node (is_node r) refl
      where
        by_node : (b : Bool) → is_node r ≡ b → is_node r ≡ false
        by_node false is = is
        by_node true node = absurd (absurd_bool (has_header version_name r.headers)
            (first_version cut.1 cut.2 r cut.5) (node_of r fits.0 node).no_version)

    as_first : expanded_records (r ∷ records) (stead ∷ steads) ≡ r ∷ expanded_records records steads
    as_first = ap (λ (l : List DumpRecord). l ++ expanded_records records steads) (other_records r stead other can)

    begins : AreRecordTexts (r ∷ expanded_records records steads) front
    begins = subst (λ (l : List DumpRecord). AreRecordTexts l front) as_first texts

    joined : AreRecordTexts (r ∷ expanded_records records steads) front
        → Joined (r ∷ expanded_records records steads) 0 0 0 (line_feeds lfs ++ front)
    joined (behind, rest, at, more) =
        put_one r 0 behind front rest (expanded_records records steads) fits.0 has.2.0 at
        (joins_behind r.version (expanded_records records steads) rest (expanded_fit records steads fits.1 may)
        (expanded_versions r.version records steads fits.1 has.2.1 may) more) 0 0 lfs cut.5.lawful
