-- A dump that is split into records, record by record.
use Rattle.dump_records.proofs.Prelude.{◌≡◌, ◌≢◌, ◌⊎◌, ℕ, suc, ◌+◌, ◌-◌, ◌<◌, ◌≤◌, Bool, true, false, ◌==◌, List, [], ◌∷◌, ◌++◌, take, drop, length, refl, sym, ap, ◌∙◌, subst, arith, append_assoc, length-append, inl, inr, append-nil, length-drop, drop_at, drop-drop, drop_all, take_rest, eqb-true, eqb_tells, nil_from_length, length-replicate, replicate-append-replicate, FaultKind, block_text, lines_bytes, starts_with_lf, version_from, DumpRecord, record_text, BeginsWithRecord, IsCutFault, Ending, line_feeds, IsCutInto, HaveVersions, EndsAfter, IsRecordOf, last_version, IsCutUpTo, IsGap, StandsAt, FollowsRecords, record_between, Block, block_dump, block_place, block_after}
use Rattle.dump_records.proofs.Versions.{last_append, versions_append}

lfs_join : (m n : ℕ) (rest : List ℕ) → line_feeds m ++ (line_feeds n ++ rest) ≡ line_feeds (m + n) ++ rest
lfs_join m n rest = sym (append_assoc (line_feeds m) (line_feeds n) rest)
    ∙ ap (λ t. t ++ rest) (replicate-append-replicate m n 10)

-- some LFs are as long as their count
pub lfs_length : (n : ℕ) → length (line_feeds n) ≡ n
lfs_length n = length-replicate n 10

-- a text is some LFs and a rest that doesn't begin with one
pub record Stripped (text : List ℕ) : Type 0 where
  pub count : ℕ
  pub rest : List ℕ
  pub is : text ≡ line_feeds count ++ rest
  pub stop : starts_with_lf rest ≡ false

-- each text is some LFs and a rest that doesn't begin with one
pub strip : (text : List ℕ) → Stripped text
strip [] = record { count = 0; rest = []; is = refl; stop = refl }
strip (b ∷ text) = strip_cons b text (strip text) (b == 10) refl
  where
    strip_cons : (b : ℕ) (text : List ℕ) → Stripped text → (lf : Bool) → (b == 10) ≡ lf → Stripped (b ∷ text)
    strip_cons b text more true is = record { count = suc more.count; rest = more.rest; is = let e = eqb-true b 10 is in let f = more.is in cc; stop = more.stop }
    strip_cons b text more false is = record { count = 0; rest = b ∷ text; is = refl; stop = is }

-- records before others
pub cut_append : (number place : ℕ) (before after rest : List ℕ) (rs ss : List DumpRecord)
    → IsCutInto number place before rs []
    → IsCutInto (number + length rs) (place + length before) after ss rest
    → IsCutInto number place (before ++ after) (rs ++ ss) rest
cut_append number place before after rest [] [] (lfs, is, stop) (lfs', is', stop') = (
  lfs + lfs',
  ap (λ t. t ++ after) (is ∙ append-nil (line_feeds lfs)) ∙ ap (λ t. line_feeds lfs ++ t) is'
      ∙ lfs_join lfs lfs' rest,
  stop',
)
cut_append number place before after rest [] (s ∷ ss) (lfs, is, stop) (lfs', front, behind, is', at, b, more) =
    let count : number + 0 ≡ number = omega arith in
    let size : length before ≡ lfs = ap length (is ∙ append-nil (line_feeds lfs)) ∙ lfs_length lfs in (
      lfs + lfs',
      front,
      behind,
      ap (λ t. t ++ after) (is ∙ append-nil (line_feeds lfs)) ∙ ap (λ t. line_feeds lfs ++ t) is'
          ∙ lfs_join lfs lfs' front,
      at ∙ omega arith,
      subst (λ (n : ℕ). BeginsWithRecord n front s behind) count b,
      subst (λ (n : ℕ). IsCutInto (n + 1) (s.place + length (record_text s)) behind ss rest) count more,
    )
cut_append number place before after rest (r ∷ rs) ss (lfs, front, behind, is, at, b, more) others =
    let count : number + length (r ∷ rs) ≡ number + 1 + length rs = omega arith in
    let size = ap length is ∙ length-append (line_feeds lfs) front in
    let gap = lfs_length lfs in
    let body = ap length b.spelled ∙ length-append (record_text r) behind in
    let at_end : place + length before ≡ r.place + length (record_text r) + length behind = omega arith in (
      lfs,
      front ++ after,
      behind ++ after,
      ap (λ t. t ++ after) is ∙ append_assoc (line_feeds lfs) front after,
      at,
      record {
        block = b.block;
        lawful = b.lawful;
        props_fit = b.props_fit;
        text_fits = b.text_fits;
        spelled = ap (λ t. t ++ after) b.spelled ∙ append_assoc (record_text r) behind after;
      },
      cut_append (number + 1) (r.place + length (record_text r)) behind after rest rs ss more
          (subst (λ (n : ℕ). IsCutInto n (r.place + length (record_text r) + length behind) after ss rest) count
          (subst (λ (p : ℕ). IsCutInto (number + length (r ∷ rs)) p after ss rest) at_end others)),
    )

-- a record takes a byte or more
pub record_some : (r : DumpRecord) → 0 < length (record_text r)
record_some r =
    let block = length-append (block_text r.headers ++ r.props) r.text in
    let props = length-append (block_text r.headers) r.props in
    let lines = length-append (lines_bytes r.headers) (10 ∷ []) in
    omega arith

-- a text is cut into no more records than it has bytes
pub count_fits : (number place : ℕ) (text rest : List ℕ) (rs : List DumpRecord) → IsCutInto number place text rs rest
    → length rs ≤ length text
count_fits number place text rest [] cut = omega arith
count_fits number place text rest (r ∷ rs) (lfs, front, behind, is, at, b, more) =
    let rest_fits = count_fits (number + 1) (r.place + length (record_text r)) behind rest rs more in
    let size = ap length is ∙ length-append (line_feeds lfs) front in
    let body = ap length b.spelled ∙ length-append (record_text r) behind in
    let some = record_some r in
    omega arith

-- what a cutter at a place has before it and after it
pub record CutAt (dump : List ℕ) (number place version : ℕ) : Type 0 where
  pub records : List DumpRecord
  pub before : List ℕ
  pub is : dump ≡ before ++ drop place dump
  pub size : length before ≡ place
  pub cut : IsCutInto 0 0 before records []
  pub count : length records ≡ number
  pub versions : HaveVersions 0 records
  pub version_is : version ≡ last_version 0 records

pub cut_at : (dump : List ℕ) (number place version : ℕ) → IsCutUpTo dump number place version
    → CutAt dump number place version
cut_at dump number place version (records, before, after, rest, is, size, cut, none, count, have, in_force) = record {
  records = records;
  before = before;
  is = is ∙ ap (λ t. before ++ t) (sym (drop_at before after place size) ∙ ap (drop place) (sym is));
  size = size;
  cut = subst (IsCutInto 0 0 before records) none cut;
  count = count;
  versions = have;
  version_is = in_force;
}

pub number_fits : (dump : List ℕ) (number place version : ℕ) → IsCutUpTo dump number place version → number ≤ place
number_fits dump number place version up =
    let at = cut_at dump number place version up in
    let fits = count_fits 0 0 at.before [] at.records at.cut in
    let size = at.size in
    let count = at.count in
    omega arith

-- the records before a place, and what is cut after it
go_on : (dump : List ℕ) (number place version : ℕ) (at : CutAt dump number place version) (after rest : List ℕ)
    (ss : List DumpRecord)
    → IsCutInto number place after ss rest → IsCutInto 0 0 (at.before ++ after) (at.records ++ ss) rest
go_on dump number place version at after rest ss more =
    let count : number ≡ 0 + length at.records = sym at.count ∙ omega arith in
    let size : place ≡ 0 + length at.before = sym at.size ∙ omega arith in
    cut_append 0 0 at.before after rest at.records ss at.cut
    (subst (λ (n : ℕ). IsCutInto n (0 + length at.before) after ss rest) count
    (subst (λ (p : ℕ). IsCutInto number p after ss rest) size more))

module _ (dump : List ℕ) (number place version gap : ℕ) (up : IsCutUpTo dump number place version)
    (lfs : IsGap (drop place dump) gap) where
  at : CutAt dump number place version
  at = cut_at dump number place version up

  behind : drop place dump ≡ line_feeds gap ++ drop (place + gap) dump
  behind = lfs.spelled ∙ ap (λ t. line_feeds gap ++ t) (drop-drop gap place dump)

  -- a record follows the LFs
  module _ (r : DumpRecord) (after : ℕ) (r_at : r.place ≡ place + gap)
      (in_force : r.version ≡ version_from version r.headers)
      (b : BeginsWithRecord number (drop (place + gap) dump) r (drop after dump)) where
    versions : HaveVersions 0 (at.records ++ r ∷ [])
    versions = versions_append 0 at.records (r ∷ []) at.versions
        (in_force ∙ ap (λ v. version_from v r.headers) at.version_is, tt)

    pub is_record : IsRecordOf dump number r
    is_record =
        let end = strip (drop after dump) in (
          at.records,
          (
            end.rest,
            subst (λ (t : List ℕ). IsCutInto 0 0 t (at.records ++ r ∷ []) end.rest) (sym at.is)
                (go_on dump number place version at (drop place dump) end.rest (r ∷ [])
                (gap, drop (place + gap) dump, drop after dump, behind, r_at, b, (end.count, end.is, end.stop))),
            versions,
          ),
          at.count,
        )

    pub cut_on : after ≤ length dump → IsCutUpTo dump (number + 1) after r.version
    cut_on fits =
        let piece = line_feeds gap ++ record_text r in
        let whole : dump ≡ (at.before ++ piece) ++ drop after dump =
        at.is ∙ ap (λ t. at.before ++ t) (behind ∙ ap (λ t. line_feeds gap ++ t) b.spelled
        ∙ sym (append_assoc (line_feeds gap) (record_text r) (drop after dump)))
        ∙ sym (append_assoc at.before piece (drop after dump)) in
        let sizes = ap length whole ∙ length-append (at.before ++ piece) (drop after dump) in
        let left = length-drop after dump in
        let alone : BeginsWithRecord number (record_text r) r [] = record {
          block = b.block;
          lawful = b.lawful;
          props_fit = b.props_fit;
          text_fits = b.text_fits;
          spelled = sym (append-nil (record_text r));
        } in (
          at.records ++ r ∷ [],
          at.before ++ piece,
          drop after dump,
          [],
          whole,
          omega arith,
          go_on dump number place version at piece [] (r ∷ [])
              (gap, record_text r, [], refl, r_at, alone, (0, refl, refl)),
          refl,
          length-append at.records (r ∷ []) ∙ ap (λ n. n + 1) at.count,
          versions,
          sym (last_append 0 at.records (r ∷ [])),
        )

  -- only LFs are left
  pub ends_whole : place + gap ≡ length dump → 0 < number → EndsAfter dump number Ending.Whole
  ends_whole end some =
      let none : drop (place + gap) dump ≡ [] = drop_all (place + gap) dump (omega arith) in
      let count = at.count in (
        at.records,
        (
          [],
          subst (λ (t : List ℕ). IsCutInto 0 0 t at.records []) (sym at.is)
              (subst (λ (rs : List DumpRecord). IsCutInto 0 0 (at.before ++ drop place dump) rs [])
              (append-nil at.records)
              (go_on dump number place version at (drop place dump) [] []
              (gap, behind ∙ ap (λ t. line_feeds gap ++ t) none, refl))),
          at.versions,
          (refl, omega arith),
        ),
        at.count,
      )

  -- no record follows the LFs
  pub ends_broken : (fault : FaultKind) → (place + gap ≡ length dump → number ≡ 0) → place + gap ≤ length dump
      → IsCutFault number (drop (place + gap) dump) fault
      → EndsAfter dump number (Ending.Broken fault (place + gap))
  ends_broken fault first inside cause =
      let rest = drop (place + gap) dump in
      let left = length-drop (place + gap) dump in
      let stop : starts_with_lf rest ≡ false = ap starts_with_lf (sym (drop-drop gap place dump)) ∙ lfs.stop in (
        at.records,
        (
          rest,
          subst (λ (t : List ℕ). IsCutInto 0 0 t at.records rest) (sym at.is)
              (subst (λ (rs : List DumpRecord). IsCutInto 0 0 (at.before ++ drop place dump) rs rest)
              (append-nil at.records)
              (go_on dump number place version at (drop place dump) rest [] (gap, behind, stop))),
          at.versions,
          (some_left, omega arith, subst (λ (n : ℕ). IsCutFault n rest fault) (sym at.count) cause),
        ),
        at.count,
      )
    where
      some_left : (drop (place + gap) dump ≢ []) ⊎ (at.records ≡ [])
      some_left = elim (eqb_tells (place + gap) (length dump)) [
        | inl (e, is) ↦ inr (nil_from_length at.records (at.count ∙ first is))
        | inr (e, other) ↦
            inl (λ none. let size = ap length none in let left = length-drop (place + gap) dump in other (omega arith))
      ]

-- the LFs in a part of a dump up to its end
pub gap_in : (dump : List ℕ) (place gap : ℕ) → IsGap (take (length dump - place) (drop place dump)) gap
    → IsGap (drop place dump) gap
gap_in dump place gap lfs = subst (λ (t : List ℕ). IsGap t gap) (take_rest dump place) lfs

-- a record that follows the others of a dump
module _ (dump : List ℕ) (number place before : ℕ) (b : Block) (text_from after version : ℕ)
    (follows : FollowsRecords dump number place before) (dump_is : block_dump b ≡ dump)
    (place_is : block_place b ≡ place) (s : StandsAt number before b text_from after version) where
  abbrev pub item : DumpRecord
  item = record_between (block_dump b) (block_place b) (block_after b) text_from after version

  own : FollowsRecords (block_dump b) number place before
  own = subst (λ (d : List ℕ). FollowsRecords d number place before) (sym dump_is) follows

  behind_lfs : BeginsWithRecord number (drop (own.from + own.gap) (block_dump b)) item (drop after (block_dump b))
  behind_lfs = subst (λ (p : ℕ). BeginsWithRecord number (drop p (block_dump b)) item (drop after (block_dump b)))
      (place_is ∙ own.place_is) s.stands

  -- it is the record of its block's dump with this number
  pub own_record : IsRecordOf (block_dump b) number item
  own_record = is_record (block_dump b) number own.from before own.gap own.up_to own.lfs item after
      (place_is ∙ own.place_is) s.version_is behind_lfs

  -- and so of the dump
  pub item_record : IsRecordOf dump number item
  item_record = subst (λ (d : List ℕ). IsRecordOf d number item) dump_is own_record

  -- the dump is cut up to after it, one record more
  pub item_cut : IsCutUpTo dump (number + 1) after version
  item_cut = subst (λ (d : List ℕ). IsCutUpTo d (number + 1) after version) dump_is
      (cut_on (block_dump b) number own.from before own.gap own.up_to own.lfs item after (place_is ∙ own.place_is)
      s.version_is behind_lfs s.inside.end)

  -- the records with this one are no more than the dump's bytes
  pub item_room : number + 1 ≤ length dump
  item_room =
      let fits = number_fits dump (number + 1) after version item_cut in
      let end = s.inside.end in
      let size = ap length dump_is in
      omega arith

-- the LFs after the records end within the dump
pub room_behind : (dump : List ℕ) (number place version gap : ℕ) → IsCutUpTo dump number place version
    → IsGap (drop place dump) gap → place + gap ≤ length dump
room_behind dump number place version gap up lfs =
    let at = cut_at dump number place version up in
    let sizes = ap length at.is ∙ length-append at.before (drop place dump) in
    let size = at.size in
    let bound = lfs.bound in
    omega arith
