-- The first records of a dump: there is only one list of each length, so a truncated fact about them is a fact.
use Rattle.dump_records.proofs.Prelude.{◌≡◌, ℕ, ◌+◌, ◌≤◌, List, [], ◌∷◌, ◌++◌, take, drop, length, refl, sym, ap, ◌∙◌, subst, arith, ∥∥₁_elim, ∥∥₁_map, Coded, Coded-set, coded_ℕ, coded_list, take-append-drop, length-take-le, take_all, block_text, blank_once, header-eq, DumpRecord, record_text, BeginsWithRecord, Ending, IsCutInto, HaveVersions, HasRecords, BeginsWithRecords, EndsAfter, IsRecordOf}
use base.Stored.{coded×, coded_via}
use Rattle.dump_text.specs.HeaderLine as line
use Rattle.dump_records.proofs.Unique.{front_of, parts_once, first_once, record-eq, goes_on, EndsWith, ending_of}
use Rattle.dump_records.proofs.Versions.{versions_prefix}
use Rattle.dump_records.proofs.ListLaw.{each_dump_has_one_list}

header_coded : Coded line.Header
header_coded = coded_via (coded× (coded_list coded_ℕ) (coded_list coded_ℕ)) (λ (h : line.Header). (h.name, h.value))
    (λ x y e. header-eq x y (ap (λ p. p.0) e) (ap (λ p. p.1) e))

pub record_coded : Coded DumpRecord
record_coded = coded_via (coded× coded_ℕ (coded× coded_ℕ (coded× (coded_list header_coded)
    (coded× (coded_list coded_ℕ) (coded_list coded_ℕ)))))
    (λ (r : DumpRecord). (r.place, (r.version, (r.headers, (r.props, r.text)))))
    (λ x y e. record-eq x y (ap (λ p. p.0) e) (ap (λ p. p.1.0) e) (ap (λ p. p.1.1.0) e) (ap (λ p. p.1.1.1.0) e)
    (ap (λ p. p.1.1.1.1) e))

pub same_records : (rs ss : List DumpRecord) → IsProp (rs ≡ ss)
same_records rs ss = Coded-set (coded_list record_coded) rs ss

-- what is split into records is split into the first of them
pub cut_prefix : (number place : ℕ) (text rest : List ℕ) (rs ss : List DumpRecord) → IsCutInto number place text
    (rs ++ ss) rest
    → (behind : List ℕ) × IsCutInto number place text rs behind
cut_prefix number place text rest [] [] cut = (rest, cut)
cut_prefix number place text rest [] (s ∷ ss) (lfs, front, after, is, at, b, more) =
    (front, (lfs, is, front_of number front s after b))
cut_prefix number place text rest (r ∷ rs) ss (lfs, front, after, is, at, b, more) =
    let left = cut_prefix (number + 1) (r.place + length (record_text r)) after rest rs ss more in
    (left.0, (lfs, front, after, is, at, b, left.1))

-- a dump that begins with records and others begins with the first of them
pub begins_prefix : (dump : List ℕ) (rs ss : List DumpRecord) → BeginsWithRecords dump (rs ++ ss)
    → BeginsWithRecords dump rs
begins_prefix dump rs ss (rest, cut, have) =
    let front = cut_prefix 0 0 dump rest rs ss cut in
    (front.0, front.1, versions_prefix 0 rs ss have)

-- two lists of the first records of a text are the same if they have the same length
cut_once : (number place before : ℕ) (text x y : List ℕ) (rs ss : List DumpRecord) → length rs ≡ length ss
    → IsCutInto number place text rs x → IsCutInto number place text ss y
    → HaveVersions before rs → HaveVersions before ss → rs ≡ ss
cut_once number place before text x y [] [] same cut cut' have have' = refl
cut_once number place before text x y [] (s ∷ ss) same cut cut' have have' = absurd (omega arith)
cut_once number place before text x y (r ∷ rs) [] same cut cut' have have' = absurd (omega arith)
cut_once number place before text x y (r ∷ rs) (s ∷ ss) same cut cut' have have' =
    let (after, one, more, more', versions) = first_once number place before text x y r s rs ss cut cut' have have' in
    let rest = cut_once (number + 1) (r.place + length (record_text r)) r.version after x y rs ss (omega arith)
    more more' have.1 versions in
    (λ i. one i ∷ rest i)

-- two lists of records with which a dump begins are the same if they have the same length
pub begins_once : (dump : List ℕ) (rs ss : List DumpRecord) → length rs ≡ length ss → BeginsWithRecords dump rs
    → BeginsWithRecords dump ss → rs ≡ ss
begins_once dump rs ss same (x, cut, have) (y, cut', have') = cut_once 0 0 0 dump x y rs ss same cut cut' have have'

-- no list of records is longer than one that ends
cut_within : (size number place : ℕ) (text x y : List ℕ) (all rs : List DumpRecord) (e : Ending)
    → IsCutInto number place text all x → EndsWith size (number + length all) x e → IsCutInto number place text rs y
    → length rs ≤ length all
cut_within size number place text x y all [] e cut ends cut' = omega arith
cut_within size number place text x y [] (s ∷ ss) e (lfs, at, stop) ends (lfs', start, after, at', is, b, more) =
    let same = blank_once lfs lfs' x start stop (front_of number start s after b) (sym at ∙ at') in
    let count : number ≡ number + 0 = omega arith in
    absurd (goes_on size (number + 0) x e s after
    (subst (λ (k : ℕ). BeginsWithRecord k x s after) count
    (subst (λ (t : List ℕ). BeginsWithRecord number t s after) (sym same.1) b)) ends)
cut_within size number place text x y (r ∷ all) (s ∷ ss) e (lfs, start, after, at, is, b, more) ends
    (lfs', start', after', at', is', c, more') =
    let gaps = blank_once lfs lfs' start start' (front_of number start r after b) (front_of number start' s after' c)
    (sym at ∙ at') in
    let places : r.place ≡ s.place = is ∙ ap (λ (k : ℕ). place + k) gaps.0 ∙ sym is' in
    let one = parts_once number number start' r s after after'
    (subst (λ (t : List ℕ). BeginsWithRecord number t r after) gaps.1 b) c in
    let sizes : length (record_text r) ≡ length (record_text s) =
    λ i. length (block_text (one.0 i) ++ one.1 i ++ one.2 i) in
    let at_end : s.place + length (record_text s) ≡ r.place + length (record_text r) = omega arith in
    let moved = subst (λ (k : ℕ). IsCutInto (number + 1) k after ss y) at_end
    (subst (λ (t : List ℕ). IsCutInto (number + 1) (s.place + length (record_text s)) t ss y) (sym one.3) more') in
    let count : number + length (r ∷ all) ≡ number + 1 + length all = omega arith in
    let left = cut_within size (number + 1) (r.place + length (record_text r)) after x y all ss e more
    (subst (λ (k : ℕ). EndsWith size k x e) count ends) moved in
    omega arith

module _ (dump : List ℕ) (all : List DumpRecord) (ending : Ending) (has : HasRecords dump all ending) where
  -- no dump begins with more records than it has
  pub within : (rs : List DumpRecord) → BeginsWithRecords dump rs → length rs ≤ length all
  within rs (y, cut, have) =
      let count : length all ≡ 0 + length all = omega arith in
      cut_within (length dump) 0 0 dump has.0 y all rs ending has.1
      (subst (λ (k : ℕ). EndsWith (length dump) k has.0 ending) count (ending_of dump all has.0 ending has.3)) cut

  -- a dump begins with the first of its records
  pub whole_front : (n : ℕ) → BeginsWithRecords dump (take n all)
  whole_front n = begins_prefix dump (take n all) (drop n all) (
    has.0,
    subst (λ (rs : List DumpRecord). IsCutInto 0 0 dump rs has.0) (sym (take-append-drop n all)) has.1,
    subst (HaveVersions 0) (sym (take-append-drop n all)) has.2,
  )

  -- the records that a dump begins with are the first of its list
  pub is_front : (rs : List DumpRecord) → BeginsWithRecords dump rs → rs ≡ take (length rs) all
  is_front rs b = begins_once dump rs (take (length rs) all) (sym (length-take-le (length rs) all (within rs b))) b
      (whole_front (length rs))

-- a fact about the first records of a dump needs no witness
pub untruncated : (dump : List ℕ) (rs : List DumpRecord) → ∥ BeginsWithRecords dump rs ∥₁ → BeginsWithRecords dump rs
untruncated dump rs b =
    let law = each_dump_has_one_list dump in
    let all = law.0 in
    let is : rs ≡ take (length rs) all = ∥∥₁_elim b (same_records rs (take (length rs) all))
    (λ c. is_front dump all law.1 law.2 rs c) in
    subst (BeginsWithRecords dump) (sym is) (whole_front dump all law.1 law.2 (length rs))

-- the record with the next number follows the first records
pub one_more : (dump : List ℕ) (rs : List DumpRecord) (r : DumpRecord) → BeginsWithRecords dump rs
    → ∥ IsRecordOf dump (length rs) r ∥₁
    → BeginsWithRecords dump (rs ++ r ∷ [])
one_more dump rs r b next = untruncated dump (rs ++ r ∷ [])
    (∥∥₁_map next (λ (before, c, count). subst (λ (ss : List DumpRecord). BeginsWithRecords dump (ss ++ r ∷ []))
    (begins_once dump before rs count (begins_prefix dump before (r ∷ []) c) b) c))

-- a list of the first records that is as long as the whole one is the whole one
pub whole_list : (dump : List ℕ) (rs : List DumpRecord) (ending : Ending) → BeginsWithRecords dump rs
    → EndsAfter dump (length rs) ending → HasRecords dump rs ending
whole_list dump rs ending b (all, has, count) =
    let same : rs ≡ all = is_front dump all ending has rs b ∙ ap (λ n. take n all) (sym count)
    ∙ take_all (length all) all (omega arith) in
    subst (λ (ss : List DumpRecord). HasRecords dump ss ending) (sym same) has
