-- A dump has at most one list of records.
use Rattle.dump_records.proofs.Prelude.{◌≡◌, ◌≢◌, ◌⊎◌, ℕ, ◌+◌, ◌<◌, refl, sym, ◌∙◌, ap, subst, Bool, true, false, not, List, [], ◌∷◌, ◌++◌, length, arith, append_assoc, length-append, inl, inr, ◌==◌, if◌then◌else◌, and_parts, neither_below, FaultKind, fault_code, IsLeastFault, block_text, starts_with_lf, BeginsWithBlock, block_once, block_front, block_some, split_by_length, blank_once, version_from, property_length, text_length, has_bad_kind, has_bad_version, has_bad_number, has_bad_lengths, DumpRecord, record_text, BeginsWithRecord, is_lawful, HoldsOfText, IsCutFault, Ending, IsCutInto, HaveVersions, HasEnding, HasRecords, NoRecordBeginsAnother}
use Rattle.dump_text.specs.declared.fault.FaultKind.TheVariants as faults
use Rattle.dump_text.specs.HeaderLine as line

pub clash : (a : Bool) → not a ≡ true → a ≡ true → ⊥
clash true n y = cc
clash false n y = cc

-- the content after a record's block, and what follows it
abbrev pub content : DumpRecord → List ℕ → List ℕ
content r after = r.props ++ (r.text ++ after)

-- a record begins with its block
pub begins : (number : ℕ) (text : List ℕ) (r : DumpRecord) (after : List ℕ) → BeginsWithRecord number text r after
    → BeginsWithBlock text r.headers (content r after)
begins number text r after b = record {
  block = b.block;
  spelled = b.spelled ∙ append_assoc (block_text r.headers ++ r.props) r.text after
      ∙ append_assoc (block_text r.headers) r.props (r.text ++ after);
}

-- a text that begins with a record doesn't begin with an LF
pub front_of : (number : ℕ) (text : List ℕ) (r : DumpRecord) (after : List ℕ) → BeginsWithRecord number text r after
    → starts_with_lf text ≡ false
front_of number text r after b = block_front text r.headers (content r after) (begins number text r after b)

-- records with the same place, version, lines, properties and text are the same
pub record-eq : (r s : DumpRecord) → r.place ≡ s.place → r.version ≡ s.version → r.headers ≡ s.headers
    → r.props ≡ s.props → r.text ≡ s.text → r ≡ s
record-eq r s p v h q t = λ i. record { place = p i; version = v i; headers = h i; props = q i; text = t i }

-- a text begins with the parts of at most one record
pub parts_once : (number other : ℕ) (text : List ℕ) (r s : DumpRecord) (x y : List ℕ)
    → BeginsWithRecord number text r x → BeginsWithRecord other text s y
    → (r.headers ≡ s.headers) × (r.props ≡ s.props) × (r.text ≡ s.text) × (x ≡ y)
parts_once number other text r s x y b c =
    let blocks = block_once text r.headers s.headers (content r x) (content s y) (begins number text r x b)
    (begins other text s y c) in
    let contents = split_by_length r.props s.props (r.text ++ x) (s.text ++ y)
    (b.props_fit ∙ ap property_length blocks.0 ∙ sym c.props_fit) blocks.1 in
    let texts = split_by_length r.text s.text x y (b.text_fits ∙ ap text_length blocks.0
    ∙ sym c.text_fits) contents.1 in
    (blocks.0, contents.0, texts.0, texts.1)

-- at a place, under a version, there is at most one record
pub record_once : (number : ℕ) (text : List ℕ) (r s : DumpRecord) (x y : List ℕ)
    → r.place ≡ s.place → r.version ≡ s.version
    → BeginsWithRecord number text r x → BeginsWithRecord number text s y → (r ≡ s) × (x ≡ y)
record_once number text r s x y place version b c =
    let same = parts_once number number text r s x y b c in
    (record-eq r s place version same.0 same.1 same.2, same.3)

-- if only one version was in force before, only one is in force for the record at the front of a text
pub version_once : (number before : ℕ) (text : List ℕ) (r s : DumpRecord) (x y : List ℕ)
    → r.version ≡ version_from before r.headers → s.version ≡ version_from before s.headers
    → BeginsWithRecord number text r x → BeginsWithRecord number text s y → r.version ≡ s.version
version_once number before text r s x y is is' b c =
    is ∙ ap (version_from before) (parts_once number number text r s x y b c).0 ∙ sym is'

-- what a lawful block's lines don't break
pub record Keeps (number : ℕ) (headers : List line.Header) : Type 0 where
  pub kind : has_bad_kind headers ≡ true → ⊥
  pub version : has_bad_version number headers ≡ true → ⊥
  pub number_ok : has_bad_number headers ≡ true → ⊥
  pub lengths : has_bad_lengths headers ≡ true → ⊥

-- a lawful block breaks none of the rules
pub keeps : (number : ℕ) (headers : List line.Header) → is_lawful number headers ≡ true → Keeps number headers
keeps number headers e =
    let four = and_parts _ (not (has_bad_lengths headers)) e in
    let three = and_parts _ (not (has_bad_number headers)) four.0 in
    let two = and_parts (not (has_bad_kind headers)) (not (has_bad_version number headers)) three.0 in
    record {
      kind = clash (has_bad_kind headers) two.0;
      version = clash (has_bad_version number headers) two.1;
      number_ok = clash (has_bad_number headers) three.1;
      lengths = clash (has_bad_lengths headers) four.1;
    }

module _ (number : ℕ) (text : List ℕ) (r : DumpRecord) (after : List ℕ) (b : BeginsWithRecord number text r after) where
  same : (headers : List line.Header) (x : List ℕ) → BeginsWithBlock text headers x → (headers ≡ r.headers)
      × (x ≡ content r after)
  same headers x c = block_once text headers r.headers x (content r after) c (begins number text r after b)

  enough : (x : List ℕ) (headers : List line.Header) → headers ≡ r.headers → x ≡ content r after
      → length x < property_length headers + text_length headers → ⊥
  enough x headers h e short =
      let n : length x ≡ length (content r after) = ap length e in
      let p : property_length headers ≡ property_length r.headers = ap property_length h in
      let t : text_length headers ≡ text_length r.headers = ap text_length h in
      let pl = b.props_fit in
      let tl = b.text_fits in
      grind (arith, length-append, n, p, t, pl, tl, short)

  -- if there is a record, none of the cut faults applies
  pub none_holds : (kind : FaultKind) → ¬ HoldsOfText number text kind
  none_holds faults.HeaderCut h = h.0 (r.headers, content r after, begins number text r after b)
  none_holds faults.Header h = h.0 (r.headers, content r after, begins number text r after b)
  none_holds faults.Kind (headers, x, c, bad) = (keeps number r.headers b.lawful).kind
      (ap has_bad_kind (sym (same headers x c).0) ∙ bad)
  none_holds faults.Version (headers, x, c, bad) = (keeps number r.headers b.lawful).version
      (ap (has_bad_version number) (sym (same headers x c).0) ∙ bad)
  none_holds faults.Number (headers, x, c, bad) = (keeps number r.headers b.lawful).number_ok
      (ap has_bad_number (sym (same headers x c).0) ∙ bad)
  none_holds faults.Lengths (headers, x, c, bad) = (keeps number r.headers b.lawful).lengths
      (ap has_bad_lengths (sym (same headers x c).0) ∙ bad)
  none_holds faults.ContentCut (headers, x, c, short) = enough x headers (same headers x c).0 (same headers x c).1 short
  none_holds kind h = h

-- the kind with this number
kind_of_code : ℕ → FaultKind
kind_of_code n =
    if n == 1 then faults.HeaderCut else if n == 2 then faults.Header else if n == 3 then faults.Kind
    else if n == 4 then faults.Version else if n == 5 then faults.Number else if n == 6 then faults.Lengths
    else if n == 7 then faults.ContentCut else if n == 8 then faults.Order else if n == 9 then faults.Props
    else if n == 10 then faults.Md5 else if n == 11 then faults.Sha1 else if n == 12 then faults.CopySource
    else if n == 13 then faults.CopyRevision else if n == 14 then faults.MergeInfo else if n == 15 then faults.MergeSource
    else faults.MergeRange

decoded : (kind : FaultKind) → kind_of_code (fault_code kind) ≡ kind
unfolding kind_of_code
decoded faults.HeaderCut = refl
decoded kind = refl

-- a number is the number of only one fault
pub code_once : (a b : FaultKind) → fault_code a ≡ fault_code b → a ≡ b
code_once a b code = sym (decoded a) ∙ ap kind_of_code code ∙ decoded b

-- there is only one least fault
pub least_once : (Holds : FaultKind → Type 0) (a b : FaultKind) → IsLeastFault Holds a → IsLeastFault Holds b → a ≡ b
least_once Holds a b x y =
    let not_below = x.least b in
    let not_above = y.least a in
    let code : fault_code a ≡ fault_code b = neither_below (fault_code a) (fault_code b) (λ lt. not_above lt x.holds)
    (λ lt. not_below lt y.holds) in
    code_once a b code

-- how a list of this many records ends before the rest
abbrev pub EndsWith : ℕ → ℕ → List ℕ → Ending → Type 0
EndsWith size count rest Ending.Whole = (rest ≡ []) × (0 < count)
EndsWith size count rest (Ending.Broken fault place) =
    ((rest ≢ []) ⊎ (count ≡ 0)) × (place + length rest ≡ size) × IsCutFault count rest fault

ends_once : (size count : ℕ) (x y : List ℕ) (e f : Ending) → x ≡ y → EndsWith size count x e → EndsWith size count y f
    → e ≡ f
ends_once size count x y Ending.Whole Ending.Whole same a b = refl
ends_once size count x y Ending.Whole (Ending.Broken fault place) same a b =
    absurd (elim b.0 [ inl some ↦ some (sym same ∙ a.0) | inr none ↦ (let n = a.1 in omega arith) ])
ends_once size count x y (Ending.Broken fault place) Ending.Whole same a b =
    absurd (elim a.0 [ inl some ↦ some (same ∙ b.0) | inr none ↦ (let n = b.1 in omega arith) ])
ends_once size count x y (Ending.Broken k p) (Ending.Broken l q) same a b =
    let kinds = least_once (HoldsOfText count y) k l (subst (λ (t : List ℕ). IsCutFault count t k) same a.2) b.2 in
    let lengths : length x ≡ length y = ap length same in
    let first = a.1 in
    let second = b.1 in
    let places : p ≡ q = omega arith in
    λ i. Ending.Broken (kinds i) (places i)

-- the records don't end if there is one more
pub goes_on : (size count : ℕ) (x : List ℕ) (e : Ending) (r : DumpRecord) (after : List ℕ)
    → BeginsWithRecord count x r after → EndsWith size count x e → ⊥
goes_on size count x Ending.Whole r after b a =
    block_some r.headers (content r after) (subst (λ (t : List ℕ). BeginsWithBlock t r.headers (content r after)) a.0
    (begins count x r after b))
goes_on size count x (Ending.Broken fault place) r after b a = none_holds count x r after b fault a.2.holds

-- the first records of two lists for one text are the same, and the others are split from one text
pub first_once : (number place before : ℕ) (text x y : List ℕ) (r s : DumpRecord) (rs ss : List DumpRecord)
    → IsCutInto number place text (r ∷ rs) x → IsCutInto number place text (s ∷ ss) y
    → HaveVersions before (r ∷ rs) → HaveVersions before (s ∷ ss)
    → (after : List ℕ) × (r ≡ s) × IsCutInto (number + 1) (r.place + length (record_text r)) after rs x
    × IsCutInto (number + 1) (r.place + length (record_text r)) after ss y × HaveVersions r.version ss
first_once number place before text x y r s rs ss (lfs, start, after, at, is, b, more)
    (lfs', start', after', at', is', c, more') (v, have) (v', have') =
    let gaps = blank_once lfs lfs' start start' (front_of number start r after b) (front_of number start' s after' c)
    (sym at ∙ at') in
    let places : r.place ≡ s.place = is ∙ ap (λ (k : ℕ). place + k) gaps.0 ∙ sym is' in
    let b' = subst (λ (t : List ℕ). BeginsWithRecord number t r after) gaps.1 b in
    let versions = version_once number before start' r s after after' v v' b' c in
    let one = record_once number start' r s after after' places versions b' c in
    let ends = subst (λ (d : DumpRecord). IsCutInto (number + 1) (d.place + length (record_text d)) after' ss y)
    (sym one.0) more' in (
      after,
      one.0,
      more,
      subst (λ (t : List ℕ). IsCutInto (number + 1) (r.place + length (record_text r)) t ss y) (sym one.1) ends,
      subst (λ (w : ℕ). HaveVersions w ss) (sym versions) have',
    )

-- two lists of records of one text that both end are the same
cuts_once : (size number place before count other : ℕ) (text : List ℕ) (rs ss : List DumpRecord) (x y : List ℕ)
    (e f : Ending) → count ≡ number + length rs → other ≡ number + length ss
    → IsCutInto number place text rs x → IsCutInto number place text ss y
    → HaveVersions before rs → HaveVersions before ss
    → EndsWith size count x e → EndsWith size other y f → (rs ≡ ss) × (e ≡ f)
cuts_once size number place before count other text [] [] x y e f n m (lfs, at, front) (lfs', at', front') have have'
    a b =
    let same = blank_once lfs lfs' x y front front' (sym at ∙ at') in
    let counts : other ≡ count = omega arith in
    (refl, ends_once size count x y e f same.1 a (subst (λ (k : ℕ). EndsWith size k y f) counts b))
cuts_once size number place before count other text [] (s ∷ ss) x y e f n m (lfs, at, front)
    (lfs', start, after, at', is, b, more) have have' a z =
    let same = blank_once lfs lfs' x start front (front_of number start s after b) (sym at ∙ at') in
    let counts : number ≡ count = omega arith in
    absurd (goes_on size count x e s after (subst (λ (k : ℕ). BeginsWithRecord k x s after) counts
    (subst (λ (t : List ℕ). BeginsWithRecord number t s after) (sym same.1) b)) a)
cuts_once size number place before count other text (r ∷ rs) [] x y e f n m (lfs, start, after, at, is, b, more)
    (lfs', at', front') have have' a z =
    let same = blank_once lfs lfs' start y (front_of number start r after b) front' (sym at ∙ at') in
    let counts : number ≡ other = omega arith in
    absurd (goes_on size other y f r after (subst (λ (k : ℕ). BeginsWithRecord k y r after) counts
    (subst (λ (t : List ℕ). BeginsWithRecord number t r after) same.1 b)) z)
cuts_once size number place before count other text (r ∷ rs) (s ∷ ss) x y e f n m cut cut' have have' a z =
    let (after, one, more, more', versions) = first_once number place before text x y r s rs ss cut cut' have have' in
    let rest = cuts_once size (number + 1) (r.place + length (record_text r)) r.version count other after rs ss x y e f
    (omega arith) (omega arith) more more' have.1 versions a z in
    ((λ i. one i ∷ rest.0 i), rest.1)

-- the lengths of the list and of the dump say how a list of records ends
pub ending_of : (dump : List ℕ) (records : List DumpRecord) (rest : List ℕ) (e : Ending) → HasEnding dump records rest e
    → EndsWith (length dump) (length records) rest e
ending_of dump records rest Ending.Whole h = h
ending_of dump records rest (Ending.Broken fault place) h =
    ((elim h.0 [ inl some ↦ inl some | inr none ↦ inr (ap length none) ]), h.1, h.2)

-- a dump has at most one list of records, with one end
pub records_once : (dump : List ℕ) (rs ss : List DumpRecord) (e f : Ending) → HasRecords dump rs e
    → HasRecords dump ss f → (rs ≡ ss) × (e ≡ f)
records_once dump rs ss e f (x, cut, have, ends) (y, cut', have', ends') =
    cuts_once (length dump) 0 0 0 (length rs) (length ss) dump rs ss x y e f (omega arith) (omega arith) cut cut'
    have have'
    (ending_of dump rs x e ends) (ending_of dump ss y f ends')

-- no record's bytes are a proper prefix of another record's
pub no_record_begins_another : NoRecordBeginsAnother
no_record_begins_another m n r s more b c e =
    let longer : BeginsWithRecord m (record_text s) r more = record {
      block = b.block;
      lawful = b.lawful;
      props_fit = b.props_fit;
      text_fits = b.text_fits;
      spelled = e;
    } in
    (parts_once m n (record_text s) r s more [] longer c).3
