-- How many lines of mergeinfo are omitted from a value, from properties and from records; there are no more lines than
-- bytes.
use Rattle.dump_survey.proofs.Prelude.{◌≡◌, ◌↔◌, ℕ, ◌+◌, ◌-◌, ◌≤◌, Bool, true, false, not, ◌==◌, List, [], ◌∷◌, ◌++◌, length, length-append, map, take, drop, filter, bytes_eq, codes, sum, sum_by, count_by, cond, Option, Some, None, IsSome, is_some, MatchBool, refl, sym, ap, ap₂, ◌∙◌, subst, arith, inl, inr, zero-add, AllZip, slice_split, length-take, length-slice_split, sum_by-cons, sum_by_push, sum-map, count_by-le-length, Property, sized_text, IsEntry, AreEntries, IsPropertyBlock, Props, props_bytes, block_text, DumpRecord, record_text, Record, line_feeds, IsCutInto, record_item, Settings, keeps_path, MergeLine, IsMergeLine, IsMergeinfo, HasMergeLines, value_reads, without_lf, line_misses, text_lines, reads_exactly, line_parts, texts_are, is_kept_node, is_mergeinfo, value_of, HasPropertyBlock, leaving_lines, AreOmittedFromValue, AddUpTo, mergeinfo_values, AreOmittedFromProperties, AreOmittedFrom, text_lines_count, value_count, property_count, properties_count, Bor, record_dump, HasCounted, IsVisitedAfter, LineCounter}
use Rattle.std.proofs.Common.{unwrap_or}

-- counts whose sum is the total

pub adds_up : {X : Type 0} (HasCount : X → ℕ → Type 0) (count : X → ℕ) → ((x : X) → HasCount x (count x))
    → (xs : List X) → AddUpTo HasCount xs (sum_by count xs)
adds_up {X} HasCount count each xs = (map count xs, zipped xs, sym (sum-map count xs))
  where
    zipped : (xs : List X) → AllZip HasCount xs (map count xs)
    zipped [] = tt
    zipped (x ∷ xs) = (each x, zipped xs)

pub adds_once : {X : Type 0} (HasCount : X → ℕ → Type 0) (count : X → ℕ)
    → ((x : X) (n : ℕ) → HasCount x n → n ≡ count x)
    → (xs : List X) (total : ℕ) → AddUpTo HasCount xs total → total ≡ sum_by count xs
adds_once {X} HasCount count each xs total (counts, all, is) = is ∙ same xs counts all
  where
    same : (xs : List X) (counts : List ℕ) → AllZip HasCount xs counts → sum counts ≡ sum_by count xs
    same [] [] all = refl
    same [] (n ∷ counts) all = absurd all
    same (x ∷ xs) [] all = absurd all
    same (x ∷ xs) (n ∷ counts) all =
        sum_by-cons (λ m. m) n counts ∙ (ap₂ (λ a b. a + b) (each x n all.0) (same xs counts all.1)
        ∙ sym (sum_by-cons count x xs))

-- one more element
pub adds_more : {X : Type 0} (HasCount : X → ℕ → Type 0) (xs : List X) (total : ℕ) (x : X) (n : ℕ)
    → AddUpTo HasCount xs total → HasCount x n → AddUpTo HasCount (xs ++ x ∷ []) (total + n)
adds_more {X} HasCount xs total x n (counts, all, is) has =
    (counts ++ n ∷ [], zipped xs counts all, ap (λ m. m + n) is ∙ sym (sum_by_push (λ m. m) counts n))
  where
    zipped : (xs : List X) (counts : List ℕ) → AllZip HasCount xs counts
        → AllZip HasCount (xs ++ x ∷ []) (counts ++ n ∷ [])
    zipped [] [] all = (has, tt)
    zipped [] (m ∷ counts) all = absurd all
    zipped (y ∷ xs) [] all = absurd all
    zipped (y ∷ xs) (m ∷ counts) all = (all.0, zipped xs counts all.1)

-- the lines of a value

-- a text that isn't empty is split at its LFs
pub lines_of_some : (text : List ℕ) → (length text == 0) ≡ false → text_lines text ≡ slice_split (λ b. b == 10) text
lines_of_some [] some = let bad : true ≡ false = some in cc
lines_of_some (b ∷ text) some = refl

-- one line after another
lines_leave : (s : Settings) (texts : List (List ℕ)) (lines : List MergeLine) → AllZip IsMergeLine texts lines
    → count_by (line_misses s) texts ≡ length (leaving_lines s lines)
lines_leave s [] [] all = refl
lines_leave s [] (line ∷ lines) all = absurd all
lines_leave s (text ∷ texts) [] all = absurd all
lines_leave s (text ∷ texts) (line ∷ lines) all =
    sum_by-cons (λ t. cond (line_misses s t) 1 0) text texts
    ∙ (ap₂ (λ b n. cond b 1 0 + n) (ap (λ p. not (keeps_path s p)) (line_parts text line all.0).path)
    (lines_leave s texts lines all.1)
    ∙ one_more (not (keeps_path s line.path)) (leaving_lines s lines))
  where
    one_more : (b : Bool) (others : List MergeLine)
        → cond b 1 0 + length others ≡ length (cond b (line ∷ others) others)
    one_more true others = omega arith
    one_more false others = zero-add (length others)

value_leaves : (s : Settings) (value : List ℕ) (lines : List MergeLine) → IsMergeinfo value lines
    → value_count s value ≡ length (leaving_lines s lines)
value_leaves s value lines (texts, all, is) =
    ap (λ b. cond b (text_lines_count s (without_lf value)) 0) ((reads_exactly value).1 (lines, (texts, all, is)))
    ∙ (ap (count_by (line_misses s)) (texts_are texts lines all value is) ∙ lines_leave s texts lines all)

pub unread_count : (s : Settings) (value : List ℕ) → value_reads value ≡ false → value_count s value ≡ 0
unread_count s value unread = ap (λ b. cond b (text_lines_count s (without_lf value)) 0) unread

pub read_count : (s : Settings) (value : List ℕ) → value_reads value ≡ true
    → value_count s value ≡ text_lines_count s (without_lf value)
read_count s value reads = ap (λ b. cond b (text_lines_count s (without_lf value)) 0) reads

not_read : (value : List ℕ) → ¬ HasMergeLines value → value_reads value ≡ false
not_read value none = by (value_reads value) refl
  where
    by : (b : Bool) → value_reads value ≡ b → b ≡ false
    by true reads = absurd (none ((reads_exactly value).0 reads))
    by false unread = refl

pub value_is : (s : Settings) (value : List ℕ) → AreOmittedFromValue s value (value_count s value)
value_is s value = by (value_reads value) refl
  where
    by : (b : Bool) → value_reads value ≡ b → AreOmittedFromValue s value (value_count s value)
    by true reads = let (lines, is) = (reads_exactly value).0 reads in (Some lines, is, value_leaves s value lines is)
    by false unread = (
      None,
      λ has. let bad : false ≡ true = sym unread ∙ (reads_exactly value).1 has in cc,
      unread_count s value unread,
    )

pub value_once : (s : Settings) (value : List ℕ) (n : ℕ) → AreOmittedFromValue s value n → n ≡ value_count s value
value_once s value n (None, none, is) = is ∙ sym (unread_count s value (not_read value none))
value_once s value n (Some lines, read, is) = is ∙ sym (value_leaves s value lines read)

-- the lines of properties

values_count : (s : Settings) (ps : List Property) → sum_by (value_count s) (mergeinfo_values ps) ≡ properties_count s ps
values_count s [] = refl
values_count s (p ∷ ps) = by (is_mergeinfo p) (values_count s ps) ∙ sym (sum_by-cons (property_count s) p ps)
  where
    by : (b : Bool) → sum_by (value_count s) (mergeinfo_values ps) ≡ properties_count s ps
        → sum_by (value_count s) (map value_of (cond b (p ∷ filter is_mergeinfo ps) (filter is_mergeinfo ps)))
        ≡ cond b (value_count s (value_of p)) 0 + properties_count s ps
    by true others = sum_by-cons (value_count s) (value_of p) (mergeinfo_values ps)
        ∙ ap (λ n. value_count s (value_of p) + n) others
    by false others = others ∙ sym (zero-add (properties_count s ps))

pub properties_are : (s : Settings) (ps : List Property)
    → AddUpTo (AreOmittedFromValue s) (mergeinfo_values ps) (properties_count s ps)
properties_are s ps =
    subst (AddUpTo (AreOmittedFromValue s) (mergeinfo_values ps)) (values_count s ps)
    (adds_up (AreOmittedFromValue s) (value_count s) (value_is s) (mergeinfo_values ps))

pub properties_once : (s : Settings) (ps : List Property) (n : ℕ)
    → AddUpTo (AreOmittedFromValue s) (mergeinfo_values ps) n → n ≡ properties_count s ps
properties_once s ps n add =
    adds_once (AreOmittedFromValue s) (value_count s) (value_once s) (mergeinfo_values ps) n add ∙ values_count s ps

-- one more property
pub count_next : (s : Settings) (ps qs others : List Property) (p : Property) (count n : ℕ) → qs ≡ p ∷ others
    → n ≡ property_count s p → properties_count s ps ≡ count + properties_count s qs
    → properties_count s ps ≡ (count + n) + properties_count s others
count_next s ps qs others p count n is here up =
    let first = ap (properties_count s) is ∙ sum_by-cons (property_count s) p others in
    omega arith

-- a record that isn't a kept node has no omitted lines

pub omitted_of_other : (s : Settings) (r : DumpRecord) → is_kept_node s r ≡ false → AreOmittedFrom s r 0
omitted_of_other s r other = rw other refl

omitted_of_kept : (s : Settings) (r : DumpRecord) (n : ℕ) → is_kept_node s r ≡ true → AreOmittedFromProperties s r n
    → AreOmittedFrom s r n
omitted_of_kept s r n kept are = rw kept are

module _ (s : Settings) (r : DumpRecord) (found : Option Props) (kept : is_kept_node s r ≡ true)
    (means : IsSome found ↔ HasPropertyBlock r) where
  pub omitted_of_unread : found ≡ None → AreOmittedFrom s r 0
  omitted_of_unread none =
      omitted_of_kept s r 0 kept
      (None, λ has. let bad : false ≡ true = sym (ap is_some none) ∙ means.1 has in cc, properties_are s [])

  pub omitted_of_read : (props : Props) → found ≡ Some props → props_bytes props ≡ r.props → (n : ℕ)
      → ((ps : List Property) → IsPropertyBlock (props_bytes props) ps → n ≡ properties_count s ps)
      → AreOmittedFrom s r n
  omitted_of_read props is bytes n counted =
      let (ps, list) = means.0 (ap is_some is) in
      let count = counted ps (subst (λ (text : List ℕ). IsPropertyBlock text ps) (sym bytes) list.0) in
      omitted_of_kept s r n kept
      (Some ps, list, subst (AddUpTo (AreOmittedFromValue s) (mergeinfo_values ps)) (sym count) (properties_are s ps))

-- there are no more lines than bytes

text_fits : (s : Settings) (text : List ℕ) → text_lines_count s text ≤ length text + 1
text_fits s [] = omega arith
text_fits s (b ∷ text) =
    let some = count_by-le-length (line_misses s) (slice_split (λ c. c == 10) (b ∷ text)) in
    let size = length-slice_split (λ c. c == 10) (b ∷ text) in
    let lfs = count_by-le-length (λ c. c == 10) (b ∷ text) in
    omega arith

shorter : (value : List ℕ) → length (without_lf value) ≤ length value
shorter value = by (bytes_eq (drop (length value - 1) value) (10 ∷ []))
  where
    by : (b : Bool) → length (cond b (take (length value - 1) value) value) ≤ length value
    by true = let size = length-take (length value - 1) value in omega arith
    by false = omega arith

pub value_fits : (s : Settings) (value : List ℕ) → value_count s value ≤ length value + 1
value_fits s value = by (value_reads value)
  where
    by : (b : Bool) → cond b (text_lines_count s (without_lf value)) 0 ≤ length value + 1
    by true = let some = text_fits s (without_lf value) in let size = shorter value in omega arith
    by false = omega arith

property_fits : (s : Settings) (p : Property) → property_count s p ≤ length (value_of p) + 1
property_fits s p = by (is_mergeinfo p)
  where
    by : (b : Bool) → cond b (value_count s (value_of p)) 0 ≤ length (value_of p) + 1
    by true = value_fits s (value_of p)
    by false = omega arith

sized_size : (letter digits bytes : List ℕ) → length bytes + 2 ≤ length (sized_text letter digits bytes)
sized_size letter digits bytes =
    let front = letter ++ codes " " ++ digits in
    let whole = length-append (front ++ codes "\n" ++ bytes) (codes "\n") in
    let body = length-append (front ++ codes "\n") bytes in
    let line = length-append front (codes "\n") in
    omega arith

value_size : (text : List ℕ) (p : Property) → IsEntry text p → length (value_of p) + 1 ≤ length text
value_size text p (inl (value, set, (d, e, named, valued, spelled))) =
    let size = ap length spelled ∙ length-append (sized_text (codes "K") d p.name) (sized_text (codes "V") e value) in
    let part = sized_size (codes "V") e value in
    let same = ap (λ (v : Option (List ℕ)). length (unwrap_or v [])) set in
    omega arith
value_size text p (inr (none, (d, named, spelled))) =
    let size = ap length spelled in
    let part = sized_size (codes "D") d p.name in
    let same = ap (λ (v : Option (List ℕ)). length (unwrap_or v [])) none in
    omega arith

-- the same for the property of an entry
pub entry_fits : (s : Settings) (text : List ℕ) (p : Property) → IsEntry text p → property_count s p ≤ length text
entry_fits s text p one =
    let some = property_fits s p in let size = value_size text p one in omega arith

properties_fit : (s : Settings) (text : List ℕ) (ps : List Property) → AreEntries text ps
    → properties_count s ps ≤ length text
properties_fit s text [] are = omega arith
properties_fit s text (p ∷ ps) (entry, rest, cut, one, more) =
    let here = entry_fits s entry p one in
    let others = properties_fit s rest ps more in
    let size = ap length cut ∙ length-append entry rest in
    let sum = sum_by-cons (property_count s) p ps in
    omega arith

block_fits : (s : Settings) (text : List ℕ) (ps : List Property) → IsPropertyBlock text ps
    → properties_count s ps ≤ length text
block_fits s text ps (inl (empty, none)) = let sum = ap (properties_count s) none in omega arith
block_fits s text ps (inr are) = properties_fit s text ps are

-- the same for a record
record_fits : (s : Settings) (r : DumpRecord) (n : ℕ) → AreOmittedFrom s r n → n ≤ length r.props
record_fits s r n are = by (is_kept_node s r) are
  where
    of_block : AreOmittedFromProperties s r n → n ≤ length r.props
    of_block (None, none, add) = let is = properties_once s [] n add in omega arith
    of_block (Some ps, list, add) =
        let is = properties_once s ps n add in let size = block_fits s r.props ps list.0 in omega arith

    by : (b : Bool) → MatchBool b (AreOmittedFromProperties s r n) (n ≡ 0) → n ≤ length r.props
    by true are = of_block are
    by false none = omega arith

-- the same for records
counts_fit : (s : Settings) (number place : ℕ) (text rest : List ℕ) (records : List DumpRecord) (counts : List ℕ)
    → IsCutInto number place text records rest → AllZip (AreOmittedFrom s) records counts → sum counts ≤ length text
counts_fit s number place text rest [] [] cut all = omega arith
counts_fit s number place text rest [] (n ∷ counts) cut all = absurd all
counts_fit s number place text rest (r ∷ records) [] cut all = absurd all
counts_fit s number place text rest (r ∷ records) (n ∷ counts) (lfs, front, behind, is, at, b, more) all =
    let others = counts_fit s (number + 1) (r.place + length (record_text r)) behind rest records counts more all.1 in
    let here = record_fits s r n all.0 in
    let size = ap length is ∙ length-append (line_feeds lfs) front in
    let body = ap length b.spelled ∙ length-append (record_text r) behind in
    let parts = length-append (block_text r.headers ++ r.props) r.text in
    let props = length-append (block_text r.headers) r.props in
    let sum = sum_by-cons (λ m. m) n counts in
    omega arith

-- record by record

module _ (first old : LineCounter) (before : List DumpRecord) (item : Record) (n : ℕ)
    (so_far : HasCounted first before old) (are : AreOmittedFrom old.options.now (record_item item) n) where
  next_add : AddUpTo (AreOmittedFrom first.options.now) (before ++ record_item item ∷ []) (old.count + n)
  next_add = adds_more (AreOmittedFrom first.options.now) before old.count (record_item item) n so_far.add
      (subst (λ s. AreOmittedFrom s (record_item item) n) so_far.options are)

  -- there are no more lines than bytes
  pub counted_fits : IsVisitedAfter item before → old.count + n ≤ length (record_dump item)
  counted_fits next =
      let (counts, all, is) = next_add in
      let (rest, cut, versions) = next.0 in
      let fits = counts_fit first.options.now 0 0 (record_dump item) rest (before ++ record_item item ∷ []) counts cut all in
      omega arith

  -- the count after one more record
  pub counted_more : (now : LineCounter) → now.options ≡ old.options → now.count ≡ old.count + n
      → HasCounted first (before ++ record_item item ∷ []) now
  counted_more now options is = record {
    none = so_far.none;
    options = ap (λ (o : Bor Settings). o.now) options ∙ so_far.options;
    add = subst (AddUpTo (AreOmittedFrom first.options.now) (before ++ record_item item ∷ [])) (sym is) next_add;
  }
