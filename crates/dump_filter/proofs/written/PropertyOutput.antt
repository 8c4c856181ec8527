-- What is written for the properties of a record.
use Rattle.dump_filter.proofs.Prelude.{◌≡◌, ℕ, ◌<◌, ◌^◌, suc, Bool, true, false, List, [], ◌∷◌, ◌++◌, length, flat_map, refl, sym, ap, ◌∙◌, subst, arith, append_assoc, inl, inr, codes, bytes_eq, Option, Some, None, unwrap_or, IsTrue, MatchBool, list_any, nil_from_length, flat_map-append, bytes_eq-Decides, property_length_name, has_header, IsWritten, Property, IsEntry, IsPropertyBlock, block_end, entry_text, property_block_text, HasPropertyChanges, property_value, entry_parts, left_of, property_block_once, written_list, header_number, property_length, DumpRecord, Settings, KeptRevisions, HasMergeLines, IsNewMergeinfo, is_mergeinfo, value_of, HasPropertyList, padding_log, padding_properties, IsNewProperty, AreNewProperties, new_block, property_of, dated_padding, HasGoodMergeinfo, Props, props_bytes, first_false, second_false, no_number}
use Rattle.std.proofs.lemmas.List.{append-nil}

-- the rest of a list is written after what is already there
abbrev pub IsLeftOf : List ℕ → List ℕ → List ℕ → Type 0
IsLeftOf block out rest = (ps : List Property) → IsPropertyBlock block ps
    → (qs : List Property) × IsPropertyBlock rest qs × (property_block_text ps ≡ out ++ property_block_text qs)

-- with one more entry written, the rest of the list is the rest after it
pub next_left : (block out text rest new : List ℕ) (p : Property) (front : List ℕ) → IsLeftOf block out text
    → text ≡ front ++ rest → IsEntry front p → new ≡ out ++ entry_text p → IsLeftOf block new rest
next_left block out text rest new p front before cut one new_is = λ ps is.
    let (qs, here, same) = before ps is in
    let left = left_of text p rest qs (entry_parts text front rest p cut one) here in
    let more = property_block_text left.others in (
      left.others,
      inr left.entries,
      same ∙ ap (λ (l : List Property). out ++ property_block_text l) left.list
          ∙ ap (λ t. out ++ t) (append_assoc (entry_text p) (flat_map entry_text left.others) block_end)
          ∙ sym (append_assoc out (entry_text p) more) ∙ ap (λ t. t ++ more) (sym new_is),
    )

-- if no entry is left, the written entries and the end line are the text of the list
pub none_left : (block out rest new : List ℕ) → IsLeftOf block out rest → IsPropertyBlock rest []
    → new ≡ out ++ block_end
    → (ps : List Property) → IsPropertyBlock block ps → new ≡ property_block_text ps
none_left block out rest new before end new_is = λ ps is.
    let (qs, here, same) = before ps is in
    let none : qs ≡ [] = property_block_once rest qs [] here end in
    new_is ∙ sym (same ∙ ap (λ (l : List Property). out ++ property_block_text l) none)

-- a block that is spelled as the filter writes it is the text of its own list
pub own_spelling : (block : List ℕ) → length block < 2 ^ 64 → IsWritten block
    → (ps : List Property) → IsPropertyBlock block ps → block ≡ property_block_text ps
own_spelling block small (qs, spelled) = λ ps is.
    spelled ∙ ap property_block_text (sym (written_list block ps qs small is spelled))

-- the properties of a padded revision are those of the first date that there is
pub padding_is : (ps : List Property) → padding_properties ps ≡ dated_padding (property_value (codes "svn:date") ps)
padding_is [] = refl
padding_is (p ∷ ps) = cases (padding_is ps) (bytes_eq p.name (codes "svn:date")) refl p.value refl
  where
    cases : padding_properties ps ≡ dated_padding (property_value (codes "svn:date") ps)
        → (b : Bool) → bytes_eq p.name (codes "svn:date") ≡ b → (v : Option (List ℕ)) → p.value ≡ v
        → padding_properties (p ∷ ps) ≡ dated_padding (property_value (codes "svn:date") (p ∷ ps))
    cases others true is (Some value) set = rw (is, set) (ap (λ name. property_of name value ∷ padding_log ∷ [])
        ((bytes_eq-Decides p.name (codes "svn:date")).0 is))
    cases others true is None none = rw (is, none) others
    cases others false is v any = rw is others

-- the value of the property or, if it is mergeinfo, a new one
abbrev pub IsNewValue : Settings → KeptRevisions → Property → Option (List ℕ) → Bool → Type 0
IsNewValue settings kept p value merge =
    MatchBool merge ((v : List ℕ) × (value ≡ Some v) × IsNewMergeinfo settings kept (value_of p) v) (value ≡ p.value)

-- the new property of one that isn't mergeinfo, and of one that is
pub unchanged : (settings : Settings) (kept : KeptRevisions) (p : Property) → is_mergeinfo p ≡ false
    → IsNewProperty settings kept p p
unchanged settings kept p other = (refl, rw other refl)

-- mergeinfo with its new value is what is written for that property
pub with_new_value : (settings : Settings) (kept : KeptRevisions) (p : Property) (value : List ℕ)
    → is_mergeinfo p ≡ true
    → IsNewMergeinfo settings kept (value_of p) value → IsNewProperty settings kept p (property_of p.name value)
with_new_value settings kept p value merge is = (refl, rw merge (value, refl, is))

-- if no property of the list is mergeinfo, the list is its own new list
pub no_mergeinfo : (settings : Settings) (kept : KeptRevisions) (ps : List Property) → list_any is_mergeinfo ps ≡ false
    → AreNewProperties settings kept ps ps
no_mergeinfo settings kept [] none = tt
no_mergeinfo settings kept (p ∷ ps) none = (
  unchanged settings kept p (first_false (is_mergeinfo p) (list_any is_mergeinfo ps) none),
  no_mergeinfo settings kept ps (second_false (is_mergeinfo p) (list_any is_mergeinfo ps) none),
)

-- the properties up to the rest of a block, with new values, are written after what is already there
abbrev pub AreRewritten : Settings → KeptRevisions → List ℕ → List ℕ → List ℕ → Type 0
AreRewritten settings kept block out rest = (ps : List Property) → IsPropertyBlock block ps
    → (qs done new : List Property) × IsPropertyBlock rest qs × (ps ≡ done ++ qs)
    × AreNewProperties settings kept done new
    × (out ≡ flat_map entry_text new)

-- before the first entry nothing is written
pub none_rewritten : (settings : Settings) (kept : KeptRevisions) (block out rest : List ℕ) → out ≡ [] → rest ≡ block
    → AreRewritten settings kept block out rest
none_rewritten settings kept block out rest empty same = λ ps is.
    (ps, [], [], subst (λ (t : List ℕ). IsPropertyBlock t ps) (sym same) is, refl, tt, empty)

one_more : (settings : Settings) (kept : KeptRevisions) (ps qs : List Property) (p q : Property)
    → AreNewProperties settings kept ps qs → IsNewProperty settings kept p q
    → AreNewProperties settings kept (ps ++ p ∷ []) (qs ++ q ∷ [])
one_more settings kept [] [] p q all one = (one, tt)
one_more settings kept [] (y ∷ qs) p q all one = absurd all
one_more settings kept (x ∷ ps) [] p q all one = absurd all
one_more settings kept (x ∷ ps) (y ∷ qs) p q all one = (all.0, one_more settings kept ps qs p q all.1 one)

-- with one more entry written with its new value, the rest of the block is the rest after it
pub next_rewritten : (settings : Settings) (kept : KeptRevisions) (block out text rest after : List ℕ) (p : Property)
    (front : List ℕ) → AreRewritten settings kept block out text
    → text ≡ front ++ rest → IsEntry front p → (q : Property) → IsNewProperty settings kept p q
    → after ≡ out ++ entry_text q
    → AreRewritten settings kept block after rest
next_rewritten settings kept block out text rest after p front before cut one q is_new after_is = λ ps is.
    let (qs, done, new, here, list, all, written) = before ps is in
    let left = left_of text p rest qs (entry_parts text front rest p cut one) here in (
      left.others,
      done ++ p ∷ [],
      new ++ q ∷ [],
      inr left.entries,
      list ∙ ap (λ (l : List Property). done ++ l) left.list ∙ sym (append_assoc done (p ∷ []) left.others),
      one_more settings kept done new p q all is_new,
      after_is ∙ ap (λ t. t ++ entry_text q) written ∙ ap (λ t. flat_map entry_text new ++ t)
          (sym (append-nil (entry_text q)))
          ∙ sym (flat_map-append entry_text new (q ∷ [])),
    )

-- if no entry is left, the written entries and the end line are the text of the new properties
pub all_rewritten : (settings : Settings) (kept : KeptRevisions) (block out rest after : List ℕ)
    → AreRewritten settings kept block out rest → IsPropertyBlock rest []
    → after ≡ out ++ block_end → (ps : List Property) → IsPropertyBlock block ps
    → (new : List Property) × AreNewProperties settings kept ps new × (after ≡ property_block_text new)
all_rewritten settings kept block out rest after before end after_is = λ ps is.
    let (qs, done, new, here, list, all, written) = before ps is in
    let none : qs ≡ [] = property_block_once rest qs [] here end in
    let same : ps ≡ done = list ∙ ap (λ (l : List Property). done ++ l) none ∙ append-nil done in (
      new,
      subst (λ (l : List Property). AreNewProperties settings kept l new) (sym same) all,
      after_is
          ∙ ap (λ t. t ++ block_end) written,
    )

-- the mergeinfo in the rest of a block is lines of mergeinfo
pub left_lines : (block rest front : List ℕ) (p : Property) → HasGoodMergeinfo block → block ≡ front ++ rest
    → IsEntry front p → HasGoodMergeinfo rest
left_lines block rest front p lines cut one ps is q (i, within, at) = elim is [
  | inl (none, empty) ↦ absurd (let size : length ps ≡ 0 = ap length empty in omega arith)
  | inr more ↦ lines (p ∷ ps) (inr (front, rest, cut, one, more)) q (suc i, omega arith, at)
]

-- the value of a mergeinfo entry is lines of mergeinfo, if each one in the block is
pub entry_lines : (block rest front : List ℕ) (p : Property) → HasGoodMergeinfo block → HasPropertyChanges block
    → block ≡ front ++ rest → IsEntry front p → IsTrue (is_mergeinfo p) → ¬ ¬ HasMergeLines (value_of p)
entry_lines block rest front p lines (ps, is) cut one merge =
    let left = left_of block p rest ps (entry_parts block front rest p cut one) is in
    lines (p ∷ left.others) (inr (front, rest, cut, one, left.entries)) p (0, omega arith, refl) merge

-- what was read is a block of the same list
pub read_block : (r : DumpRecord) (p : Props) → props_bytes p ≡ r.props → (ps : List Property) → HasPropertyList r ps
    → IsPropertyBlock (props_bytes p) ps
read_block r p is ps list = subst (λ (t : List ℕ). IsPropertyBlock t ps) (sym is) list.0

-- the block of a record that has a length for its properties, and of one that has none
pub block_with : (r : DumpRecord) (ps : List Property) → has_header property_length_name r.headers ≡ true
    → property_block_text ps ≡ new_block false r ps
block_with r ps has = rw has refl

-- a record without a length for its properties has no bytes of them
no_bytes : (r : DumpRecord) → has_header property_length_name r.headers ≡ false
    → length r.props ≡ property_length r.headers → r.props ≡ []
no_bytes r none size =
    let number : header_number property_length_name r.headers ≡ None =
    sym (no_number property_length_name r.headers none) in
    nil_from_length r.props (size ∙ ap (λ (n : Option ℕ). unwrap_or n 0) number)

-- a record without a property length that isn't padded gets no property block
pub block_without : (r : DumpRecord) (ps : List Property) → has_header property_length_name r.headers ≡ false
    → length r.props ≡ property_length r.headers → r.props ≡ new_block false r ps
block_without r ps none size = rw none (no_bytes r none size)

-- a node without a length for its properties has none
pub no_block : (settings : Settings) (kept : KeptRevisions) (r : DumpRecord)
    → has_header property_length_name r.headers ≡ false → length r.props ≡ property_length r.headers
    → (ps : List Property) → HasPropertyList r ps → AreNewProperties settings kept ps []
no_block settings kept r none size ps is =
    let same : ps ≡ [] = property_block_once [] ps []
    (subst (λ (t : List ℕ). IsPropertyBlock t ps) (no_bytes r none size) is.0) (inl (refl, refl)) in
    subst (λ (l : List Property). AreNewProperties settings kept l []) (sym same) tt
