-- What the mergeinfo of some properties says, property by property.
use Rattle.dump_digest.proofs.Prelude.{◌≡◌, ◌↔◌, ◌<◌, ◌^◌, ℕ, Bool, true, false, ◌&&◌, ◌||◌, List, [], ◌∷◌, refl, sym, ap, subst, ◌∙◌, Option, Some, None, IsSome, IsNone, IfSome, is_some, unwrap_or, if◌then◌else◌, MatchOption, IsTrue, IsFalse, or_right, false≢true, list_any, ForSome, Props, PropsReading, Property, IsPropertyBlock, Entry, props_bytes, entry_property, IsReadingOf, absurd_bool, and_from, second_true, DumpRecord, Bounds, Merged, Settings, HasMergeLines, is_outside, no_bounds, nothing_merged, value_misses, value_foreign, value_reads, or-false, or-true, or_assoc, true_from_ne_false, none_outside, Content, Verdict, IsVerdict, Mergeinfo, is_revision_record, is_kept_node, is_mergeinfo, value_of, HasPropertyList, HasPropertyBlock, properties_read, HasBadMergeinfo, misses, is_foreign, IsSaidBy, IsContent, ArePropertiesOf, is_asked}
use Rattle.dump_digest.proofs.MergeLemmas.{read_is, merge_means, merge_unread}
use Rattle.dump_digest.proofs.PropertyBlocks.{block_stable}

-- what the properties say that were read; the others are still to be read
pub record IsSaidUpTo (s : Settings) (ps qs : List Property) (found : Bool) (said : Merged) : Type 0 where
  pub read : properties_read ps ≡ properties_read qs
  pub found_is : list_any is_mergeinfo ps ≡ (found || list_any is_mergeinfo qs)
  pub sources : list_any (misses s) ps ≡ (said.misses || list_any (misses s) qs)
  pub numbers : (first present : ℕ) → first < 2 ^ 64 → list_any (is_foreign s first present) ps
      ≡ (is_outside s first present said.numbers || list_any (is_foreign s first present) qs)

-- before the first property nothing is said
pub said_at_first : (s : Settings) (ps : List Property) (said : Merged) → said ≡ nothing_merged
    → IsSaidUpTo s ps ps false said
said_at_first s ps said is = record {
  read = refl;
  found_is = refl;
  sources = ap (λ (m : Merged). m.misses || list_any (misses s) ps) (sym is);
  numbers = λ first present fits. ap (λ b. b || list_any (is_foreign s first present) ps)
      (sym (ap (λ (m : Merged). is_outside s first present m.numbers) is ∙ none_outside s first present fits));
}

-- one more property that isn't mergeinfo
pub said_of_other : (s : Settings) (ps qs others : List Property) (p : Property) (found : Bool) (said : Merged)
    → qs ≡ p ∷ others
    → is_mergeinfo p ≡ false → IsSaidUpTo s ps qs found said → IsSaidUpTo s ps others found said
said_of_other s ps qs others p found said is other up = record {
  read = up.read ∙ ap properties_read is ∙ rw other refl;
  found_is = up.found_is ∙ ap (λ (l : List Property). found || list_any is_mergeinfo l) is ∙ rw other refl;
  sources = up.sources ∙ ap (λ (l : List Property). said.misses || list_any (misses s) l) is ∙ rw other refl;
  numbers = λ first present fits. up.numbers first present fits
      ∙ ap (λ (l : List Property). is_outside s first present said.numbers || list_any
      (is_foreign s first present) l) is
      ∙ rw other refl;
}

-- one more property that is
pub said_of_value : (s : Settings) (ps qs others : List Property) (p : Property) (found : Bool) (said next : Merged)
    → qs ≡ p ∷ others
    → is_mergeinfo p ≡ true → value_reads (value_of p) ≡ true
    → next.misses ≡ (said.misses || value_misses s (value_of p))
    → ((first present : ℕ) → is_outside s first present next.numbers
    ≡ (is_outside s first present said.numbers || value_foreign s first present (value_of p)))
    → IsSaidUpTo s ps qs found said → IsSaidUpTo s ps others true next
said_of_value s ps qs others p found said next is named reads sources numbers up = record {
  read = up.read ∙ ap properties_read is ∙ rw (named, reads) refl;
  found_is = up.found_is ∙ ap (λ (l : List Property). found || list_any is_mergeinfo l) is
      ∙ rw named (or-true found);
  sources = up.sources ∙ ap (λ (l : List Property). said.misses || list_any (misses s) l) is
      ∙ rw named (sym (or_assoc said.misses (value_misses s (value_of p)) (list_any (misses s) others)))
      ∙ ap (λ b. b || list_any (misses s) others) (sym sources);
  numbers = λ first present fits. up.numbers first present fits
      ∙ ap (λ (l : List Property). is_outside s first present said.numbers || list_any
      (is_foreign s first present) l) is
      ∙ rw named (sym (or_assoc (is_outside s first present said.numbers) (value_foreign s first present (value_of p))
      (list_any (is_foreign s first present) others)))
      ∙ ap (λ b. b || list_any (is_foreign s first present) others) (sym (numbers first present));
}

-- a property whose value can't be read
pub not_said : (s : Settings) (ps qs others : List Property) (p : Property) (found : Bool) (said : Merged)
    → qs ≡ p ∷ others
    → is_mergeinfo p ≡ true → value_reads (value_of p) ≡ false → IsSaidUpTo s ps qs found said
    → properties_read ps ≡ false
not_said s ps qs others p found said is named bad up = up.read ∙ ap properties_read is ∙ rw (named, bad) refl

-- after the last property all properties were read
pub said_at_last : (s : Settings) (ps : List Property) (found : Bool) (said : Merged) → IsSaidUpTo s ps [] found said
    → IsSaidBy s ps (record { found = found; said = said })
said_at_last s ps found said up = record {
  read = up.read;
  found = sym (up.found_is ∙ or-false found);
  sources = sym (up.sources ∙ or-false said.misses);
  numbers = λ first present fits. sym (up.numbers first present fits ∙ or-false (is_outside s first present said.numbers));
}

-- the value of an entry is that of its property
pub entry_value : (e : Entry) → value_of (entry_property e) ≡ e.value.now
entry_value e = by_gone e.gone refl
  where
    by_gone : (b : Bool) → e.gone ≡ b → unwrap_or (if b then None else Some e.value.now) [] ≡ e.value.now
    by_gone true gone = sym (e.empty gone)
    by_gone false set = refl

-- the result of reading a value
pub unread_value : (value : List ℕ) (o : Option Merged) → (IsSome o ↔ HasMergeLines value) → o ≡ None
    → value_reads value ≡ false
unread_value value o means is = sym (read_is value (is_some o) means) ∙ ap is_some is

-- a value that was parsed can be read
pub reads_value : (value : List ℕ) (o : Option Merged) (next : Merged) → (IsSome o ↔ HasMergeLines value)
    → o ≡ Some next
    → value_reads value ≡ true
reads_value value o next means is = sym (read_is value (is_some o) means) ∙ ap is_some is

-- what was read of the properties of a kept node, by whether they are a property block
abbrev pub AreSaid : Settings → Option Props → Option Mergeinfo → Type 0
AreSaid s found o = (ps : List Property) (p : Props) → found ≡ Some p → IsPropertyBlock (props_bytes p) ps
    → MatchOption o (properties_read ps ≡ false) (λ m. IsSaidBy s ps m)

-- values can be read if mergeinfo was read
said_ok : (s : Settings) (ps : List Property) (o : Option Mergeinfo) → MatchOption o (properties_read ps ≡ false)
    (λ m. IsSaidBy s ps m)
    → is_some o ≡ properties_read ps
said_ok s ps None bad = sym bad
said_ok s ps (Some m) said = sym said.read

-- a kept node's mergeinfo can be read exactly if it isn't bad
pub merge_told : (s : Settings) (r : DumpRecord) (found : Option Props) (o : Option Mergeinfo)
    → IsTrue (is_kept_node s r)
    → (IsSome found ↔ HasPropertyBlock r) → IfSome found (λ p. props_bytes p ≡ r.props)
    → AreSaid s found o → (IsNone found → IsSome o) → IsFalse (is_some o) ↔ ∥ HasBadMergeinfo s r ∥₁
merge_told s r None o kept means is said none =
    let unread = merge_unread s r (λ has. let bad : false ≡ true = means.1 has in cc) in
    subst (λ (b : Bool). IsFalse b ↔ ∥ HasBadMergeinfo s r ∥₁) (sym (none refl)) unread
merge_told s r (Some p) o kept means is said none =
    let (ps, list) = means.0 refl in
    merge_means s r (is_some o) ps kept list
    (said_ok s ps o (said ps p refl (subst (λ (t : List ℕ). IsPropertyBlock t ps) (sym is) list.0)))

-- what mergeinfo says is what the properties say
pub values_told : (s : Settings) (r : DumpRecord) (found : Option Props) (o : Option Mergeinfo)
    → (IsSome found ↔ HasPropertyBlock r) → IfSome found (λ p. props_bytes p ≡ r.props) → AreSaid s found o
    → (ps : List Property) → HasPropertyList r ps → ForSome o (λ m. IsSaidBy s ps m)
values_told s r None o means is said ps list = let bad : false ≡ true = means.1 (ps, list) in cc
values_told s r (Some p) o means is said ps list =
    by_option o (said ps p refl (subst (λ (t : List ℕ). IsPropertyBlock t ps) (sym is) list.0))
  where
    by_option : (o : Option Mergeinfo) → MatchOption o (properties_read ps ≡ false) (λ m. IsSaidBy s ps m)
        → ForSome o (λ m. IsSaidBy s ps m)
    by_option None bad = λ m e. absurd (let no : None ≡ Some m = e in cc)
    by_option (Some m) told = λ n e. subst (IsSaidBy s ps) (let one : m ≡ n = cc in one) told

-- a kept node's properties are needed
pub asked_kept : (s : Settings) (r : DumpRecord) (found : Option PropsReading) (ok : Bool) → IsTrue (is_kept_node s r)
    → ok ≡ is_some found
    → is_some found ≡ (is_asked s r && ok)
asked_kept s r found ok kept is = sym is ∙ ap (λ b. b && ok)
    (sym (or_right (is_revision_record r) (is_kept_node s r) kept))

-- what was read is what the values say, if each can be read
pub said_read : (s : Settings) (ps : List Property) (o : Option Mergeinfo) (none m : Mergeinfo)
    → ForSome o (λ m. IsSaidBy s ps m)
    → is_some o ≡ true → m ≡ unwrap_or o none → IsSaidBy s ps m
said_read s ps None none m said ok is = absurd (false≢true ok)
said_read s ps (Some n) none m said ok is = subst (IsSaidBy s ps) (sym is) (said n refl)

-- mergeinfo, from its parts
pub same_mergeinfo : (m : Mergeinfo) (missed : Bool) (numbers : Bounds) → missed ≡ m.said.misses
    → numbers ≡ m.said.numbers
    → record { found = m.found; said = record { misses = missed; numbers = numbers } } ≡ m
same_mergeinfo m missed numbers is same = rw (is, same) refl

-- for another record no mergeinfo is read, and no copy source
pub content_of_other : (s : Settings) (r : DumpRecord) (v : Verdict) (found : Option PropsReading)
    → IsFalse (is_kept_node s r) → IsVerdict s r v
    → is_some found ≡ (is_asked s r && v.props_ok)
    → ForSome found (λ reading. IsReadingOf reading r.props)
    → IsContent s r (record {
      verdict = v;
      kept = false;
      lost_source = false;
      props = found;
      has_mergeinfo = false;
      misses_source = false;
      numbers = no_bounds;
    })
content_of_other s r v found other verdict asked reading = record {
  verdict_is = verdict;
  kept_is = sym other;
  asked = asked;
  reading = reading;
  said = λ kept. absurd (absurd_bool (is_kept_node s r) kept other);
  lost = λ kept. absurd (absurd_bool (is_kept_node s r) kept other);
}

-- the bytes of a block that was found are these
pub bytes_told : (bytes : List ℕ) (found : Props) → props_bytes found ≡ bytes
    → ForSome (Some found) (λ props. props_bytes props ≡ bytes)
bytes_told bytes found is = λ props e. ap props_bytes (let one : props ≡ found = cc in one) ∙ is

-- the properties that were read of a record are its properties, if they are needed
pub properties_of : (s : Settings) (r : DumpRecord) (c : Content) (found : Option Props) → IsContent s r c
    → is_some found ≡ is_some c.props → ForSome found (λ props. props_bytes props ≡ r.props)
    → IsTrue (is_asked s r)
    → ArePropertiesOf r found
properties_of s r c found is same bytes asked = record {
  bytes = bytes;
  there = (
    λ some. block_stable r (λ none. absurd_bool c.verdict.props_ok
        (second_true (is_asked s r) c.verdict.props_ok (sym is.asked ∙ sym same ∙ some))
        (is.verdict_is.props.1 (asked, none))),
    λ has. same ∙ is.asked ∙ and_from (is_asked s r) c.verdict.props_ok asked
        (true_from_ne_false c.verdict.props_ok (λ bad. (is.verdict_is.props.0 bad).1 has)),
  );
}
