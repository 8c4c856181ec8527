-- Property blocks are cut into entries in one way.
use Rattle.dump_text.proofs.Prelude.{◌≡◌, ◌↔◌, ◌⊎◌, ℕ, ◌<◌, ◌&&◌, ◌||◌, Bool, true, false, List, [], ◌∷◌, ◌++◌, get_or, length, lit<, refl, sym, ap, ◌∙◌, subst, arith, Option, Some, None, is_some, is_none, if◌then◌else◌, inl, inr, codes, bytes_eq, same_Some, and-false, or_assoc, ∥∥₁_elim, Coded-set, coded_list, coded_ℕ, append-nil, Property, sized_text, IsEntry, AreEntries, IsPropertyBlock, block_end, has_deletes, HasPropertyChanges, property_value, IsPartBetween, Parts, Entry, entry_property, Set, Deleted, IsSized, HasSized, HasEntry, HasEntries, IsEntryOf, parts_property, parts_rest}
use Rattle.std.proofs.Common.{append_assoc}
use Rattle.dump_text.proofs.BlockLemmas.{part_of_part}
use Rattle.dump_text.proofs.PartLemmas.{sized_cut, part_once, part_inside}

-- an entry that sets a property is the two parts of its name and its value
pub record SetParts (text : List ℕ) (p : Property) (rest : List ℕ) : Type 0 where
  pub name_digits : List ℕ
  pub value_digits : List ℕ
  pub bytes : List ℕ
  pub behind : List ℕ
  pub set : p.value ≡ Some bytes
  pub name : IsSized 75 text name_digits p.name behind
  pub value : IsSized 86 behind value_digits bytes rest

-- and one that deletes it is the part of its name
pub record DeletedParts (text : List ℕ) (p : Property) (rest : List ℕ) : Type 0 where
  pub digits : List ℕ
  pub none : p.value ≡ None
  pub name : IsSized 68 text digits p.name rest

-- a text begins with an entry, of a value or of a deleted property
abbrev pub EntryParts : List ℕ → Property → List ℕ → Type 0
EntryParts text p rest = SetParts text p rest ⊎ DeletedParts text p rest

-- an entry at the front of a text is its parts
pub entry_parts : (text entry rest : List ℕ) (p : Property) → text ≡ entry ++ rest → IsEntry entry p
    → EntryParts text p rest
entry_parts text entry rest p is (inl (value, set, (d, e, named, valued, spelled))) =
    let first = sized_text (codes "K") d p.name in
    let second = sized_text (codes "V") e value in
    inl (record {
      name_digits = d;
      value_digits = e;
      bytes = value;
      behind = second ++ rest;
      set = set;
      name = record { cut = is ∙ ap (λ t. t ++ rest) spelled ∙ append_assoc first second rest; size = named };
      value = record { cut = refl; size = valued };
    })
entry_parts text entry rest p is (inr (none, (d, named, spelled))) =
    inr (record { digits = d; none = none; name = record { cut = is ∙ ap (λ t. t ++ rest) spelled; size = named } })

-- and such parts are an entry
pub parts_entry : (text : List ℕ) (p : Property) (rest : List ℕ) → EntryParts text p rest
    → (entry : List ℕ) × (text ≡ entry ++ rest) × IsEntry entry p
parts_entry text p rest (inl e) =
    let first = sized_text (codes "K") e.name_digits p.name in
    let second = sized_text (codes "V") e.value_digits e.bytes in (
      first ++ second,
      e.name.cut ∙ ap (λ t. first ++ t) e.value.cut ∙ sym (append_assoc first second rest),
      inl (e.bytes, e.set, (e.name_digits, e.value_digits, e.name.size, e.value.size, refl)),
    )
parts_entry text p rest (inr e) =
    (sized_text (codes "D") e.digits p.name, e.name.cut, inr (e.none, (e.digits, e.name.size, refl)))

-- the parts that the scan finds are those of their property
abbrev pub scanned_parts : (text : List ℕ) (parts : Parts) (rest : List ℕ) → IsEntryOf text parts
    → rest ≡ parts_rest parts
    → EntryParts text (parts_property parts) rest
scanned_parts text (Set name value) rest (named, valued) is = inl (record {
  name_digits = name.digits.now;
  value_digits = value.digits.now;
  bytes = value.bytes.now;
  behind = name.rest.now;
  set = refl;
  name = named;
  value = subst (IsSized 86 name.rest.now value.digits.now value.bytes.now) (sym is) valued;
})
scanned_parts text (Deleted name) rest named is = inr (record {
  digits = name.digits.now;
  none = refl;
  name = subst (IsSized 68 text name.digits.now name.bytes.now) (sym is) named;
})

-- properties of one name and one value are one
pub property-eq : (p q : Property) → p.name ≡ q.name → p.value ≡ q.value → p ≡ q
property-eq p q n v = λ i. record { name = n i; value = v i }

-- a number that is less than another isn't that one
pub apart : (m n : ℕ) → m < n → m ≡ n → ⊥
apart m n below e = omega arith

-- a part begins with its letter
pub begins_with : (letter : ℕ) (text d b x : List ℕ) → IsSized letter text d b x → get_or text 0 0 ≡ letter
begins_with letter text d b x s = ap (λ (t : List ℕ). get_or t 0 0) (s.cut ∙ sized_cut letter d b x)

-- so no text begins with an entry of each kind
pub one_kind : (text : List ℕ) (d b x e c y : List ℕ) → IsSized 75 text d b x → IsSized 68 text e c y → ⊥
one_kind text d b x e c y set deleted =
    apart 68 75 (lit< tt) (sym (begins_with 68 text e c y deleted) ∙ begins_with 75 text d b x set)

-- a text begins with at most one entry
pub entry_once : (text : List ℕ) (p q : Property) (x y : List ℕ) → EntryParts text p x → EntryParts text q y → (p ≡ q)
    × (x ≡ y)
entry_once text p q x y (inl e) (inl f) =
    let names = part_once 75 text text e.name_digits f.name_digits p.name q.name e.behind f.behind e.name f.name refl in
    let values = part_once 86 e.behind f.behind e.value_digits f.value_digits e.bytes f.bytes x y e.value f.value names.2 in
    (property-eq p q names.1 (e.set ∙ ap (λ (v : List ℕ). Some v) values.1 ∙ sym f.set), values.2)
entry_once text p q x y (inl e) (inr f) = absurd (one_kind text _ _ _ _ _ _ e.name f.name)
entry_once text p q x y (inr e) (inl f) = absurd (one_kind text _ _ _ _ _ _ f.name e.name)
entry_once text p q x y (inr e) (inr f) =
    let names = part_once 68 text text e.digits f.digits p.name q.name x y e.name f.name refl in
    (property-eq p q names.1 (e.none ∙ sym f.none), names.2)

-- an entry is neither the end line nor empty
pub no_entry-end : (text : List ℕ) (p : Property) (rest : List ℕ) → EntryParts text p rest → text ≡ block_end → ⊥
no_entry-end text p rest e is = elim e [
  | inl s ↦ apart 75 80 (lit< tt) (sym (begins_with 75 text _ _ _ s.name) ∙ ap (λ (t : List ℕ). get_or t 0 0) is)
  | inr d ↦ apart 68 80 (lit< tt) (sym (begins_with 68 text _ _ _ d.name) ∙ ap (λ (t : List ℕ). get_or t 0 0) is)
]

no_entry-empty : (text : List ℕ) (p : Property) (rest : List ℕ) → EntryParts text p rest → text ≡ [] → ⊥
no_entry-empty text p rest e is = elim e [
  | inl s ↦ apart 0 75 (lit< tt) (sym (ap (λ (t : List ℕ). get_or t 0 0) is) ∙ begins_with 75 text _ _ _ s.name)
  | inr d ↦ apart 0 68 (lit< tt) (sym (ap (λ (t : List ℕ). get_or t 0 0) is) ∙ begins_with 68 text _ _ _ d.name)
]

-- entries and their end line are those of at most one list
pub entries_once : (text : List ℕ) (ps qs : List Property) → AreEntries text ps → AreEntries text qs → ps ≡ qs
entries_once text [] [] e f = refl
entries_once text [] (q ∷ qs) e (entry, rest, is, one, more) =
    let parts = entry_parts text entry rest q is one in absurd (no_entry-end text q rest parts e)
entries_once text (p ∷ ps) [] (entry, rest, is, one, more) f =
    let parts = entry_parts text entry rest p is one in absurd (no_entry-end text p rest parts f)
entries_once text (p ∷ ps) (q ∷ qs) (entry, rest, is, one, more) (entry', rest', is', one', more') =
    let same = entry_once text p q rest rest' (entry_parts text entry rest p is one)
    (entry_parts text entry' rest' q is' one') in
    let others = entries_once rest ps qs more (subst (λ (t : List ℕ). AreEntries t qs) (sym same.1) more') in
    λ i. same.0 i ∷ others i

-- entries and their end line aren't empty
pub entries_some : (text : List ℕ) (ps : List Property) → AreEntries text ps → text ≡ [] → ⊥
entries_some text [] e is = let bad : block_end ≡ [] = sym e ∙ is in cc
entries_some text (p ∷ ps) (entry, rest, cut, one, more) is =
    let parts = entry_parts text entry rest p cut one in no_entry-empty text p rest parts is

-- a text is the property block of at most one list
pub property_block_once : (text : List ℕ) (ps qs : List Property) → IsPropertyBlock text ps → IsPropertyBlock text qs
    → ps ≡ qs
property_block_once text ps qs b c = elim b [
  | inl e ↦ elim c [
    | inl f ↦ e.1 ∙ sym f.1
    | inr f ↦ absurd (entries_some text qs f e.0)
  ]
  | inr e ↦ elim c [
    | inl f ↦ absurd (entries_some text ps e f.0)
    | inr f ↦ entries_once text ps qs e f
  ]
]

-- if the part of the value is missing, there is no entry
pub no_entry-value : (text d b x : List ℕ) → IsSized 75 text d b x → ¬ HasSized 86 x → ¬ HasEntry text
no_entry-value text d b x named none (p, entry, rest, is, one) = elim (entry_parts text entry rest p is one) [
  | inl e ↦
      let names = part_once 75 text text d e.name_digits b p.name x e.behind named e.name refl in
      none (e.value_digits, e.bytes, rest, record { cut = names.2 ∙ e.value.cut; size = e.value.size })
  | inr e ↦ one_kind text d b x e.digits p.name rest named e.name
]

-- and if neither part of a name is there
pub no_entry-name : (text : List ℕ) → ¬ HasSized 75 text → ¬ HasSized 68 text → ¬ HasEntry text
no_entry-name text no_set no_delete (p, entry, rest, is, one) = elim (entry_parts text entry rest p is one) [
  | inl e ↦ no_set (e.name_digits, p.name, e.behind, e.name)
  | inr e ↦ no_delete (e.digits, p.name, rest, e.name)
]

-- an entry takes a byte or more
pub entry_shorter : (text : List ℕ) (p : Property) (rest : List ℕ) → EntryParts text p rest → length rest < length text
entry_shorter text p rest (inl e) =
    let first = (part_inside 75 text e.name_digits p.name e.behind e.name.cut).1 in
    let second = (part_inside 86 e.behind e.value_digits e.bytes rest e.value.cut).1 in
    omega arith
entry_shorter text p rest (inr e) = (part_inside 68 text e.digits p.name rest e.name.cut).1

-- what is left of a property block after its first entry
pub record Left (ps : List Property) (p : Property) (rest : List ℕ) : Type 0 where
  pub others : List Property
  pub list : ps ≡ p ∷ others
  pub entries : AreEntries rest others

-- after its first entry a property block is that of the other properties
pub left_of : (text : List ℕ) (p : Property) (rest : List ℕ) (ps : List Property) → EntryParts text p rest
    → IsPropertyBlock text ps → Left ps p rest
left_of text p rest ps e b = elim b [
  | inl none ↦ absurd (no_entry-empty text p rest e none.0)
  | inr all ↦ of_entries ps all
]
  where
    of_entries : (ps : List Property) → AreEntries text ps → Left ps p rest
    of_entries [] all = absurd (no_entry-end text p rest e all)
    of_entries (q ∷ qs) (entry, behind, is, one, more) =
        let same = entry_once text q p behind rest (entry_parts text entry behind q is one) e in
        record {
          others = qs;
          list = λ i. same.0 i ∷ qs;
          entries = subst (λ (t : List ℕ). AreEntries t qs) same.1 more;
        }

-- the rest after an entry is the property block of some list, if the whole is
pub properties_left : (text : List ℕ) (p : Property) (rest : List ℕ) → EntryParts text p rest → HasPropertyChanges text
    → HasPropertyChanges rest
properties_left text p rest e (ps, b) = let left = left_of text p rest ps e b in (left.others, inr left.entries)

-- entries after one more
pub entries_more : (text : List ℕ) (p : Property) (rest : List ℕ) → EntryParts text p rest → HasEntries text
    ↔ HasEntries rest
entries_more text p rest e = (
  λ (ps, all). let left = left_of text p rest ps e (inr all) in (left.others, left.entries),
  λ (ps, all). let (entry, is, one) = parts_entry text p rest e in (p ∷ ps, (entry, rest, is, one, all)),
)

-- whether an entry so far or one of those left deletes a property, after one more entry
pub deletes_step : (ps : List Property) (deletes : Bool) (text : List ℕ) (p : Property) (rest : List ℕ)
    → EntryParts text p rest
    → ((qs : List Property) × AreEntries text qs × (has_deletes ps ≡ (deletes || has_deletes qs)))
    → (qs : List Property) × AreEntries rest qs × (has_deletes ps ≡ ((deletes || is_none p.value) || has_deletes qs))
deletes_step ps deletes text p rest e (qs, all, is) =
    let left = left_of text p rest qs e (inr all) in (
      left.others,
      left.entries,
      is ∙ ap (λ (l : List Property). deletes || has_deletes l) left.list
          ∙ sym (or_assoc deletes (is_none p.value) (has_deletes left.others)),
    )

-- an entry deletes its property exactly if the property has no value
pub gone_is : (e : Entry) (p : Property) → entry_property e ≡ p → e.gone ≡ is_none p.value
gone_is e p same = by_gone e.gone ∙ ap (λ (q : Property). is_none q.value) same
  where
    by_gone : (b : Bool) → b ≡ is_none (if b then None else Some e.value.now)
    by_gone true = refl
    by_gone false = refl

end_of : (text : List ℕ) (ps : List Property) → ¬ HasEntry text → AreEntries text ps → text ≡ block_end
end_of text [] none all = all
end_of text (p ∷ ps) none (entry, rest, is, one, more) = absurd (none (p, entry, rest, is, one))

-- if no entry comes first, only the end line is left
pub entries_end : (text : List ℕ) → ¬ HasEntry text → HasEntries text ↔ (text ≡ block_end)
entries_end text none = (λ (ps, all). end_of text ps none all, λ is. ([], is))

-- a property block that begins with no entry is the line that ends it
pub block_ends : (text : List ℕ) → ¬ HasEntry text → ∥ HasPropertyChanges text ∥₁ → IsPropertyBlock text []
block_ends [] none reads = inl (refl, refl)
block_ends (c ∷ text) none reads =
    inr (∥∥₁_elim reads (Coded-set (coded_list coded_ℕ) (c ∷ text) block_end) (λ (ps, b). elim b [
      | inl empty ↦ let bad : c ∷ text ≡ [] = empty.0 in cc
      | inr all ↦ end_of (c ∷ text) ps none all
    ]))

-- the value of a name after an entry of another, or after one that is deleted
pub value_behind : (name : List ℕ) (p : Property) (ps : List Property)
    → (bytes_eq p.name name && is_some p.value) ≡ false
    → property_value name (p ∷ ps) ≡ property_value name ps
value_behind name p ps other = rw other refl

-- the value of an entry of this name
pub value_here : (name : List ℕ) (p : Property) (ps : List Property) → (bytes_eq p.name name && is_some p.value) ≡ true
    → property_value name (p ∷ ps) ≡ p.value
value_here name p ps this = rw this refl

-- an entry that doesn't delete has its value
pub value_there : (e : Entry) → e.gone ≡ false → (entry_property e).value ≡ Some e.value.now
value_there e set = ap (λ b. if b then None else Some e.value.now) set

-- and one that deletes has none
pub no_value_there : (e : Entry) (name : List ℕ) → e.gone ≡ true
    → (bytes_eq e.name.now name && is_some (entry_property e).value) ≡ false
no_value_there e name gone =
    ap (λ b. bytes_eq e.name.now name && is_some (if b then None else Some e.value.now)) gone
    ∙ and-false (bytes_eq e.name.now name)

-- the rest and the value of an entry are parts of the block
part_behind : (dump : List ℕ) (place after : ℕ) (x y : List ℕ) → IsPartBetween dump place after (x ++ y)
    → IsPartBetween dump place after y
part_behind dump place after x y part =
    part_of_part dump place after x y [] (subst (λ (t : List ℕ). IsPartBetween dump place after (x ++ t))
    (sym (append-nil y)) part)

-- the value of an entry is in its block
pub value_between : (dump : List ℕ) (place after : ℕ) (text : List ℕ) (p : Property) (rest value : List ℕ)
    → EntryParts text p rest
    → p.value ≡ Some value → IsPartBetween dump place after text → IsPartBetween dump place after value
value_between dump place after text p rest value (inl e) set part =
    let line = 86 ∷ 32 ∷ (e.value_digits ++ 10 ∷ []) in
    let behind = part_behind dump place after (sized_text (codes "K") e.name_digits p.name) e.behind
    (subst (IsPartBetween dump place after) e.name.cut part) in
    let cut : e.behind ≡ line ++ (e.bytes ++ 10 ∷ rest) =
    e.value.cut ∙ sized_cut 86 e.value_digits e.bytes rest
    ∙ ap (λ t. 86 ∷ 32 ∷ t) (sym (append_assoc e.value_digits (10 ∷ []) (e.bytes ++ 10 ∷ rest))) in
    let same : Path (Option (List ℕ)) (Some e.bytes) (Some value) = sym e.set ∙ set in
    subst (IsPartBetween dump place after) (same_Some e.bytes value same)
    (part_of_part dump place after line e.bytes (10 ∷ rest) (subst (IsPartBetween dump place after) cut behind))
value_between dump place after text p rest value (inr e) set part =
    let bad : Path (Option (List ℕ)) None (Some value) = sym e.none ∙ set in cc

-- what follows an entry is in its block
pub rest_between : (dump : List ℕ) (place after : ℕ) (text : List ℕ) (p : Property) (rest : List ℕ)
    → EntryParts text p rest
    → IsPartBetween dump place after text → IsPartBetween dump place after rest
rest_between dump place after text p rest (inl e) part =
    part_behind dump place after (sized_text (codes "V") e.value_digits e.bytes) rest
    (subst (IsPartBetween dump place after) e.value.cut
    (part_behind dump place after (sized_text (codes "K") e.name_digits p.name) e.behind
    (subst (IsPartBetween dump place after) e.name.cut part)))
rest_between dump place after text p rest (inr e) part =
    part_behind dump place after (sized_text (codes "D") e.digits p.name) rest
    (subst (IsPartBetween dump place after) e.name.cut part)
