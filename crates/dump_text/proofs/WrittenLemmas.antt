-- A property block as it is written: which texts are one, and that it is read again as its list.
use Rattle.std.proofs.lemmas.Bool.{and_from, false_from_ne_true}
use Rattle.dump_text.proofs.Prelude.{◌≡◌, ◌↔◌, ◌⊎◌, ℕ, ◌<◌, ◌^◌, ◌&&◌, Bool, true, false, List, [], ◌∷◌, ◌++◌, get_or, length, lit<, flat_map, refl, sym, ap, ◌∙◌, subst, arith, Option, Some, None, inl, inr, codes, bytes_eq, same_Some, none-some, All, All-nil, All-cons, All-head, All-tail, same_from_decides, bytes_eq-Decides, spelled_number, Property, sized_text, IsEntry, AreEntries, IsPropertyBlock, block_end, change_text, entry_text, property_block_text, HasPropertyChanges, Parts, Set, Deleted, IsSized, IsEntryOf, IsWritten, parts_property, parts_rest, is_shortest, are_shortest}
use Rattle.std.proofs.Common.{append_assoc}
use Rattle.dump_text.proofs.BoolLemmas.{first_true, second_true}
use Rattle.dump_text.proofs.PartLemmas.{number_spells, spelled_spells, number_of-spelled, sized_once, part_inside}
use Rattle.dump_text.proofs.PropertyLemmas.{EntryParts, entry_parts, scanned_parts, entry_shorter, property-eq, apart, begins_with, no_entry-end}

-- no length of an entry has leading zeros
abbrev pub AreShortest : (text : List ℕ) (p : Property) (rest : List ℕ) → EntryParts text p rest → Type 0
AreShortest text p rest (inl e) =
    (e.name_digits ≡ spelled_number (length p.name)) × (e.value_digits ≡ spelled_number (length e.bytes))
AreShortest text p rest (inr e) = e.digits ≡ spelled_number (length p.name)

written_cons : (p : Property) (ps : List Property)
    → property_block_text (p ∷ ps) ≡ entry_text p ++ property_block_text ps
written_cons p ps = append_assoc (entry_text p) (flat_map entry_text ps) block_end

-- a length and bytes that are written are those that are read
written_part : (letter : ℕ) (text d b x c y : List ℕ) → IsSized letter text d b x → length text < 2 ^ 64
    → text ≡ sized_text (letter ∷ []) (spelled_number (length c)) c ++ y
    → (d ≡ spelled_number (length b)) × (b ≡ c) × (x ≡ y)
written_part letter text d b x c y s small is =
    let size = (part_inside letter text (spelled_number (length c)) c y is).0 in
    let once = sized_once letter d (spelled_number (length c)) b c x y (number_spells d (length b) s.size)
    (spelled_spells (length c) (omega arith)) (sym s.cut ∙ is) in
    (once.0 ∙ ap (λ (t : List ℕ). spelled_number (length t)) (sym once.1), once.1, once.2)

-- an entry that is written is the one that is read
written_once : (text : List ℕ) (p q : Property) (rest more : List ℕ) (e : EntryParts text p rest) → length text < 2 ^ 64
    → text ≡ entry_text q ++ more → AreShortest text p rest e × (p ≡ q) × (rest ≡ more)
written_once text p q rest more e small is = cases e q.value refl is
  where
    cases : (e : EntryParts text p rest) (v : Option (List ℕ)) → q.value ≡ v → text ≡ change_text q.name v ++ more
        → AreShortest text p rest e × (p ≡ q) × (rest ≡ more)
    cases (inl e) (Some value) set is =
        let first = sized_text (codes "K") (spelled_number (length q.name)) q.name in
        let second = sized_text (codes "V") (spelled_number (length value)) value in
        let cut : text ≡ first ++ (second ++ more) = is ∙ append_assoc first second more in
        let shorter = (part_inside 75 text e.name_digits p.name e.behind e.name.cut).1 in
        let names = written_part 75 text e.name_digits p.name e.behind q.name (second ++ more) e.name small cut in
        let values = written_part 86 e.behind e.value_digits e.bytes rest value more e.value (omega arith) names.2 in (
          (names.0, values.0),
          property-eq p q names.1 (e.set ∙ ap (λ (b : List ℕ). Some b) values.1 ∙ sym set),
          values.2,
        )
    cases (inl e) None none is = absurd (apart 68 75 (lit< tt)
        (sym (ap (λ (t : List ℕ). get_or t 0 0) is) ∙ begins_with 75 text _ _ _ e.name))
    cases (inr e) (Some value) set is = absurd (apart 68 75 (lit< tt)
        (sym (begins_with 68 text _ _ _ e.name) ∙ ap (λ (t : List ℕ). get_or t 0 0) is))
    cases (inr e) None none is =
        let names = written_part 68 text e.digits p.name rest q.name more e.name small is in
        (names.0, property-eq p q names.1 (e.none ∙ sym none), names.2)

-- what is written of a property begins with its letter
written_letter : (name : List ℕ) (v : Option (List ℕ)) (more : List ℕ)
    → (get_or (change_text name v ++ more) 0 0 ≡ 75) ⊎ (get_or (change_text name v ++ more) 0 0 ≡ 68)
written_letter name (Some value) more = inl refl
written_letter name None more = inr refl

pub written_left : (text : List ℕ) (p : Property) (rest : List ℕ) (e : EntryParts text p rest) → length text < 2 ^ 64
    → IsWritten text
    → AreShortest text p rest e × IsWritten rest
written_left text p rest e small ([], is) = absurd (no_entry-end text p rest e is)
written_left text p rest e small (q ∷ qs, is) =
    let once = written_once text p q rest (property_block_text qs) e small (is ∙ written_cons q qs) in
    (once.0, (qs, once.2))

pub written_more : (text : List ℕ) (p : Property) (rest : List ℕ) (e : EntryParts text p rest)
    → AreShortest text p rest e
    → IsWritten rest → IsWritten text
written_more text p rest (inl e) short (ps, is) =
    let first = sized_text (codes "K") (spelled_number (length p.name)) p.name in
    let second = sized_text (codes "V") (spelled_number (length e.bytes)) e.bytes in
    let entry : entry_text p ≡ first ++ second = ap (change_text p.name) e.set in (
      p ∷ ps,
      e.name.cut ∙ ap (λ (d : List ℕ). sized_text (codes "K") d p.name ++ e.behind) short.0
          ∙ ap (λ t. first ++ t) (e.value.cut ∙ ap (λ (d : List ℕ). sized_text (codes "V") d e.bytes ++ rest) short.1
          ∙ ap (λ t. second ++ t) is)
          ∙ sym (append_assoc first second (property_block_text ps))
          ∙ ap (λ (t : List ℕ). t ++ property_block_text ps) (sym entry) ∙ sym (written_cons p ps),
    )
written_more text p rest (inr e) short (ps, is) =
    let first = sized_text (codes "D") (spelled_number (length p.name)) p.name in
    let entry : entry_text p ≡ first = ap (change_text p.name) e.none in (
      p ∷ ps,
      e.name.cut ∙ ap (λ (d : List ℕ). sized_text (codes "D") d p.name ++ rest) short ∙ ap (λ t. first ++ t) is
          ∙ ap (λ (t : List ℕ). t ++ property_block_text ps) (sym entry) ∙ sym (written_cons p ps),
    )

-- whether the parts that the scan found have no leading zeros
pub scanned_shortest : (text : List ℕ) (parts : Parts) (rest : List ℕ) (found : IsEntryOf text parts)
    (is : rest ≡ parts_rest parts)
    → (are_shortest parts ≡ true)
    ↔ AreShortest text (parts_property parts) rest (scanned_parts text parts rest found is)
scanned_shortest text (Set name value) rest found is = (
  λ both. (
    (bytes_eq-Decides _ _).0 (first_true (is_shortest name) (is_shortest value) both),
    (bytes_eq-Decides _ _).0 (second_true (is_shortest name) (is_shortest value) both),
  ),
  λ (first, second).
      and_from (is_shortest name) (is_shortest value) ((bytes_eq-Decides _ _).1 first)
      ((bytes_eq-Decides _ _).1 second),
)
scanned_shortest text (Deleted name) rest found is = ((bytes_eq-Decides _ _).0, (bytes_eq-Decides _ _).1)

-- after an entry whose lengths are shortest the rest decides; after any other entry the text isn't as the filter
-- writes it
pub written_step : (whole text : List ℕ) (p : Property) (rest : List ℕ) (e : EntryParts text p rest)
    (spelled shortest : Bool) → length text < 2 ^ 64
    → (shortest ≡ true) ↔ AreShortest text p rest e
    → IsWritten whole ↔ ((spelled ≡ true) × IsWritten text)
    → IsWritten whole ↔ (((spelled && shortest) ≡ true) × IsWritten rest)
written_step whole text p rest e spelled shortest small short before = (
  λ written. let (so, left) = before.0 written in
      let (is, more) = written_left text p rest e small left in (and_from spelled shortest so (short.1 is), more),
  λ (so, left). before.1 (
    first_true spelled shortest so,
    written_more text p rest e (short.0 (second_true spelled shortest so)) left,
  ),
)

-- no written text is empty
no_text : (ps : List Property) → [] ≡ property_block_text ps → ⊥
no_text [] is = cc
no_text (p ∷ ps) is =
    let first = ap (λ (t : List ℕ). get_or t 0 0) (is ∙ written_cons p ps) in
    elim (written_letter p.name p.value (property_block_text ps)) [
      | inl set ↦ apart 0 75 (lit< tt) (first ∙ set)
      | inr deleted ↦ apart 0 68 (lit< tt) (first ∙ deleted)
    ]

-- a written entry isn't the end
no_entry-written : (p : Property) (ps : List Property) → property_block_text (p ∷ ps) ≡ block_end → ⊥
no_entry-written p ps is =
    let first = ap (λ (t : List ℕ). get_or t 0 0) (sym (written_cons p ps) ∙ is) in
    elim (written_letter p.name p.value (property_block_text ps)) [
      | inl set ↦ apart 75 80 (lit< tt) (sym set ∙ first)
      | inr deleted ↦ apart 68 80 (lit< tt) (sym deleted ∙ first)
    ]

-- the lengths of a property's name and value are numbers that can be read
pub record IsShort (p : Property) : Type 0 where
  pub name : length p.name < 10 ^ 18
  pub value : (value : List ℕ) → p.value ≡ Some value → length value < 10 ^ 18

written_entry : (p : Property) → IsShort p → IsEntry (entry_text p) p
written_entry p short = cases p.value refl
  where
    cases : (v : Option (List ℕ)) → p.value ≡ v → IsEntry (change_text p.name v) p
    cases (Some value) set = inl (
      value,
      set,
      (
        spelled_number (length p.name),
        spelled_number (length value),
        number_of-spelled (length p.name) short.name,
        number_of-spelled (length value) (short.value value set),
        refl,
      ),
    )
    cases None none = inr (none, (spelled_number (length p.name), number_of-spelled (length p.name) short.name, refl))

-- a property block that is written is read as its list
pub written_block : (ps : List Property) → All IsShort ps → IsPropertyBlock (property_block_text ps) ps
written_block ps short = inr (entries ps short)
  where
    entries : (ps : List Property) → All IsShort ps → AreEntries (property_block_text ps) ps
    entries [] short = refl
    entries (p ∷ ps) short = (
      entry_text p,
      property_block_text ps,
      written_cons p ps,
      written_entry p (All-head IsShort p ps short),
      entries ps (All-tail IsShort p ps short),
    )

-- and so is one that isn't too long itself
pub short_block : (ps : List Property) → length (property_block_text ps) < 10 ^ 18
    → IsPropertyBlock (property_block_text ps) ps
short_block ps small = written_block ps (all ps small)
  where
    one : (p : Property) (v : Option (List ℕ)) (more : List ℕ) → p.value ≡ v
        → length (change_text p.name v ++ more) < 10 ^ 18 → IsShort p × (length more < 10 ^ 18)
    one p (Some value) more set small =
        let first = sized_text (codes "K") (spelled_number (length p.name)) p.name in
        let second = sized_text (codes "V") (spelled_number (length value)) value in
        let named = part_inside 75 (change_text p.name (Some value) ++ more) (spelled_number (length p.name)) p.name
        (second ++ more) (append_assoc first second more) in
        let valued = part_inside 86 (second ++ more) (spelled_number (length value)) value more refl in
        let name_size = named.0 in
        let behind_size = named.1 in
        let value_size = valued.0 in
        let more_size = valued.1 in
        let value_small : length value < 10 ^ 18 = omega arith in (
          record {
            name = omega arith;
            value = λ w is. subst (λ (b : List ℕ). length b < 10 ^ 18) (same_Some value w (sym set ∙ is)) value_small;
          },
          omega arith,
        )
    one p None more none small =
        let sizes = part_inside 68 (change_text p.name None ++ more)
        (spelled_number (length p.name)) p.name more refl in
        let name_size = sizes.0 in
        let more_size = sizes.1 in
        (record { name = omega arith; value = λ w is. absurd (none-some w (sym none ∙ is)) }, omega arith)

    all : (ps : List Property) → length (property_block_text ps) < 10 ^ 18 → All IsShort ps
    all [] small = All-nil IsShort
    all (p ∷ ps) small =
        let (short, more) = one p p.value (property_block_text ps) refl
        (subst (λ (t : List ℕ). length t < 10 ^ 18) (written_cons p ps) small) in
        All-cons IsShort p ps short (all ps more)

-- the list that is read of a written text is the list that was written
pub written_list : (text : List ℕ) (ps qs : List Property) → length text < 2 ^ 64 → IsPropertyBlock text ps
    → text ≡ property_block_text qs → ps ≡ qs
written_list text ps qs small (inl empty) is = absurd (no_text qs (sym empty.0 ∙ is))
written_list text ps qs small (inr all) is = lists text ps qs small all is
  where
    lists : (text : List ℕ) (ps qs : List Property) → length text < 2 ^ 64 → AreEntries text ps
        → text ≡ property_block_text qs → ps ≡ qs
    lists text [] [] small all is = refl
    lists text [] (q ∷ qs) small all is = absurd (no_entry-written q qs (sym is ∙ all))
    lists text (p ∷ ps) [] small (entry, rest, cut, one, more) is =
        let e = entry_parts text entry rest p cut one in absurd (no_entry-end text p rest e is)
    lists text (p ∷ ps) (q ∷ qs) small (entry, rest, cut, one, more) is =
        let e = entry_parts text entry rest p cut one in
        let once = written_once text p q rest (property_block_text qs) e small (is ∙ written_cons q qs) in
        let shorter = entry_shorter text p rest e in
        let others = lists rest ps qs (omega arith) more once.2 in
        λ i. once.1 i ∷ others i

-- whether a property block is as it is written, by its list
pub spelled_is : (text : List ℕ) (spelled : Bool) → length text < 2 ^ 64 → (spelled ≡ true → IsWritten text)
    → (IsWritten text → spelled ≡ true)
    → (ps : List Property) → IsPropertyBlock text ps → spelled ≡ bytes_eq text (property_block_text ps)
spelled_is text spelled small to from ps is = same_from_decides {P = text ≡ property_block_text ps} spelled _ (
  λ so. let (qs, at) = to so in at ∙ ap property_block_text (sym (written_list text ps qs small is at)),
  λ same. from (ps, same),
) (bytes_eq-Decides text (property_block_text ps))

-- no bytes are no property block as it is written
pub none_spelled : (text : List ℕ) → text ≡ [] → (ps : List Property) → false ≡ bytes_eq text (property_block_text ps)
none_spelled text none ps = sym (false_from_ne_true _ (λ same.
    no_text ps (sym none ∙ (bytes_eq-Decides text (property_block_text ps)).0 same)))

-- and the other way: what is known by the list holds of the bytes
pub written_is : (text : List ℕ) (spelled : Bool) → length text < 2 ^ 64 → HasPropertyChanges text
    → ((ps : List Property) → IsPropertyBlock text ps → spelled ≡ bytes_eq text (property_block_text ps))
    → (spelled ≡ true) ↔ IsWritten text
written_is text spelled small (ps, is) known = (
  λ so. (ps, (bytes_eq-Decides text (property_block_text ps)).0 (sym (known ps is) ∙ so)),
  λ (qs, at). known ps is ∙ (bytes_eq-Decides text (property_block_text ps)).1
      (at ∙ ap property_block_text (sym (written_list text ps qs small is at))),
)
