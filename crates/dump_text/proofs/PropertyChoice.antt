-- Each text is a property block or is none. So a text is one if it is false that it is none.
use Rattle.dump_text.proofs.Prelude.{◌≡◌, ◌⊎◌, ℕ, zero, suc, ◌+◌, ◌<◌, ◌≤◌, nat_lt, Bool, true, false, ◌==◌, List, [], ◌∷◌, ◌++◌, take, drop, length, get_or, refl, sym, ap, ◌∙◌, arith, Option, Some, None, inl, inr, bytes_eq, ∥∥₁_elim, take-append-drop, drop_more, length-take-le, eqb-true, eqb-false, bytes_eq-Decides, number_of, Property, block_end, HasPropertyChanges, IsFirstLine, IsSized, HasSized, HasEntry, HasEntries}
use borrow.Author.Tests.{ltb-true, ltb-false}
use Rattle.dump_text.proofs.Unique.{tail-eq}
use Rattle.dump_text.proofs.ScanLemmas.{clash}
use Rattle.dump_text.proofs.Splits.{Split, split}
use Rattle.dump_text.proofs.Splits.Split.{Cut, Lacks}
use Rattle.dump_text.proofs.PartLemmas.{sized_cut, line_of, no_sized-number, sized_room}
use Rattle.dump_text.proofs.PropertyLemmas.{EntryParts, no_entry-name, no_entry-value, entry_shorter, entries_more, entries_end}

-- the part of this letter at the front of a text, or that there is none
data Sized (letter : ℕ) (text : List ℕ) : Type 0 where
  Part : (digits bytes rest : List ℕ) → IsSized letter text digits bytes rest → Sized letter text
  NoPart : ¬ HasSized letter text → Sized letter text

-- lists that are one begin with one element
pub first_of : (a b : ℕ) (x y : List ℕ) → a ∷ x ≡ b ∷ y → a ≡ b
first_of a b x y e = cc

-- a part begins with its letter and a space
begins : (letter c s : ℕ) (behind d b x : List ℕ) → IsSized letter (c ∷ s ∷ behind) d b x → (c ≡ letter) × (s ≡ 32)
begins letter c s behind d b x part =
    let more = d ++ 10 ∷ (b ++ 10 ∷ x) in
    let whole = part.cut ∙ sized_cut letter d b x in (
      first_of c letter (s ∷ behind) (32 ∷ more) whole,
      first_of s 32 behind more
          (tail-eq c letter (s ∷ behind) (32 ∷ more) whole),
    )

-- after the letter and the space
sized_line-choice : (letter : ℕ) (behind : List ℕ) → Sized letter (letter ∷ 32 ∷ behind)
sized_line-choice letter behind = by_line (split 10 behind)
  where
    by_line : Split 10 behind → Sized letter (letter ∷ 32 ∷ behind)
    by_line (Lacks lacks) = NoPart (λ (d, b, x, s). clash 10 d (b ++ 10 ∷ x) behind lacks
        (line_of letter (letter ∷ 32 ∷ behind) behind d b x refl s))
    by_line (Cut digits rest cut one_line) = by_number (number_of digits) refl
      where
        first : IsFirstLine behind digits rest
        first = record { cut = cut; one_line = one_line }

        by_number : (r : Option ℕ) → number_of digits ≡ r → Sized letter (letter ∷ 32 ∷ behind)
        by_number None read = NoPart (no_sized-number letter (letter ∷ 32 ∷ behind) behind digits rest refl first read)
        by_number (Some size) read = by_room (nat_lt size (length rest)) refl (get_or rest size 0 == 10) refl
          where
            by_room : (t : Bool) → nat_lt size (length rest) ≡ t → (u : Bool) → (get_or rest size 0 == 10) ≡ u
                → Sized letter (letter ∷ 32 ∷ behind)
            by_room false short u lf = NoPart (λ has.
                let room = (sized_room letter (letter ∷ 32 ∷ behind) behind digits rest size refl first read has).0 in
                let few = ltb-false size (length rest) short in
                absurd (omega arith))
            by_room true room false lf = NoPart (λ has.
                eqb-false (get_or rest size 0) 10 lf
                (sized_room letter (letter ∷ 32 ∷ behind) behind digits rest size refl first read has).1)
            by_room true room true lf =
                let below = ltb-true size (length rest) room in
                let bytes = take size rest in
                let after = drop (size + 1) rest in
                let is : rest ≡ bytes ++ 10 ∷ after =
                sym (take-append-drop size rest) ∙ ap (λ t. bytes ++ t)
                (drop_more rest size 0 below ∙ ap (λ c. c ∷ after) (eqb-true (get_or rest size 0) 10 lf)) in
                Part digits bytes after record {
                  cut = ap (λ t. letter ∷ 32 ∷ t) (cut ∙ ap (λ t. digits ++ 10 ∷ t) is)
                      ∙ sym (sized_cut letter digits bytes after);
                  size = read ∙ ap (λ (n : ℕ). Some n) (sym (length-take-le size rest (omega arith)));
                }

sized_choice : (letter : ℕ) (text : List ℕ) → Sized letter text
sized_choice letter [] = NoPart (λ (d, b, x, s). let bad : [] ≡ letter ∷ 32 ∷ (d ++ 10 ∷ (b ++ 10 ∷ x)) = s.cut
    ∙ sized_cut letter d b x in cc)
sized_choice letter (c ∷ []) = NoPart (λ (d, b, x, s). let bad : c ∷ [] ≡ letter ∷ 32 ∷
    (d ++ 10 ∷ (b ++ 10 ∷ x)) = s.cut ∙ sized_cut letter d b x in cc)
sized_choice letter (c ∷ s ∷ behind) = by_letter (c == letter) refl (s == 32) refl
  where
    by_letter : (t : Bool) → (c == letter) ≡ t → (u : Bool) → (s == 32) ≡ u → Sized letter (c ∷ s ∷ behind)
    by_letter false other u space = NoPart (λ (d, b, x, part). eqb-false c letter other
        (begins letter c s behind d b x part).0)
    by_letter true is false other = NoPart (λ (d, b, x, part). eqb-false s 32 other
        (begins letter c s behind d b x part).1)
    by_letter true is true space = rw (eqb-true c letter is, eqb-true s 32 space) (sized_line-choice letter behind)

-- the entry at the front of a text, or that there is none
data Front (text : List ℕ) : Type 0 where
  Entry : (p : Property) (rest : List ℕ) → EntryParts text p rest → Front text
  NoEntry : ¬ HasEntry text → Front text

front_choice : (text : List ℕ) → Front text
front_choice text = by_name (sized_choice 75 text)
  where
    by_name : Sized 75 text → Front text
    by_name (NoPart no_set) = by_deleted (sized_choice 68 text)
      where
        by_deleted : Sized 68 text → Front text
        by_deleted (NoPart no_delete) = NoEntry (no_entry-name text no_set no_delete)
        by_deleted (Part d b x named) =
            Entry (record { name = b; value = None }) x (inr (record { digits = d; none = refl; name = named }))
    by_name (Part d b x named) = by_value (sized_choice 86 x)
      where
        by_value : Sized 86 x → Front text
        by_value (NoPart none) = NoEntry (no_entry-value text d b x named none)
        by_value (Part e c y valued) = Entry (record { name = b; value = Some c }) y (inl (record {
          name_digits = d;
          value_digits = e;
          bytes = c;
          behind = x;
          set = refl;
          name = named;
          value = valued;
        }))

-- entries up to their end, or that there are none such
entries_step : (text : List ℕ) → ((rest : List ℕ) → length rest < length text → HasEntries rest ⊎ (¬ HasEntries rest))
    → HasEntries text ⊎ (¬ HasEntries text)
entries_step text more = by_front (front_choice text)
  where
    by_front : Front text → HasEntries text ⊎ (¬ HasEntries text)
    by_front (Entry p rest e) = elim (more rest (entry_shorter text p rest e)) [
      | inl has ↦ inl ((entries_more text p rest e).1 has)
      | inr none ↦ inr (λ has. none ((entries_more text p rest e).0 has))
    ]
    by_front (NoEntry none) = by_end (bytes_eq text block_end) refl
      where
        by_end : (t : Bool) → bytes_eq text block_end ≡ t → HasEntries text ⊎ (¬ HasEntries text)
        by_end true is = inl ((entries_end text none).1 ((bytes_eq-Decides text block_end).0 is))
        by_end false other = inr (λ has.
            let is = (bytes_eq-Decides text block_end).1 ((entries_end text none).0 has) in
            let bad : false ≡ true = sym other ∙ is in
            cc)

entries_choice : (fuel : ℕ) (text : List ℕ) → length text ≤ fuel → HasEntries text ⊎ (¬ HasEntries text)
entries_choice zero text small = entries_step text (λ rest less. absurd (omega arith))
entries_choice (suc fuel) text small = entries_step text (λ rest less. entries_choice fuel rest (omega arith))

-- a text is a property block or is none
pub changes_or_not : (text : List ℕ) → HasPropertyChanges text ⊎ (¬ HasPropertyChanges text)
changes_or_not [] = inl ([], inl (refl, refl))
changes_or_not (c ∷ text) = elim (entries_choice (length (c ∷ text)) (c ∷ text) (omega arith)) [
  | inl (ps, all) ↦ inl (ps, inr all)
  | inr none ↦ inr (λ (ps, b). elim b [
    | inl empty ↦ let bad : c ∷ text ≡ [] = empty.0 in cc
    | inr all ↦ none (ps, all)
  ])
]

pub changes_stable : (text : List ℕ) → ¬ ¬ HasPropertyChanges text → HasPropertyChanges text
changes_stable text possible = elim (changes_or_not text) [
  | inl has ↦ has
  | inr none ↦ absurd (possible none)
]

-- a truncated proof that a text is a property block is one
pub untruncated : (text : List ℕ) → ∥ HasPropertyChanges text ∥₁ → HasPropertyChanges text
untruncated text reads = changes_stable text (λ none. ∥∥₁_elim reads (λ x y. absurd x) none)
