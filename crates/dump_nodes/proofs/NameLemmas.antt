-- The names of a path, read byte by byte.
use Rattle.dump_nodes.proofs.Prelude.{◌≡◌, ℕ, suc, Bool, true, false, not, ◌&&◌, ◌==◌, List, [], ◌∷◌, length, bytes_eq, cond, if◌then◌else◌, refl, sym, ap, ◌∙◌, arith, list_all, onto_first, path_text, is_short, names_of, bare_path, split, split_text, Name, Dot, name_with, is_whole, are_short_from}
use Rattle.std.proofs.Common.{nat_lt}
use Rattle.dump_nodes.specs.declared.canonical_path.Name.TheVariants.{Empty, Other}

-- whether a name is neither empty nor a dot
abbrev is_good : List ℕ → Bool
is_good name = nat_lt 0 (length name) && not (bytes_eq name (46 ∷ []))

-- the same of a name that goes on so after what is known of it
abbrev is_good_from : Name → List ℕ → Bool
is_good_from known [] = is_whole known
is_good_from known (b ∷ name) = is_good_from (name_with known b) name

-- and of names, the first of which goes on so
abbrev are_good_from : Name → List (List ℕ) → Bool
are_good_from known [] = true
are_good_from known (name ∷ names) = is_good_from known name && list_all is_good names

other_good : (name : List ℕ) → is_good_from Other name ≡ true
other_good [] = refl
other_good (b ∷ name) = other_good name

positive : (n : ℕ) → nat_lt 0 (suc n) ≡ true
positive n = grind arith

good_is : (name : List ℕ) → is_good_from Empty name ≡ is_good name
good_is [] = refl
good_is (b ∷ []) = cases (b == 46)
  where
    cases : (t : Bool) → is_good_from (if t then Dot else Other) [] ≡ not (t && true)
    cases true = refl
    cases false = refl
good_is (b ∷ c ∷ name) =
    cases (b == 46) ∙ ap (λ t. t && not (b == 46 && false)) (sym (positive (suc (length name))))
  where
    cases : (t : Bool) → is_good_from (if t then Dot else Other) (c ∷ name) ≡ not (t && false)
    cases true = other_good name
    cases false = other_good name

goods_are : (names : List (List ℕ)) → are_good_from Empty names ≡ list_all is_good names
goods_are [] = refl
goods_are (name ∷ names) = ap (λ b. b && list_all is_good names) (good_is name)

and_true : (b : Bool) → b ≡ (b && true)
and_true true = refl
and_true false = refl

short_is : (known : Name) (text : List ℕ) → are_short_from known text ≡ are_good_from known (split text)
short_is known [] = and_true (is_whole known)
short_is known (b ∷ text) = cases (short_is Empty text) (short_is (name_with known b) text) (b == 47)
  where
    longer : (names : List (List ℕ)) → split text ≡ names
        → are_good_from (name_with known b) names ≡ are_good_from known (onto_first b names)
    longer [] is = absurd (let bad : [] ≡ 47 ∷ text = sym (ap path_text is) ∙ split_text text in cc)
    longer (name ∷ names) is = refl

    cases : are_short_from Empty text ≡ are_good_from Empty (split text)
        → are_short_from (name_with known b) text ≡ are_good_from (name_with known b) (split text) → (t : Bool)
        → (if t then is_whole known && are_short_from Empty text else are_short_from (name_with known b) text)
        ≡ are_good_from known (cond t ([] ∷ split text) (onto_first b (split text)))
    cases new more true = ap (λ c. is_whole known && c) (new ∙ goods_are (split text))
    cases new more false = more ∙ longer (split text) refl

-- the load takes a path that isn't empty unchanged where its names are so
pub short_path : (path : List ℕ) (b : ℕ) (text : List ℕ) → bare_path path ≡ b ∷ text
    → are_short_from Empty (b ∷ text) ≡ is_short path
short_path path b text is =
    short_is Empty (b ∷ text) ∙ goods_are (split (b ∷ text)) ∙ sym (ap (λ t. list_all is_good (names_of t)) is)

pub short_else : (path top : List ℕ) → top ≡ bare_path path → (length top == 0) ≡ false
    → are_short_from Empty top ≡ is_short path
short_else path [] is there = absurd (let bad : true ≡ false = there in cc)
short_else path (b ∷ text) is there = short_path path b text (sym is)
