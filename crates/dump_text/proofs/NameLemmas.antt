-- The names that have a meaning: which bytes are one, and where it is among them.
use Rattle.dump_text.proofs.Prelude.{◌≡◌, ℕ, ◌<◌, Bool, true, false, ◌==◌, List, [], ◌∷◌, length, map, filter, get_or, refl, sym, ap, ◌∙◌, inl, inr, lit<, bytes_eq, Some, is_some, same_Some, list_any, find, cases_Bool, eq-eqb, bytes_eq-Decides, HeaderName, FormatVersion, name_text, all_names, name_place, known_name, names_of_length, is_known}
use denote.Enum.Declared.{tag_of}
use Rattle.dump_text.specs.contracts.names.HeaderName as enum

-- what is found among some elements, by the first of them
pub find_behind : {X : Type 0} (p : X → Bool) (x : X) (xs : List X) → p x ≡ false → find p (x ∷ xs) ≡ find p xs
find_behind p x xs other = rw other refl

-- the element at the front is found, if it passes the test
pub find_here : {X : Type 0} (p : X → Bool) (x : X) (xs : List X) → p x ≡ true → find p (x ∷ xs) ≡ Some x
find_here p x xs here = rw here refl

-- the element that is found passes the test
found : {X : Type 0} (p : X → Bool) (xs : List X) (y : X) → find p xs ≡ Some y → p y ≡ true
found p [] y is = cc
found p (x ∷ xs) y is = elim (cases_Bool (p x)) [
  | inl here ↦ ap p (sym (same_Some x y (sym (find_here p x xs here) ∙ is))) ∙ here
  | inr other ↦ found p xs y (sym (find_behind p x xs other) ∙ is)
]

-- if only some elements can pass the test, searching these gives the same as searching all
find_filtered : {X : Type 0} (p q : X → Bool) → ((x : X) → p x ≡ true → q x ≡ true) → (xs : List X)
    → find p (filter q xs) ≡ find p xs
find_filtered p q fits [] = refl
find_filtered p q fits (x ∷ xs) = elim (cases_Bool (p x)) [
  | inl is ↦ rw (fits x is, is) refl
  | inr other ↦ elim (cases_Bool (q x)) [
    | inl can ↦ rw (can, other) (find_filtered p q fits xs)
    | inr cannot ↦ rw (cannot, other) (find_filtered p q fits xs)
  ]
]

-- bytes are looked up among the names of their length
pub known_by_length : (bytes : List ℕ)
    → find (λ name. bytes_eq bytes (name_text name)) (names_of_length (length bytes)) ≡ known_name bytes
known_by_length bytes = find_filtered (λ name. bytes_eq bytes (name_text name))
    (λ name. length (name_text name) == length bytes)
    (λ name same. eq-eqb (length (name_text name)) (length bytes)
    (ap length (sym ((bytes_eq-Decides bytes (name_text name)).0 same)))) all_names

-- a name's bytes are known as that name
pub known_itself : (name : HeaderName) → known_name (name_text name) ≡ Some name
known_itself FormatVersion = refl
known_itself name = refl

-- bytes that are known as a name are its bytes
pub known_text : (bytes : List ℕ) (name : HeaderName) → known_name bytes ≡ Some name → bytes ≡ name_text name
known_text bytes name is = (bytes_eq-Decides bytes (name_text name)).0
    (found (λ other. bytes_eq bytes (name_text other)) all_names name is)

-- whether bytes are among the known names
pub known_is : (bytes : List ℕ) → is_known bytes ≡ is_some (known_name bytes)
known_is bytes = among all_names
  where
    among : (names : List HeaderName) → list_any (λ known. bytes_eq bytes known) (map name_text names)
        ≡ is_some (find (λ name. bytes_eq bytes (name_text name)) names)
    among [] = refl
    among (name ∷ names) = elim (cases_Bool (bytes_eq bytes (name_text name))) [
      | inl here ↦ rw here refl
      | inr other ↦ rw other (among names)
    ]

-- two names of the same bytes are one
pub text_once : (m n : HeaderName) → name_text m ≡ name_text n → m ≡ n
text_once m n same = same_Some m n (sym (known_itself m) ∙ ap known_name same ∙ known_itself n)

-- a name is at its place
at_place : (name : HeaderName) → get_or all_names (name_place name) FormatVersion ≡ name
at_place FormatVersion = refl
at_place name = refl

-- two names at one place are one
pub place_once : (m n : HeaderName) → name_place m ≡ name_place n → m ≡ n
place_once m n same = sym (at_place m) ∙ ap (λ i. get_or all_names i FormatVersion) same ∙ at_place n

-- a name's number is its place, and lies among the names
pub tag_place : (name : HeaderName) → tag_of enum.the_type name ≡ name_place name
tag_place FormatVersion = refl
tag_place name = refl

-- each name has its place among all names
pub place_inside : (name : HeaderName) → name_place name < length all_names
place_inside FormatVersion = lit< tt
place_inside name = lit< tt
