-- The rest of a path after a top, as determined by their texts.
use Rattle.std.proofs.Common.{◌≡◌, ℕ, suc, Bool, true, false, ◌&&◌, cond, List, [], ◌∷◌, length, drop, Option, Some, None, nat_eq, bytes_eq, refl, sym, ap, ap₂, ◌∙◌}
use Rattle.std.proofs.lemmas.Bool.{and_parts, eqb-true, false_from_ne_true}
use Rattle.std.proofs.Common.{eq-eqb}
use Rattle.std.specs.List.{slice_split, onto_first}
use Rattle.dump_trees.specs.Paths.{NodePath, names_of, below}
use Rattle.dump_index.specs.steps.Touching.{goes_on, stands_over, rest_text}

-- the names of a text that isn't empty
abbrev pub split : List ℕ → NodePath
split text = slice_split (λ c. nat_eq c 47) text

-- such a text has a name
pub split_some : (text : List ℕ) → (name : List ℕ) × (names : NodePath) × (split text ≡ name ∷ names)
split_some [] = ([], [], refl)
split_some (b ∷ text) = cases (nat_eq b 47)
  where
    onto : (names : NodePath) → (name : List ℕ) × (rest : NodePath) × (onto_first b names ≡ name ∷ rest)
    onto [] = (b ∷ [], [], refl)
    onto (name ∷ names) = (b ∷ name, names, refl)

    cases : (t : Bool)
        → (name : List ℕ) × (names : NodePath) × (cond t ([] ∷ split text) (onto_first b (split text)) ≡ name ∷ names)
    cases true = ([], split text, refl)
    cases false = onto (split text)

-- the rest after a top, byte by byte
abbrev walk : List ℕ → List ℕ → Option NodePath
walk [] [] = Some []
walk [] (c ∷ path) = cond (nat_eq c 47) (Some (split path)) None
walk (b ∷ top) [] = None
walk (b ∷ top) (c ∷ path) = cond (nat_eq b c) (walk top path) None

none_in_none : (names : NodePath) (name : List ℕ) (rest : NodePath) → names ≡ name ∷ rest → below names [] ≡ None
none_in_none names name rest is = ap (λ (ns : NodePath). below ns []) is

onto_empty : (c : ℕ) (names others : NodePath) → below ([] ∷ others) (onto_first c names) ≡ None
onto_empty c [] others = refl
onto_empty c (name ∷ names) others = refl

empty_onto : (b : ℕ) (names others : NodePath) → below (onto_first b names) ([] ∷ others) ≡ None
empty_onto b [] others = refl
empty_onto b (name ∷ names) others = refl

and_cond : (a b : Bool) (o : Option NodePath) → cond (a && b) o None ≡ cond a (cond b o None) None
and_cond true b o = refl
and_cond false b o = refl

onto_both : (b c : ℕ) (top path : List ℕ)
    → below (onto_first b (split top)) (onto_first c (split path))
    ≡ cond (nat_eq b c) (below (split top) (split path)) None
onto_both b c top path =
    let one = split_some top in
    let two = split_some path in
    both (split top) (split path) one.0 one.1 one.2 two.0 two.1 two.2
  where
    both : (names others : NodePath) (n : List ℕ) (ns : NodePath) → names ≡ n ∷ ns → (m : List ℕ) (ms : NodePath)
        → others ≡ m ∷ ms
        → below (onto_first b names) (onto_first c others) ≡ cond (nat_eq b c) (below names others) None
    both names others n ns is m ms are =
        ap₂ (λ (x : NodePath) (y : NodePath). below (onto_first b x) (onto_first c y)) is are
        ∙ and_cond (nat_eq b c) (bytes_eq n m) (below ns ms)
        ∙ sym (ap₂ (λ (x : NodePath) (y : NodePath). cond (nat_eq b c) (below x y) None) is are)

pub below_walk : (top path : List ℕ) → below (split top) (split path) ≡ walk top path
below_walk [] [] = refl
below_walk [] (c ∷ path) = cases (nat_eq c 47)
  where
    cases : (t : Bool) → below ([] ∷ []) (cond t ([] ∷ split path) (onto_first c (split path)))
        ≡ cond t (Some (split path)) None
    cases true = refl
    cases false = onto_empty c (split path) []
below_walk (b ∷ top) [] = cases (nat_eq b 47)
  where
    cases : (t : Bool) → below (cond t ([] ∷ split top) (onto_first b (split top))) ([] ∷ []) ≡ None
    cases true = let some = split_some top in none_in_none (split top) some.0 some.1 some.2
    cases false = empty_onto b (split top) []
below_walk (b ∷ top) (c ∷ path) = cases (below_walk top path) (nat_eq b 47) (nat_eq c 47) refl refl
  where
    cases : below (split top) (split path) ≡ walk top path → (s t : Bool) → nat_eq b 47 ≡ s → nat_eq c 47 ≡ t
        → below (cond s ([] ∷ split top) (onto_first b (split top))) (cond t ([] ∷ split path) (onto_first c (split path)))
        ≡ cond (nat_eq b c) (walk top path) None
    cases further true true one two =
        let same : b ≡ c = eqb-true b 47 one ∙ sym (eqb-true c 47 two) in
        further ∙ sym (ap (λ t. cond t (walk top path) None) (eq-eqb b c same))
    cases further true false one two =
        onto_empty c (split path) (split top)
        ∙ sym (ap (λ t. cond t (walk top path) None) (false_from_ne_true (nat_eq b c) (λ is.
        let same : b ≡ c = eqb-true b c is in
        let bad : true ≡ false = sym one ∙ ap (λ n. nat_eq n 47) same ∙ two in absurd (cc))))
    cases further false true one two =
        empty_onto b (split top) (split path)
        ∙ sym (ap (λ t. cond t (walk top path) None) (false_from_ne_true (nat_eq b c) (λ is.
        let same : b ≡ c = eqb-true b c is in
        let bad : false ≡ true = sym one ∙ ap (λ n. nat_eq n 47) same ∙ two in absurd (cc))))
    cases further false false one two =
        onto_both b c top path ∙ ap (λ o. cond (nat_eq b c) o None) further

walk_same : (top path : List ℕ) → bytes_eq top path ≡ true → walk top path ≡ Some []
walk_same [] [] is = refl
walk_same [] (c ∷ path) is = absurd (let bad : false ≡ true = is in cc)
walk_same (b ∷ top) [] is = absurd (let bad : false ≡ true = is in cc)
walk_same (b ∷ top) (c ∷ path) is =
    let parts = and_parts (nat_eq b c) (bytes_eq top path) is in
    ap (λ t. cond t (walk top path) None) parts.0 ∙ walk_same top path parts.1

walk_over : (top path : List ℕ) → goes_on top path ≡ true → walk top path ≡ Some (split (drop (suc (length top)) path))
walk_over [] [] is = absurd (let bad : false ≡ true = is in cc)
walk_over [] (c ∷ path) is = ap (λ t. cond t (Some (split path)) None) is
walk_over (b ∷ top) [] is = absurd (let bad : false ≡ true = is in cc)
walk_over (b ∷ top) (c ∷ path) is =
    let parts = and_parts (nat_eq b c) (goes_on top path) is in
    ap (λ t. cond t (walk top path) None) parts.0 ∙ walk_over top path parts.1

walk_none : (top path : List ℕ) → bytes_eq top path ≡ false → goes_on top path ≡ false → walk top path ≡ None
walk_none [] [] other off = absurd (let bad : true ≡ false = other in cc)
walk_none [] (c ∷ path) other off = ap (λ t. cond t (Some (split path)) None) off
walk_none (b ∷ top) [] other off = refl
walk_none (b ∷ top) (c ∷ path) other off = cases (walk_none top path) (nat_eq b c) other off
  where
    cases : (bytes_eq top path ≡ false → goes_on top path ≡ false → walk top path ≡ None) → (t : Bool)
        → (t && bytes_eq top path) ≡ false → (t && goes_on top path) ≡ false → cond t (walk top path) None ≡ None
    cases further true isnt stops = further isnt stops
    cases further false isnt stops = refl

-- the rest of a path

pub rest_same : (top path : List ℕ) → bytes_eq top path ≡ true → below (names_of top) (names_of path) ≡ Some []
rest_same [] [] is = refl
rest_same [] (c ∷ path) is = absurd (let bad : false ≡ true = is in cc)
rest_same (b ∷ top) [] is = absurd (let bad : false ≡ true = is in cc)
rest_same (b ∷ top) (c ∷ path) is = below_walk (b ∷ top) (c ∷ path) ∙ walk_same (b ∷ top) (c ∷ path) is

pub rest_over : (top path : List ℕ) → bytes_eq top path ≡ false → stands_over path top ≡ true
    → below (names_of top) (names_of path) ≡ Some (split (rest_text top path))
rest_over [] [] other over = absurd (let bad : true ≡ false = other in cc)
rest_over [] (c ∷ path) other over = refl
rest_over (b ∷ top) [] other over = absurd (let bad : false ≡ true = over in cc)
rest_over (b ∷ top) (c ∷ path) other over = below_walk (b ∷ top) (c ∷ path) ∙ walk_over (b ∷ top) (c ∷ path) over

pub rest_none : (top path : List ℕ) → bytes_eq top path ≡ false → stands_over path top ≡ false
    → below (names_of top) (names_of path) ≡ None
rest_none [] path other over = absurd (let bad : true ≡ false = over in cc)
rest_none (b ∷ top) [] other over = let some = split_some (b ∷ top) in none_in_none (split (b ∷ top)) some.0 some.1 some.2
rest_none (b ∷ top) (c ∷ path) other over =
    below_walk (b ∷ top) (c ∷ path) ∙ walk_none (b ∷ top) (c ∷ path) other over
