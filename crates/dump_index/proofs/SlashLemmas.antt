-- Texts that end in a slash or don't, and texts of paths below others.
use Rattle.std.proofs.Common.{◌≡◌, ◌≤◌, ◌==◌, ◌-◌, ℕ, zero, suc, Bool, true, false, List, [], ◌∷◌, ◌++◌, length, drop, get_or, nat_eq, arith, bytes_eq, append-nil, refl, sym, ap, ◌∙◌, ◌≢◌}
use Rattle.std.proofs.lemmas.Bool.{and_parts}
use Rattle.dump_trees.specs.Paths.{names_of}
use Rattle.dump_index.specs.steps.InOrder.{ends_in_slash}
use Rattle.dump_index.specs.steps.Touching.{goes_on, stands_over, rest_text, joined_text}
use Rattle.dump_trees.proofs.paths.CanonicalLemmas.{split_joined}

-- whether the last byte is a slash, if there is one
pub ends_last : (text : List ℕ) (d : ℕ) → 1 ≤ length text
    → (get_or text (length text - 1) d == 47) ≡ ends_in_slash text
ends_last [] d some = absurd (omega arith)
ends_last (b ∷ []) d some = refl
ends_last (b ∷ c ∷ text) d some =
    let last : length (b ∷ c ∷ text) - 1 ≡ suc (length text) = omega arith in
    let before : length (c ∷ text) - 1 ≡ length text = omega arith in
    ap (λ n. get_or (b ∷ c ∷ text) n d == 47) last
    ∙ (sym (ap (λ n. get_or (c ∷ text) n d == 47) before) ∙ ends_last (c ∷ text) d (omega arith))

ends_tail : (b : ℕ) (text : List ℕ) → ends_in_slash (b ∷ text) ≡ false → ends_in_slash text ≡ false
ends_tail b [] is = refl
ends_tail b (c ∷ text) is = is

ends_drop : (n : ℕ) (text : List ℕ) → ends_in_slash text ≡ false → ends_in_slash (drop n text) ≡ false
ends_drop zero text is = is
ends_drop (suc n) [] is = refl
ends_drop (suc n) (b ∷ text) is = ends_drop n text (ends_tail b text is)

pub ends_rest : (top path : List ℕ) → ends_in_slash path ≡ false → ends_in_slash (rest_text top path) ≡ false
ends_rest [] path is = is
ends_rest (b ∷ top) path is = ends_drop (suc (length (b ∷ top))) path is

ends_behind : (b c : ℕ) (top rest : List ℕ) → ends_in_slash ((b ∷ top) ++ c ∷ rest) ≡ ends_in_slash (c ∷ rest)
ends_behind b c [] rest = refl
ends_behind b c (d ∷ top) rest = ends_behind d c top rest

pub ends_joined : (top rest : List ℕ) → ends_in_slash top ≡ false → ends_in_slash rest ≡ false
    → ends_in_slash (joined_text top rest) ≡ false
ends_joined top [] one two = one
ends_joined [] (b ∷ rest) one two = two
ends_joined (b ∷ top) (c ∷ rest) one two = ends_behind b 47 top (c ∷ rest) ∙ two

-- more text follows a top and a slash
goes_on_some : (top path : List ℕ) → goes_on top path ≡ true → ends_in_slash path ≡ false
    → drop (suc (length top)) path ≢ []
goes_on_some [] [] over is none = let bad : false ≡ true = over in absurd (cc)
goes_on_some [] (c ∷ []) over is none = let bad : true ≡ false = sym over ∙ is in absurd (cc)
goes_on_some [] (c ∷ d ∷ path) over is none = let bad : d ∷ path ≡ [] = none in absurd (cc)
goes_on_some (b ∷ top) [] over is none = let bad : false ≡ true = over in absurd (cc)
goes_on_some (b ∷ top) (c ∷ path) over is none =
    goes_on_some top path (and_parts (nat_eq b c) (goes_on top path) over).1 (ends_tail c path is) none

pub rest_some : (top path : List ℕ) → bytes_eq top path ≡ false → stands_over path top ≡ true → ends_in_slash path ≡ false
    → rest_text top path ≢ []
rest_some [] [] other over is none = let bad : true ≡ false = other in absurd (cc)
rest_some [] (c ∷ path) other over is none = let bad : c ∷ path ≡ [] = none in absurd (cc)
rest_some (b ∷ top) path other over is none = goes_on_some (b ∷ top) path over is none

drop_same : (top path : List ℕ) → bytes_eq top path ≡ true → drop (length top) path ≡ []
drop_same [] [] is = refl
drop_same [] (c ∷ path) is = absurd (let bad : false ≡ true = is in cc)
drop_same (b ∷ top) [] is = refl
drop_same (b ∷ top) (c ∷ path) is = drop_same top path (and_parts (nat_eq b c) (bytes_eq top path) is).1

drop_suc : (n : ℕ) (text : List ℕ) → drop n text ≡ [] → drop (suc n) text ≡ []
drop_suc n [] is = refl
drop_suc zero (b ∷ text) is = absurd (let bad : b ∷ text ≡ [] = is in cc)
drop_suc (suc n) (b ∷ text) is = drop_suc n text is

pub rest_none_same : (top path : List ℕ) → bytes_eq top path ≡ true → rest_text top path ≡ []
rest_none_same [] [] is = refl
rest_none_same [] (c ∷ path) is = absurd (let bad : false ≡ true = is in cc)
rest_none_same (b ∷ top) path is = drop_suc (length (b ∷ top)) path (drop_same (b ∷ top) path is)

-- the names of a path below another one
pub names_joined : (top rest : List ℕ) → names_of (joined_text top rest) ≡ names_of top ++ names_of rest
names_joined top [] = sym (append-nil (names_of top))
names_joined [] (b ∷ rest) = refl
names_joined (b ∷ top) (c ∷ rest) = split_joined (b ∷ top) (c ∷ rest)
