-- The names of what changes make right below a path.
use Rattle.std.proofs.Common.{◌≡◌, ℕ, zero, suc, ◌+◌, ◌<◌, ◌≤◌, Bool, true, false, not, ◌&&◌, ◌||◌, cond, List, [], ◌∷◌, ◌++◌, length, take, drop, Option, Some, None, is_some, option_map, nat_eq, nat_lt, bytes_eq, append_assoc, refl, sym, ap, ap₂, ◌∙◌, arith, inl, inr}
use Rattle.std.specs.Prelude.{slice_get}
use Rattle.std.specs.List.{list_all, list_any, onto_first, Contains}
use Rattle.std.specs.Cmp.{both_ways}
use Rattle.std.proofs.lemmas.Bool.{cases_lt, and_parts, and_from, or_cases, or_left, or_right, eqb-true, lt-ltb, ltb-true, not-true}
use Rattle.std.proofs.lemmas.List.{take_all}
use Rattle.std.proofs.lemmas.List.Folds.{list_any-append, list_any_at, list_any_more, Any-from_list_any}
use Rattle.std.proofs.lemmas.Slice.Eq.{bytes_eq-Decides}
use Rattle.dump_trees.specs.Paths.{NodePath, names_of, below, is_name}
use Rattle.dump_trees.specs.Changes.{Made}
use Rattle.dump_trees.specs.steps.Looking.{Placed}
use Rattle.dump_trees.specs.steps.Listing.{name_made, name_below, names_made}
use Rattle.dump_trees.proofs.changes.TreeLemmas.{below_found}
use Rattle.dump_index.specs.steps.Listed.{Listed, placed_of, all_placed}
use Rattle.dump_index.specs.steps.InOrder.{ends_in_slash}
use Rattle.dump_index.specs.steps.Children.{is_child_named}
use Rattle.dump_index.specs.declared.order.Child.{Child}
use Rattle.dump_index.specs.declared.order.Effect.TheVariants.{Shaping}
use Rattle.dump_index.specs.steps.Keys.{PathKey, HasKeys, has_effect_there}
use Rattle.dump_index.specs.steps.Touching.{goes_on, stands_over, rest_text}
use Rattle.dump_index.specs.steps.Below.{top_text, NoneBelow, HasChild}
use Rattle.dump_index.specs.steps.Names.{makes_there, makes_at, makes_key}
use Rattle.dump_index.proofs.KeyLemmas.{get-map}
use Rattle.dump_index.proofs.RestLemmas.{split, split_some, rest_same, rest_over, rest_none}
use Rattle.dump_index.proofs.SlashLemmas.{rest_some}
use Rattle.dump_index.proofs.WalkLemmas.{get_inside}
use Rattle.dump_trees.proofs.paths.CanonicalLemmas.{split_joined}
use Rattle.dump_trees.proofs.paths.PrefixRests.{same_rest}

-- ---- names and texts

abbrev pub no_slash : List ℕ → Bool
no_slash text = list_all (λ b. not (nat_eq b 47)) text

one_name : (name : List ℕ) → no_slash name ≡ true → split name ≡ name ∷ []
one_name [] none = refl
one_name (b ∷ name) none =
    let parts = and_parts (not (nat_eq b 47)) (no_slash name) none in
    ap (λ s. cond s ([] ∷ split name) (onto_first b (split name))) (not-true (nat_eq b 47) parts.0)
    ∙ ap (onto_first b) (one_name name parts.1)

split_one : (text name : List ℕ) → split text ≡ name ∷ [] → (text ≡ name) × (no_slash text ≡ true)
split_one [] name is = (let same : [] ≡ name = cc in same, refl)
split_one (b ∷ text) name is = cases (split_one text) (nat_eq b 47) refl is
  where
    first : (n : List ℕ) (ns : NodePath) → split text ≡ n ∷ ns → onto_first b (split text) ≡ name ∷ []
        → (b ∷ n ≡ name) × (ns ≡ [])
    first n ns some is =
        let both : (b ∷ n) ∷ ns ≡ name ∷ [] = sym (ap (onto_first b) some) ∙ is in
        (let one : b ∷ n ≡ name = cc in one, let two : ns ≡ [] = cc in two)

    cases : ((n : List ℕ) → split text ≡ n ∷ [] → (text ≡ n) × (no_slash text ≡ true)) → (s : Bool) → nat_eq b 47 ≡ s → cond s ([] ∷ split text) (onto_first b (split text)) ≡ name ∷ []
        → (b ∷ text ≡ name) × ((not s && no_slash text) ≡ true)
    cases further true slash is =
        let some = split_some text in
        let none : split text ≡ [] = (let both : [] ∷ split text ≡ name ∷ [] = is in cc) in
        absurd (let bad : [] ≡ some.0 ∷ some.1 = sym none ∙ some.2 in cc)
    cases further false other is =
        let some = split_some text in
        let its = first some.0 some.1 some.2 is in
        let behind = further some.0 (some.2 ∙ ap (λ (ns : NodePath). some.0 ∷ ns) its.1) in
        (ap (λ (t : List ℕ). b ∷ t) behind.0 ∙ its.0, behind.1)

goes_parts : (top path : List ℕ) → goes_on top path ≡ true → path ≡ (top ++ 47 ∷ []) ++ drop (suc (length top)) path
goes_parts [] [] over = absurd (let bad : false ≡ true = over in cc)
goes_parts [] (c ∷ path) over = ap (λ b. b ∷ path) (eqb-true c 47 over)
goes_parts (b ∷ top) [] over = absurd (let bad : false ≡ true = over in cc)
goes_parts (b ∷ top) (c ∷ path) over =
    let parts = and_parts (nat_eq b c) (goes_on top path) over in
    ap₂ (λ n (t : List ℕ). n ∷ t) (sym (eqb-true b c parts.0)) (goes_parts top path parts.1)

over_parts : (dir path : List ℕ) → stands_over path dir ≡ true → path ≡ top_text dir ++ rest_text dir path
over_parts [] path over = refl
over_parts (b ∷ dir) path over = goes_parts (b ∷ dir) path over

is_name_of : (name : List ℕ) → Rattle.std.proofs.Common.◌≢◌ name [] → no_slash name ≡ true → is_name name ≡ true
is_name_of [] some none = absurd (some refl)
is_name_of (b ∷ name) some none =
    and_from (nat_lt 0 (length (b ∷ name))) (no_slash (b ∷ name)) (lt-ltb 0 (length (b ∷ name)) (omega arith)) none

-- a path right below another one is the other one's text, a slash and the name
pub right_below : (dir path name : List ℕ) → ends_in_slash path ≡ false
    → below (names_of dir) (names_of path) ≡ Some (name ∷ []) → (path ≡ top_text dir ++ name) × (is_name name ≡ true)
right_below dir path name bare is = cases (bytes_eq dir path) (stands_over path dir) refl refl
  where
    cases : (same over : Bool) → bytes_eq dir path ≡ same → stands_over path dir ≡ over
        → (path ≡ top_text dir ++ name) × (is_name name ≡ true)
    cases true over is_same is_over =
        absurd (let bad : Some [] ≡ Some (name ∷ []) = sym (rest_same dir path is_same) ∙ is in cc)
    cases false true other is_over =
        let rest : split (rest_text dir path) ≡ name ∷ []
        = (let both : Some (split (rest_text dir path)) ≡ Some (name ∷ []) = sym (rest_over dir path other is_over) ∙ is in cc) in
        let its = split_one (rest_text dir path) name rest in
        let some = rest_some dir path other is_over bare in (
          over_parts dir path is_over ∙ ap (λ (t : List ℕ). top_text dir ++ t) its.0,
          ap (λ (t : List ℕ). is_name t) (sym its.0) ∙ is_name_of (rest_text dir path) some its.1,
        )
    cases false false other off =
        absurd (let bad : None ≡ Some (name ∷ []) = sym (rest_none dir path other off) ∙ is in cc)

pub names_of_name : (name : List ℕ) → is_name name ≡ true → names_of name ≡ name ∷ []
names_of_name [] is = let bad : false ≡ true = is in absurd (cc)
names_of_name (b ∷ name) is = one_name (b ∷ name) (and_parts (nat_lt 0 (length (b ∷ name))) (no_slash (b ∷ name)) is).1

-- the same in the other direction
pub names_right_below : (dir name : List ℕ) → is_name name ≡ true → names_of (top_text dir ++ name) ≡ names_of dir ++ name ∷ []
names_right_below [] name is = names_of_name name is
names_right_below (b ∷ dir) name is =
    ap (λ (t : List ℕ). names_of t) (append_assoc (b ∷ dir) (47 ∷ []) name)
    ∙ split_joined (b ∷ dir) name
    ∙ ap (λ (ns : NodePath). split (b ∷ dir) ++ ns)
    (one_name name (and_parts (nat_lt 0 (length name)) (no_slash name) is).1)

is_below : (dir path name : List ℕ) → path ≡ top_text dir ++ name → is_name name ≡ true
    → below (names_of dir) (names_of path) ≡ Some (name ∷ [])
is_below dir path name same is =
    ap (λ (t : List ℕ). below (names_of dir) (names_of t)) same
    ∙ ap (below (names_of dir)) (names_right_below dir name is)
    ∙ below_found (names_of dir) (name ∷ [])

-- ---- what changes make

module _ (listed : List Listed)
    (bare : (place : ℕ) (l : Listed) → slice_get listed place ≡ Some l → ends_in_slash l.path ≡ false)
    (path name : List ℕ) where
  abbrev named_there : Option Placed → Bool
  named_there o = is_child_named (name_below (names_of path) o) name

  abbrev named_made : ℕ → Bool
  named_made count = is_child_named (names_made (all_placed listed) count (names_of path)) name

  named_is : (l : Listed) → ends_in_slash l.path ≡ false → named_there (Some (placed_of l)) ≡ true
      → (l.path ≡ top_text path ++ name) × (is_name name ≡ true) × (is_some l.made ≡ true)
  named_is l bare_path named = cases (below (names_of path) (names_of l.path)) l.made refl refl named
    where
      cases : (o : Option NodePath) (made : Option Made) → below (names_of path) (names_of l.path) ≡ o → l.made ≡ made
          → is_child_named (name_made o made) name ≡ true
          → (l.path ≡ top_text path ++ name) × (is_name name ≡ true) × (is_some made ≡ true)
      cases None made is made_is named = let bad : false ≡ true = named in absurd (cc)
      cases (Some []) made is made_is named = let bad : false ≡ true = named in absurd (cc)
      cases (Some (other ∷ [])) None is made_is named = let bad : false ≡ true = named in absurd (cc)
      cases (Some (other ∷ [])) (Some made) is made_is named =
          let same_text : bytes_eq other name ≡ true = or_false (bytes_eq other name) named in
          let same : other ≡ name = (bytes_eq-Decides other name).0 same_text in
          let its = right_below path l.path name bare_path (is ∙ ap (λ (n : List ℕ). Some (n ∷ [])) same) in
          (its.0, its.1, refl)
        where
          or_false : (b : Bool) → (b || false) ≡ true → b ≡ true
          or_false true is = refl
          or_false false is = is
      cases (Some (other ∷ next ∷ rest)) made is made_is named = let bad : false ≡ true = named in absurd (cc)

  named_if : (l : Listed) → l.path ≡ top_text path ++ name → is_name name ≡ true → is_some l.made ≡ true
      → named_there (Some (placed_of l)) ≡ true
  named_if l same is makes =
      ap (λ o. is_child_named (name_made o l.made) name) (is_below path l.path name same is) ∙ cases l.made makes
    where
      cases : (made : Option Made) → is_some made ≡ true → is_child_named (name_made (Some (name ∷ [])) made) name ≡ true
      cases None makes = let bad : false ≡ true = makes in absurd (cc)
      cases (Some made) makes = or_left (bytes_eq name name) false ((bytes_eq-Decides name name).1 refl)

  one_more : (count : ℕ)
      → named_made (suc count) ≡ (named_there (slice_get (all_placed listed) count) || named_made count)
  one_more count =
      list_any-append (λ other. bytes_eq other name) (name_below (names_of path) (slice_get (all_placed listed) count))
      (names_made (all_placed listed) count (names_of path))

  pub made_some : (count : ℕ) → named_made count ≡ true
      → (place : ℕ) × (place < count) × (named_there (slice_get (all_placed listed) place) ≡ true)
  made_some zero named = let bad : false ≡ true = named in absurd (cc)
  made_some (suc count) named =
      elim (or_cases (named_there (slice_get (all_placed listed) count)) (named_made count) (sym (one_more count) ∙ named)) [
        | inl here ↦ (count, omega arith, here)
        | inr before ↦ let its = made_some count before in (its.0, omega (arith, its.1), its.2)
      ]

  pub made_at : (count place : ℕ) → place < count → named_there (slice_get (all_placed listed) place) ≡ true
      → named_made count ≡ true
  made_at zero place low named = absurd (omega arith)
  made_at (suc count) place low named =
      one_more count ∙
      (elim (cases_lt place count) [
        | inl less ↦ or_right (named_there (slice_get (all_placed listed) count)) (named_made count)
            (made_at count place less named)
        | inr more ↦
            let same : count ≡ place = omega arith in
            or_left (named_there (slice_get (all_placed listed) count)) (named_made count)
            (ap (λ n. named_there (slice_get (all_placed listed) n)) same ∙ named)
      ])

  there_is : (place : ℕ) (l : Listed) → slice_get listed place ≡ Some l
      → slice_get (all_placed listed) place ≡ Some (placed_of l)
  there_is place l at = get-map placed_of listed place ∙ ap (option_map placed_of) at

  -- the keys have a change that makes this name exactly if the changes do
  pub keys_are : (count : ℕ) (keys : List PathKey) → HasKeys Shaping listed keys
      → (is_name name && list_any (makes_key listed count (top_text path ++ name)) keys) ≡ named_made count
  keys_are count keys all = both_ways _ _ up down
    where
      found : (key : PathKey) → Contains keys key → is_name name ≡ true
          → makes_key listed count (top_text path ++ name) key ≡ true → named_made count ≡ true
      found key some is test =
          let parts = and_parts (bytes_eq key.0 (top_text path ++ name)) (nat_lt key.1 count && makes_at listed key.1) test in
          let both = and_parts (nat_lt key.1 count) (makes_at listed key.1) parts.1 in
          let same : key.0 ≡ top_text path ++ name = (bytes_eq-Decides key.0 (top_text path ++ name)).0 parts.0 in
          cases (slice_get listed key.1) refl (all.only key.0 key.1 some) both.1 (ltb-true key.1 count both.0) same
        where
          cases : (o : Option Listed) → slice_get listed key.1 ≡ o → has_effect_there Shaping key.0 o ≡ true
              → makes_there o ≡ true → key.1 < count → key.0 ≡ top_text path ++ name → named_made count ≡ true
          cases None at effect makes low same = let bad : false ≡ true = makes in absurd (cc)
          cases (Some l) at effect makes low same =
              let text = (and_parts (l.deletes || is_some l.made) (bytes_eq l.path key.0) effect).1 in
              let path_same : l.path ≡ key.0 = (bytes_eq-Decides l.path key.0).0 text in
              made_at count key.1 low (ap named_there (there_is key.1 l at) ∙ named_if l (path_same ∙ same) is makes)

      up : (is_name name && list_any (makes_key listed count (top_text path ++ name)) keys) ≡ true → named_made count ≡ true
      up is =
          let parts = and_parts (is_name name) (list_any (makes_key listed count (top_text path ++ name)) keys) is in
          let some = Any-from_list_any (makes_key listed count (top_text path ++ name)) keys parts.1 in
          found some.1 (some.0, some.2, some.3) parts.0 some.4

      down : named_made count ≡ true → (is_name name && list_any (makes_key listed count (top_text path ++ name)) keys) ≡ true
      down named =
          let some = made_some count named in
          cases some.0 (slice_get listed some.0) refl some.1
          (sym (ap named_there (get-map placed_of listed some.0)) ∙ some.2)
        where
          cases : (place : ℕ) (o : Option Listed) → slice_get listed place ≡ o → place < count
              → named_there (option_map placed_of o) ≡ true
              → (is_name name && list_any (makes_key listed count (top_text path ++ name)) keys) ≡ true
          cases place None at low there = let bad : false ≡ true = there in absurd (cc)
          cases place (Some l) at low there =
              let its = named_is l (bare place l at) there in
              let text : bytes_eq l.path (top_text path ++ name) ≡ true = (bytes_eq-Decides l.path (top_text path ++ name)).1 its.0 in
              let inside = all.has (top_text path ++ name) place
              (ap (has_effect_there Shaping (top_text path ++ name)) at
              ∙ and_from (l.deletes || is_some l.made) (bytes_eq l.path (top_text path ++ name))
              (or_right l.deletes (is_some l.made) its.2) text) in
              let key : PathKey = (top_text path ++ name, place) in
              and_from (is_name name) (list_any (makes_key listed count (top_text path ++ name)) keys) its.1
              (list_any_at (makes_key listed count (top_text path ++ name)) keys inside.0 key inside.1
              (ap (makes_key listed count (top_text path ++ name)) inside.2
              ∙ and_from (bytes_eq (top_text path ++ name) (top_text path ++ name)) (nat_lt place count && makes_at listed place)
              ((bytes_eq-Decides (top_text path ++ name) (top_text path ++ name)).1 refl)
              (and_from (nat_lt place count) (makes_at listed place) (lt-ltb place count low)
              (ap makes_there at ∙ its.2))))

  -- what is made has a name
  pub made_name : (count : ℕ) → named_made count ≡ true → is_name name ≡ true
  made_name count named =
      let some = made_some count named in
      cases some.0 (slice_get listed some.0) refl (sym (ap named_there (get-map placed_of listed some.0)) ∙ some.2)
    where
      cases : (place : ℕ) (o : Option Listed) → slice_get listed place ≡ o → named_there (option_map placed_of o) ≡ true
          → is_name name ≡ true
      cases place None at there = let bad : false ≡ true = there in absurd (cc)
      cases place (Some l) at there = (named_is l (bare place l at) there).1

-- ---- the walk over the keys

skipped : (test : PathKey → Bool) (keys : List PathKey) (from at : ℕ) → from ≤ at
    → ((n : ℕ) (key : PathKey) → from ≤ n → n < at → slice_get keys n ≡ Some key → test key ≡ false)
    → list_any test (take at keys) ≡ list_any test (take from keys)
skipped test [] zero zero low none = refl
skipped test [] zero (suc at) low none = refl
skipped test [] (suc from) zero low none = absurd (omega arith)
skipped test [] (suc from) (suc at) low none = refl
skipped test (k ∷ keys) zero zero low none = refl
skipped test (k ∷ keys) zero (suc at) low none =
    ap (λ b. b || list_any test (take at keys)) (none 0 k (omega arith) (omega arith) refl)
    ∙ skipped test keys zero at (omega arith) (λ n key first less is. none (suc n) key (omega arith) (omega arith) is)
skipped test (k ∷ keys) (suc from) zero low none = absurd (omega arith)
skipped test (k ∷ keys) (suc from) (suc at) low none =
    ap (λ b. test k || b)
    (skipped test keys from at (omega arith) (λ n key first less is. none (suc n) key (omega arith) (omega arith) is))

bytes_behind : (top one two : List ℕ) → bytes_eq (top ++ one) (top ++ two) ≡ bytes_eq one two
bytes_behind top one two = both_ways _ _ up down
  where
    up : bytes_eq (top ++ one) (top ++ two) ≡ true → bytes_eq one two ≡ true
    up same =
        (bytes_eq-Decides one two).1 (same_rest top one two ((bytes_eq-Decides (top ++ one) (top ++ two)).0 same))

    down : bytes_eq one two ≡ true → bytes_eq (top ++ one) (top ++ two) ≡ true
    down same =
        (bytes_eq-Decides (top ++ one) (top ++ two)).1
        (ap (λ (t : List ℕ). top ++ t) ((bytes_eq-Decides one two).0 same))

module _ (listed : List Listed) (count : ℕ) (keys : List PathKey) (top : List ℕ) where
  abbrev pub among : ℕ → List ℕ → Bool
  among from name = is_name name && list_any (makes_key listed count (top ++ name)) (take from keys)

  -- none of these keys has the name
  none_named : (name : List ℕ) (from to : ℕ) → is_name name ≡ true → NoneBelow keys top from to → (n : ℕ) (key : PathKey)
      → from ≤ n → n < to → slice_get keys n ≡ Some key → makes_key listed count (top ++ name) key ≡ false
  none_named name from to is none n key first less at = cases (bytes_eq key.0 (top ++ name)) refl
    where
      cases : (b : Bool) → bytes_eq key.0 (top ++ name) ≡ b → (b && (nat_lt key.1 count && makes_at listed key.1)) ≡ false
      cases false same = refl
      cases true same =
          absurd (let bad : true ≡ false = sym is
          ∙ none n key name first less at ((bytes_eq-Decides key.0 (top ++ name)).0 same) in cc)

  pub among_more : (from : ℕ) (child : Child) → HasChild keys top from child → (name : List ℕ)
      → among child.behind name
      ≡ (among from name || (bytes_eq child.name.now name && (nat_lt child.place count && makes_at listed child.place)))
  among_more from child has name = cases (is_name name) refl
    where
      other : is_name name ≡ false → bytes_eq child.name.now name ≡ false
      other isnt =
          Rattle.std.proofs.lemmas.Bool.false_from_ne_true (bytes_eq child.name.now name) (λ same.
          let bad : true ≡ false = sym has.name
          ∙ ap (λ (t : List ℕ). is_name t) ((bytes_eq-Decides child.name.now name).0 same) ∙ isnt in absurd (cc))

      cases : (b : Bool) → is_name name ≡ b
          → (b && list_any (makes_key listed count (top ++ name)) (take child.behind keys))
          ≡ ((b && list_any (makes_key listed count (top ++ name)) (take from keys)) || (bytes_eq child.name.now name && (nat_lt child.place count && makes_at listed child.place)))
      cases false isnt = sym (ap (λ b. b && (nat_lt child.place count && makes_at listed child.place)) (other isnt))
      cases true is =
          let inside = get_inside keys has.at (top ++ child.name.now, child.place) has.is in
          let d : PathKey = (top ++ child.name.now, child.place) in
          ap (λ n. list_any (makes_key listed count (top ++ name)) (take n keys)) has.next
          ∙ list_any_more (makes_key listed count (top ++ name)) keys has.at d inside.0
          ∙ ap₂ (λ a b. a || b)
          (skipped (makes_key listed count (top ++ name)) keys from has.at has.first
          (none_named name from has.at is has.none))
          (ap (makes_key listed count (top ++ name)) (inside.1 d)
          ∙ ap (λ b. b && (nat_lt child.place count && makes_at listed child.place)) (bytes_behind top child.name.now name))

  pub among_all : (from : ℕ) → NoneBelow keys top from (length keys) → (name : List ℕ)
      → among from name ≡ (is_name name && list_any (makes_key listed count (top ++ name)) keys)
  among_all from none name = cases (is_name name) refl
    where
      cases : (b : Bool) → is_name name ≡ b
          → (b && list_any (makes_key listed count (top ++ name)) (take from keys))
          ≡ (b && list_any (makes_key listed count (top ++ name)) keys)
      cases false isnt = refl
      cases true is =
          elim (cases_lt from (length keys)) [
            | inl low ↦
                sym (skipped (makes_key listed count (top ++ name)) keys from (length keys) (omega arith)
                (none_named name from (length keys) is none))
                ∙ ap (list_any (makes_key listed count (top ++ name))) (take_all (length keys) keys (omega arith))
            | inr high ↦ ap (list_any (makes_key listed count (top ++ name))) (take_all from keys high)
          ]

  pub among_none : (from : ℕ) → NoneBelow keys top 0 from → (name : List ℕ) → among from name ≡ false
  among_none from none name = cases (is_name name) refl
    where
      cases : (b : Bool) → is_name name ≡ b
          → (b && list_any (makes_key listed count (top ++ name)) (take from keys)) ≡ false
      cases false isnt = refl
      cases true is =
          skipped (makes_key listed count (top ++ name)) keys 0 from (omega arith) (none_named name 0 from is none)
