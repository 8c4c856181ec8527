-- Prefixes to which the wanted paths of copies are added.
use Rattle.dump_survey.proofs.Prelude.{◌≡◌, ℕ, ◌+◌, ◌<◌, ◌≤◌, Bool, true, false, not, ◌&&◌, ◌||◌, List, [], ◌∷◌, ◌++◌, length, filter, map, drop, get_or, bytes_eq, nat_eq, Bor, IsTrue, cond, refl, sym, ap, ap₂, ◌∙◌, subst, inl, inr, arith, append-nil, append_assoc, list_any, or_cases, or_left, or_right, or_parts, or_from, and_parts, and_from, not-true, both_ways, false_from_ne_true, list_any-append, bytes_eq-Decides, bare_prefix, bare_path, begins_path, matches_path, BeginSame, any_mapped, reaches_more, CopyNeed, matches_itself, covers, uncovered, are_apart, PathNeed, Grown, need_view, grown_prefixes, is_matched, is_unmet, AreNeeded, unmatched, each_matches_itself, IsPass}
use Rattle.dump_trees.proofs.paths.KeptPaths.{reaches}
use Rattle.std.proofs.lemmas.List.{drop_more}
use Rattle.dump_trees.proofs.paths.SiblingLemmas.{any_more}

-- one prefix and another one

-- if a text begins with a slash, the empty name begins it
slash_first : (mid path : List ℕ) (c : ℕ) → reaches [] (c ∷ mid) ≡ true → reaches (c ∷ mid) path ≡ true
    → reaches [] path ≡ true
slash_first mid [] c first is = absurd (let bad : false ≡ true = is in cc)
slash_first mid (d ∷ path) c first is =
    let same : nat_eq d c ≡ true = (and_parts (nat_eq d c) (reaches mid path) (sym (reaches_more c d mid path) ∙ is)).0 in
    let slash : nat_eq 47 c ≡ true = (and_parts (nat_eq 47 c) true first).0 in
    let equal : nat_eq 47 d ≡ true = grind arith in
    and_from (nat_eq 47 d) true equal refl

reaches_trans : (prefix mid path : List ℕ) → reaches prefix mid ≡ true → reaches mid path ≡ true
    → reaches prefix path ≡ true
reaches_trans [] [] path first is = is
reaches_trans [] (c ∷ mid) path first is = slash_first mid path c first is
reaches_trans (b ∷ prefix) [] path first is = absurd (let bad : false ≡ true = first in cc)
reaches_trans (b ∷ prefix) (c ∷ mid) [] first is = absurd (let bad : false ≡ true = is in cc)
reaches_trans (b ∷ prefix) (c ∷ mid) (d ∷ path) first is =
    let one = and_parts (nat_eq c b) (reaches prefix mid) (sym (reaches_more b c prefix mid) ∙ first) in
    let two = and_parts (nat_eq d c) (reaches mid path) (sym (reaches_more c d mid path) ∙ is) in
    let same_one = one.0 in
    let same_two = two.0 in
    let same : nat_eq d b ≡ true = grind arith in
    reaches_more b d prefix path ∙ and_from (nat_eq d b) (reaches prefix path) same (reaches_trans prefix mid path one.1 two.1)

-- if a prefix begins a text, it begins each path that the text begins
pub begins_trans : (prefix mid path : List ℕ) → begins_path prefix mid ≡ true → begins_path mid path ≡ true
    → begins_path prefix path ≡ true
begins_trans [] mid path first is = refl
begins_trans (b ∷ prefix) [] path first is = absurd (let bad : false ≡ true = first in cc)
begins_trans (b ∷ prefix) (c ∷ mid) path first is = reaches_trans (b ∷ prefix) (c ∷ mid) path first is

-- paths without those that another path covers

-- if none of the paths passes a test, none of the uncovered paths does
none_uncovered : (test : List ℕ → Bool) (paths : List (List ℕ)) → list_any test paths ≡ false
    → list_any test (uncovered paths) ≡ false
none_uncovered test [] none = none
none_uncovered test (path ∷ paths) none =
    by (list_any (λ other. covers other path) paths) (none_uncovered test paths (or_parts _ _ none).1)
  where
    by : (b : Bool) → list_any test (uncovered paths) ≡ false
        → list_any test (cond b (uncovered paths) (path ∷ uncovered paths)) ≡ false
    by true more = more
    by false more = or_from _ _ (or_parts _ _ none).0 more

-- the uncovered paths begin the same texts as all paths
pub uncovered_same : (paths : List (List ℕ)) (text : List ℕ)
    → list_any (λ path. begins_path (bare_prefix path) text) (uncovered paths)
    ≡ list_any (λ path. begins_path (bare_prefix path) text) paths
uncovered_same [] text = refl
uncovered_same (path ∷ paths) text =
    by (list_any (λ other. covers other path) paths) refl (uncovered_same paths text)
  where
    begins : List ℕ → Bool
    begins other = begins_path (bare_prefix other) text

    covered : (b : Bool) → begins path ≡ b → list_any (λ other. covers other path) paths ≡ true
        → list_any begins paths ≡ (b || list_any begins paths)
    covered true is some =
        any_more (λ other. covers other path) begins
        (λ other above. begins_trans (bare_prefix other) (bare_prefix path) text above is) paths some
    covered false is some = refl

    by : (b : Bool) → list_any (λ other. covers other path) paths ≡ b
        → list_any begins (uncovered paths) ≡ list_any begins paths
        → list_any begins (cond b (uncovered paths) (path ∷ uncovered paths)) ≡ (begins path || list_any begins paths)
    by true some more = more ∙ (covered (begins path) refl some ∙ refl)
    by false none more = ap (λ b. begins path || b) more

-- a path that covers another one matches it, if the other one matches itself
covers_matches : (path other : List ℕ) → matches_itself other ≡ true → covers path other ≡ true
    → matches_path path other ≡ true
covers_matches path other itself is = begins_trans (bare_prefix path) (bare_prefix other) (bare_path other) is itself

-- what is needed

-- whether a need that isn't met wants the path
abbrev pub needs_path : List PathNeed → List (List ℕ) → List ℕ → Bool
needs_path needs prefixes path = list_any (λ (n : PathNeed). is_unmet prefixes n && bytes_eq n.wanted path) needs

-- no prefix matches a needed path
needed_unmatched : (needs : List PathNeed) (prefixes : List (List ℕ)) (path : List ℕ)
    → needs_path needs prefixes path ≡ true → is_matched prefixes path ≡ false
needed_unmatched [] prefixes path some = absurd (let bad : false ≡ true = some in cc)
needed_unmatched (n ∷ needs) prefixes path some =
    elim (or_cases (is_unmet prefixes n && bytes_eq n.wanted path) (needs_path needs prefixes path) some) [
      | inl here ↦
          let parts = and_parts (is_unmet prefixes n) (bytes_eq n.wanted path) here in
          let same : n.wanted ≡ path = (bytes_eq-Decides n.wanted path).0 parts.1 in
          let left = (and_parts (is_matched prefixes n.matched) (not (is_matched prefixes n.wanted)) parts.0).1 in
          subst (λ p. is_matched prefixes p ≡ false) same (not-true (is_matched prefixes n.wanted) left)
      | inr there ↦ needed_unmatched needs prefixes path there
    ]

-- a path that is matched later covers no path that is needed later
none_later : (needs : List PathNeed) (path : List ℕ) (prefixes paths : List (List ℕ))
    → ((other : List ℕ) → is_matched prefixes other ≡ false → matches_path path other ≡ false)
    → AreNeeded needs prefixes paths → list_any (λ other. covers path other) paths ≡ false
none_later needs path prefixes [] among needed = refl
none_later needs path prefixes (other ∷ paths) among (some, itself, more) =
    or_from _ _
    (false_from_ne_true _ (λ above. both_ways _ (among other (needed_unmatched needs prefixes other some))
    (covers_matches path other itself above)))
    (none_later needs path (prefixes ++ other ∷ []) paths (λ text none. among text (or_parts _ _
    (sym (list_any-append (λ prefix. matches_path prefix text) prefixes (other ∷ [])) ∙ none)).0) more)

-- so without the covered paths, no needed path covers another one
pub uncovered_apart : (needs : List PathNeed) (prefixes paths : List (List ℕ)) → AreNeeded needs prefixes paths
    → are_apart (uncovered paths) ≡ true
uncovered_apart needs prefixes [] needed = refl
uncovered_apart needs prefixes (path ∷ paths) (some, itself, more) =
    by (list_any (λ other. covers other path) paths) refl (uncovered_apart needs (prefixes ++ path ∷ []) paths more)
  where
    later : list_any (λ other. covers path other) paths ≡ false
    later = none_later needs path (prefixes ++ path ∷ []) paths
        (λ text none. (or_parts (matches_path path text) false ((or_parts (is_matched prefixes text)
        (matches_path path text || false)
        (sym (list_any-append (λ prefix. matches_path prefix text) prefixes (path ∷ [])) ∙ none)).1)).0) more

    by : (b : Bool) → list_any (λ other. covers other path) paths ≡ b → are_apart (uncovered paths) ≡ true
        → are_apart (cond b (uncovered paths) (path ∷ uncovered paths)) ≡ true
    by true is rest = rest
    by false is rest =
        let above = ap not (none_uncovered (λ other. covers other path) paths is) in
        let below = ap not (none_uncovered (λ other. covers path other) paths later) in
        let free = not (list_any (λ other. covers other path) (uncovered paths)) in
        let over = not (list_any (λ other. covers path other) (uncovered paths)) in
        and_from (free && over) (are_apart (uncovered paths)) (and_from free over above below) rest

-- needed paths, followed by paths that are needed with them, are needed paths
pub needed_append : (needs : List PathNeed) (prefixes paths more : List (List ℕ)) → AreNeeded needs prefixes paths
    → AreNeeded needs (prefixes ++ paths) more → AreNeeded needs prefixes (paths ++ more)
needed_append needs prefixes [] more needed is = subst (λ l. AreNeeded needs l more) (append-nil prefixes) is
needed_append needs prefixes (path ∷ paths) more (some, itself, rest) is = (
  some,
  itself,
  needed_append needs (prefixes ++ path ∷ []) paths more rest
      (subst (λ l. AreNeeded needs l more) (sym (append_assoc prefixes (path ∷ []) paths)) is),
)

-- how many are unmatched

count_most : {X : Type 0} (f g : X → Bool) → ((x : X) → g x ≡ true → f x ≡ true) → (xs : List X)
    → length (filter g xs) ≤ length (filter f xs)
count_most f g each [] = omega arith
count_most f g each (x ∷ xs) = by (g x) refl (f x) refl (count_most f g each xs)
  where
    by : (b : Bool) → g x ≡ b → (a : Bool) → f x ≡ a → length (filter g xs) ≤ length (filter f xs)
        → length (cond b (x ∷ filter g xs) (filter g xs)) ≤ length (cond a (x ∷ filter f xs) (filter f xs))
    by true is true was more = omega arith
    by true is false was more = absurd (both_ways _ was (each x is))
    by false is true was more = omega arith
    by false is false was more = omega arith

count_less : {X : Type 0} (f g : X → Bool) → ((x : X) → g x ≡ true → f x ≡ true) → (xs : List X)
    → list_any (λ x. f x && not (g x)) xs ≡ true → length (filter g xs) < length (filter f xs)
count_less f g each [] some = absurd (let bad : false ≡ true = some in cc)
count_less f g each (x ∷ xs) some = by (g x) refl (f x) refl some (count_less f g each xs) (count_most f g each xs)
  where
    by : (b : Bool) → g x ≡ b → (a : Bool) → f x ≡ a → ((a && not b) || list_any (λ x. f x && not (g x)) xs) ≡ true
        → (list_any (λ x. f x && not (g x)) xs ≡ true → length (filter g xs) < length (filter f xs))
        → length (filter g xs) ≤ length (filter f xs)
        → length (cond b (x ∷ filter g xs) (filter g xs)) < length (cond a (x ∷ filter f xs) (filter f xs))
    by true is true was found less most = let h = less found in omega arith
    by true is false was found less most = absurd (both_ways _ was (each x is))
    by false is true was found less most = omega arith
    by false is false was found less most = less found

-- one more prefix that is needed and matches itself leaves fewer needs unmatched
pub fewer_unmatched : (needs : List PathNeed) (prefixes : List (List ℕ)) (path : List ℕ)
    → needs_path needs prefixes path ≡ true → matches_itself path ≡ true
    → unmatched needs (prefixes ++ path ∷ []) < unmatched needs prefixes
fewer_unmatched needs prefixes path some itself =
    count_less was is
    (λ n left. ap not ((or_parts _ _ (sym (appended n.wanted) ∙ not-true _ left)).0)) needs
    (any_more (λ (n : PathNeed). is_unmet prefixes n && bytes_eq n.wanted path) (λ n. was n && not (is n)) found needs
    some)
  where
    was : PathNeed → Bool
    was n = not (is_matched prefixes n.wanted)

    is : PathNeed → Bool
    is n = not (is_matched (prefixes ++ path ∷ []) n.wanted)

    appended : (text : List ℕ) → is_matched (prefixes ++ path ∷ []) text
        ≡ (is_matched prefixes text || (matches_path path text || false))
    appended text = list_any-append (λ prefix. matches_path prefix text) prefixes (path ∷ [])

    found : (n : PathNeed) → (is_unmet prefixes n && bytes_eq n.wanted path) ≡ true → (was n && not (is n)) ≡ true
    found n both =
        let parts = and_parts (is_unmet prefixes n) (bytes_eq n.wanted path) both in
        let same : n.wanted ≡ path = (bytes_eq-Decides n.wanted path).0 parts.1 in
        let here : is_matched (prefixes ++ path ∷ []) n.wanted ≡ true = appended n.wanted
        ∙ or_right (is_matched prefixes n.wanted) (matches_path path n.wanted || false)
        (or_left (matches_path path n.wanted) false (subst (λ t. matches_path path t ≡ true) (sym same) itself)) in
        and_from (was n) (not (is n))
        (and_parts (is_matched prefixes n.matched) (not (is_matched prefixes n.wanted)) parts.0).1
        (ap (λ b. not (not b)) here)

-- the set of prefixes

-- the set begins the paths that the added prefixes match
set_matches : (items : List (Bor (List ℕ))) (set : List (List ℕ)) (path : List ℕ)
    → BeginSame set (map (λ (item : Bor (List ℕ)). bare_prefix item.now) items)
    → list_any (λ prefix. begins_path prefix (bare_path path)) set ≡ is_matched (map (λ (item : Bor (List ℕ)). item.now) items) path
set_matches items set path same =
    same (bare_path path)
    ∙ (any_mapped (λ (item : Bor (List ℕ)). bare_prefix item.now) (λ prefix. begins_path prefix (bare_path path)) items
    ∙ sym (any_mapped (λ (item : Bor (List ℕ)). item.now) (λ prefix. matches_path prefix path) items))

-- a prefix matches a path exactly if one of the options' prefixes or the set does
pub grown_matches : (g : Grown) (items : List (Bor (List ℕ))) (set : List (List ℕ)) (path : List ℕ)
    → BeginSame set (map (λ (item : Bor (List ℕ)). bare_prefix item.now) items)
    → map (λ (item : Bor (List ℕ)). item.now) items ≡ g.added
    → (is_matched g.given path || list_any (λ prefix. begins_path prefix (bare_path path)) set)
    ≡ is_matched (grown_prefixes g) path
grown_matches g items set path same is =
    ap (λ b. is_matched g.given path || b) (set_matches items set path same
    ∙ ap (λ added. is_matched added path) is)
    ∙ sym (list_any-append (λ prefix. matches_path prefix path) g.given g.added)

-- a pass over the needs, up to the needs that remain
pub record PassSoFar (needs left : List PathNeed) (old new : Grown) (grew : Bool) : Type 0 where
  pub given : new.given ≡ old.given
  pub more : List (List ℕ)
  pub added : new.added ≡ old.added ++ more
  pub needed : AreNeeded needs (grown_prefixes old) more
  pub among : (test : PathNeed → Bool) → list_any test left ≡ true → list_any test needs ≡ true
  pub closed : grew ≡ false → (new ≡ old)
      × (list_any (is_unmet (grown_prefixes new)) needs ≡ list_any (is_unmet (grown_prefixes new)) left)
  pub fewer : grew ≡ true → unmatched needs (grown_prefixes new) < unmatched needs (grown_prefixes old)

module _ (needs left : List PathNeed) (n : PathNeed) (old new : Grown) (grew : Bool)
    (so_far : PassSoFar needs (n ∷ left) old new grew) where
  grown_is : grown_prefixes new ≡ grown_prefixes old ++ so_far.more
  grown_is = ap₂ (λ given added. given ++ added) so_far.given so_far.added
      ∙ sym (append_assoc old.given old.added so_far.more)

  -- the present need wants its path
  is_needed : is_unmet (grown_prefixes new) n ≡ true → needs_path needs (grown_prefixes new) n.wanted ≡ true
  is_needed open_now = so_far.among (λ (m : PathNeed). is_unmet (grown_prefixes new) m && bytes_eq m.wanted n.wanted)
      (or_left _ _ (and_from (is_unmet (grown_prefixes new) n) (bytes_eq n.wanted n.wanted) open_now
      ((bytes_eq-Decides n.wanted n.wanted).1 refl)))

  no_more : (a b c : ℕ) → a < b → (grew ≡ false → b ≡ c) → (grew ≡ true → b < c) → a < c
  no_more a b c less same fewer = by grew refl
    where
      by : (g : Bool) → grew ≡ g → a < c
      by true is = let h = fewer is in omega arith
      by false is = let h = same is in omega arith

  -- the next need isn't met
  pub pass_grows : (next : Grown) → is_unmet (grown_prefixes new) n ≡ true → matches_itself n.wanted ≡ true
      → next ≡ record new { added = new.added ++ n.wanted ∷ [] } → PassSoFar needs left old next true
  pass_grows next open_now itself is =
      subst (λ g. PassSoFar needs left old g true) (sym is) record {
        given = so_far.given;
        more = so_far.more ++ n.wanted ∷ [];
        added = ap (λ added. added ++ n.wanted ∷ []) so_far.added ∙ append_assoc old.added so_far.more (n.wanted ∷ []);
        needed = needed_append needs (grown_prefixes old) so_far.more (n.wanted ∷ []) so_far.needed
            (subst (λ l. needs_path needs l n.wanted ≡ true) grown_is (is_needed open_now), itself, tt);
        among = λ test some. so_far.among test (or_right (test n) _ some);
        closed = λ bad. absurd (let no : true ≡ false = bad in cc);
        fewer = λ _. no_more _ (unmatched needs (grown_prefixes new)) _
            (subst (λ l. unmatched needs l < unmatched needs (grown_prefixes new))
            (append_assoc new.given new.added (n.wanted ∷ []))
            (fewer_unmatched needs (grown_prefixes new) n.wanted (is_needed open_now) itself))
            (λ none. ap (λ g. unmatched needs (grown_prefixes g)) (so_far.closed none).0) so_far.fewer;
      }

-- the pass comes to the next need
module _ (needs : List PathNeed) (all : List CopyNeed) (place : ℕ) (d : CopyNeed) (old new : Grown) (grew : Bool)
    (low : place < length all) (so_far : PassSoFar needs (map need_view (drop place all)) old new grew) where
  abbrev next_need : CopyNeed
  next_need = get_or all place d

  abbrev others : List PathNeed
  others = map need_view (drop (place + 1) all)

  here : PassSoFar needs (need_view next_need ∷ others) old new grew
  here = subst (λ left. PassSoFar needs (map need_view left) old new grew) (drop_more all place d low) so_far

  -- it adds the wanted path
  pub pass_adds : (next : Grown) → IsTrue (each_matches_itself needs)
      → is_unmet (grown_prefixes new) (need_view (get_or all place d)) ≡ true
      → next ≡ record new { added = new.added ++ (get_or all place d).wanted.now ∷ [] }
      → PassSoFar needs (map need_view (drop (place + 1) all)) old next true
  pass_adds next itself open_now is =
      pass_grows needs others (need_view next_need) old new grew here next open_now self_matched is
    where
      self_matched : matches_itself next_need.wanted.now ≡ true
      self_matched = by (matches_itself next_need.wanted.now) refl
        where
          by : (b : Bool) → matches_itself next_need.wanted.now ≡ b → b ≡ true
          by true same = refl
          by false same = absurd (both_ways _ (not-true _ itself)
              (here.among (λ (m : PathNeed). not (matches_itself m.wanted))
              (or_left (not (matches_itself next_need.wanted.now)) _ (ap not same))))

  -- it adds nothing
  pub pass_leaves : is_unmet (grown_prefixes new) (need_view (get_or all place d)) ≡ false
      → PassSoFar needs (map need_view (drop (place + 1) all)) old new grew
  pass_leaves met = record {
    given = here.given;
    more = here.more;
    added = here.added;
    needed = here.needed;
    among = λ test some. here.among test (or_right (test (need_view next_need)) _ some);
    closed = λ none. (
      (here.closed none).0,
      (here.closed none).1 ∙ ap (λ b. b || list_any (is_unmet (grown_prefixes new)) others) met,
    );
    fewer = here.fewer;
  }

-- the state after some passes
pub record PassesSoFar (needs : List PathNeed) (given : List (List ℕ)) (now : Grown) : Type 0 where
  pub given_is : now.given ≡ given
  pub needed : AreNeeded needs given now.added

pub passes_go_on : (needs : List PathNeed) (given : List (List ℕ)) (old new : Grown) (grew : Bool)
    → PassesSoFar needs given old → IsPass needs old new grew → PassesSoFar needs given new
passes_go_on needs given old new grew so_far pass = record {
  given_is = pass.given ∙ so_far.given_is;
  needed = subst (AreNeeded needs given) (sym pass.added)
      (needed_append needs given old.added pass.more so_far.needed
      (subst (λ l. AreNeeded needs (l ++ old.added) pass.more) so_far.given_is pass.needed));
}
