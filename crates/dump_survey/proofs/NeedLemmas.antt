-- What copies need, record by record, and the prefixes to add.
use Rattle.dump_survey.proofs.Prelude.{◌≡◌, ℕ, ◌+◌, ◌-◌, ◌≤◌, ◌<◌, Bool, true, false, not, ◌&&◌, ◌||◌, List, [], ◌∷◌, ◌++◌, length, map, take, get_or, reverse, Option, Some, None, option_map, bytes_eq, Bor, Vec, Global, Result, Ok, Err, cond, refl, sym, ap, ap₂, ◌∙◌, subst, arith, append-nil, append_assoc, list_any, filter_map, cons_option, IsPermutation, list_any-IsPermutation, any_mapped, or_from, and_parts, and_from, take-length, map-append, take_more, reverse-append, reverse-reverse, list_any-append, filter_map-append, DumpRecord, Ending, HasRecords, bare_prefix, bare_path, begins_path, matches_path, BeginSame, Side, Include, Exclude, Settings, side_keeps, is_node, is_copy, node_path, is_whole_file, copy_path, Memory, CopyNeed, with_prefixes, stops_at, wanted_path, matches_itself, is_wanted, AreWanted, covers, uncovered, are_apart, stops_somewhere, ArePrefixesToAdd, ArePrefixesToAddIn, HasCollected, NeedCollector, PathNeed, need_view, need_of, needs_of, needs_source, copy_need, is_matched, is_unmet, AreNeeded, each_matches_itself}
use Rattle.std.proofs.Common.{unwrap_or}
use Rattle.std.specs.Result.{IfOk}
use Rattle.dump_survey.proofs.GrowingPrefixLemmas.{needs_path, uncovered_same, uncovered_apart}
use Rattle.dump_trees.proofs.paths.SiblingLemmas.{any_more}

-- record by record

-- the needs after one more record
pub needs_more : (first old now : NeedCollector) (before : List DumpRecord) (r : DumpRecord) (need : Option PathNeed)
    → HasCollected first before old → now.side ≡ old.side → need ≡ need_of old.side r
    → map need_view now.needs.items
    ≡ map need_view old.needs.items ++ filter_map (λ (n : Option PathNeed). n) (need ∷ [])
    → HasCollected first (before ++ r ∷ []) now
needs_more first old now before r need so_far side is are = record {
  side = side ∙ so_far.side;
  needs = are
      ∙ ap₂ (λ some others. some ++ others) so_far.needs
      (ap (λ (n : Option PathNeed). filter_map (λ (m : Option PathNeed). m) (n ∷ []))
      (is ∙ ap (λ s. need_of s r) so_far.side))
      ∙ append_assoc (map need_view first.needs.items) (needs_of first.side before) (needs_of first.side (r ∷ []))
      ∙ ap (λ needs. map need_view first.needs.items ++ needs) (sym (filter_map-append (need_of first.side) before (r ∷ [])));
}

-- from the last path to the first

-- the paths after those that remain
pub record UncoveredSoFar (paths left set top : List (List ℕ)) : Type 0 where
  pub behind : List (List ℕ)
  pub paths_are : paths ≡ left ++ behind
  pub begins : (text : List ℕ)
      → list_any (λ prefix. begins_path prefix text) set ≡ list_any (λ path. begins_path (bare_prefix path) text) behind
  pub top_is : top ≡ reverse (uncovered behind)

or_swapped : (a b : Bool) → (a || (b || false)) ≡ (b || a)
or_swapped true true = refl
or_swapped true false = refl
or_swapped false true = refl
or_swapped false false = refl

pub one_behind : (paths left set top next : List (List ℕ)) (path : List ℕ) (begun : Bool)
    → UncoveredSoFar paths (left ++ path ∷ []) set top
    → begun ≡ list_any (λ prefix. begins_path prefix (bare_prefix path)) set
    → BeginSame next (set ++ bare_prefix path ∷ [])
    → UncoveredSoFar paths left next (cond begun top (top ++ path ∷ []))
one_behind paths left set top next path begun so_far is same = record {
  behind = path ∷ so_far.behind;
  paths_are = so_far.paths_are ∙ append_assoc left (path ∷ []) so_far.behind;
  begins = λ text. same text
      ∙ (list_any-append (λ prefix. begins_path prefix text) set (bare_prefix path ∷ [])
      ∙ (ap (λ b. b || (begins_path (bare_prefix path) text || false)) (so_far.begins text)
      ∙ or_swapped (list_any (λ other. begins_path (bare_prefix other) text) so_far.behind)
      (begins_path (bare_prefix path) text)));
  top_is = by begun (is ∙ so_far.begins (bare_prefix path));
}
  where
    by : (b : Bool) → b ≡ list_any (λ other. covers other path) so_far.behind
        → cond b top (top ++ path ∷ []) ≡ reverse (uncovered (path ∷ so_far.behind))
    by true covered = rw (← covered) so_far.top_is
    by false free = rw (← free) (ap (λ l. l ++ path ∷ []) so_far.top_is
        ∙ sym (reverse-append (path ∷ []) (uncovered so_far.behind)))

-- the last of the paths
pub last_path : (left : List (Bor (List ℕ))) (d : Bor (List ℕ)) → 1 ≤ length left
    → map (λ (path : Bor (List ℕ)). path.now) left ≡ map (λ (path : Bor (List ℕ)). path.now) (take (length left - 1) left)
    ++ (get_or left (length left - 1) d).now ∷ []
last_path left d some =
    ap (map (λ (path : Bor (List ℕ)). path.now)) (sym (take-length left)
    ∙ (ap (λ n. take n left) (let e : length left ≡ length left - 1 + 1 = omega arith in e)
    ∙ take_more left (length left - 1) d (omega arith)))
    ∙ map-append (λ (path : Bor (List ℕ)). path.now) (take (length left - 1) left) (get_or left (length left - 1) d ∷ [])

-- a path is added to the uncovered paths or not
pub path_behind : (paths : List (List ℕ)) (left : List (Bor (List ℕ))) (d : Bor (List ℕ)) (set next : List (List ℕ))
    (top all : List (Bor (List ℕ))) (begun : Bool) → 1 ≤ length left
    → UncoveredSoFar paths (map (λ (path : Bor (List ℕ)). path.now) left) set (map (λ (path : Bor (List ℕ)). path.now) top)
    → begun ≡ list_any (λ prefix. begins_path prefix (bare_prefix (get_or left (length left - 1) d).now)) set
    → BeginSame next (set ++ bare_prefix (get_or left (length left - 1) d).now ∷ [])
    → all ≡ cond begun top (top ++ get_or left (length left - 1) d ∷ [])
    → UncoveredSoFar paths (map (λ (path : Bor (List ℕ)). path.now) (take (length left - 1) left)) next
    (map (λ (path : Bor (List ℕ)). path.now) all)
path_behind paths left d set next top all begun some so_far is same are =
    subst (UncoveredSoFar paths (map now (take (length left - 1) left)) next) (sym (ap (map now) are ∙ by begun))
    (one_behind paths (map now (take (length left - 1) left)) set (map now top) next last.now begun
    (subst (λ l. UncoveredSoFar paths l set (map now top)) (last_path left d some) so_far) is same)
  where
    now : Bor (List ℕ) → List ℕ
    now path = path.now

    last : Bor (List ℕ)
    last = get_or left (length left - 1) d

    by : (b : Bool) → map now (cond b top (top ++ last ∷ [])) ≡ cond b (map now top) (map now top ++ last.now ∷ [])
    by true = refl
    by false = map-append now top (last ∷ [])

-- no path remains
pub all_uncovered : (paths set : List (List ℕ)) (left top items : List (Bor (List ℕ))) → length left < 1
    → UncoveredSoFar paths (map (λ (path : Bor (List ℕ)). path.now) left) set (map (λ (path : Bor (List ℕ)). path.now) top)
    → items ≡ reverse top → map (λ (path : Bor (List ℕ)). path.now) items ≡ uncovered paths
all_uncovered paths set (x ∷ left) top items short so_far are = absurd (omega arith)
all_uncovered paths set [] top items short so_far are =
    ap (map (λ (path : Bor (List ℕ)). path.now)) are
    ∙ (reversed top ∙ (ap reverse so_far.top_is
    ∙ (reverse-reverse (uncovered so_far.behind) ∙ ap uncovered (sym so_far.paths_are))))
  where
    reversed : (xs : List (Bor (List ℕ))) → map (λ (path : Bor (List ℕ)). path.now) (reverse xs)
        ≡ reverse (map (λ (path : Bor (List ℕ)). path.now) xs)
    reversed [] = refl
    reversed (x ∷ xs) =
        ap (map (λ (path : Bor (List ℕ)). path.now)) (reverse-append (x ∷ []) xs)
        ∙ (map-append (λ (path : Bor (List ℕ)). path.now) (reverse xs) (x ∷ [])
        ∙ (ap (λ l. l ++ x.now ∷ []) (reversed xs)
        ∙ sym (reverse-append (x.now ∷ []) (map (λ (path : Bor (List ℕ)). path.now) xs))))

-- a need is added or not
pub pushed : (items all : List CopyNeed) (need : CopyNeed) (found : Option CopyNeed) → found ≡ Some need → all ≡ items ++ need ∷ []
    → map need_view all ≡ map need_view items ++ filter_map (λ (n : Option PathNeed). n) (option_map need_view found ∷ [])
pushed items all need found is are =
    ap (map need_view) are ∙ (map-append need_view items (need ∷ [])
    ∙ ap (λ (f : Option CopyNeed). map need_view items ++ filter_map (λ (n : Option PathNeed). n) (option_map need_view f ∷ [])) (sym is))

pub not_pushed : (items : List CopyNeed) (found : Option CopyNeed) → found ≡ None
    → map need_view items ≡ map need_view items ++ filter_map (λ (n : Option PathNeed). n) (option_map need_view found ∷ [])
not_pushed items found is =
    sym (append-nil (map need_view items))
    ∙ ap (λ (f : Option CopyNeed). map need_view items ++ filter_map (λ (n : Option PathNeed). n) (option_map need_view f ∷ [])) (sym is)

-- the prefixes to add

any_filtered : {X Y : Type 0} (test : Y → Bool) (h : X → Option Y) (xs : List X)
    → list_any test (filter_map h xs) ≡ list_any (λ x. unwrap_or (option_map test (h x)) false) xs
any_filtered test h [] = refl
any_filtered {X} {Y} test h (x ∷ xs) = by (h x) (any_filtered test h xs)
  where
    by : (y : Option Y) → list_any test (filter_map h xs) ≡ list_any (λ x. unwrap_or (option_map test (h x)) false) xs
        → list_any test (cons_option y (filter_map h xs))
        ≡ (unwrap_or (option_map test y) false || list_any (λ x. unwrap_or (option_map test (h x)) false) xs)
    by None more = more
    by (Some y) more = ap (λ b. test y || b) more

any_same : {X : Type 0} (f g : X → Bool) → ((x : X) → f x ≡ g x) → (xs : List X) → list_any f xs ≡ list_any g xs
any_same f g each [] = refl
any_same f g each (x ∷ xs) = ap₂ (λ a b. a || b) (each x) (any_same f g each xs)

some_where : {X : Type 0} (c : Bool) (x : X) (test : X → Bool)
    → unwrap_or (option_map test (cond c (Some x) None)) false ≡ (c && test x)
some_where true x test = refl
some_where false x test = refl

-- the parts of the condition for a copy, in another order
parts_of_stop : (node copy part itself kept lost : Bool)
    → ((((node && copy) && part) && itself) && (kept && lost)) ≡ ((node && ((kept && (copy && lost)) && part)) && itself)
parts_of_stop false copy part itself kept lost = refl
parts_of_stop true false part itself false lost = refl
parts_of_stop true false part itself true lost = refl
parts_of_stop true true false itself false lost = refl
parts_of_stop true true false itself true true = refl
parts_of_stop true true false itself true false = refl
parts_of_stop true true true true false lost = refl
parts_of_stop true true true false false lost = refl
parts_of_stop true true true true true true = refl
parts_of_stop true true true true true false = refl
parts_of_stop true true true false true true = refl
parts_of_stop true true true false true false = refl

and_swapped : (a b : Bool) → (a && not b) ≡ (not b && not (not a))
and_swapped true true = refl
and_swapped true false = refl
and_swapped false true = refl
and_swapped false false = refl

-- the filter stops at a copy exactly if the copy's need isn't met
open_stops : (side : Side) (prefixes : List (List ℕ)) (r : DumpRecord)
    → ((needs_source r && matches_itself (wanted_path side r)) && is_unmet prefixes (copy_need side r))
    ≡ ((is_node r && ((side_keeps side (is_matched prefixes (node_path r))
    && (is_copy r && not (side_keeps side (is_matched prefixes (copy_path r))))) && not (is_whole_file r)))
    && matches_itself (wanted_path side r))
open_stops Include prefixes r =
    parts_of_stop (is_node r) (is_copy r) (not (is_whole_file r)) (matches_itself (copy_path r))
    (is_matched prefixes (node_path r)) (not (is_matched prefixes (copy_path r)))
open_stops Exclude prefixes r =
    ap (λ b. (needs_source r && matches_itself (node_path r)) && b)
    (and_swapped (is_matched prefixes (copy_path r)) (is_matched prefixes (node_path r)))
    ∙ parts_of_stop (is_node r) (is_copy r) (not (is_whole_file r)) (matches_itself (node_path r))
    (not (is_matched prefixes (node_path r))) (not (not (is_matched prefixes (copy_path r))))

-- if the filter stops nowhere, each need is met
none_stops : (settings : Settings) (records : List DumpRecord)
    → list_any (is_unmet settings.prefixes) (needs_of settings.side records) ≡ stops_somewhere settings records
none_stops settings records =
    any_filtered (is_unmet settings.prefixes) (need_of settings.side) records
    ∙ any_same _ (λ r. stops_at settings r && matches_itself (wanted_path settings.side r))
    (λ r. some_where (needs_source r && matches_itself (wanted_path settings.side r)) (copy_need settings.side r)
    (is_unmet settings.prefixes) ∙ open_stops settings.side settings.prefixes r) records

-- the path that an unmet need wants is a wanted path
need_wanted : (settings : Settings) (records : List DumpRecord) (path : List ℕ)
    → needs_path (needs_of settings.side records) settings.prefixes path ≡ true → is_wanted settings records path ≡ true
need_wanted settings records path some =
    any_more _ (λ r. stops_at settings r && bytes_eq (wanted_path settings.side r) path) each records
    (sym (any_filtered (λ (n : PathNeed). is_unmet settings.prefixes n && bytes_eq n.wanted path)
    (need_of settings.side) records)
    ∙ some)
  where
    each : (r : DumpRecord)
        → unwrap_or (option_map (λ (n : PathNeed). is_unmet settings.prefixes n && bytes_eq n.wanted path)
        (need_of settings.side r)) false ≡ true → (stops_at settings r && bytes_eq (wanted_path settings.side r) path) ≡ true
    each r found =
        let can = needs_source r && matches_itself (wanted_path settings.side r) in
        let here = is_unmet settings.prefixes (copy_need settings.side r) in
        let same = bytes_eq (wanted_path settings.side r) path in
        let parts = and_parts can (here && same) (sym (some_where can (copy_need settings.side r)
        (λ (n : PathNeed). is_unmet settings.prefixes n && bytes_eq n.wanted path)) ∙ found) in
        let both = and_parts here same parts.1 in
        let stops = and_parts (stops_at settings r) (matches_itself (wanted_path settings.side r))
        (sym (open_stops settings.side settings.prefixes r) ∙ and_from can here parts.0 both.0) in
        and_from (stops_at settings r) same stops.0 both.1

-- each path that a need wants matches itself
pub needs_match : (side : Side) (records : List DumpRecord) (needs : List PathNeed)
    → ((test : PathNeed → Bool) → list_any test needs ≡ list_any test (needs_of side records))
    → each_matches_itself needs ≡ true
needs_match side records needs same =
    ap not (same (λ (n : PathNeed). not (matches_itself n.wanted))
    ∙ (any_filtered (λ (n : PathNeed). not (matches_itself n.wanted)) (need_of side) records
    ∙ none_of records))
  where
    by : (can itself : Bool) → ((can && itself) && not itself) ≡ false
    by false itself = refl
    by true true = refl
    by true false = refl

    none_of : (rs : List DumpRecord)
        → list_any (λ r. unwrap_or (option_map (λ (n : PathNeed). not (matches_itself n.wanted)) (need_of side r)) false) rs ≡ false
    none_of [] = refl
    none_of (r ∷ rs) = or_from _ _
        (some_where (needs_source r && matches_itself (wanted_path side r)) (copy_need side r)
        (λ (n : PathNeed). not (matches_itself n.wanted))
        ∙ by (needs_source r) (matches_itself (wanted_path side r))) (none_of rs)

-- so each needed path is a wanted path
all_wanted : (settings : Settings) (records : List DumpRecord) (needs : List PathNeed)
    → ((test : PathNeed → Bool) → list_any test needs ≡ list_any test (needs_of settings.side records))
    → (before paths : List (List ℕ)) → AreNeeded needs (settings.prefixes ++ before) paths
    → AreWanted settings records before paths
all_wanted settings records needs same before [] needed = tt
all_wanted settings records needs same before (path ∷ paths) (some, itself, more) = (
  need_wanted (with_prefixes settings before) records path
      (sym (same (λ (n : PathNeed). is_unmet (settings.prefixes ++ before) n && bytes_eq n.wanted path)) ∙ some),
  itself,
  all_wanted settings records needs same (before ++ path ∷ []) paths
      (subst (λ l. AreNeeded needs l paths) (append_assoc settings.prefixes before (path ∷ [])) more),
)

-- so these are the prefixes to add
pub are_prefixes_to_add : (settings : Settings) (records : List DumpRecord) (needs : List PathNeed) (wanted paths : List (List ℕ))
    → ((test : PathNeed → Bool) → list_any test needs ≡ list_any test (needs_of settings.side records))
    → AreNeeded needs settings.prefixes wanted
    → list_any (is_unmet (settings.prefixes ++ wanted)) needs ≡ false
    → paths ≡ uncovered wanted → ArePrefixesToAdd settings records paths
are_prefixes_to_add settings records needs wanted paths same needed closed is = record {
  wanted = wanted;
  are_wanted = all_wanted settings records needs same [] wanted
      (subst (λ l. AreNeeded needs l wanted) (sym (append-nil settings.prefixes)) needed);
  paths_are = is;
  apart = subst (λ l. are_apart l ≡ true) (sym is) (uncovered_apart needs settings.prefixes wanted needed);
  stops_nowhere = sym (none_stops (with_prefixes settings paths) records)
      ∙ (sym (same (is_unmet (settings.prefixes ++ paths))) ∙ (any_same (is_unmet (settings.prefixes ++ paths))
      (is_unmet (settings.prefixes ++ wanted)) (λ n. ap₂ (λ m w. m && not w) (alike n.matched) (alike n.wanted)) needs
      ∙ closed));
}
  where
    alike : (text : List ℕ) → is_matched (settings.prefixes ++ paths) text ≡ is_matched (settings.prefixes ++ wanted) text
    alike text =
        list_any-append (λ prefix. matches_path prefix text) settings.prefixes paths
        ∙ (ap (λ b. is_matched settings.prefixes text || b)
        (ap (λ l. is_matched l text) is ∙ uncovered_same wanted (bare_path text))
        ∙ sym (list_any-append (λ prefix. matches_path prefix text) settings.prefixes wanted))

-- a test of the needs has the same result in another order
pub reordered : (some all : List CopyNeed) (needs : List PathNeed) → IsPermutation some all → map need_view some ≡ needs
    → (test : PathNeed → Bool) → list_any test (map need_view all) ≡ list_any test needs
reordered some all needs same are test =
    any_mapped need_view test all
    ∙ (sym (list_any-IsPermutation (λ n. test (need_view n)) some all same)
    ∙ (sym (any_mapped need_view test some) ∙ ap (list_any test) are))

-- so these are the prefixes to add if memory doesn't run out
pub kept_in : (settings : Settings) (dump : List ℕ) (needs : List PathNeed) (wanted : List (List ℕ))
    → ((records : List DumpRecord) × (ending : Ending) × HasRecords dump records ending
    × ((test : PathNeed → Bool) → list_any test needs ≡ list_any test (needs_of settings.side records)))
    → AreNeeded needs settings.prefixes wanted
    → list_any (is_unmet (settings.prefixes ++ wanted)) needs ≡ false
    → (result : Result (Vec (Bor (List ℕ)) Global) Memory)
    → IfOk result (λ paths. map (λ (path : Bor (List ℕ)). path.now) paths.items ≡ uncovered wanted)
    → IfOk result (λ paths. ArePrefixesToAddIn settings dump (map (λ (path : Bor (List ℕ)). path.now) paths.items))
kept_in settings dump needs wanted (records, ending, has, same) needed closed (Ok paths) is =
    (records, ending, has, are_prefixes_to_add settings records needs wanted (map (λ (path : Bor (List ℕ)). path.now) paths.items) same needed closed is)
kept_in settings dump needs wanted found needed closed (Err e) is = tt
