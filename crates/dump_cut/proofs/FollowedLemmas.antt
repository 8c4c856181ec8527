-- Copies that are followed one by one.
use Rattle.std.proofs.Common.{◌≡◌, ℕ, zero, suc, ◌+◌, ◌-◌, ◌<◌, ◌≤◌, Bool, true, false, not, ◌&&◌, ◌||◌, List, [], ◌∷◌, ◌++◌, length, map, filter, Option, Some, None, is_some, Contains, inl, inr, refl, sym, ap, ap₂, ◌∙◌, subst, arith}
use Rattle.std.specs.Prelude.{slice_get, if◌then◌else◌}
use Rattle.std.specs.List.{All, AllZip, list_all}
use Rattle.std.proofs.lemmas.Bool.{and_parts, and_from, cases_lt, not-true, not-false}
use Rattle.std.proofs.lemmas.List.{length-append}
use Rattle.std.proofs.lemmas.List.Folds.{list_all-append}
use Rattle.std.proofs.lemmas.Option.{slice_get_within}
use Rattle.std.proofs.lemmas.List.Elements.{All-append, All-cons, All-nil, Contains-append_left, Contains-append_right}
use Rattle.dump_trees.specs.Changes.{Made, Change}
use Rattle.dump_trees.specs.Following.{Way, from_of, to_of}
use Rattle.dump_trees.specs.steps.Following.{followed_told, IsFollowed, IsGrown, AreFollowed}
use Rattle.dump_trees.specs.steps.FollowedRests.{PlacedRest, all_rests, rests_at, rests_made}
use Rattle.dump_trees.specs.steps.LoadCheck.{ToldKinds}
use Rattle.dump_trees.specs.steps.Looking.{Placed, end_of, placed_from}
use Rattle.dump_trees.specs.Paths.{NodePath, names_of, below}
use Rattle.dump_trees.specs.Returns.{is_covered}
use Rattle.dump_trees.specs.steps.Returns.{named_rest, rests_below, rests_covered}
use Rattle.dump_trees.specs.Siblings.{has_node_names}
use Rattle.dump_trees.specs.Trees.{Tree}
use Rattle.dump_trees.proofs.changes.TreeLemmas.{below_rest}
use Rattle.dump_trees.proofs.paths.SiblingLemmas.{both_names, rest_names}
use Rattle.dump_trees.proofs.expansions.FoundSiblings.{contains_map}
use Rattle.dump_trees.proofs.cuts.CoveredPaths.{contains_cases, contains_first, contains_later, contains_none, filter_passed}
use Rattle.dump_trees.proofs.cuts.FollowLemmas.{listed_are_followed}
use Rattle.dump_trees.proofs.cuts.PlacedCopies.{copies_are_placed}
use Rattle.dump_trees.proofs.cuts.RestLemmas.{all_rests_are_listed, none_at_any_place}
use Rattle.dump_index.specs.steps.IndexLaws.{IsListed}
use Rattle.dump_index.specs.steps.Listed.{Listed}
use Rattle.dump_index.specs.steps.ToldKinds.{kinds_told_by}
use Rattle.dump_index.proofs.LawLemmas.{Both, both_at}
use Rattle.dump_cut.specs.steps.ExcludedPaths.{IsGrownIf}
use Rattle.dump_cut.specs.declared.followed.Addition.{Addition}
use Rattle.dump_cut.specs.steps.FollowedCopies.{ComeByFollowing, IsIndexOf}
use Rattle.dump_cut.specs.steps.FollowedPaths.{AddsOne, AddsPath, AreFollowedTo, ArePlaced, IsFollowedTo, IsIdle, KeepsFollowing, LeadsTo, paths_made, place_at_turn}
use Rattle.dump_cut.proofs.GrowingLemmas.{added_covers}

-- a place below a count is the last one, or below the last one

last_or_before : (place count : ℕ) → place < suc count → (place ≡ count → ⊥) → place < count
last_or_before place count low other = omega (arith, low, other)

at_listed : (way : Way) (tops : List NodePath) (told : ToldKinds) (placed : List Placed) (count place : ℕ) (rest : NodePath)
    → place < count → Contains (rests_at way tops told placed (slice_get placed place)) rest
    → Contains (all_rests way tops told placed count) (record { place = place; rest = rest })
at_listed way tops told placed zero place rest low there = absurd (omega (arith, low))
at_listed way tops told placed (suc count) place rest low there =
    cases (at_listed way tops told placed count place rest) (Rattle.std.proofs.Common.nat_eq place count) refl
  where
    here : List PlacedRest
    here = map (λ r. record { place = count; rest = r }) (rests_at way tops told placed (slice_get placed count))

    cases : (place < count → Contains (rests_at way tops told placed (slice_get placed place)) rest
        → Contains (all_rests way tops told placed count) (record { place = place; rest = rest }))
        → (b : Bool) → Rattle.std.proofs.Common.nat_eq place count ≡ b
        → Contains (all_rests way tops told placed count
        ++ map (λ r. record { place = count; rest = r }) (rests_at way tops told placed (slice_get placed count)))
        (record { place = place; rest = rest })
    cases further true is =
        let same : place ≡ count = Rattle.std.proofs.Common.eqb-true place count is in
        Contains-append_right (all_rests way tops told placed count)
        (map (λ r. record { place = count; rest = r }) (rests_at way tops told placed (slice_get placed count)))
        (record { place = place; rest = rest })
        (subst (λ n. Contains {X = PlacedRest}
        (map (λ r. record { place = n; rest = r }) (rests_at way tops told placed (slice_get placed n)))
        (record { place = place; rest = rest })) same
        (contains_map (λ r. record { place = place; rest = r }) (rests_at way tops told placed (slice_get placed place))
        rest there))
    cases further false isnt =
        let less : place < count = last_or_before place count low (λ same.
        let bad : true ≡ false = sym (Rattle.std.proofs.lemmas.Bool.eq-eqb place count same) ∙ isnt in cc) in
        Contains-append_left (all_rests way tops told placed count)
        (map (λ r. record { place = count; rest = r }) (rests_at way tops told placed (slice_get placed count)))
        (record { place = place; rest = rest }) (further less there)

-- a copy that an index lists is followed to the paths that the index gives

pub followed_at : (way : Way) (tops : List NodePath) (listed : List Listed) (place : ℕ) (l : Listed) (number : ℕ)
    (source : NodePath) (revisions : List (List Change)) (trees : List Tree) (rest : NodePath)
    → slice_get listed place ≡ Some l → l.made ≡ Some (Made.Copied number source) → IsIndexOf listed revisions trees
    → Contains (followed_told way tops (kinds_told_by listed) (placed_from 1 revisions) number (names_of l.path) source) rest
    → IsFollowedTo way trees revisions tops place (to_of way (names_of l.path) source ++ rest)
followed_at way tops listed place l number source revisions trees rest there made index among =
    cases (both_at listed placed index.lists place)
  where
    placed : List Placed
    placed = placed_from 1 revisions

    told : ToldKinds
    told = kinds_told_by listed

    found : (p : Placed) → slice_get (placed_from 1 revisions) place ≡ Some p → IsListed l p
        → IsFollowedTo way trees revisions tops place (to_of way (names_of l.path) source ++ rest)
    found p at its =
        let listed_rest : Contains (rests_at way tops (kinds_told_by listed) (placed_from 1 revisions)
        (slice_get (placed_from 1 revisions) place)) rest =
        subst (λ rests. Contains rests rest)
        (sym (ap (rests_at way tops (kinds_told_by listed) (placed_from 1 revisions)) at
        ∙ ap₂ (λ path m. Rattle.dump_trees.specs.steps.FollowedRests.rests_made way tops (kinds_told_by listed) (placed_from 1 revisions) path m)
        its.path (its.made ∙ made))) among in
        let (path, from, old, copy, its_rest) =
        (all_rests_are_listed way tops (kinds_told_by listed) revisions trees (placed_from 1 revisions) refl index.tells
        index.loads).0 (record { place = place; rest = rest })
        (at_listed way tops (kinds_told_by listed) (placed_from 1 revisions) (length (placed_from 1 revisions)) place rest
        (slice_get_within (placed_from 1 revisions) place p at) listed_rest) in
        let one : Some p ≡ Some copy.at = sym at ∙ copy.there in
        let same : p ≡ copy.at = cc in
        let to : names_of l.path ≡ path = sym its.path ∙ (ap (λ (q : Placed). q.change.path) same ∙ copy.to) in
        let both : Some (Made.Copied number source) ≡ Some (Made.Copied copy.number from) =
        sym (its.made ∙ made) ∙ (ap (λ (q : Placed). q.change.made) same ∙ copy.copies) in
        let start : source ≡ from = cc in
        record {
          path = path;
          source = from;
          rest = rest;
          old = old;
          copy = copy;
          there = its_rest;
          at = ap₂ (λ t s. to_of way t s ++ rest) to start;
        }

    cases : Both listed (placed_from 1 revisions) place
        → IsFollowedTo way trees revisions tops place (to_of way (names_of l.path) source ++ rest)
    cases (Both.Neither none other) = absurd (let bad : None ≡ Some l = sym none ∙ there in cc)
    cases (Both.One k p one at its) =
        let both : Some k ≡ Some l = sym one ∙ there in
        let same : k ≡ l = cc in
        found p at (subst (λ (m : Listed). IsListed m p) same its)

-- one more addition

followed_more : (way : Way) (trees : List Tree) (revisions : List (List Change)) (additions : List NodePath)
    (tops mid : List NodePath) (added : NodePath) (more : List NodePath)
    → AreFollowed way trees revisions tops additions mid → IsFollowed way trees revisions mid added → IsGrown mid added more
    → AreFollowed way trees revisions tops (additions ++ added ∷ []) more
followed_more way trees revisions [] tops mid added more same one grown = (
  subst (λ paths. IsFollowed way trees revisions paths added) same one,
  more,
  subst (λ paths. IsGrown paths added more) same grown,
  refl,
)
followed_more way trees revisions (first ∷ additions) tops mid added more (its, next, grows, rest) one grown =
    (its, next, grows, followed_more way trees revisions additions next mid added more rest one grown)

kept_more : (way : Way) (listed : List Listed) (old mid new additions before : List NodePath) (paths : List NodePath)
    (added : NodePath) (place : ℕ) → AreFollowedTo way listed old place paths → Contains paths added
    → ((path : NodePath) → is_covered old path ≡ true → is_covered mid path ≡ true)
    → is_covered mid added ≡ false → IsGrown mid added new
    → KeepsFollowing way listed old before mid additions → KeepsFollowing way listed old before new (additions ++ added ∷ [])
kept_more way listed old mid new additions before paths added place are there grow outside grown keeps first comes revisions trees index =
    let to = are revisions trees added index there in
    followed_more way trees revisions additions first mid added new (keeps first comes revisions trees index)
    (subst (λ path. IsFollowed way trees revisions mid path) (sym to.at)
    (listed_are_followed way trees revisions old mid to.path to.source to.rest to.old
    ((copies_are_placed trees revisions to.path to.source to.old).1 place to.copy) to.there grow
    (ap (is_covered mid) (sym to.at) ∙ outside)))
    grown

pub kept_step : (way : Way) (listed : List Listed) (old mid before adds new after paths : List NodePath) (added : NodePath)
    (place : ℕ) → AreFollowedTo way listed old place paths → Contains paths added
    → ((path : NodePath) → is_covered old path ≡ true → is_covered mid path ≡ true)
    → AddsPath mid adds added new after → KeepsFollowing way listed old before mid adds
    → KeepsFollowing way listed old before new after
kept_step way listed old mid before adds new after paths added place are there grow step keeps =
    cases step.is_new step.outside step.grown step.more
  where
    cases : (b : Bool) → b ≡ not (is_covered mid added) → IsGrownIf mid added new b
        → after ≡ (if b then adds ++ added ∷ [] else adds) → KeepsFollowing way listed old before new after
    cases true outside grown more first comes =
        subst (λ additions. ComeByFollowing way listed first additions new) (sym more)
        (kept_more way listed old mid new adds before paths added place are there grow (not-true _ (sym outside)) grown keeps first
        comes)
    cases false outside same more first comes =
        subst (λ additions. ComeByFollowing way listed first additions new) (sym more)
        (subst (λ tops. ComeByFollowing way listed first adds tops) (sym same) (keeps first comes))

pub grows_step : (mid adds : List NodePath) (added : NodePath) (new after : List NodePath) → AddsPath mid adds added new after
    → (path : NodePath) → is_covered mid path ≡ true → is_covered new path ≡ true
grows_step mid adds added new after step path was =
    added_covers mid new added step.is_new step.outside step.grown path
    ∙ Rattle.std.proofs.lemmas.Bool.or_left (is_covered mid path) _ was

pub contains_at : {A : Type 0} (f : A → NodePath) (xs : List A) (n : ℕ) (d : A) → n < length xs
    → Contains (map f xs) (f (Rattle.std.proofs.Common.get_or xs n d))
contains_at f [] n d low = absurd (omega (arith, low))
contains_at f (x ∷ xs) zero d low = contains_first (f x) (map f xs)
contains_at f (x ∷ xs) (suc n) d low = contains_later (f x) (map f xs) _ (contains_at f xs n d (omega (arith, low)))

pub to_named : (way : Way) (path source : NodePath) → has_node_names path ≡ true → has_node_names source ≡ true
    → has_node_names (to_of way path source) ≡ true
to_named Way.ToCopies path source one other = one
to_named Way.ToSources path source one other = other

-- the rests of paths with names have names

pub named_below : (top : NodePath) (tops : List NodePath) → list_all has_node_names tops ≡ true
    → list_all has_node_names (rests_below top tops) ≡ true
named_below top [] named = refl
named_below top (path ∷ tops) named =
    let parts = and_parts (has_node_names path) (list_all has_node_names tops) named in
    cases (below top path) refl parts.0 (named_below top tops parts.1)
  where
    cases : (o : Option NodePath) → below top path ≡ o → has_node_names path ≡ true
        → list_all has_node_names (rests_below top tops) ≡ true
        → list_all has_node_names (named_rest o ++ rests_below top tops) ≡ true
    cases None at its further = further
    cases (Some []) at its further = further
    cases (Some (name ∷ rest)) at its further =
        and_from (has_node_names (name ∷ rest)) (list_all has_node_names (rests_below top tops))
        (rest_names top (name ∷ rest) (ap has_node_names (sym (below_rest top path (name ∷ rest) at)) ∙ its)) further

-- the names of rests and of paths that are listed

pub named_shown : {A : Type 0} (names : A → NodePath) (xs : List A)
    → list_all (λ x. has_node_names (names x)) xs ≡ list_all has_node_names (map names xs)
named_shown names [] = refl
named_shown names (x ∷ xs) = ap (λ b. has_node_names (names x) && b) (named_shown names xs)

filter_named : (test : NodePath → Bool) (paths : List NodePath) → list_all has_node_names paths ≡ true
    → list_all has_node_names (filter test paths) ≡ true
filter_named test [] named = refl
filter_named test (path ∷ paths) named =
    let parts = and_parts (has_node_names path) (list_all has_node_names paths) named in
    cases (test path) parts.0 (filter_named test paths parts.1)
  where
    cases : (b : Bool) → has_node_names path ≡ true → list_all has_node_names (filter test paths) ≡ true
        → list_all has_node_names (Rattle.std.proofs.Common.cond b (path ∷ filter test paths) (filter test paths)) ≡ true
    cases true its further = and_from (has_node_names path) (list_all has_node_names (filter test paths)) its further
    cases false its further = further

pub filtered_named : (test : NodePath → Bool) (xs paths : List NodePath) → xs ≡ filter test paths
    → list_all has_node_names paths ≡ true → list_all has_node_names xs ≡ true
filtered_named test xs paths are named = ap (list_all has_node_names) are ∙ filter_named test paths named

pub behind_named : (to : NodePath) (rests : List NodePath) → has_node_names to ≡ true → list_all has_node_names rests ≡ true
    → list_all has_node_names (map (λ rest. to ++ rest) rests) ≡ true
behind_named to [] its named = refl
behind_named to (rest ∷ rests) its named =
    let parts = and_parts (has_node_names rest) (list_all has_node_names rests) named in
    and_from (has_node_names (to ++ rest)) (list_all has_node_names (map (λ r. to ++ r) rests))
    (both_names to rest its parts.0) (behind_named to rests its parts.1)

pub map_contains : (to : NodePath) (rests : List NodePath) (path : NodePath) → Contains (map (λ rest. to ++ rest) rests) path
    → (rest : NodePath) × Contains rests rest × (path ≡ to ++ rest)
map_contains to [] path there = absurd (contains_none path there)
map_contains to (rest ∷ rests) path there =
    elim (contains_cases (to ++ rest) (map (λ r. to ++ r) rests) path there) [
      | inl same ↦ (rest, contains_first rest rests, sym same)
      | inr later ↦
          let (found, among, same) = map_contains to rests path later in (found, contains_later rest rests found among, same)
    ]

-- the paths to which the copies of a change are followed, from the given rests
pub paths_followed : (way : Way) (tops : List NodePath) (listed : List Listed) (l : Listed) (number : ℕ) (source : NodePath)
    (paths : List NodePath) (to : NodePath) (rests : List NodePath) → l.made ≡ Some (Made.Copied number source)
    → to ≡ to_of way (names_of l.path) source → paths ≡ map (λ rest. to ++ rest) rests
    → ((placed : List Placed) → AllZip IsListed listed placed
    → rests ≡ followed_told way tops (kinds_told_by listed) placed number (names_of l.path) source)
    → (place : ℕ) → slice_get listed place ≡ Some l → AreFollowedTo way listed tops place paths
paths_followed way tops listed l number source paths to rests made goes are told place there revisions trees path index among =
    let (rest, its, same) = map_contains to rests path (subst (λ ps. Contains ps path) are among) in
    subst (λ p. IsFollowedTo way trees revisions tops place p) (sym (same ∙ ap (λ t. t ++ rest) goes))
    (followed_at way tops listed place l number source revisions trees rest there made index
    (subst (λ rs. Contains rs rest) (told (placed_from 1 revisions) index.lists) its))

-- what one step and then another one keep
pub keeps_both : (way : Way) (listed : List Listed) (old before mid adds new after : List NodePath)
    → KeepsFollowing way listed old before mid adds → KeepsFollowing way listed mid adds new after
    → KeepsFollowing way listed old before new after
keeps_both way listed old before mid adds new after one other first comes = other first (one first comes)

-- the places of the additions

pub placed_more : (way : Way) (listed : List Listed) (old paths : List NodePath) (place : ℕ) (path : NodePath)
    (before after : List Addition) → AreFollowedTo way listed old place paths → Contains paths path
    → AddsOne place path before after → ArePlaced way listed before → ArePlaced way listed after
placed_more way listed old paths place path before after are there (inl same) placed revisions trees index =
    subst (All (λ (a : Addition). LeadsTo way trees (placed_from 1 revisions) a.place (names_of a.path.items))) (sym same)
    (placed revisions trees index)
placed_more way listed old paths place path before after are there (inr (added, more, at, is)) placed revisions trees index =
    let to = are revisions trees path index there in
    let its : LeadsTo way trees (placed_from 1 revisions) added.place (names_of added.path.items) =
    subst (λ n. LeadsTo way trees (placed_from 1 revisions) n (names_of added.path.items)) (sym at)
    (subst (λ p. LeadsTo way trees (placed_from 1 revisions) place p) (sym is)
    (record { path = to.path; source = to.source; rest = to.rest; old = to.old; copy = to.copy; at = to.at })) in
    subst (All (λ (a : Addition). LeadsTo way trees (placed_from 1 revisions) a.place (names_of a.path.items))) (sym more)
    (All-append (λ (a : Addition). LeadsTo way trees (placed_from 1 revisions) a.place (names_of a.path.items)) before (added ∷ [])
    (placed revisions trees index) (All-cons (λ (a : Addition). LeadsTo way trees (placed_from 1 revisions) a.place (names_of a.path.items)) added []
    its (All-nil (λ (a : Addition). LeadsTo way trees (placed_from 1 revisions) a.place (names_of a.path.items)))))

-- what adds nothing

-- if there is no further addition, the path was covered, and the paths are the same
pub unadded : (old before : List NodePath) (added : NodePath) (new after : List NodePath)
    → AddsPath old before added new after → length after ≡ length before
    → (new ≡ old) × (is_covered old added ≡ true)
unadded old before added new after step same = cases step.is_new step.outside step.grown step.more
  where
    cases : (b : Bool) → b ≡ not (is_covered old added) → IsGrownIf old added new b
        → after ≡ (if b then before ++ added ∷ [] else before) → (new ≡ old) × (is_covered old added ≡ true)
    cases true outside grown more =
        let longer : length after ≡ length before + 1 = ap length more ∙ length-append before (added ∷ []) in
        absurd (omega (arith, longer, same))
    cases false outside is more = (is, not-false (is_covered old added) (sym outside))

pub not_shorter : (place : ℕ) (path : NodePath) (before after : List Addition) → AddsOne place path before after
    → length before ≤ length after
not_shorter place path before after (inl same) =
    let long : length after ≡ length before = ap length same in omega (arith, long)
not_shorter place path before after (inr (added, more, at, is)) =
    let longer : length after ≡ length before + 1 = ap length more ∙ length-append before (added ∷ []) in omega (arith, longer)

-- one more path that adds nothing
pub idle_more : (first : List NodePath) (paths : List NodePath) (mid new : List NodePath) (path : NodePath)
    → IsIdle first paths mid → (new ≡ mid) × (is_covered mid path ≡ true) → IsIdle first (paths ++ path ∷ []) new
idle_more first paths mid new path (same, covered) (next, its) = (
  next ∙ same,
  list_all-append (is_covered first) paths (path ∷ [])
      ∙ and_from (list_all (is_covered first) paths) (list_all (is_covered first) (path ∷ [])) covered
      (and_from (is_covered first path) true (ap (λ tops. is_covered tops path) (sym same) ∙ its) refl),
)

-- if all paths to which a change is followed are covered, it isn't followed
pub nothing_made : (way : Way) (tops : List NodePath) (told : ToldKinds) (placed : List Placed) (path : NodePath)
    (made : Option Made) → list_all (is_covered tops) (paths_made way tops told placed path made) ≡ true
    → rests_made way tops told placed path made ≡ []
nothing_made way tops told placed path None covered = refl
nothing_made way tops told placed path (Some Made.NewDirectory) covered = refl
nothing_made way tops told placed path (Some Made.NewFile) covered = refl
nothing_made way tops told placed path (Some (Made.Copied number source)) covered =
    none (followed_told way tops told placed number path source) (λ rest there. there) covered
  where
    none : (rests : List NodePath)
        → ((rest : NodePath) → Contains rests rest → Contains (followed_told way tops told placed number path source) rest)
        → list_all (is_covered tops) (map (λ rest. to_of way path source ++ rest) rests) ≡ true → rests ≡ []
    none [] each all = refl
    none (rest ∷ rests) each all =
        let passes = filter_passed (λ r. is_some (told (end_of placed number) (source ++ r))
        && not (is_covered tops (to_of way path source ++ r))) (rests_covered (from_of way path source) tops) rest
        (each rest (contains_first rest rests)) in
        let outside = not-true _ (and_parts (is_some (told (end_of placed number) (source ++ rest)))
        (not (is_covered tops (to_of way path source ++ rest))) passes).1 in
        let inside = (and_parts (is_covered tops (to_of way path source ++ rest)) _ all).0 in
        absurd (let bad : true ≡ false = sym inside ∙ outside in cc)

-- a change that isn't followed
pub none_there : (way : Way) (tops : List NodePath) (told : ToldKinds) (placed : List Placed) (place : ℕ) (p : Placed)
    (path : NodePath) (made : Option Made) → slice_get placed place ≡ Some p → p.change.path ≡ path → p.change.made ≡ made
    → rests_made way tops told placed path made ≡ [] → rests_at way tops told placed (slice_get placed place) ≡ []
none_there way tops told placed place p path made there at makes none =
    ap (rests_at way tops told placed) there ∙ ap₂ (λ here m. rests_made way tops told placed here m) at makes ∙ none

-- one more turn
pub turn_more : (way : Way) (tops : List NodePath) (told : ToldKinds) (placed : List Placed) (count turn : ℕ)
    → ((k : ℕ) → k < turn → rests_at way tops told placed (slice_get placed (place_at_turn way k count)) ≡ [])
    → rests_at way tops told placed (slice_get placed (place_at_turn way turn count)) ≡ []
    → (k : ℕ) → k < turn + 1 → rests_at way tops told placed (slice_get placed (place_at_turn way k count)) ≡ []
turn_more way tops told placed count turn before own k low =
    elim (cases_lt k turn) [
      | inl less ↦ before k less
      | inr upto ↦
          let same : turn ≡ k = omega (arith, low, upto) in
          subst (λ t. rests_at way tops told placed (slice_get placed (place_at_turn way t count)) ≡ []) same own
    ]

-- after all turns there is no addition
pub all_turns : (way : Way) (tops : List NodePath) (told : ToldKinds) (placed : List Placed) (count : ℕ) → length placed ≡ count
    → ((k : ℕ) → k < count → rests_at way tops told placed (slice_get placed (place_at_turn way k count)) ≡ [])
    → all_rests way tops told placed (length placed) ≡ []
all_turns way tops told placed count size all =
    (none_at_any_place way tops told placed (length placed)).0 (λ place low. at way place (omega (arith, low, size)) all)
  where
    at : (w : Way) (place : ℕ) → place < count
        → ((k : ℕ) → k < count → rests_at way tops told placed (slice_get placed (place_at_turn w k count)) ≡ [])
        → rests_at way tops told placed (slice_get placed place) ≡ []
    at Way.ToCopies place low all = all place low
    at Way.ToSources place low all =
        let same : count - 1 - (count - 1 - place) ≡ place = omega (arith, low) in
        subst (λ n. rests_at way tops told placed (slice_get placed n) ≡ []) same
        (all (count - 1 - place) (omega (arith, low)))
