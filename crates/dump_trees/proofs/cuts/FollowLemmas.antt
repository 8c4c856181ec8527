-- Following copies. Additions are in each closed set. There are no more of them than paths at which something ever
-- exists. If a pass adds nothing, the set is closed.
use Rattle.dump_trees.proofs.Prelude.{◌≡◌, not, ◌||◌, ◌⊎◌, ◌<◌, cond, refl, sym, ap, ◌∙◌, inl, inr, subst, arith, filter, option_map, append_assoc, both_ways, list_all, slice_get, and_parts, and_from, or_left, not-true, not_from_false, Settings, NodePath, Tree, root_alone, Made, Change, step, steps, loaded_over}
use Rattle.std.proofs.Common.{ℕ, Bool, true, false, ◌&&◌, List, [], ◌∷◌, ◌++◌, length, Option, Some, None, option_and_then, is_some, Contains, length-append}
use Rattle.std.proofs.lemmas.Option.{same_Some, slice_get_within}
use Rattle.std.proofs.lemmas.List.Folds.{list_any-append}
use Rattle.std.proofs.lemmas.List.Elements.{All-contains, All-weaker, All-contains_itself, Contains-append_left, Contains-append_right, Contains-append_cases}
use Rattle.std.specs.List.{All}
use Rattle.dump_trees.specs.Siblings.{is_within, has_node_names}
use Rattle.dump_trees.specs.steps.Siblings.{have_node_names, ExcludesPaths}
use Rattle.dump_trees.specs.steps.ComingBack.{ComesBack, NoneComesBack, NothingComesBack}
use Rattle.dump_trees.specs.Returns.{is_covered}
use Rattle.dump_trees.specs.steps.Returns.{lie_apart, rests_covered, returns, IsCopyOver}
use Rattle.dump_trees.specs.Following.{Copies, Way, from_of, to_of, Covers, IsInClosure}
use Rattle.dump_trees.specs.steps.Following.{IsClosed, IsFollowed, IsGrown, AreFollowed, AddsNothing, ListedAreFollowed, GrownPathsCover, ExistsOnce, FollowingIsLeast, FollowedBringNothingBack, EachCopyIsOver}
use Rattle.dump_trees.proofs.histories.KeptNumbers.{get_before}
use Rattle.dump_trees.proofs.histories.FrontLemmas.{begun_trees}
use Rattle.dump_trees.proofs.histories.StandingNames.{loaded_directories, loaded_names}
use Rattle.dump_trees.proofs.expansions.StandingLemmas.{copy_has_tree}
use Rattle.dump_trees.proofs.cuts.CheckedLoads.{split_at, get_some, get_front, steps_then, loaded_push, loaded_size, pushed}
use Rattle.dump_trees.proofs.cuts.CoveredPaths.{contains_first, contains_later, contains_cases, contains_none, all_has, list_all_of, filter_there, filter_passed, filter_has, within_more, exists_above, covered_by, covered_from, covered_itself, covered_more, uncovered_above, rests_there, rests_above}
use Rattle.dump_trees.proofs.cuts.ReturnLemmas.{returns_tell_all}
use Rattle.dump_trees.proofs.paths.SiblingLemmas.{within_rest}

-- elements

-- a list around one of its elements
contains_split : {A : Type 0} (xs : List A) (x : A) → Contains xs x
    → (front : List A) × (behind : List A) × (xs ≡ front ++ x ∷ behind)
contains_split [] x there = absurd (contains_none x there)
contains_split (y ∷ xs) x there =
    elim (contains_cases y xs x there) [
      | inl same ↦ ([], xs, ap (λ z. z ∷ xs) same)
      | inr later ↦
          let (front, behind, same) = contains_split xs x later in (y ∷ front, behind, ap (λ ys. y ∷ ys) same)
    ]

all_from_elements : {A : Type 0} (P : A → Type 0) (xs : List A) → ((x : A) → Contains xs x → P x) → All P xs
all_from_elements P xs each = All-weaker (Contains xs) P each xs (All-contains_itself xs)

-- one more path

within_trans : (a b c : NodePath) → is_within a b ≡ true → is_within b c ≡ true → is_within a c ≡ true
within_trans a b c one two =
    let (rest, same) = within_rest b c two in
    subst (λ p. is_within a p ≡ true) (sym same) (within_more a b rest one)

-- paths below the addition cover nothing else
filtered_covers : (added path : NodePath) → is_within added path ≡ false → (tops : List NodePath)
    → is_covered (filter (λ top. not (is_within added top)) tops) path ≡ is_covered tops path
filtered_covers added path outside [] = refl
filtered_covers added path outside (top ∷ tops) =
    cases (filtered_covers added path outside tops) (is_within added top) refl
  where
    others : List NodePath
    others = filter (λ t. not (is_within added t)) tops

    below_it : is_within added top ≡ true → (b : Bool) → is_within top path ≡ b → b ≡ false
    below_it is false at = refl
    below_it is true at = absurd (both_ways _ outside (within_trans added top path is at))

    cases : is_covered others path ≡ is_covered tops path → (b : Bool) → is_within added top ≡ b
        → is_covered (cond (not b) (top ∷ others) others) path ≡ (is_within top path || is_covered tops path)
    cases rest false is = ap (λ b. is_within top path || b) rest
    cases rest true is =
        rest
        ∙ sym (ap (λ b. b || is_covered tops path) (below_it is (is_within top path) refl))

module _ (tops more : List NodePath) (added : NodePath) (grown : IsGrown tops added more) where
  grown_covers : (path : NodePath) → is_covered more path ≡ (is_covered tops path || is_within added path)
  grown_covers path =
      ap (λ ps. is_covered ps path) grown.joined
      ∙ (list_any-append (λ top. is_within top path) grown.front (added ∷ grown.behind)
      ∙ cases (is_within added path) refl)
    where
      either : (a b : Bool) → (a || (true || b)) ≡ true
      either true b = refl
      either false b = refl

      nothing_more : (b : Bool) → b ≡ (b || false)
      nothing_more true = refl
      nothing_more false = refl

      all_more : (b : Bool) → true ≡ (b || true)
      all_more true = refl
      all_more false = refl

      cases : (b : Bool) → is_within added path ≡ b
          → (is_covered grown.front path || (b || is_covered grown.behind path)) ≡ (is_covered tops path || b)
      cases true is = either (is_covered grown.front path) (is_covered grown.behind path) ∙ all_more (is_covered tops path)
      cases false is =
          sym (list_any-append (λ top. is_within top path) grown.front grown.behind)
          ∙ (ap (λ ps. is_covered ps path) grown.others
          ∙ (filtered_covers added path is tops ∙ nothing_more (is_covered tops path)))

  -- an element of the grown paths
  grown_cases : (path : NodePath) → Contains more path → (added ≡ path) ⊎ Contains tops path
  grown_cases path there =
      elim (Contains-append_cases grown.front (added ∷ grown.behind) path
      (subst (λ ps. Contains ps path) grown.joined there)) [
        | inl early ↦ inr (old path (Contains-append_left grown.front grown.behind path early))
        | inr late ↦ elim (contains_cases added grown.behind path late) [
          | inl same ↦ inl same
          | inr later ↦ inr (old path (Contains-append_right grown.front grown.behind path later))
        ]
      ]
    where
      old : (p : NodePath) → Contains (grown.front ++ grown.behind) p → Contains tops p
      old p among =
          filter_there (λ top. not (is_within added top)) tops p (subst (λ ps. Contains ps p) grown.others among)

  grown_names : list_all has_node_names tops ≡ true → has_node_names added ≡ true → list_all has_node_names more ≡ true
  grown_names names its =
      list_all_of has_node_names more
      (λ path there. elim (grown_cases path there) [
        | inl same ↦ subst (λ p. has_node_names p ≡ true) same its
        | inr old ↦ all_has has_node_names tops path names old
      ])

  grown_apart : is_covered tops added ≡ false → lie_apart tops ≡ true → lie_apart more ≡ true
  grown_apart new apart =
      ap lie_apart grown.joined
      ∙ inserted grown.front grown.behind
      (ap lie_apart grown.others ∙ filtered tops apart)
      (λ path there.
      let among = subst (λ ps. Contains ps path) grown.others there in (
        not-true _ (filter_passed (λ top. not (is_within added top)) tops path among),
        no_cover path (filter_there (λ top. not (is_within added top)) tops path among) (is_within path added) refl,
      ))
    where
      no_cover : (path : NodePath) → Contains tops path → (b : Bool) → is_within path added ≡ b
          → is_within path added ≡ false
      no_cover path among false is = is
      no_cover path among true is =
          let (rest, same) = within_rest path added is in
          absurd (both_ways _ new (subst (λ p. is_covered tops p ≡ true) (sym same) (covered_from tops path rest among)))

      filtered : (paths : List NodePath) → lie_apart paths ≡ true
          → lie_apart (filter (λ top. not (is_within added top)) paths) ≡ true
      filtered [] is = refl
      filtered (path ∷ paths) is = cases (is_within added path) (filtered paths parts.1)
        where
          others : List NodePath
          others = filter (λ top. not (is_within added top)) paths

          parts : (list_all (λ p. not (is_within path p) && not (is_within p path)) paths ≡ true)
              × (lie_apart paths ≡ true)
          parts = and_parts _ (lie_apart paths) is

          cases : (b : Bool) → lie_apart others ≡ true → lie_apart (cond (not b) (path ∷ others) others) ≡ true
          cases true rest = rest
          cases false rest =
              and_from _ (lie_apart others)
              (list_all_of (λ p. not (is_within path p) && not (is_within p path)) others
              (λ p there. all_has (λ q. not (is_within path q) && not (is_within q path)) paths p parts.0
              (filter_there (λ top. not (is_within added top)) paths p there)))
              rest

      inserted : (front behind : List NodePath) → lie_apart (front ++ behind) ≡ true
          → ((path : NodePath) → Contains (front ++ behind) path
          → (is_within added path ≡ false) × (is_within path added ≡ false))
          → lie_apart (front ++ added ∷ behind) ≡ true
      inserted [] behind is apart_from =
          and_from _ (lie_apart behind)
          (list_all_of (λ p. not (is_within added p) && not (is_within p added)) behind
          (λ p there. and_from _ _ (not_from_false _ (apart_from p there).0) (not_from_false _ (apart_from p there).1)))
          is
      inserted (path ∷ front) behind is apart_from =
          and_from _ (lie_apart (front ++ added ∷ behind))
          (list_all_of (λ p. not (is_within path p) && not (is_within p path)) (front ++ added ∷ behind) test)
          (inserted front behind parts.1
          (λ p there. apart_from p (contains_later path (front ++ behind) p there)))
        where
          parts : (list_all (λ p. not (is_within path p) && not (is_within p path)) (front ++ behind) ≡ true)
              × (lie_apart (front ++ behind) ≡ true)
          parts = and_parts _ (lie_apart (front ++ behind)) is

          here : (is_within added path ≡ false) × (is_within path added ≡ false)
          here = apart_from path (contains_first path (front ++ behind))

          old : (p : NodePath) → Contains (front ++ behind) p → (not (is_within path p) && not (is_within p path)) ≡ true
          old p there = all_has (λ q. not (is_within path q) && not (is_within q path)) (front ++ behind) p parts.0 there

          test : (p : NodePath) → Contains (front ++ added ∷ behind) p
              → (not (is_within path p) && not (is_within p path)) ≡ true
          test p there =
              elim (Contains-append_cases front (added ∷ behind) p there) [
                | inl early ↦ old p (Contains-append_left front behind p early)
                | inr late ↦ elim (contains_cases added behind p late) [
                  | inl same ↦
                      subst (λ q. (not (is_within path q) && not (is_within q path)) ≡ true) same
                      (and_from _ _ (not_from_false _ here.1) (not_from_false _ here.0))
                  | inr later ↦ old p (Contains-append_right front behind p later)
                ]
              ]

pub grown_paths_cover : GrownPathsCover
grown_paths_cover tops more added grown =
    (grown_covers tops more added grown, grown_apart tops more added grown, grown_names tops more added grown)

-- a copy

pub listed_are_followed : ListedAreFollowed
listed_are_followed way trees revisions tops more path source rest old copy there grow new =
    let parts = and_parts (is_some (old (source ++ rest))) (not (is_covered tops (to_of way path source ++ rest)))
    (filter_passed (λ r. is_some (old (source ++ r)) && not (is_covered tops (to_of way path source ++ r)))
    (rests_covered (from_of way path source) tops) rest there) in
    record {
      path = path;
      source = source;
      rest = rest;
      old = old;
      copy = copy;
      at = refl;
      exists = parts.0;
      from = grow (from_of way path source ++ rest)
          (rests_there (from_of way path source) tops rest
          (filter_there (λ r. is_some (old (source ++ r)) && not (is_covered tops (to_of way path source ++ r)))
          (rests_covered (from_of way path source) tops) rest there));
      new = new;
    }

-- additions

module _ (way : Way) (trees : List Tree) (revisions : List (List Change)) where
  -- what is covered is in each closed set that has the paths
  covered_in : (Other : NodePath → Type 0) → IsClosed way trees revisions Other → (tops : List NodePath)
      → ((top : NodePath) → Contains tops top → Other top) → (path : NodePath) → is_covered tops path ≡ true → Other path
  covered_in Other closed tops has path is =
      let (top, rest, among, same) = covered_by tops path is in
      subst Other (sym same) (closed.below top rest (has top among))

  grow : (tops more : List NodePath) (added : NodePath) → IsGrown tops added more → (path : NodePath)
      → is_covered tops path ≡ true → is_covered more path ≡ true
  grow tops more added grown path is = grown_covers tops more added grown path ∙ or_left _ _ is

  additions_stay : (tops additions last : List NodePath) → AreFollowed way trees revisions tops additions last
      → (path : NodePath) → is_covered tops path ≡ true → is_covered last path ≡ true
  additions_stay tops [] last is path covered = subst (λ ps. is_covered ps path ≡ true) (sym is) covered
  additions_stay tops (added ∷ additions) last (one, more, grown, rest) path covered =
      additions_stay more additions last rest path (grow tops more added grown path covered)

  module _ (Other : NodePath → Type 0) (closed : IsClosed way trees revisions Other) where
    one_in : (tops : List NodePath) (added : NodePath) → IsFollowed way trees revisions tops added
        → ((top : NodePath) → Contains tops top → Other top) → Other added
    one_in tops added one has =
        subst Other (sym one.at)
        (closed.copied one.path one.source one.rest one.old one.copy one.exists
        (covered_in Other closed tops has (from_of way one.path one.source ++ one.rest) one.from))

    more_in : (tops more : List NodePath) (added : NodePath) → IsFollowed way trees revisions tops added
        → IsGrown tops added more → ((top : NodePath) → Contains tops top → Other top)
        → (top : NodePath) → Contains more top → Other top
    more_in tops more added one grown has top there =
        elim (grown_cases tops more added grown top there) [
          | inl same ↦ subst Other same (one_in tops added one has)
          | inr old ↦ has top old
        ]

    last_in : (tops additions last : List NodePath) → AreFollowed way trees revisions tops additions last
        → ((top : NodePath) → Contains tops top → Other top)
        → (path : NodePath) → is_covered last path ≡ true → Other path
    last_in tops [] last is has path covered =
        covered_in Other closed tops has path (subst (λ ps. is_covered ps path ≡ true) is covered)
    last_in tops (added ∷ additions) last (one, more, grown, rest) has path covered =
        last_in more additions last rest (more_in tops more added one grown has) path covered

-- what is reached is closed
reached_closed : (way : Way) (trees : List Tree) (revisions : List (List Change)) (tops : List NodePath)
    → IsClosed way trees revisions (IsInClosure way trees revisions tops)
reached_closed way trees revisions tops = record {
  below = λ path rest reached. IsInClosure.Inside path rest reached;
  copied = λ path source rest old copy exists reached. IsInClosure.Followed path source rest old copy exists reached;
}

-- it is in each closed set that has the given paths, however the set is defined
pub reached_in : (way : Way) (trees : List Tree) (revisions : List (List Change)) (tops : List NodePath)
    (Other : NodePath → Type 0) → IsClosed way trees revisions Other → ((top : NodePath) → Contains tops top → Other top)
    → (path : NodePath) → IsInClosure way trees revisions tops path → Other path
reached_in way trees revisions tops Other closed has _ (IsInClosure.Given top there) = has top there
reached_in way trees revisions tops Other closed has _ (IsInClosure.Inside path rest reached) =
    closed.below path rest (reached_in way trees revisions tops Other closed has path reached)
reached_in way trees revisions tops Other closed has _ (IsInClosure.Followed path source rest old copy exists reached) =
    closed.copied path source rest old copy exists
    (reached_in way trees revisions tops Other closed has (from_of way path source ++ rest) reached)

-- what exists at additions

-- a change of a history that loads: the revisions before its own, and the trees before and after it
pub record MadeIn (trees : List Tree) (revisions : List (List Change)) (c : Change) : Type 0 where
  pub front : List (List Change)
  pub done : List Change
  pub more : List Change
  pub rest : List (List Change)
  pub earlier : List Tree
  pub later : List Tree
  pub last : Tree
  pub before : Tree
  pub after : Tree
  pub parted : revisions ≡ front ++ (done ++ c ∷ more) ∷ rest
  pub loads : loaded_over root_alone front ≡ Some earlier
  pub ends : slice_get earlier (length front) ≡ Some last
  pub joined : trees ≡ earlier ++ later
  pub leads : steps (slice_get earlier) last done ≡ Some before
  pub makes : step (slice_get earlier) before c ≡ Some after

pub then_some : {A B : Type 0} (f : A → Option B) (o : Option A) (y : B) → option_and_then f o ≡ Some y
    → (x : A) × (o ≡ Some x) × (f x ≡ Some y)
then_some f None y is = absurd (let bad : None ≡ Some y = is in cc)
then_some f (Some x) y is = (x, refl, is)

pub map_some : {A B : Type 0} (f : A → B) (o : Option A) (y : B) → option_map f o ≡ Some y → (x : A) × (o ≡ Some x)
map_some f None y is = absurd (let bad : None ≡ Some y = is in cc)
map_some f (Some x) y is = (x, refl)

pub change_is_made : (trees : List Tree) (revisions : List (List Change)) (changes : List Change) (c : Change)
    → loaded_over root_alone revisions ≡ Some trees → Contains revisions changes → Contains changes c
    → MadeIn trees revisions c
change_is_made trees revisions changes c is among there =
    let (front, rest, parts) = contains_split revisions changes among in
    let (done, more, pieces) = contains_split changes c there in
    by_parts front rest done more (parts ∙ ap (λ cs. front ++ cs ∷ rest) pieces)
  where
    by_steps : (front rest : List (List Change)) (done more : List Change)
        → revisions ≡ front ++ (done ++ c ∷ more) ∷ rest
        → (one later : List Tree) (last tree : Tree) → loaded_over root_alone front ≡ Some one → trees ≡ one ++ later
        → slice_get one (length front) ≡ Some last → steps (slice_get one) last (done ++ c ∷ more) ≡ Some tree
        → MadeIn trees revisions c
    by_steps front rest done more parted one later last tree loads joined ends leads =
        let (before, first, second) =
        then_some (λ t. steps (slice_get one) t (c ∷ more)) (steps (slice_get one) last done) tree
        (sym (steps_then (slice_get one) last done (c ∷ more)) ∙ leads) in
        let (after, makes, others) =
        then_some (λ t. steps (slice_get one) t more) (step (slice_get one) before c) tree second in
        record {
          front = front;
          done = done;
          more = more;
          rest = rest;
          earlier = one;
          later = later;
          last = last;
          before = before;
          after = after;
          parted = parted;
          loads = loads;
          ends = ends;
          joined = joined;
          leads = first;
          makes = makes;
        }

    by_front : (front rest : List (List Change)) (done more : List Change)
        → revisions ≡ front ++ (done ++ c ∷ more) ∷ rest
        → (two behind one next : List Tree) → loaded_over root_alone (front ++ (done ++ c ∷ more) ∷ []) ≡ Some two
        → trees ≡ two ++ behind → loaded_over root_alone front ≡ Some one → two ≡ one ++ next → MadeIn trees revisions c
    by_front front rest done more parted two behind one next two_loads two_joined loads one_joined =
        let size = loaded_size root_alone front one loads in
        let (last, ends) = get_some one (length front) (omega arith) in
        let (tree, leads) =
        map_some (λ t. one ++ t ∷ []) (steps (slice_get one) last (done ++ c ∷ more)) two
        (sym (loaded_push root_alone front one last (done ++ c ∷ more) loads ends) ∙ two_loads) in
        by_steps front rest done more parted one (next ++ behind) last tree loads
        (two_joined ∙ (ap (λ ts. ts ++ behind) one_joined ∙ append_assoc one next behind)) ends leads

    by_parts : (front rest : List (List Change)) (done more : List Change)
        → revisions ≡ front ++ (done ++ c ∷ more) ∷ rest → MadeIn trees revisions c
    by_parts front rest done more parted =
        let (two, behind, two_loads, two_joined) =
        begun_trees root_alone (front ++ (done ++ c ∷ more) ∷ []) rest trees
        (ap (λ r. loaded_over root_alone r) (append_assoc front ((done ++ c ∷ more) ∷ []) rest ∙ sym parted) ∙ is) in
        let (one, next, loads, one_joined) = begun_trees root_alone front ((done ++ c ∷ more) ∷ []) two two_loads in
        by_front front rest done more parted two behind one next two_loads two_joined loads one_joined

module _ (trees : List Tree) (revisions : List (List Change)) (is : loaded_over root_alone revisions ≡ Some trees) where
  -- the tree of a copy's source is one of the trees before
  module _ (path source : NodePath) (old : Tree) (copy : Copies trees revisions path source old)
      (at : MadeIn trees revisions copy.change) where
    source_there : slice_get at.earlier copy.number ≡ Some old
    source_there =
        let (other, there) =
        copy_has_tree (slice_get at.earlier) at.before at.after copy.change copy.number source copy.copies at.makes in
        let same : other ≡ old =
        same_Some other old
        (sym (get_before at.earlier at.later copy.number other there)
        ∙ (ap (λ ts. slice_get ts copy.number) (sym at.joined) ∙ copy.tree)) in
        there ∙ ap Some same

    -- and it exists at the copy's source at the end of the revision that the copy names
    pub exists_at_source : (rest : NodePath) → is_some (old (source ++ rest)) ≡ true → ExistsOnce revisions (source ++ rest)
    exists_at_source rest some =
        let within = slice_get_within at.earlier copy.number old source_there in
        let size = loaded_size root_alone at.front at.earlier at.loads in
        let few = ap length at.parted ∙ length-append at.front ((at.done ++ copy.change ∷ at.more) ∷ at.rest) in
        let (front, behind, parts, count) = split_at copy.number revisions (omega arith) in
        let whole = ap length parts ∙ length-append front behind in
        cases front behind parts count (let room : 0 < length behind = omega arith in room)
      where
        cases : (front behind : List (List Change)) → revisions ≡ front ++ behind → length front ≡ copy.number
            → 0 < length behind → ExistsOnce revisions (source ++ rest)
        cases front [] parts count room = absurd (let none : 0 < 0 = room in omega (arith, none))
        cases front (changes ∷ behind) parts count room =
            let (earlier, later, loads, joined) =
            begun_trees root_alone front (changes ∷ behind) trees (ap (λ r. loaded_over root_alone r) (sym parts) ∙ is) in
            let size = loaded_size root_alone front earlier loads in
            let ends : slice_get earlier (length front) ≡ Some old =
            get_front earlier later (length front) old (omega arith)
            (ap (λ ts. slice_get ts (length front)) (sym joined) ∙ (ap (slice_get trees) count ∙ copy.tree)) in
            let grown = pushed root_alone front earlier old [] old loads ends refl in
            record {
              front = front;
              changes = [];
              more = changes;
              rest = behind;
              trees = earlier ++ old ∷ [];
              tree = old;
              parted = parts;
              loads = grown.loads;
              last = grown.last;
              exists = some;
            }

  -- the path of each change has names
  copy_names : have_node_names revisions ≡ true → (path source : NodePath) (old : Tree)
      → Copies trees revisions path source old → has_node_names path ≡ true
  copy_names names path source old copy =
      subst (λ p. has_node_names p ≡ true) copy.at
      (all_has (λ (c : Change). has_node_names c.path) copy.changes copy.change
      (all_has (λ changes. list_all (λ (c : Change). has_node_names c.path) changes) revisions copy.changes names copy.among)
      copy.there)

-- closed sets

done_closed : (way : Way) (trees : List Tree) (revisions : List (List Change)) (tops : List NodePath)
    → loaded_over root_alone revisions ≡ Some trees → AddsNothing way trees revisions tops
    → IsClosed way trees revisions (Covers tops)
done_closed way trees revisions tops is nothing = record {
  below = λ path rest covered. covered_more tops path rest covered;
  copied = λ path source rest old copy exists covered.
      cases path source rest old copy exists covered (is_covered tops (to_of way path source ++ rest)) refl;
}
  where
    cases : (path source rest : NodePath) (old : Tree) → Copies trees revisions path source old
        → is_some (old (source ++ rest)) ≡ true → is_covered tops (from_of way path source ++ rest) ≡ true
        → (b : Bool) → is_covered tops (to_of way path source ++ rest) ≡ b
        → is_covered tops (to_of way path source ++ rest) ≡ true
    cases path source rest old copy exists covered true at = at
    cases path source rest old copy exists covered false at =
        let (first, more, there, same) = rests_above (from_of way path source) tops rest covered in
        absurd (contains_none first
        (subst (λ rs. Contains rs first) (nothing path source old copy)
        (filter_has (λ r. is_some (old (source ++ r)) && not (is_covered tops (to_of way path source ++ r)))
        (rests_covered (from_of way path source) tops) first there
        (and_from _ _
        (exists_above old (loaded_directories revisions trees copy.number old is copy.tree) (source ++ first) more
        (subst (λ p. is_some (old p) ≡ true) (ap (λ r. source ++ r) same ∙ sym (append_assoc source first more)) exists))
        (not_from_false _ (uncovered_above tops (to_of way path source ++ first) more
        (subst (λ p. is_covered tops p ≡ false)
        (ap (λ r. to_of way path source ++ r) same ∙ sym (append_assoc (to_of way path source) first more)) at)))))))

pub following_is_least : FollowingIsLeast
following_is_least way trees revisions tops additions last is are nothing =
    let closed = done_closed way trees revisions last is nothing in (
      closed,
      last_in way trees revisions (IsInClosure way trees revisions tops) (reached_closed way trees revisions tops) tops
          additions last are (λ top there. IsInClosure.Given top there),
      reached_in way trees revisions tops (Covers last) closed
          (λ top there. additions_stay way trees revisions tops additions last are top (covered_itself tops top there)),
    )

-- nothing comes back

module _ (settings : Settings) (trees : List Tree) (revisions : List (List Change)) (excluded : List NodePath)
    (is : loaded_over root_alone revisions ≡ Some trees) (names : have_node_names revisions ≡ true)
    (excludes : ExcludesPaths settings excluded) (named : list_all has_node_names excluded ≡ true) where
  copy_over : (c : Change) (number : ℕ) (source : NodePath) (old : Tree) → has_node_names c.path ≡ true
      → c.made ≡ Some (Made.Copied number source) → slice_get trees number ≡ Some old
      → IsCopyOver settings excluded (slice_get trees) old c source
  copy_over c number source old path made there = record {
    number = number;
    excludes = excludes;
    names = named;
    copies = made;
    there = there;
    directories = loaded_directories revisions trees number old is there;
    named = loaded_names revisions trees number old is names there;
    path = path;
  }

  none_back : AddsNothing Way.ToCopies trees revisions excluded → NothingComesBack settings trees revisions
  none_back nothing =
      all_from_elements (λ changes. NoneComesBack settings (slice_get trees) changes) revisions
      (λ changes among. all_from_elements (λ c. ComesBack settings (slice_get trees) c → ⊥) changes
      (λ c there back.
      let copy : Copies trees revisions c.path back.source back.old =
      record {
        changes = changes;
        change = c;
        number = back.number;
        among = among;
        there = there;
        at = refl;
        copies = back.copies;
        tree = back.there;
      } in
      (returns_tell_all settings excluded (slice_get trees) back.old c back.source
      (copy_over c back.number back.source back.old
      (copy_names trees revisions is names c.path back.source back.old copy) back.copies back.there)).2
      (nothing c.path back.source back.old copy) back))

  adds_none : NothingComesBack settings trees revisions → AddsNothing Way.ToCopies trees revisions excluded
  adds_none none path source old copy =
      ap (λ p. returns excluded old p source) (sym copy.at)
      ∙ (returns_tell_all settings excluded (slice_get trees) old copy.change source
      (copy_over copy.change copy.number source old
      (subst (λ p. has_node_names p ≡ true) (sym copy.at) (copy_names trees revisions is names path source old copy))
      copy.copies copy.tree)).3
      (All-contains (λ c. ComesBack settings (slice_get trees) c → ⊥) copy.changes copy.change
      (All-contains (λ changes. NoneComesBack settings (slice_get trees) changes) revisions copy.changes none copy.among)
      copy.there)

pub followed_bring_nothing : FollowedBringNothingBack
followed_bring_nothing settings trees revisions excluded is names excludes named = (
  none_back settings trees revisions excluded is names excludes named,
  adds_none settings trees revisions excluded is names excludes named,
)

pub each_copy_is_over : EachCopyIsOver
each_copy_is_over settings excluded trees revisions path source old is names excludes named copy =
    copy_over settings trees revisions excluded is names excludes named copy.change copy.number source old
    (subst (λ p. has_node_names p ≡ true) (sym copy.at) (copy_names trees revisions is names path source old copy))
    copy.copies copy.tree
