-- Looking back finds what exists in the trees.
use Rattle.dump_trees.proofs.Prelude.{◌≡◌, zero, suc, ◌+◌, ◌<◌, ◌≤◌, not, cond, nat_le, count_by, map, refl, sym, ap, ap₂, ◌∙◌, subst, inl, inr, ◌⊎◌, arith, append-nil, append_assoc, slice_get, list_all, list_all-append, and_parts, and_from, not_from_false, le-leb, lt-leb, leb-true, sum_by-cons, NodePath, below, Node, Tree, Made, Change, History, step, steps, loaded}
use Rattle.std.proofs.Common.{ℕ, Bool, true, false, List, [], ◌∷◌, ◌++◌, Option, Some, None, option_and_then, length}
use Rattle.std.proofs.lemmas.List.Sums.{count_by-le-length}
use Rattle.std.proofs.lemmas.Option.{slice_get_within}
use Rattle.dump_trees.specs.steps.Looking.{Placed, placed_from, end_of, touches_rest, touches_path, holds_there, latest, Origin, origin_of, set_by, looked_up, left_at, left_there, look_behind, look_within, LookFinds, LookFindsEach}
use Rattle.dump_trees.proofs.histories.KeptNumbers.{length_push, get_last, get_before, get_pushed}
use Rattle.dump_trees.proofs.expansions.StandingLemmas.{origin_in, step_has, step_untouched, copy_has_tree}
use Rattle.std.proofs.lemmas.Bool.{not-true}

-- counts

pub count_cons : (f : Placed → Bool) (p : Placed) (ps : List Placed)
    → count_by f (p ∷ ps) ≡ cond (f p) 1 0 + count_by f ps
count_cons f p ps = sum_by-cons (λ q. cond (f q) 1 0) p ps

-- later elements aren't counted if they fail the test
pub count_none : (f : Placed → Bool) (ps : List Placed) → list_all (λ p. not (f p)) ps ≡ true → count_by f ps ≡ 0
count_none f [] none = refl
count_none f (p ∷ ps) none =
    let parts = and_parts (not (f p)) (list_all (λ q. not (f q)) ps) none in
    count_cons f p ps ∙ (ap₂ (λ b c. cond b 1 0 + c) (not-true (f p) parts.0) (count_none f ps parts.1) ∙ omega arith)

count_front : (f : Placed → Bool) (ps qs : List Placed) → list_all (λ p. not (f p)) qs ≡ true
    → count_by f (ps ++ qs) ≡ count_by f ps
count_front f [] qs none = count_none f qs none
count_front f (p ∷ ps) qs none =
    count_cons f p (ps ++ qs)
    ∙ (ap (λ c. cond (f p) 1 0 + c) (count_front f ps qs none) ∙ sym (count_cons f p ps))

-- all are counted if all pass the test
pub count_whole : (f : Placed → Bool) (ps : List Placed) → list_all f ps ≡ true → count_by f ps ≡ length ps
count_whole f [] all = refl
count_whole f (p ∷ ps) all =
    let parts = and_parts (f p) (list_all f ps) all in
    count_cons f p ps ∙ (ap₂ (λ b c. cond b 1 0 + c) parts.0 (count_whole f ps parts.1) ∙ omega arith)

-- the ends of earlier revisions stay if changes of this revision and later ones follow
none_early : (bound number : ℕ) (ps : List Placed) → number < bound
    → list_all (λ (p : Placed). nat_le bound p.revision) ps ≡ true
    → list_all (λ (p : Placed). not (nat_le p.revision number)) ps ≡ true
none_early bound number [] low late = refl
none_early bound number (p ∷ ps) low late =
    let parts = and_parts (nat_le bound p.revision) (list_all (λ (q : Placed). nat_le bound q.revision) ps) late in
    let high = leb-true bound p.revision parts.0 in
    and_from (not (nat_le p.revision number)) (list_all (λ (q : Placed). not (nat_le q.revision number)) ps)
    (not_from_false _ (lt-leb p.revision number (omega arith)))
    (none_early bound number ps low parts.1)

end_stays : (bound number : ℕ) (placed behind : List Placed) → number < bound
    → list_all (λ (p : Placed). nat_le bound p.revision) behind ≡ true
    → end_of (placed ++ behind) number ≡ end_of placed number
end_stays bound number placed behind low late =
    count_front (λ (p : Placed). nat_le p.revision number) placed behind (none_early bound number behind low late)

-- the trees between changes

-- the change at this place leads from its tree to the next one, over a history whose trees are those at the ends of
-- revisions before
pub record StepsAt (placed : List Placed) (bound : ℕ) (trees : List Tree) (place : ℕ) (after : Tree) : Type 0 where
  pub before : Tree
  pub at : Placed
  pub history : History
  pub was : slice_get trees place ≡ Some before
  pub there : slice_get placed place ≡ Some at
  pub leads : step history before at.change ≡ Some after
  pub low : (number : ℕ) (old : Tree) → history number ≡ Some old → number < bound
  pub earlier : (number : ℕ) (old : Tree) → history number ≡ Some old → end_of placed number ≤ place
  pub found : (number : ℕ) (old : Tree) → history number ≡ Some old → slice_get trees (end_of placed number) ≡ Some old

-- these are the trees before the changes and after each of them
pub record Runs (first : Tree) (placed : List Placed) (bound : ℕ) (trees : List Tree) : Type 0 where
  pub start : slice_get trees 0 ≡ Some first
  pub each : (place : ℕ) (after : Tree) → slice_get trees (suc place) ≡ Some after
      → StepsAt placed bound trees place after

-- the origin of what a copy leaves
pub origin_source : (deletes : Bool) (made : Option Made) (rest : NodePath) (number : ℕ) (source : NodePath)
    → origin_of deletes made rest ≡ Origin.From number source
    → (from : NodePath) × (made ≡ Some (Made.Copied number from))
origin_source true None rest number source is =
    absurd (let bad : Origin.Nowhere ≡ Origin.From number source = is in cc)
origin_source false None rest number source is =
    absurd (let bad : Origin.Before ≡ Origin.From number source = is in cc)
origin_source deletes (Some Made.NewDirectory) [] number source is =
    absurd (let bad : Origin.New (Node.Directory []) ≡ Origin.From number source = is in cc)
origin_source true (Some Made.NewDirectory) (name ∷ rest) number source is =
    absurd (let bad : Origin.Nowhere ≡ Origin.From number source = is in cc)
origin_source false (Some Made.NewDirectory) (name ∷ rest) number source is =
    absurd (let bad : Origin.Before ≡ Origin.From number source = is in cc)
origin_source deletes (Some Made.NewFile) [] number source is =
    absurd (let bad : Origin.New (Node.File [] []) ≡ Origin.From number source = is in cc)
origin_source true (Some Made.NewFile) (name ∷ rest) number source is =
    absurd (let bad : Origin.Nowhere ≡ Origin.From number source = is in cc)
origin_source false (Some Made.NewFile) (name ∷ rest) number source is =
    absurd (let bad : Origin.Before ≡ Origin.From number source = is in cc)
origin_source deletes (Some (Made.Copied n from)) rest number source is =
    let same : n ≡ number
    = (let both : Origin.From n (from ++ rest) ≡ Origin.From number source = is in cc) in
    (from, ap (λ m. Some (Made.Copied m from)) same)

module _ (first : Tree) (placed : List Placed) (bound : ℕ) (trees : List Tree)
    (runs : Runs first placed bound trees) where
  -- what is found after this number of changes, if no more than this many are followed
  abbrev Finds : ℕ → Type 0
  Finds more = (count : ℕ) → count ≤ more → (tree : Tree) → slice_get trees count ≡ Some tree → (path : NodePath)
      → look_within more first placed count path ≡ tree path

  first_is : (count : ℕ) → count ≡ 0 → (tree : Tree) → slice_get trees count ≡ Some tree → (path : NodePath)
      → first path ≡ tree path
  first_is count none tree at path =
      let same : first ≡ tree
      = (let both : Some first ≡ Some tree = sym runs.start ∙ (ap (slice_get trees) (sym none) ∙ at) in cc) in
      ap (λ (t : Tree). t path) same

  module _ (more : ℕ) (finds : Finds more) (path : NodePath) where
    -- what comes from before, or from a copy's source, is found there
    looked_there : (place : ℕ) → place ≤ more → (after : Tree) (s : StepsAt placed bound trees place after)
        → (origin : Origin)
        → ((number : ℕ) (source : NodePath) → origin ≡ Origin.From number source
        → (old : Tree) × (s.history number ≡ Some old))
        → looked_up (look_within more first placed) placed place path origin
        ≡ origin_in s.history (s.before path) origin
    looked_there place low after s Origin.Nowhere from = refl
    looked_there place low after s (Origin.New node) from = refl
    looked_there place low after s Origin.Before from = finds place low s.before s.was path
    looked_there place low after s (Origin.From number source) from =
        let old = from number source refl in
        let early = s.earlier number old.0 old.1 in
        finds (end_of placed number) (omega arith) old.0 (s.found number old.0 old.1) source
        ∙ sym (ap (option_and_then (λ (tree : Tree). tree source)) old.1)

    touched : (place : ℕ) → place ≤ more → (after : Tree) (s : StepsAt placed bound trees place after)
        → (o : Option NodePath) → below s.at.change.path path ≡ o → touches_rest o s.at.change ≡ true
        → left_at (look_within more first placed) placed place path s.at.change o ≡ after path
    touched place low after s None found is = absurd (let bad : false ≡ true = is in cc)
    touched place low after s (Some rest) found is =
        ap (set_by s.at.change rest)
        (looked_there place low after s (origin_of s.at.change.deletes s.at.change.made rest)
        (λ number source comes.
        let made = origin_source s.at.change.deletes s.at.change.made rest number source comes in
        copy_has_tree s.history s.before after s.at.change number made.0 made.1 s.leads))
        ∙ step_has s.history s.before after s.at.change path rest found s.leads

    -- back from there to the latest change that touches the path
    behind_finds : (count : ℕ) → count ≤ suc more → (tree : Tree) → slice_get trees count ≡ Some tree
        → look_behind (look_within more first placed) first placed path (latest (touches_path path) placed count)
        ≡ tree path
    behind_finds zero low tree at = first_is 0 refl tree at path
    behind_finds (suc count) low tree at =
        cases (runs.each count tree at) (λ t was. behind_finds count (omega arith) t was)
      where
        sides : (s : StepsAt placed bound trees count tree)
            → ((t : Tree) → slice_get trees count ≡ Some t
            → look_behind (look_within more first placed) first placed path (latest (touches_path path) placed count)
            ≡ t path)
            → (b : Bool) → touches_path path s.at.change ≡ b
            → look_behind (look_within more first placed) first placed path
            (cond b (Some count) (latest (touches_path path) placed count)) ≡ tree path
        sides s further false none =
            further s.before s.was
            ∙ sym (step_untouched s.history s.before tree s.at.change path none s.leads)
        sides s further true is =
            ap (left_there (look_within more first placed) placed count path) s.there
            ∙ touched count (omega arith) tree s (below s.at.change.path path) refl is

        cases : (s : StepsAt placed bound trees count tree)
            → ((t : Tree) → slice_get trees count ≡ Some t
            → look_behind (look_within more first placed) first placed path (latest (touches_path path) placed count)
            ≡ t path)
            → look_behind (look_within more first placed) first placed path
            (cond (holds_there (touches_path path) (slice_get placed count)) (Some count)
            (latest (touches_path path) placed count)) ≡ tree path
        cases s further =
            ap (λ o. look_behind (look_within more first placed) first placed path
            (cond (holds_there (touches_path path) o) (Some count) (latest (touches_path path) placed count))) s.there
            ∙ sides s further (touches_path path s.at.change) refl

  -- what is found is what exists in the tree
  pub look_runs : (more : ℕ) → Finds more
  look_runs zero count low tree at path = first_is count (omega arith) tree at path
  look_runs (suc more) count low tree at path = behind_finds more (look_runs more) path count low tree at

-- later changes don't matter
pub runs_before : (first : Tree) (placed behind : List Placed) (bound : ℕ) (trees : List Tree)
    → Runs first placed bound trees → list_all (λ (p : Placed). nat_le bound p.revision) behind ≡ true
    → Runs first (placed ++ behind) bound trees
runs_before first placed behind bound trees runs late = record {
  start = runs.start;
  each = λ place after at. cases place after (runs.each place after at);
}
  where
    cases : (place : ℕ) (after : Tree) → StepsAt placed bound trees place after
        → StepsAt (placed ++ behind) bound trees place after
    cases place after s = record {
      before = s.before;
      at = s.at;
      history = s.history;
      was = s.was;
      there = get_before placed behind place s.at s.there;
      leads = s.leads;
      low = s.low;
      earlier = λ number old is. subst (λ n. n ≤ place) (sym (end_stays bound number placed behind
          (s.low number old is) late)) (s.earlier number old is);
      found = λ number old is. subst (λ n. slice_get trees n ≡ Some old) (sym (end_stays bound number placed behind
          (s.low number old is) late)) (s.found number old is);
    }

-- the changes of a load, one after the other

-- what is true after these changes, if the older trees are those of earlier revisions
pub record Begun (first : Tree) (older : List Tree) (youngest : Tree) (bound : ℕ) (placed : List Placed)
    (trees : List Tree) : Type 0 where
  pub runs : Runs first placed bound trees
  pub size : length trees ≡ suc (length placed)
  pub last : slice_get trees (length placed) ≡ Some youngest
  pub ends : (number : ℕ) (old : Tree) → slice_get older number ≡ Some old
      → slice_get trees (end_of placed number) ≡ Some old
  pub low : list_all (λ (p : Placed). nat_le p.revision bound) placed ≡ true

-- before any change
starts : (first : Tree) → Begun first (first ∷ []) first 0 [] (first ∷ [])
starts first = record {
  runs =
      record { start = refl; each = λ place after at. absurd (let bad : None ≡ Some after = at in cc) };
  size = refl;
  last = refl;
  ends = ends;
  low = refl;
}
  where
    ends : (number : ℕ) (old : Tree) → slice_get (first ∷ []) number ≡ Some old
        → slice_get (first ∷ []) (end_of [] number) ≡ Some old
    ends zero old at = at
    ends (suc number) old at = absurd (let bad : None ≡ Some old = at in cc)

low_next : (bound : ℕ) (placed : List Placed)
    → list_all (λ (p : Placed). nat_le p.revision bound) placed ≡ true
    → list_all (λ (p : Placed). nat_le p.revision (suc bound)) placed ≡ true
low_next bound [] low = refl
low_next bound (p ∷ placed) low =
    let parts = and_parts (nat_le p.revision bound) (list_all (λ (q : Placed). nat_le q.revision bound) placed) low in
    let one = leb-true p.revision bound parts.0 in
    and_from (nat_le p.revision (suc bound)) (list_all (λ (q : Placed). nat_le q.revision (suc bound)) placed)
    (le-leb p.revision (suc bound) (omega arith)) (low_next bound placed parts.1)

module _ (first : Tree) where
  -- the next revision begins
  next_begun : (older : List Tree) (youngest : Tree) (bound : ℕ) (placed : List Placed) (trees : List Tree)
      → Begun first older youngest bound placed trees → Begun first older youngest (suc bound) placed trees
  next_begun older youngest bound placed trees b = record {
    runs = record { start = b.runs.start; each = λ place after at. cases place after (b.runs.each place after at) };
    size = b.size;
    last = b.last;
    ends = b.ends;
    low = low_next bound placed b.low;
  }
    where
      cases : (place : ℕ) (after : Tree) → StepsAt placed bound trees place after
          → StepsAt placed (suc bound) trees place after
      cases place after s = record {
        before = s.before;
        at = s.at;
        history = s.history;
        was = s.was;
        there = s.there;
        leads = s.leads;
        low = λ number old is. let less = s.low number old is in omega arith;
        earlier = s.earlier;
        found = s.found;
      }

  -- a revision ends
  revision_ends : (older : List Tree) (youngest : Tree) (bound : ℕ) (placed : List Placed) (trees : List Tree)
      → length older ≡ bound → Begun first older youngest bound placed trees
      → Begun first (older ++ youngest ∷ []) youngest bound placed trees
  revision_ends older youngest bound placed trees size b = record {
    runs = b.runs;
    size = b.size;
    last = b.last;
    ends = λ number old at. cases number old (get_pushed older youngest number old at);
    low = b.low;
  }
    where
      cases : (number : ℕ) (old : Tree)
          → (slice_get older number ≡ Some old) ⊎ ((number ≡ length older) × (youngest ≡ old))
          → slice_get trees (end_of placed number) ≡ Some old
      cases number old (inl before) = b.ends number old before
      cases number old (inr (here, same)) =
          ap (λ n. slice_get trees (end_of placed n)) (here ∙ size)
          ∙ (ap (slice_get trees) (count_whole (λ (p : Placed). nat_le p.revision bound) placed b.low)
          ∙ (b.last ∙ ap Some same))

  module _ (older : List Tree) (bound : ℕ) (size : length older ≡ bound) where
    -- one change
    change_grows : (c : Change) (youngest after : Tree) (placed : List Placed) (trees : List Tree)
        → Begun first older youngest bound placed trees → step (slice_get older) youngest c ≡ Some after
        → Begun first older after bound (placed ++ record { revision = bound; change = c } ∷ [])
        (trees ++ after ∷ [])
    change_grows c youngest after placed trees b leads = record {
      runs = record {
        start = get_before trees (after ∷ []) 0 first b.runs.start;
        each = λ place tree at. cases place tree (get_pushed trees after (suc place) tree at);
      };
      size =
          length_push trees after ∙ (ap suc b.size ∙ ap suc (sym (length_push placed new)));
      last =
          ap (slice_get (trees ++ after ∷ [])) (length_push placed new ∙ sym b.size) ∙ get_last trees after;
      ends = λ number old at.
          subst (λ n. slice_get (trees ++ after ∷ []) n ≡ Some old)
          (sym (end_stays bound number placed (new ∷ []) (is_older number old at) late))
          (get_before trees (after ∷ []) (end_of placed number) old (b.ends number old at));
      low = list_all-append (λ (p : Placed). nat_le p.revision bound) placed (new ∷ [])
          ∙ and_from (list_all (λ (p : Placed). nat_le p.revision bound) placed)
          (list_all (λ (p : Placed). nat_le p.revision bound) (new ∷ [])) b.low
          (and_from (nat_le bound bound) true (le-leb bound bound (omega arith)) refl);
    }
      where
        new : Placed
        new = record { revision = bound; change = c }

        late : list_all (λ (p : Placed). nat_le bound p.revision) (new ∷ []) ≡ true
        late = and_from (nat_le bound bound) true (le-leb bound bound (omega arith)) refl

        is_older : (number : ℕ) (old : Tree) → slice_get older number ≡ Some old → number < bound
        is_older number old at =
            let less : number < length older = slice_get_within older number old at in omega arith

        cases : (place : ℕ) (tree : Tree)
            → (slice_get trees (suc place) ≡ Some tree) ⊎ ((suc place ≡ length trees) × (after ≡ tree))
            → StepsAt (placed ++ new ∷ []) bound (trees ++ after ∷ []) place tree
        cases place tree (inl before) =
            let s = (runs_before first placed (new ∷ []) bound trees b.runs late).each place tree before in
            record {
              before = s.before;
              at = s.at;
              history = s.history;
              was = get_before trees (after ∷ []) place s.before s.was;
              there = s.there;
              leads = s.leads;
              low = s.low;
              earlier = s.earlier;
              found = λ number old is.
                  get_before trees (after ∷ []) (end_of (placed ++ new ∷ []) number) old (s.found number old is);
            }
        cases place tree (inr (here, same)) =
            let size_is = b.size in
            let one : place ≡ length placed = omega arith in
            record {
              before = youngest;
              at = new;
              history = slice_get older;
              was = get_before trees (after ∷ []) place youngest (ap (slice_get trees) one ∙ b.last);
              there = ap (slice_get (placed ++ new ∷ [])) one ∙ get_last placed new;
              leads = leads ∙ ap Some same;
              low = is_older;
              earlier = λ number old is.
                  let few = count_by-le-length (λ (p : Placed). nat_le p.revision number) placed in
                  subst (λ n. n ≤ place) (sym (end_stays bound number placed (new ∷ []) (is_older number old is) late))
                  (subst (λ n. end_of placed number ≤ n) (sym one) few);
              found = λ number old is.
                  subst (λ n. slice_get (trees ++ after ∷ []) n ≡ Some old)
                  (sym (end_stays bound number placed (new ∷ []) (is_older number old is) late))
                  (get_before trees (after ∷ []) (end_of placed number) old (b.ends number old is));
            }

    -- the changes of a revision
    changes_grow : (changes : List Change) (youngest tree : Tree) (placed : List Placed) (trees : List Tree)
        → Begun first older youngest bound placed trees → steps (slice_get older) youngest changes ≡ Some tree
        → (more : List Tree) × Begun first older tree bound
        (placed ++ map (λ (c : Change). record { revision = bound; change = c }) changes) more
    changes_grow [] youngest tree placed trees b at =
        let same : youngest ≡ tree = (let both : Some youngest ≡ Some tree = at in cc) in (
          trees,
          subst (λ ps. Begun first older tree bound ps trees) (sym (append-nil placed))
              (subst (λ t. Begun first older t bound placed trees) same b),
        )
    changes_grow (c ∷ changes) youngest tree placed trees b at =
        cases
        (λ t begun there. changes_grow changes t tree (placed ++ new ∷ []) (trees ++ t ∷ []) begun there)
        (step (slice_get older) youngest c) refl at
      where
        new : Placed
        new = record { revision = bound; change = c }

        rest : List Placed
        rest = map (λ (d : Change). record { revision = bound; change = d }) changes

        cases :
            ((t : Tree) → Begun first older t bound (placed ++ new ∷ []) (trees ++ t ∷ [])
            → steps (slice_get older) t changes ≡ Some tree
            → (more : List Tree) × Begun first older tree bound ((placed ++ new ∷ []) ++ rest) more)
            → (o : Option Tree) → step (slice_get older) youngest c ≡ o
            → option_and_then (λ t. steps (slice_get older) t changes) o ≡ Some tree
            → (more : List Tree) × Begun first older tree bound (placed ++ new ∷ rest) more
        cases further None leads there = absurd (let bad : None ≡ Some tree = there in cc)
        cases further (Some t) leads there =
            let grown = further t (change_grows c youngest t placed trees b leads) there in (
              grown.0,
              subst (λ ps. Begun first older tree bound ps grown.0) (append_assoc placed (new ∷ []) rest) grown.1,
            )

  -- the revisions of a load
  revisions_grow : (revisions : List (List Change)) (older : List Tree) (youngest : Tree) (bound : ℕ)
      (placed : List Placed) (between : List Tree) (trees : List Tree) → length older ≡ suc bound
      → Begun first older youngest bound placed between → loaded older youngest revisions ≡ Some trees
      → (last : Tree) × (more : List Tree)
      × Begun first trees last (bound + length revisions) (placed ++ placed_from (suc bound) revisions) more
  revisions_grow [] older youngest bound placed between trees size b at =
      let same : older ≡ trees = (let both : Some older ≡ Some trees = at in cc) in (
        youngest,
        between,
        subst (λ n. Begun first trees youngest n (placed ++ []) between)
            (let none : bound ≡ bound + length {A = List Change} [] = omega arith in none)
            (subst (λ ps. Begun first trees youngest bound ps between) (sym (append-nil placed))
            (subst (λ ts. Begun first ts youngest bound placed between) same b)),
      )
  revisions_grow (changes ∷ revisions) older youngest bound placed between trees size b at =
      cases
      (λ t grown begun there. revisions_grow revisions (older ++ t ∷ []) t (suc bound) (placed ++ here) grown trees
      (length_push older t ∙ ap suc size) begun there)
      (steps (slice_get older) youngest changes) refl at
    where
      here : List Placed
      here = map (λ (c : Change). record { revision = suc bound; change = c }) changes

      rest : List Placed
      rest = placed_from (suc (suc bound)) revisions

      cases :
          ((t : Tree) (grown : List Tree) → Begun first (older ++ t ∷ []) t (suc bound) (placed ++ here) grown
          → loaded (older ++ t ∷ []) t revisions ≡ Some trees
          → (last : Tree) × (more : List Tree)
          × Begun first trees last (suc bound + length revisions) ((placed ++ here) ++ rest) more)
          → (o : Option Tree) → steps (slice_get older) youngest changes ≡ o
          → option_and_then (λ t. loaded (older ++ t ∷ []) t revisions) o ≡ Some trees
          → (last : Tree) × (more : List Tree)
          × Begun first trees last (bound + length (changes ∷ revisions)) (placed ++ (here ++ rest)) more
      cases further None leads there = absurd (let bad : None ≡ Some trees = there in cc)
      cases further (Some t) leads there =
          let grown = changes_grow older (suc bound) size changes youngest t placed between
          (next_begun older youngest bound placed between b) leads in
          let all = further t grown.0 (revision_ends older t (suc bound) (placed ++ here) grown.0 size grown.1) there in (
            all.0,
            all.1,
            subst (λ n. Begun first trees all.0 n (placed ++ (here ++ rest)) all.1)
                (let same : suc bound + length revisions ≡ bound + suc (length revisions) = omega arith in same)
                (subst (λ ps. Begun first trees all.0 (suc bound + length revisions) ps all.1)
                (append_assoc placed here rest) all.2),
          )

-- what is true after a load
pub loaded_begun : (first : Tree) (revisions : List (List Change)) (trees : List Tree)
    → loaded (first ∷ []) first revisions ≡ Some trees
    → (last : Tree) × (more : List Tree)
    × Begun first trees last (length revisions) (placed_from 1 revisions) more
loaded_begun first revisions trees at =
    let all = revisions_grow first revisions (first ∷ []) first 0 [] (first ∷ []) trees refl (starts first) at in (
      all.0,
      all.1,
      subst (λ n. Begun first trees all.0 n (placed_from 1 revisions) all.1)
          (let same : 0 + length revisions ≡ length revisions = omega arith in same) all.2,
    )

pub look_finds : LookFinds
look_finds first front behind trees tree path at there late =
    look_runs first (placed_from 1 front ++ behind) (length front) all.1
    (runs_before first (placed_from 1 front) behind (length front) all.1 all.2.runs late)
    (length (placed_from 1 front)) (length (placed_from 1 front)) (omega arith) tree
    (ap (slice_get all.1)
    (sym (count_whole (λ (p : Placed). nat_le p.revision (length front)) (placed_from 1 front) all.2.low))
    ∙ all.2.ends (length front) tree there) path
  where
    all : (last : Tree) × (more : List Tree)
        × Begun first trees last (length front) (placed_from 1 front) more
    all = loaded_begun first front trees at

pub look_finds_each : LookFindsEach
look_finds_each first revisions trees number tree path at there =
    let all = loaded_begun first revisions trees at in
    look_runs first (placed_from 1 revisions) (length revisions) all.1 all.2.runs
    (end_of (placed_from 1 revisions) number) (end_of (placed_from 1 revisions) number) (omega arith) tree
    (all.2.ends number tree there) path
