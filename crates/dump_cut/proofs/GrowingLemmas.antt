-- One more excluded path, without the paths below it.
use Rattle.std.proofs.Common.{◌≡◌, ℕ, Bool, true, false, not, ◌&&◌, ◌||◌, cond, List, [], ◌∷◌, ◌++◌, map, filter, bytes_eq, refl, sym, ap, ap₂, ◌∙◌, subst}
use Rattle.std.proofs.lemmas.Bool.{and_parts, and_right, or_parts, or_from, false_from_ne_true, not-false}
use Rattle.std.proofs.lemmas.Map.Text.{is_eq-slice_cmp}
use Rattle.std.proofs.lemmas.Slice.Eq.{bytes_eq-Decides}
use Rattle.std.specs.List.{list_any}
use Rattle.std.specs.BTreeSet.{insert_key}
use Rattle.std.specs.Cmp.Lexicographic.{slice_cmp}
use Rattle.std.specs.Ordering.{is_eq, match_ordering, nat_cmp}
use Rattle.std.specs.declared.cmp.Ordering.{Ordering}
use Rattle.std.specs.declared.cmp.Ordering.TheVariants.{Less, Equal, Greater}
use Rattle.dump_trees.specs.Paths.{NodePath, names_of}
use Rattle.dump_trees.specs.steps.Following.{IsGrown}
use Rattle.dump_trees.specs.Returns.{is_covered}
use Rattle.dump_trees.specs.Siblings.{has_node_names, is_within}
use Rattle.dump_trees.specs.CanonicalPaths.{canonical_path, canonical_paths}
use Rattle.dump_trees.proofs.paths.CanonicalLemmas.{canonical_have_names}
use Rattle.dump_trees.proofs.cuts.CoveredPaths.{covered_more}
use Rattle.dump_trees.proofs.cuts.FollowLemmas.{grown_paths_cover}
use Rattle.dump_index.specs.steps.Effects.{stands_over}
use Rattle.dump_index.specs.steps.Touching.{rest_text}
use Rattle.dump_cut.specs.steps.ExcludedPaths.{IsGrownIf, paths_of}
use Rattle.dump_cut.specs.steps.ExcludedTexts.{AreExcluded, is_text_below, texts_below}
use Rattle.dump_cut.proofs.ExcludedLemmas.{is_text_above, covered_texts, within_texts}
use Rattle.dump_trees.proofs.paths.SiblingLemmas.{within_rest}
use Rattle.std.proofs.Math.Bool.{or-false}
use Rattle.std.proofs.lemmas.List.Elements.{filter-append}
use Rattle.std.proofs.lemmas.List.{map-append}

-- a key that is added to others

split_inserted : {V : Type 0} (items : V → List ℕ) (k : V) (keys : List V)
    → list_any (λ other. bytes_eq (items k) other) (map items keys) ≡ false
    → (front behind : List V) × (keys ≡ front ++ behind)
    × (insert_key (λ a b. slice_cmp nat_cmp (items a) (items b)) keys k ≡ front ++ k ∷ behind)
split_inserted items k [] none = ([], [], refl, refl)
split_inserted {V} items k (x ∷ keys) none =
    let parts = or_parts (bytes_eq (items k) (items x)) (list_any (λ other. bytes_eq (items k) other) (map items keys)) none in
    cases parts.0 (split_inserted items k keys parts.1) (slice_cmp nat_cmp (items k) (items x)) refl
  where
    inserted : List V
    inserted = insert_key (λ a b. slice_cmp nat_cmp (items a) (items b)) keys k

    cases : bytes_eq (items k) (items x) ≡ false
        → ((front behind : List V) × (keys ≡ front ++ behind)
        × (insert_key (λ a b. slice_cmp nat_cmp (items a) (items b)) keys k ≡ front ++ k ∷ behind))
        → (o : Ordering) → slice_cmp nat_cmp (items k) (items x) ≡ o
        → (front behind : List V) × (x ∷ keys ≡ front ++ behind)
        × (match_ordering o (k ∷ x ∷ keys) (x ∷ keys)
        (x ∷ insert_key (λ a b. slice_cmp nat_cmp (items a) (items b)) keys k) ≡ front ++ k ∷ behind)
    cases other further Less is = ([], x ∷ keys, refl, refl)
    cases other further Equal is =
        absurd (let bad : true ≡ false = sym (sym (is_eq-slice_cmp (items k) (items x)) ∙ ap is_eq is) ∙ other in cc)
    cases other (front, behind, same, put) Greater is =
        (x ∷ front, behind, ap (λ rest. x ∷ rest) same, ap (λ rest. x ∷ rest) put)

-- the texts that stay

abbrev stays : List ℕ → List ℕ → Bool
stays path text = not (is_text_below path text)

stays_itself : (path : List ℕ) → stays path path ≡ true
stays_itself path =
    ap (λ b. not (stands_over path path && not b)) ((bytes_eq-Decides path path).1 refl)
    ∙ ap not (and_right (stands_over path path) false refl)

-- a text that isn't the path stays exactly if the path isn't at or above it
stays_outside : (path text : List ℕ) → bytes_eq path text ≡ false
    → stays path text ≡ not (is_within (names_of path) (names_of text))
stays_outside path text other =
    ap (λ b. not (stands_over text path && not b)) other
    ∙ ap not (all (stands_over text path))
    ∙ sym (ap not (within_texts path text ∙ ap (λ b. b || stands_over text path) other))
  where
    all : (b : Bool) → (b && true) ≡ b
    all true = refl
    all false = refl

stay_paths : (path : List ℕ) (texts : List (List ℕ)) → list_any (λ other. bytes_eq path other) texts ≡ false
    → paths_of (filter (stays path) texts) ≡ filter (λ top. not (is_within (names_of path) top)) (paths_of texts)
stay_paths path [] none = refl
stay_paths path (text ∷ texts) none =
    let parts = or_parts (bytes_eq path text) (list_any (λ other. bytes_eq path other) texts) none in
    cases (stays path text) (not (is_within (names_of path) (names_of text))) (stays_outside path text parts.0)
    (stay_paths path texts parts.1)
  where
    cases : (a b : Bool) → a ≡ b
        → paths_of (filter (stays path) texts) ≡ filter (λ top. not (is_within (names_of path) top)) (paths_of texts)
        → paths_of (cond a (text ∷ filter (stays path) texts) (filter (stays path) texts))
        ≡ cond b (names_of text ∷ filter (λ top. not (is_within (names_of path) top)) (paths_of texts))
        (filter (λ top. not (is_within (names_of path) top)) (paths_of texts))
    cases true true same further = ap (λ rest. names_of text ∷ rest) further
    cases false false same further = further
    cases true false same further = absurd (cc)
    cases false true same further = absurd (cc)

-- a path that isn't covered isn't one of the texts
pub uncovered_other : (path : List ℕ) (texts : List (List ℕ)) → is_covered (paths_of texts) (names_of path) ≡ false
    → list_any (λ other. bytes_eq path other) texts ≡ false
uncovered_other path texts outside = none texts (sym (covered_texts texts path) ∙ outside)
  where
    none : (others : List (List ℕ)) → list_any (is_text_above path) others ≡ false
        → list_any (λ other. bytes_eq path other) others ≡ false
    none [] is = refl
    none (text ∷ others) is =
        let parts = or_parts (is_text_above path text) (list_any (is_text_above path) others) is in
        let one = or_parts (bytes_eq text path) (stands_over path text) parts.0 in
        or_from (bytes_eq path text) (list_any (λ other. bytes_eq path other) others)
        (false_from_ne_true (bytes_eq path text) (λ same.
        let bad : true ≡ false = sym ((bytes_eq-Decides text path).1 (sym ((bytes_eq-Decides path text).0 same))) ∙ one.0 in
        absurd (cc)))
        (none others parts.1)

module _ {V : Type 0} (items : V → List ℕ) (k : V) (keys : List V)
    (outside : is_covered (paths_of (map items keys)) (names_of (items k)) ≡ false) where
  abbrev path : List ℕ
  path = items k

  abbrev inserted : List V
  inserted = insert_key (λ a b. slice_cmp nat_cmp (items a) (items b)) keys k

  abbrev Split : Type 0
  Split = (front behind : List V) × (keys ≡ front ++ behind)
      × (insert_key (λ a b. slice_cmp nat_cmp (items a) (items b)) keys k ≡ front ++ k ∷ behind)

  parted : Split
  parted = split_inserted items k keys (uncovered_other path (map items keys) outside)

  put_in : (front behind : List V) → inserted ≡ front ++ k ∷ behind
      → map items inserted ≡ map items front ++ items k ∷ map items behind
  put_in front behind put = ap (map items) put ∙ map-append items front (k ∷ behind)

  kept : (front behind : List V) → inserted ≡ front ++ k ∷ behind
      → filter (stays path) (map items inserted)
      ≡ filter (stays path) (map items front) ++ path ∷ filter (stays path) (map items behind)
  kept front behind put =
      ap (filter (stays path)) (put_in front behind put)
      ∙ filter-append (stays path) (map items front) (items k ∷ map items behind)
      ∙ ap (λ b. filter (stays path) (map items front) ++ cond b (items k ∷ filter (stays path) (map items behind))
      (filter (stays path) (map items behind))) (stays_itself path)

  grown_by : Split → IsGrown (paths_of (map items keys)) (names_of path) (paths_of (filter (stays path) (map items inserted)))
  grown_by (front, behind, same, put) = record {
    front = paths_of (filter (stays path) (map items front));
    behind = paths_of (filter (stays path) (map items behind));
    others =
        sym (map-append names_of (filter (stays path) (map items front)) (filter (stays path) (map items behind)))
        ∙ (ap paths_of (sym (filter-append (stays path) (map items front) (map items behind)))
        ∙ (ap (λ texts. paths_of (filter (stays path) texts)) (sym (map-append items front behind) ∙ ap (map items) (sym same))
        ∙ stay_paths path (map items keys) (uncovered_other path (map items keys) outside)));
    joined =
        ap paths_of (kept front behind put)
        ∙ map-append names_of (filter (stays path) (map items front)) (path ∷ filter (stays path) (map items behind));
  }

  pub grown : IsGrown (paths_of (map items keys)) (names_of path) (paths_of (filter (stays path) (map items inserted)))
  grown = grown_by parted

  -- if none is below the path, all stay
  all_by : Split → filter (is_text_below path) (map items keys) ≡ []
      → filter (stays path) (map items inserted) ≡ map items inserted
  all_by (front, behind, same, put) none =
      kept front behind put
      ∙ (ap₂ (λ (one : List (List ℕ)) (other : List (List ℕ)). one ++ path ∷ other)
      (none_stay (map items front) both.0) (none_stay (map items behind) both.1)
      ∙ sym (put_in front behind put))
    where
      none_stay : (texts : List (List ℕ)) → filter (is_text_below path) texts ≡ [] → filter (stays path) texts ≡ texts
      none_stay [] empty = refl
      none_stay (text ∷ texts) empty = cases (is_text_below path text) (none_stay texts) empty
        where
          cases : (t : Bool) → (filter (is_text_below path) texts ≡ [] → filter (stays path) texts ≡ texts)
              → cond t (text ∷ filter (is_text_below path) texts) (filter (is_text_below path) texts) ≡ []
              → cond (not t) (text ∷ filter (stays path) texts) (filter (stays path) texts) ≡ text ∷ texts
          cases true further some = absurd (cc)
          cases false further empty = ap (λ rest. text ∷ rest) (further empty)

      no_parts : (one other : List (List ℕ)) → one ++ other ≡ [] → (one ≡ []) × (other ≡ [])
      no_parts [] other is = (refl, is)
      no_parts (text ∷ one) other is = absurd (cc)

      both : (filter (is_text_below path) (map items front) ≡ []) × (filter (is_text_below path) (map items behind) ≡ [])
      both = no_parts (filter (is_text_below path) (map items front)) (filter (is_text_below path) (map items behind))
          (sym (ap (filter (is_text_below path)) (ap (map items) same ∙ map-append items front behind)
          ∙ filter-append (is_text_below path) (map items front) (map items behind)) ∙ none)

  pub all_stay : filter (is_text_below path) (map items keys) ≡ []
      → filter (stays path) (map items inserted) ≡ map items inserted
  all_stay none = all_by parted none

-- if there is no rest, no text is below the top
pub none_below : (top : List ℕ) (texts : List (List ℕ)) → texts_below top texts ≡ [] → filter (is_text_below top) texts ≡ []
none_below top texts none = unmapped (filter (is_text_below top) texts) none
  where
    unmapped : (others : List (List ℕ)) → map (rest_text top) others ≡ [] → others ≡ []
    unmapped [] is = refl
    unmapped (text ∷ others) is = absurd (cc)

-- the texts of the grown paths, and what is true of them

pub grown_texts : {V : Type 0} (items : V → List ℕ) (k : V) (keys : List V) (path : List ℕ) (texts : List (List ℕ))
    → items k ≡ path → is_covered (paths_of (map items keys)) (names_of path) ≡ false
    → texts ≡ filter (stays path) (map items (insert_key (λ a b. slice_cmp nat_cmp (items a) (items b)) keys k))
    → IsGrown (paths_of (map items keys)) (names_of path) (paths_of texts)
grown_texts items k keys path texts is outside are =
    subst (λ (t : List (List ℕ)). IsGrown (paths_of (map items keys)) (names_of path) (paths_of t)) (sym are)
    (subst (λ (p : List ℕ). IsGrown (paths_of (map items keys)) (names_of p)
    (paths_of (filter (stays p) (map items (insert_key (λ a b. slice_cmp nat_cmp (items a) (items b)) keys k))))) is
    (grown items k keys (ap (λ p. is_covered (paths_of (map items keys)) (names_of p)) is ∙ outside)))

pub same_texts : {V : Type 0} (items : V → List ℕ) (k : V) (keys : List V) (path : List ℕ)
    → items k ≡ path → is_covered (paths_of (map items keys)) (names_of path) ≡ false
    → texts_below path (map items keys) ≡ []
    → map items (insert_key (λ a b. slice_cmp nat_cmp (items a) (items b)) keys k)
    ≡ filter (stays path) (map items (insert_key (λ a b. slice_cmp nat_cmp (items a) (items b)) keys k))
same_texts items k keys path is outside none =
    sym (ap (λ p. filter (stays p) (map items (insert_key (λ a b. slice_cmp nat_cmp (items a) (items b)) keys k))) (sym is)
    ∙ all_stay items k keys (ap (λ p. is_covered (paths_of (map items keys)) (names_of p)) is ∙ outside)
    (ap (λ p. filter (is_text_below p) (map items keys)) is ∙ none_below path (map items keys) none))

pub grown_excluded : (old new : List (List ℕ)) (path : List ℕ) → AreExcluded old → has_node_names (names_of path) ≡ true
    → is_covered (paths_of old) (names_of path) ≡ false → IsGrown (paths_of old) (names_of path) (paths_of new)
    → AreExcluded new
grown_excluded old new path are named outside grows =
    let cover = grown_paths_cover (paths_of old) (paths_of new) (names_of path) grows in
    (cover.2 are.0 named, cover.1 outside are.1)

-- what the paths cover after one is added

pub added_covers : (old new : List NodePath) (added : NodePath) (is_new : Bool) → is_new ≡ not (is_covered old added)
    → IsGrownIf old added new is_new → (path : NodePath) → is_covered new path ≡ (is_covered old path || is_within added path)
added_covers old new added true is grows path = (grown_paths_cover old new added grows).0 path
added_covers old new added false is same path =
    ap (λ paths. is_covered paths path) same ∙ cases (is_within added path) refl
  where
    either : (b : Bool) → b ≡ (b || false)
    either true = refl
    either false = refl

    covered : is_covered old added ≡ true
    covered = not-false (is_covered old added) (sym is)

    inside : is_within added path ≡ true → is_covered old path ≡ true
    inside within =
        let (rest, at) = within_rest added path within in
        ap (is_covered old) at ∙ covered_more old added rest covered

    cases : (b : Bool) → is_within added path ≡ b → is_covered old path ≡ (is_covered old path || b)
    cases true within = inside within ∙ sym (ap (λ b. b || true) (inside within))
    cases false apart = either (is_covered old path)

covered_joined : (one other : List NodePath) (under : NodePath)
    → is_covered (one ++ other) under ≡ (is_covered one under || is_covered other under)
covered_joined [] other under = refl
covered_joined (top ∷ one) other under = cases (is_within top under) (covered_joined one other under)
  where
    cases : (t : Bool) → is_covered (one ++ other) under ≡ (is_covered one under || is_covered other under)
        → (t || is_covered (one ++ other) under) ≡ ((t || is_covered one under) || is_covered other under)
    cases true further = refl
    cases false further = further

-- the path of a prefix has names of nodes
pub canonical_named : (prefix : List ℕ) → has_node_names (canonical_path prefix) ≡ true
canonical_named prefix =
    (and_parts (has_node_names (canonical_path prefix)) true (canonical_have_names (prefix ∷ []))).0

-- one more prefix
pub prefix_more : (texts : List (List ℕ)) (text : List ℕ) (path : NodePath)
    → is_covered (canonical_paths (texts ++ text ∷ [])) path
    ≡ (is_covered (canonical_paths texts) path || is_within (canonical_path text) path)
prefix_more texts text path =
    ap (λ paths. is_covered paths path) (map-append canonical_path texts (text ∷ []))
    ∙ (covered_joined (canonical_paths texts) (canonical_path text ∷ []) path
    ∙ ap (λ b. is_covered (canonical_paths texts) path || b) (or-false (is_within (canonical_path text) path)))
