-- The names that can exist below a path are the names of what is made there, and the names at the source of a copy.
use Rattle.std.proofs.Common.{◌≡◌, ℕ, zero, suc, Bool, true, false, ◌&&◌, ◌||◌, cond, List, [], ◌∷◌, ◌++◌, get_or, map, Option, Some, None, option_map, bytes_eq, refl, sym, ap, ap₂, ◌∙◌}
use Rattle.std.specs.Prelude.{slice_get}
use Rattle.std.proofs.lemmas.List.Folds.{list_any-append}
use Rattle.dump_trees.specs.Paths.{NodePath, names_of}
use Rattle.dump_trees.specs.steps.Looking.{touches_path, holds_there, latest, end_of, Origin as LookOrigin, origin_of, left_by}
use Rattle.dump_trees.specs.steps.Listing.{name_below, names_made, names_from, names_left, names_there, names_behind, names_look}
use Rattle.dump_trees.proofs.expansions.BackLemmas.{LooksBack, names_back}
use Rattle.dump_index.specs.steps.Listed.{Listed, listed_of, listed_made, placed_of, all_placed}
use Rattle.dump_index.specs.steps.InOrder.{ends_in_slash, are_in_order}
use Rattle.dump_index.specs.steps.Children.{is_child_named}
use Rattle.dump_index.specs.declared.change.NodeChange.{NodeChange}
use Rattle.dump_index.specs.declared.change.NodeMade.{NodeMade}
use Rattle.dump_index.specs.declared.change.NodeMade.TheVariants.{Directory, File, CopyOf}
use Rattle.dump_index.specs.declared.change.NodeKind.{NodeKind}
use Rattle.dump_index.specs.declared.change.NodeKind.TheVariants.{Directory as ADirectory, File as AFile}
use Rattle.dump_index.specs.declared.origin.Origin.{Origin}
use Rattle.dump_index.specs.declared.origin.Origin.TheVariants.{Nowhere, New, Copied}
use Rattle.dump_index.specs.declared.order.Effect.TheVariants.{Shaping, Moving}
use Rattle.dump_index.specs.steps.Keys.{has_effect, has_effect_there, latest_place, sets}
use Rattle.dump_index.specs.steps.Touching.{stands_over, moves_there, shapes, rest_text}
use Rattle.dump_index.specs.steps.Looks.{IsMadeBy, makes_none, made_as, origin_names}
use Rattle.dump_index.proofs.KeyLemmas.{get-map}
use Rattle.dump_index.proofs.RestLemmas.{split_some, rest_same}
use Rattle.dump_index.proofs.LatestLemmas.{touch_same, touches_there}
use Rattle.dump_index.proofs.OriginLemmas.{decides, IsMade, as_made, rest_is, there}
use Rattle.dump_index.proofs.PartLemmas.{shaped_there, unshaped, and_no}
use Rattle.std.proofs.Math.Bool.{or_assoc}

-- ---- tests

or_twice : (a b c : Bool) → ((a || b) || (b || c)) ≡ ((a || b) || c)
or_twice true b c = refl
or_twice false true c = refl
or_twice false false c = refl

shapes_touches : (s p t m : Bool) → (s || m) ≡ true → ((s || (p || t)) || m) ≡ true
shapes_touches true p t m is = refl
shapes_touches false true t m is = refl
shapes_touches false false true m is = refl
shapes_touches false false false m is = is

-- a change that touches the path and doesn't shape it is at the path
touches_own : (path : List ℕ) (l : Listed) → shaped_there path (Some l) ≡ false → touches_there path l ≡ true
    → bytes_eq l.path path ≡ true
touches_own path l isnt touched = cases (bytes_eq l.path path) refl
  where
    cases : (same : Bool) → bytes_eq l.path path ≡ same → same ≡ true
    cases true same = refl
    cases false same =
        let parts = Rattle.std.proofs.lemmas.Bool.or_parts (has_effect Shaping l && bytes_eq l.path path)
        (has_effect Moving l && stands_over path l.path) isnt in
        let bad : false ≡ true
        = sym (ap₂ (λ a b. a || b) (ap (λ s. (has_effect Shaping l && s) || ((sets l.props && s) || (sets l.text && s))) same
        ∙ and_no (has_effect Shaping l) (sets l.props) (sets l.text)) parts.1) ∙ touched in
        absurd (cc)

-- ---- what remains after the latest change that shapes the path

module _ (listed : List Listed) (back : LooksBack (all_placed listed)) (path name : List ℕ) where
  abbrev looked : ℕ → Bool
  looked count = is_child_named (names_look (all_placed listed) count (names_of path)) name

  abbrev made : ℕ → Bool
  made count = is_child_named (names_made (all_placed listed) count (names_of path)) name

  abbrev left : Option ℕ → Bool
  left place = is_child_named (names_behind (names_look (all_placed listed)) (all_placed listed) (names_of path) place) name

  abbrev here : ℕ → Bool
  here count = is_child_named (name_below (names_of path) (slice_get (all_placed listed) count)) name

  looked_is : (count : ℕ) → looked count
      ≡ (made count || left (latest (touches_path (names_of path)) (all_placed listed) count))
  looked_is count =
      ap (λ ns. is_child_named ns name) (names_back (all_placed listed) back count (names_of path))
      ∙ list_any-append (λ other. bytes_eq other name) (names_made (all_placed listed) count (names_of path))
      (names_behind (names_look (all_placed listed)) (all_placed listed) (names_of path)
      (latest (touches_path (names_of path)) (all_placed listed) count))

  made_more : (count : ℕ) → made (suc count) ≡ (here count || made count)
  made_more count =
      list_any-append (λ other. bytes_eq other name) (name_below (names_of path) (slice_get (all_placed listed) count))
      (names_made (all_placed listed) count (names_of path))

  abbrev touched_by : Option Listed → Bool
  touched_by None = false
  touched_by (Some l) = touches_there path l

  touched_is : (n : ℕ) → holds_there (touches_path (names_of path)) (slice_get (all_placed listed) n) ≡ touched_by (slice_get listed n)
  touched_is n =
      ap (holds_there (touches_path (names_of path))) (get-map placed_of listed n) ∙ cases (slice_get listed n)
    where
      cases : (o : Option Listed) → holds_there (touches_path (names_of path)) (option_map placed_of o) ≡ touched_by o
      cases None = refl
      cases (Some l) = touch_same path l

  -- a change that only sets something leaves what existed there
  set_leaves : (n : ℕ) (o : Option Listed) → slice_get listed n ≡ o → shaped_there path o ≡ false → touched_by o ≡ true
      → left (Some n) ≡ looked n
  set_leaves n None at isnt touch = let bad : false ≡ true = touch in absurd (cc)
  set_leaves n (Some l) at isnt touch =
      let same = touches_own path l isnt touch in
      let its = unshaped path l same isnt in
      ap (λ o. is_child_named (names_there (names_look (all_placed listed)) (all_placed listed) n (names_of path) o) name)
      (get-map placed_of listed n ∙ ap (option_map placed_of) at)
      ∙ ap (λ o. is_child_named (names_left (names_look (all_placed listed)) (all_placed listed) n (names_of path)
      (placed_of l).change o) name) (rest_same l.path path same)
      ∙ ap₂ (λ d m. is_child_named (names_from (names_look (all_placed listed)) (all_placed listed) n (names_of path)
      (origin_of d m [])) name) its.0 its.1

  pub shaped_names : (count : ℕ) → looked count ≡ (made count || left (latest_place (shapes listed path) count))
  shaped_names zero = refl
  shaped_names (suc n) =
      looked_is (suc n)
      ∙ cases (shaped_names n) (touched_by (slice_get listed n)) (shapes listed path n) (touched_is n) refl refl
    where
      next : (t : Bool) → holds_there (touches_path (names_of path)) (slice_get (all_placed listed) n) ≡ t
          → left (latest (touches_path (names_of path)) (all_placed listed) (suc n))
          ≡ left (cond t (Some n) (latest (touches_path (names_of path)) (all_placed listed) n))
      next t is = ap (λ b. left (cond b (Some n) (latest (touches_path (names_of path)) (all_placed listed) n))) is

      untouched : touched_by (slice_get listed n) ≡ false → shapes listed path n ≡ true → false ≡ true
      untouched isnt is = sym isnt ∙ by_shape (slice_get listed n) is
        where
          by_shape : (o : Option Listed) → shaped_there path o ≡ true → touched_by o ≡ true
          by_shape None is = is
          by_shape (Some l) is =
              shapes_touches (has_effect_there Shaping path (Some l)) (sets l.props && bytes_eq l.path path)
              (sets l.text && bytes_eq l.path path) (moves_there (stands_over path) (Some l)) is

      cases : looked n ≡ (made n || left (latest_place (shapes listed path) n)) → (t s : Bool)
          → holds_there (touches_path (names_of path)) (slice_get (all_placed listed) n) ≡ touched_by (slice_get listed n)
          → touched_by (slice_get listed n) ≡ t → shapes listed path n ≡ s
          → (made (suc n) || left (latest (touches_path (names_of path)) (all_placed listed) (suc n)))
          ≡ (made (suc n) || left (cond (shapes listed path n) (Some n) (latest_place (shapes listed path) n)))
      cases further t s is t_is s_is = split t s t_is s_is
        where
          split : (t s : Bool) → touched_by (slice_get listed n) ≡ t → shapes listed path n ≡ s
              → (made (suc n) || left (latest (touches_path (names_of path)) (all_placed listed) (suc n)))
              ≡ (made (suc n) || left (cond (shapes listed path n) (Some n) (latest_place (shapes listed path) n)))
          split true true t_is s_is =
              ap (λ b. made (suc n) || b) (next true (is ∙ t_is)
              ∙ sym (ap (λ b. left (cond b (Some n) (latest_place (shapes listed path) n))) s_is))
          split true false t_is s_is =
              ap₂ (λ a b. a || b) (made_more n) (next true (is ∙ t_is)
              ∙ set_leaves n (slice_get listed n) refl s_is t_is ∙ further)
              ∙ or_twice (here n) (made n) (left (latest_place (shapes listed path) n))
              ∙ sym (ap₂ (λ a b. a || b) (made_more n)
              (ap (λ b. left (cond b (Some n) (latest_place (shapes listed path) n))) s_is))
          split false true t_is s_is = let bad = untouched t_is s_is in absurd (cc)
          split false false t_is s_is =
              ap₂ (λ a b. a || b) (made_more n) (next false (is ∙ t_is))
              ∙ or_assoc (here n) (made n) (left (latest (touches_path (names_of path)) (all_placed listed) n))
              ∙ ap (λ b. here n || b) (sym (looked_is n) ∙ further)
              ∙ sym (or_assoc (here n) (made n) (left (latest_place (shapes listed path) n)))
              ∙ sym (ap₂ (λ a b. a || b) (made_more n)
              (ap (λ b. left (cond b (Some n) (latest_place (shapes listed path) n))) s_is))

-- ---- the origin of the names

left_deleted : (deletes : Bool) → (deletes || false) ≡ true → left_by deletes ≡ LookOrigin.Nowhere
left_deleted true is = refl
left_deleted false is = let bad : false ≡ true = is in absurd (cc)

module _ (listed : List Listed) (place : ℕ) (path : NodePath) where
  abbrev from : LookOrigin → List (List ℕ)
  from o = names_from (names_look (all_placed listed)) (all_placed listed) place path o

  gone : (deletes : Bool) (made : Option NodeMade) (b : ℕ) (rest : List ℕ)
      → ((name : List ℕ) (names : NodePath) → origin_of deletes (option_map listed_made made) (name ∷ names) ≡ left_by deletes)
      → (deletes || false) ≡ true
      → [] ≡ from (origin_of deletes (option_map listed_made made) (names_of (b ∷ rest)))
  gone deletes made b rest its is =
      let some = split_some (b ∷ rest) in
      sym (ap (λ (ns : NodePath). from (origin_of deletes (option_map listed_made made) ns)) some.2
      ∙ ap from (its some.0 some.1 ∙ left_deleted deletes is))

  names_none : (deletes : Bool) (made : Option NodeMade) (rest : List ℕ) → makes_none made rest ≡ true
      → decides deletes made rest ≡ true → [] ≡ from (origin_of deletes (option_map listed_made made) (names_of rest))
  names_none deletes None [] none is = sym (ap from (left_deleted deletes is))
  names_none deletes None (b ∷ rest) none is = gone deletes None b rest (λ name names. refl) is
  names_none deletes (Some Directory) [] none is = let bad : false ≡ true = none in absurd (cc)
  names_none deletes (Some Directory) (b ∷ rest) none is = gone deletes (Some Directory) b rest (λ name names. refl) is
  names_none deletes (Some File) [] none is = let bad : false ≡ true = none in absurd (cc)
  names_none deletes (Some File) (b ∷ rest) none is = gone deletes (Some File) b rest (λ name names. refl) is
  names_none deletes (Some (CopyOf source)) rest none is = let bad : false ≡ true = none in absurd (cc)

  names_new : (deletes : Bool) (kind : NodeKind) → [] ≡ from (origin_of deletes (option_map listed_made (Some (made_as kind))) [])
  names_new deletes ADirectory = refl
  names_new deletes AFile = refl

  tie_names : (deletes : Bool) (made : Option NodeMade) (rest : List ℕ) (o : Origin) → IsMade made rest o
      → decides deletes made rest ≡ true
      → origin_names listed o ≡ from (origin_of deletes (option_map listed_made made) (names_of rest))
  tie_names deletes made rest Nowhere its is = names_none deletes made rest its is
  tie_names deletes made rest (New kind) its is =
      names_new deletes kind
      ∙ sym (ap₂ (λ m (r : List ℕ). from (origin_of deletes (option_map listed_made m) (names_of r))) its.1 its.0)
  tie_names deletes made rest (Copied source behind) its is =
      ap (λ (r : List ℕ). names_look (all_placed listed) (end_of (all_placed listed) source.revision)
      (names_of source.path.now ++ names_of r)) its.1
      ∙ sym (ap (λ m. from (origin_of deletes (option_map listed_made m) (names_of rest))) its.0)

pub names_came : (changes : List NodeChange) (ordered : are_in_order 0 changes ≡ true) (path : List ℕ)
    (bare : ends_in_slash path ≡ false) (place : ℕ) (c : NodeChange) (at : c ≡ get_or changes place c)
    (shaped : shapes (map listed_of changes) path place ≡ true) (o : Origin) → IsMadeBy c path o
    → origin_names (map listed_of changes) o
    ≡ names_behind (names_look (all_placed (map listed_of changes))) (all_placed (map listed_of changes)) (names_of path) (Some place)
names_came changes ordered path bare place c at shaped o its =
    let listed = map listed_of changes in
    let rest = rest_is changes ordered path bare place c at shaped in
    let at_place : slice_get (all_placed listed) place ≡ Some (placed_of (listed_of c))
    = get-map placed_of listed place ∙ ap (option_map placed_of) (there changes ordered path bare place c at shaped) in
    tie_names listed place (names_of path) c.deletes c.made (rest_text c.path.now path) o
    (as_made changes ordered path bare place c at shaped o its) rest.1
    ∙ sym (ap (names_there (names_look (all_placed listed)) (all_placed listed) place (names_of path)) at_place
    ∙ ap (names_left (names_look (all_placed listed)) (all_placed listed) place (names_of path) (placed_of (listed_of c)).change)
    rest.0)

-- one hop of a listing

pub hop_names : (listed : List Listed) (path one two three : List ℕ) → one ≡ path → two ≡ path → three ≡ path
    → (before : ℕ) (shaped : Option ℕ) (name : List ℕ) (whole old new : Bool) (next : List (List ℕ))
    → whole ≡ (old || is_child_named (names_look (all_placed listed) before (names_of path)) name)
    → new ≡ (old || is_child_named (names_made (all_placed listed) before (names_of one)) name)
    → is_child_named (names_look (all_placed listed) before (names_of two)) name
    ≡ (is_child_named (names_made (all_placed listed) before (names_of two)) name
    || is_child_named (names_behind (names_look (all_placed listed)) (all_placed listed) (names_of two) shaped) name)
    → next ≡ names_behind (names_look (all_placed listed)) (all_placed listed) (names_of three) shaped
    → whole ≡ (new || is_child_named next name)
hop_names listed path one two three is_one is_two is_three before shaped name whole old new next is_whole is_new looks is_next =
    is_whole
    ∙ ap (λ b. old || b) (ap (λ (t : List ℕ). is_child_named (names_look (all_placed listed) before (names_of t)) name) (sym is_two)
    ∙ looks
    ∙ ap₂ (λ a b. a || b)
    (ap (λ (t : List ℕ). is_child_named (names_made (all_placed listed) before (names_of t)) name) (is_two ∙ sym is_one))
    (ap (λ (t : List ℕ). is_child_named (names_behind (names_look (all_placed listed)) (all_placed listed) (names_of t) shaped) name)
    (is_two ∙ sym is_three) ∙ ap (λ (ns : List (List ℕ)). is_child_named ns name) (sym is_next)))
    ∙ sym (or_assoc old (is_child_named (names_made (all_placed listed) before (names_of one)) name) (is_child_named next name))
    ∙ ap (λ b. b || is_child_named next name) (sym is_new)

-- the search for names ends
pub none_next : (listed : List Listed) (o : Origin)
    → ((source : Rattle.dump_index.specs.declared.change.Source.Source) (rest : Rattle.std.specs.Borrow.Bor (List ℕ))
    → o ≡ Copied source rest → ⊥) → origin_names listed o ≡ []
none_next listed Nowhere other = refl
none_next listed (New kind) other = refl
none_next listed (Copied source rest) other = absurd (other source rest refl)
