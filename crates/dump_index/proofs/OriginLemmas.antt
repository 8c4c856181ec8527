-- The origin of what exists at a path after a change that decides it.
use Rattle.std.proofs.Common.{◌≡◌, ℕ, ◌<◌, ◌≤◌, Bool, true, false, not, ◌&&◌, ◌||◌, List, [], ◌∷◌, ◌++◌, length, map, get_or, Bor, Option, Some, None, is_some, option_map, bytes_eq, nat_lt, refl, sym, ap, ap₂, ◌∙◌, ◌≢◌, arith, inl, inr}
use Rattle.std.proofs.lemmas.Option.{slice_get_past}
use Rattle.std.specs.Prelude.{slice_get}
use Rattle.std.proofs.lemmas.Bool.{cases_lt, and_parts, not-true}
use Rattle.std.proofs.lemmas.List.{length-map}
use Rattle.dump_trees.specs.Paths.{NodePath, names_of, below}
use Rattle.dump_trees.specs.Trees.{root_alone}
use Rattle.dump_trees.specs.Changes.{is_copied}
use Rattle.dump_trees.specs.steps.Looking.{end_of, origin_of, looked_up, look}
use Rattle.dump_index.specs.steps.Listed.{Listed, listed_of, listed_made, placed_of, all_placed}
use Rattle.dump_index.specs.steps.InOrder.{ends_in_slash, is_from_before, are_in_order}
use Rattle.dump_index.specs.steps.Kinds.{node_kind, kind_look}
use Rattle.dump_index.specs.declared.change.NodeChange.{NodeChange}
use Rattle.dump_index.specs.declared.change.NodeKind.{NodeKind}
use Rattle.dump_index.specs.declared.change.NodeKind.TheVariants.{Directory as ADirectory, File as AFile}
use Rattle.dump_index.specs.declared.change.Source.{Source}
use Rattle.dump_index.specs.declared.change.NodeMade.{NodeMade}
use Rattle.dump_index.specs.declared.change.NodeMade.TheVariants.{Directory, File, CopyOf}
use Rattle.dump_index.specs.declared.order.Effect.TheVariants.{Shaping, Moving}
use Rattle.dump_index.specs.declared.origin.Origin.{Origin}
use Rattle.dump_index.specs.declared.origin.Origin.TheVariants.{Nowhere, New, Copied}
use Rattle.dump_index.specs.steps.Keys.{has_effect, has_effect_there}
use Rattle.dump_index.specs.steps.Touching.{stands_over, moves_there, shapes, rest_text, joined_text}
use Rattle.dump_index.specs.steps.Looks.{came_rest, came_there, came, origin_kind, made_as, makes_none, IsMadeBy, GoesBack}
use Rattle.dump_index.proofs.KeyLemmas.{listed_at, get-map}
use Rattle.dump_index.proofs.RestLemmas.{split, split_some, rest_same, rest_over}
use Rattle.dump_index.proofs.SlashLemmas.{ends_rest, ends_joined, rest_some, rest_none_same}
use Rattle.dump_index.proofs.OrderLemmas.{all_look_back, from_before_at}
use Rattle.std.proofs.Math.Bool.{and-false}

-- whether a change that makes this, and deletes or doesn't, decides what exists at the rest of a path
abbrev pub decides : Bool → Option NodeMade → List ℕ → Bool
decides deletes made [] = deletes || is_some (option_map listed_made made)
decides deletes made (b ∷ rest) = deletes || is_copied (option_map listed_made made)

-- the same by its names, and by what the code found for it
abbrev pub IsMade : Option NodeMade → List ℕ → Origin → Type 0
IsMade made rest Nowhere = makes_none made rest ≡ true
IsMade made rest (New kind) = (rest ≡ []) × (made ≡ Some (made_as kind))
IsMade made rest (Copied source behind) = (made ≡ Some (CopyOf source)) × (behind.now ≡ rest)

or_false : (b : Bool) → (b || false) ≡ true → b ≡ true
or_false true is = refl
or_false false is = is

module _ (listed : List Listed) (place : ℕ) (path : NodePath) where
  abbrev found : Bool → Option NodeMade → NodePath → Option NodeKind
  found deletes made rest =
      option_map node_kind (looked_up (look root_alone (all_placed listed)) (all_placed listed) place path
      (origin_of deletes (option_map listed_made made) rest))

  none_deleted : (deletes : Bool) → deletes ≡ true → None ≡ found deletes None []
  none_deleted true is = refl
  none_deleted false is = let bad : false ≡ true = is in absurd (cc)

  none_below : (deletes : Bool) (made : Option NodeMade) (rest name : List ℕ) (names : NodePath) → deletes ≡ true
      → is_copied (option_map listed_made made) ≡ false → None ≡ found deletes made (name ∷ names)
  none_below true None rest name names is other = refl
  none_below true (Some Directory) rest name names is other = refl
  none_below true (Some File) rest name names is other = refl
  none_below true (Some (CopyOf source)) rest name names is other = let bad : true ≡ false = other in absurd (cc)
  none_below false made rest name names is other = let bad : false ≡ true = is in absurd (cc)

  tie_none : (deletes : Bool) (made : Option NodeMade) (rest : List ℕ) → makes_none made rest ≡ true
      → decides deletes made rest ≡ true → None ≡ found deletes made (names_of rest)
  tie_none deletes None [] none is = none_deleted deletes (or_false deletes is)
  tie_none deletes None (b ∷ rest) none is =
      let some = split_some (b ∷ rest) in
      none_below deletes None (b ∷ rest) some.0 some.1 (or_false deletes is) refl
      ∙ sym (ap (λ (ns : NodePath). found deletes None ns) some.2)
  tie_none deletes (Some Directory) [] none is = let bad : false ≡ true = none in absurd (cc)
  tie_none deletes (Some Directory) (b ∷ rest) none is =
      let some = split_some (b ∷ rest) in
      none_below deletes (Some Directory) (b ∷ rest) some.0 some.1 (or_false deletes is) refl
      ∙ sym (ap (λ (ns : NodePath). found deletes (Some Directory) ns) some.2)
  tie_none deletes (Some File) [] none is = let bad : false ≡ true = none in absurd (cc)
  tie_none deletes (Some File) (b ∷ rest) none is =
      let some = split_some (b ∷ rest) in
      none_below deletes (Some File) (b ∷ rest) some.0 some.1 (or_false deletes is) refl
      ∙ sym (ap (λ (ns : NodePath). found deletes (Some File) ns) some.2)
  tie_none deletes (Some (CopyOf source)) rest none is = let bad : false ≡ true = none in absurd (cc)

  tie_new : (deletes : Bool) (kind : NodeKind) → Some kind ≡ found deletes (Some (made_as kind)) []
  tie_new deletes ADirectory = refl
  tie_new deletes AFile = refl

  tie : (deletes : Bool) (made : Option NodeMade) (rest : List ℕ) (o : Origin) → IsMade made rest o
      → decides deletes made rest ≡ true → origin_kind listed o ≡ found deletes made (names_of rest)
  tie deletes made rest Nowhere its is = tie_none deletes made rest its is
  tie deletes made rest (New kind) its is =
      tie_new deletes kind
      ∙ sym (ap₂ (λ m (r : List ℕ). found deletes m (names_of r)) its.1 its.0)
  tie deletes made rest (Copied source behind) its is =
      ap (λ (r : List ℕ). kind_look listed (end_of (all_placed listed) source.revision)
      (names_of source.path.now ++ names_of r)) its.1
      ∙ sym (ap (λ m. found deletes m (names_of rest)) its.0)

-- the change at a place that decides what exists at the path

pub in_range : (changes : List NodeChange) (path : List ℕ) (place : ℕ)
    → shapes (map listed_of changes) path place ≡ true → place < length changes
in_range changes path place is =
    elim (cases_lt place (length changes)) [
      | inl low ↦ low
      | inr high ↦
          let far : length (map listed_of changes) ≤ place = omega (arith, length-map changes listed_of) in
          absurd (let bad : false ≡ true
          = sym (ap (λ o. has_effect_there Shaping path o || moves_there (stands_over path) o) (slice_get_past (map listed_of changes) place far))
          ∙ is in cc)
    ]

module _ (changes : List NodeChange) (ordered : are_in_order 0 changes ≡ true) (path : List ℕ)
    (bare : ends_in_slash path ≡ false) (place : ℕ) (c : NodeChange) (at : c ≡ get_or changes place c)
    (shaped : shapes (map listed_of changes) path place ≡ true) where
  pub there : slice_get (map listed_of changes) place ≡ Some (listed_of c)
  there =
      listed_at changes place c (in_range changes path place shaped) ∙ ap (λ x. Some (listed_of x)) (sym at)

  decided : (has_effect_there Shaping path (Some (listed_of c)) || moves_there (stands_over path) (Some (listed_of c))) ≡ true
  decided = sym (ap (λ o. has_effect_there Shaping path o || moves_there (stands_over path) o) there) ∙ shaped

  -- the rest of the path
  pub rest_is : (below (names_of c.path.now) (names_of path) ≡ Some (names_of (rest_text c.path.now path)))
      × (decides c.deletes c.made (rest_text c.path.now path) ≡ true)
  rest_is = cases (bytes_eq c.path.now path) (stands_over path c.path.now) refl refl decided
    where
      and_yes : (b : Bool) → (b && true) ≡ true → b ≡ true
      and_yes true is = refl
      and_yes false is = is

      own : (deletes : Bool) (made : Option NodeMade) (over : Bool)
          → (((deletes || is_some (option_map listed_made made)) && true) || ((deletes || is_copied (option_map listed_made made)) && over)) ≡ true
          → (deletes || is_some (option_map listed_made made)) ≡ true
      own true made over is = refl
      own false None over is = is
      own false (Some Directory) over is = refl
      own false (Some File) over is = refl
      own false (Some (CopyOf source)) over is = refl

      more : (rest : List ℕ) → (rest ≢ []) → (split rest ≡ names_of rest)
          × (decides c.deletes c.made rest ≡ (c.deletes || is_copied (option_map listed_made c.made)))
      more [] some = absurd (some refl)
      more (b ∷ rest) some = (refl, refl)

      cases : (same over : Bool) → bytes_eq c.path.now path ≡ same → stands_over path c.path.now ≡ over
          → ((has_effect Shaping (listed_of c) && same) || (has_effect Moving (listed_of c) && over)) ≡ true
          → (below (names_of c.path.now) (names_of path) ≡ Some (names_of (rest_text c.path.now path)))
          × (decides c.deletes c.made (rest_text c.path.now path) ≡ true)
      cases true over is_same over_is is =
          let none = rest_none_same c.path.now path is_same in (
            rest_same c.path.now path is_same ∙ sym (ap (λ (r : List ℕ). Some (names_of r)) none),
            ap (λ (r : List ℕ). decides c.deletes c.made r) none ∙ own c.deletes c.made over is,
          )
      cases false true isnt over_is is =
          let some = rest_some c.path.now path isnt over_is bare in
          let its = more (rest_text c.path.now path) some in
          let moves : ((has_effect Shaping (listed_of c) && false) || (has_effect Moving (listed_of c) && true)) ≡ true = is in (
            rest_over c.path.now path isnt over_is ∙ ap (λ (ns : NodePath). Some ns) its.0,
            its.1 ∙ and_yes (has_effect Moving (listed_of c))
                (sym (ap (λ b. b || (has_effect Moving (listed_of c) && true)) (and-false (has_effect Shaping (listed_of c)))) ∙ moves),
          )
      cases false false isnt off is =
          absurd (let bad : false ≡ true = sym (ap₂ (λ a b. a || b) (and-false (has_effect Shaping (listed_of c)))
          (and-false (has_effect Moving (listed_of c)))) ∙ is in cc)

  pub as_made : (o : Origin) → IsMadeBy c path o → IsMade c.made (rest_text c.path.now path) o
  as_made Nowhere its = its
  as_made (New kind) its = its
  as_made (Copied source rest) its = its

  pub origin_came : (o : Origin) → IsMadeBy c path o
      → origin_kind (map listed_of changes) o ≡ came (map listed_of changes) path (Some place)
  origin_came o its =
      let rest = rest_is in
      tie (map listed_of changes) place (names_of path) c.deletes c.made (rest_text c.path.now path) o (as_made o its) rest.1
      ∙ sym (ap (came_there (map listed_of changes) place path) there
      ∙ ap (came_rest (map listed_of changes) place (names_of path) (listed_of c)) rest.0)

  pub origin_back : (o : Origin) → IsMadeBy c path o → GoesBack (map listed_of changes) (Some place) o
  origin_back Nowhere its = tt
  origin_back (New kind) its = tt
  origin_back (Copied source rest) its =
      let from : is_from_before c.revision c.made ≡ true
      = ap (λ (x : NodeChange). is_from_before x.revision x.made) at
      ∙ from_before_at 0 changes place c (in_range changes path place shaped) ordered in
      let parts = and_parts (nat_lt source.revision c.revision) (not (ends_in_slash source.path.now))
      (sym (ap (λ m. is_from_before c.revision m) its.0) ∙ from) in (
        all_look_back changes ordered place (placed_of (listed_of c))
            (get-map placed_of (map listed_of changes) place ∙ ap (option_map placed_of) there)
            source.revision (names_of source.path.now) (ap (option_map listed_made) its.0),
        ends_joined source.path.now rest.now (not-true (ends_in_slash source.path.now) parts.1)
            (ap ends_in_slash its.1 ∙ ends_rest c.path.now path bare),
      )

-- one hop of a look

pub hops_back : (listed : List Listed) (shaped : Option ℕ) (source : Source) (rest : Bor (List ℕ))
    → GoesBack listed shaped (Copied source rest)
    → (place : ℕ) × (shaped ≡ Some place) × (end_of (all_placed listed) source.revision ≤ place)
    × (ends_in_slash (joined_text source.path.now rest.now) ≡ false)
hops_back listed None source rest back = absurd back
hops_back listed (Some place) source rest back = (place, refl, back.0, back.1)
