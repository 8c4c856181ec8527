-- One step of a trail, from the change that comes last.
use Rattle.std.proofs.Common.{◌≡◌, ℕ, ◌<◌, ◌≤◌, Bool, true, false, ◌||◌, List, ◌++◌, length, map, get_or, Bor, Option, Some, None, option_map, refl, sym, ap, subst, ◌∙◌, arith, inl, inr}
use Rattle.std.proofs.lemmas.Option.{slice_get_past}
use Rattle.std.specs.Prelude.{slice_get, option_to_list}
use Rattle.std.proofs.lemmas.Bool.{cases_lt}
use Rattle.std.proofs.lemmas.List.{length-map}
use Rattle.dump_trees.specs.Paths.{names_of}
use Rattle.dump_trees.specs.Changes.{is_copied}
use Rattle.dump_index.specs.steps.Listed.{Listed, listed_of, listed_made}
use Rattle.dump_index.specs.steps.InOrder.{ends_in_slash, are_in_order}
use Rattle.dump_index.specs.steps.Settings.{Whole, Edited, NewMade, Copied, is_replacing, setting_of, sets_there, sets_at, latest_for, own_place, IsTrail}
use Rattle.dump_index.specs.declared.change.NodeChange.{NodeChange}
use Rattle.dump_index.specs.declared.change.NodeKind.{NodeKind}
use Rattle.dump_index.specs.declared.change.NodeKind.TheVariants.{Directory as ADirectory, File as AFile}
use Rattle.dump_index.specs.declared.change.NodeMade.{NodeMade}
use Rattle.dump_index.specs.declared.change.NodeMade.TheVariants.{Directory, File, CopyOf}
use Rattle.dump_index.specs.declared.change.Source.{Source}
use Rattle.dump_index.specs.declared.order.Effect.TheVariants.{Props as PropsEffect, Texts as TextsEffect}
use Rattle.dump_index.specs.declared.origin.Origin.{Origin}
use Rattle.dump_index.specs.declared.origin.Origin.TheVariants.{Nowhere, New, Copied as CopiedFrom}
use Rattle.dump_index.specs.declared.trail.Step.{Step}
use Rattle.dump_index.specs.declared.trail.Part.{Part}
use Rattle.dump_index.specs.declared.trail.Part.TheVariants.{Props, Text}
use Rattle.dump_index.specs.declared.trail.Next.TheVariants.{End, Before, Copied as CopiedNext}
use Rattle.dump_index.specs.steps.Keys.{has_effect_there, has_effect_at, latest_place}
use Rattle.dump_index.specs.steps.Touching.{shapes, joined_text, rest_text}
use Rattle.dump_index.specs.steps.Looks.{makes_none, made_as, IsMadeBy}
use Rattle.dump_index.specs.steps.Trails.{TrailGoesOn, IsTrailStep}
use Rattle.dump_index.proofs.KeyLemmas.{listed_at}
use Rattle.dump_index.proofs.PlaceLemmas.{latest_low, latest_same}
use Rattle.dump_index.proofs.SlashLemmas.{names_joined}
use Rattle.dump_index.proofs.OriginLemmas.{rest_is, origin_back}

-- a change that sets a part is found in the order for that part

sets_props : (path : List ℕ) (o : Option Listed) → has_effect_there PropsEffect path o ≡ sets_there Props path o
sets_props path None = refl
sets_props path (Some l) = refl

sets_text : (path : List ℕ) (o : Option Listed) → has_effect_there TextsEffect path o ≡ sets_there Text path o
sets_text path None = refl
sets_text path (Some l) = refl

pub latest_props : (listed : List Listed) (path : List ℕ) (count : ℕ)
    → latest_place (has_effect_at PropsEffect listed path) count ≡ latest_place (sets_at Props listed path) count
latest_props listed path count = latest_same _ _ count (λ place low. sets_props path (slice_get listed place))

pub latest_texts : (listed : List Listed) (path : List ℕ) (count : ℕ)
    → latest_place (has_effect_at TextsEffect listed path) count ≡ latest_place (sets_at Text listed path) count
latest_texts listed path count = latest_same _ _ count (λ place low. sets_text path (slice_get listed place))

pub sets_in_range : (changes : List NodeChange) (part : Part) (path : List ℕ) (place : ℕ)
    → sets_at part (map listed_of changes) path place ≡ true → place < length changes
sets_in_range changes part path place is =
    elim (cases_lt place (length changes)) [
      | inl low ↦ low
      | inr high ↦
          let far : length (map listed_of changes) ≤ place = omega (arith, length-map changes listed_of) in
          absurd (let bad : false ≡ true
          = sym (ap (sets_there part path) (slice_get_past (map listed_of changes) place far)) ∙ is in cc)
    ]

none_copied : (made : Option NodeMade) (rest : List ℕ) → makes_none made rest ≡ true
    → is_copied (option_map listed_made made) ≡ false
none_copied None rest is = refl
none_copied (Some Directory) rest is = refl
none_copied (Some File) rest is = refl
none_copied (Some (CopyOf source)) rest is = let bad : false ≡ true = is in absurd (cc)

new_copied : (kind : NodeKind) → is_copied (option_map listed_made (Some (made_as kind))) ≡ false
new_copied ADirectory = refl
new_copied AFile = refl

module _ (changes : List NodeChange) (ordered : are_in_order 0 changes ≡ true) (path : List ℕ)
    (bare : ends_in_slash path ≡ false) (part : Part) (place : ℕ) (c : NodeChange) (at : c ≡ get_or changes place c)
    (low : place < length changes) (before : ℕ)
    (last : latest_for part (map listed_of changes) path before ≡ Some place) where
  its : slice_get (map listed_of changes) place ≡ Some (listed_of c)
  its = listed_at changes place c low ∙ ap (λ x. Some (listed_of x)) (sym at)

  early : place < before
  early = latest_low _ before place last

  pub step_whole : (own : List ℕ) (set : Bool) → own ≡ own_place set place → set ≡ sets_at part (map listed_of changes) path place
      → set ≡ true → is_replacing (setting_of part (listed_of c)) ≡ true
      → IsTrail part (map listed_of changes) before path own
  step_whole own set own_is set_is is whole =
      subst (λ (places : List ℕ). IsTrail part (map listed_of changes) before path places)
      (sym (own_is ∙ ap (λ b. own_place b place) is))
      (Whole before path place (listed_of c) last its (sym set_is ∙ is) whole)

  pub step_before : (own : List ℕ) (set shaped : Bool) → own ≡ own_place set place
      → set ≡ sets_at part (map listed_of changes) path place → shaped ≡ shapes (map listed_of changes) path place
      → (shaped || set) ≡ true → shaped ≡ false
      → TrailGoesOn part (map listed_of changes) before path own (Before place)
  step_before own set shaped own_is set_is shaped_is some isnt =
      let is : set ≡ true = sym (ap (λ b. b || set) isnt) ∙ some in (
        early,
        λ trail further.
            subst (λ (places : List ℕ). IsTrail part (map listed_of changes) before path (places ++ trail))
            (sym (own_is ∙ ap (λ b. own_place b place) is))
            (Edited before path place trail last (sym set_is ∙ is) (sym shaped_is ∙ isnt) further),
      )

  module _ (own : List ℕ) (set shaped : Bool) (own_is : own ≡ own_place set place)
      (set_is : set ≡ sets_at part (map listed_of changes) path place)
      (shaped_is : shaped ≡ shapes (map listed_of changes) path place) (is : shaped ≡ true) where
    own_same : own_place (sets_at part (map listed_of changes) path place) place ≡ own
    own_same = sym (own_is ∙ ap (λ b. own_place b place) set_is)

    made_new : is_copied (option_map listed_made c.made) ≡ false → IsTrail part (map listed_of changes) before path own
    made_new none =
        subst (λ (places : List ℕ). IsTrail part (map listed_of changes) before path places) own_same
        (NewMade before path place (listed_of c) last its (sym shaped_is ∙ is) none)

    pub step_nowhere : IsMadeBy c path Nowhere → IsTrail part (map listed_of changes) before path own
    step_nowhere made = made_new (none_copied c.made (rest_text c.path.now path) made)

    pub step_new : (kind : NodeKind) → IsMadeBy c path (New kind) → IsTrail part (map listed_of changes) before path own
    step_new kind made =
        made_new (ap (λ m. is_copied (option_map listed_made m)) made.1 ∙ new_copied kind)

    pub step_copied : (source : Source) (rest : Bor (List ℕ)) → IsMadeBy c path (CopiedFrom source rest)
        → TrailGoesOn part (map listed_of changes) before path own (CopiedNext source rest)
    step_copied source rest made =
        let back = origin_back changes ordered path bare place c at (sym shaped_is ∙ is) (CopiedFrom source rest) made in
        let less = back.0 in
        let first = early in
        let behind = rest_is changes ordered path bare place c at (sym shaped_is ∙ is) in (
          omega arith,
          back.1,
          λ trail further.
              subst (λ (places : List ℕ). IsTrail part (map listed_of changes) before path (places ++ trail)) own_same
              (Copied before path place (listed_of c) source.revision (names_of source.path.now)
              (names_of (rest_text c.path.now path)) (joined_text source.path.now rest.now) trail last its
              (sym shaped_is ∙ is) (ap (option_map listed_made) made.0) behind.0
              (names_joined source.path.now rest.now
              ∙ ap (λ (r : List ℕ). names_of source.path.now ++ names_of r) made.1) further),
        )

    pub step_other : (o : Origin) → IsMadeBy c path o
        → ((source : Source) (rest : Bor (List ℕ)) → o ≡ CopiedFrom source rest → ⊥)
        → IsTrail part (map listed_of changes) before path own
    step_other Nowhere made other = step_nowhere made
    step_other (New kind) made other = step_new kind made
    step_other (CopiedFrom source rest) made other = absurd (other source rest refl)

pub ends_at : (part : Part) (listed : List Listed) (before : ℕ) (path : List ℕ) (set : Option ℕ) (step : Step)
    → step ≡ record { set = set; next = End } → IsTrail part listed before path (option_to_list set)
    → IsTrailStep part listed before path step
ends_at part listed before path set step is trail = subst (λ (s : Step). IsTrailStep part listed before path s) (sym is) trail
