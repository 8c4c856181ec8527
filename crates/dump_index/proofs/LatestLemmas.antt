-- The latest change that touches a path.
use Rattle.std.proofs.Common.{◌≡◌, ℕ, zero, suc, Bool, true, false, ◌&&◌, ◌||◌, cond, List, Option, Some, None, is_some, option_map, bytes_eq, refl, sym, ap, ap₂, ◌∙◌}
use Rattle.std.specs.Prelude.{slice_get}
use Rattle.dump_trees.specs.Paths.{NodePath, names_of, below}
use Rattle.dump_trees.specs.Changes.{Made, Change, is_copied}
use Rattle.dump_trees.specs.steps.Looking.{Placed, touches_rest, touches_path, holds_there, latest}
use Rattle.dump_index.specs.steps.Listed.{Listed, placed_of, all_placed, plain_props, plain_text}
use Rattle.dump_index.specs.declared.change.Setting.{Setting}
use Rattle.dump_index.specs.declared.change.Setting.TheVariants.{Keeps, Replaces, Edits, EditsNothing}
use Rattle.dump_index.specs.declared.order.Effect.TheVariants.{Shaping, Moving, Props, Texts}
use Rattle.dump_index.specs.steps.Keys.{has_effect, has_effect_there, latest_place, sets}
use Rattle.dump_index.specs.steps.Touching.{stands_over, moves_there, touches_at, rest_text}
use Rattle.dump_index.proofs.KeyLemmas.{get-map}
use Rattle.dump_index.proofs.PlaceLemmas.{latest_same}
use Rattle.dump_index.proofs.RestLemmas.{split_some, rest_same, rest_over, rest_none}
use Rattle.std.proofs.Math.Bool.{and-false, and-true}

sets_props : (s : Setting) → is_some (plain_props s) ≡ sets s
sets_props Keeps = refl
sets_props Replaces = refl
sets_props Edits = refl
sets_props EditsNothing = refl

sets_text : (s : Setting) → is_some (plain_text s) ≡ sets s
sets_text Keeps = refl
sets_text Replaces = refl
sets_text Edits = refl
sets_text EditsNothing = refl

-- the change is at the path itself
own_touch : (deletes : Bool) (made : Option Made) (p t over : Bool)
    → (((deletes || is_some made) || p) || t)
    ≡ ((((deletes || is_some made) && true) || ((p && true) || (t && true))) || ((deletes || is_copied made) && over))
own_touch true made p t over = refl
own_touch false (Some Made.NewDirectory) p t over = refl
own_touch false (Some Made.NewFile) p t over = refl
own_touch false (Some (Made.Copied number source)) p t over = refl
own_touch false None true t over = refl
own_touch false None false true over = refl
own_touch false None false false over = refl

-- the change is at a path above, or elsewhere
other_touch : (a p t m over : Bool) → (((a && false) || ((p && false) || (t && false))) || (m && over)) ≡ (m && over)
other_touch a p t m over =
    ap (λ x. (x || ((p && false) || (t && false))) || (m && over)) (and-false a)
    ∙ ap (λ x. (x || (t && false)) || (m && over)) (and-false p)
    ∙ ap (λ x. x || (m && over)) (and-false t)

abbrev pub touches_there : List ℕ → Listed → Bool
touches_there path l =
    (has_effect_there Shaping path (Some l) || (has_effect_there Props path (Some l) || has_effect_there Texts path (Some l)))
    || moves_there (stands_over path) (Some l)

pub touch_same : (path : List ℕ) (l : Listed) → touches_path (names_of path) (placed_of l).change ≡ touches_there path l
touch_same path l = cases (bytes_eq l.path path) (stands_over path l.path) refl refl
  where
    cases : (same over : Bool) → bytes_eq l.path path ≡ same → stands_over path l.path ≡ over
        → touches_rest (below (names_of l.path) (names_of path)) (placed_of l).change
        ≡ (((has_effect Shaping l && same) || ((sets l.props && same) || (sets l.text && same)))
        || (has_effect Moving l && over))
    cases true over is_same stands_over =
        ap (λ o. touches_rest o (placed_of l).change) (rest_same l.path path is_same)
        ∙ ap₂ (λ p t. ((l.deletes || is_some l.made) || p) || t) (sets_props l.props) (sets_text l.text)
        ∙ own_touch l.deletes l.made (sets l.props) (sets l.text) over
    cases false true isnt over =
        let some = split_some (rest_text l.path path) in
        ap (λ o. touches_rest o (placed_of l).change) (rest_over l.path path isnt over ∙ ap (λ (ns : NodePath). Some ns) some.2)
        ∙ sym (and-true (has_effect Moving l))
        ∙ sym (other_touch (has_effect Shaping l) (sets l.props) (sets l.text) (has_effect Moving l) true)
    cases false false isnt off =
        ap (λ o. touches_rest o (placed_of l).change) (rest_none l.path path isnt off)
        ∙ sym (and-false (has_effect Moving l))
        ∙ sym (other_touch (has_effect Shaping l) (sets l.props) (sets l.text) (has_effect Moving l) false)

-- a test of changes as a test of their places
latest_by_place : (test : Change → Bool) (placed : List Placed) (count : ℕ)
    → latest test placed count ≡ latest_place (λ place. holds_there test (slice_get placed place)) count
latest_by_place test placed zero = refl
latest_by_place test placed (suc count) =
    ap (λ o. cond (holds_there test (slice_get placed count)) (Some count) o) (latest_by_place test placed count)

pub latest_touch : (listed : List Listed) (path : List ℕ) (count : ℕ)
    → latest (touches_path (names_of path)) (all_placed listed) count ≡ latest_place (touches_at listed path) count
latest_touch listed path count =
    latest_by_place (touches_path (names_of path)) (all_placed listed) count
    ∙ latest_same _ _ count (λ place low.
    ap (holds_there (touches_path (names_of path))) (get-map placed_of listed place) ∙ there (slice_get listed place))
  where
    there : (o : Option Listed) → holds_there (touches_path (names_of path)) (option_map placed_of o)
        ≡ ((has_effect_there Shaping path o || (has_effect_there Props path o || has_effect_there Texts path o))
        || moves_there (stands_over path) o)
    there None = refl
    there (Some l) = touch_same path l
