-- What exists at a path has the origin that the latest change that shapes the path gives it, if no text is set on a
-- directory.
use Rattle.std.proofs.Common.{◌≡◌, ℕ, zero, suc, ◌<◌, Bool, true, false, ◌&&◌, ◌||◌, cond, List, [], ◌∷◌, Option, Some, None, is_some, option_map, bytes_eq, refl, sym, ap, ap₂, ◌∙◌, arith}
use Rattle.std.specs.Prelude.{slice_get}
use Rattle.std.proofs.lemmas.Bool.{le-leb, lt-leb}
use Rattle.dump_trees.specs.Paths.{NodePath, names_of, below}
use Rattle.dump_trees.specs.Trees.{Node, root_alone}
use Rattle.dump_trees.specs.Changes.{Made, is_copied}
use Rattle.dump_trees.specs.steps.Looking.{touches_path, holds_there, latest, origin_of, node_with_props, node_with_text, set_by, looked_up, left_at, left_there, look_behind, look}
use Rattle.dump_trees.proofs.expansions.BackLemmas.{LooksBack, look_back}
use Rattle.dump_index.specs.steps.Listed.{Listed, placed_of, all_placed, plain_props, plain_text}
use Rattle.dump_index.specs.steps.Kinds.{node_kind, kind_look}
use Rattle.dump_index.specs.declared.change.NodeKind.{NodeKind}
use Rattle.dump_index.specs.declared.change.NodeKind.TheVariants.{Directory, File}
use Rattle.dump_index.specs.declared.change.Setting.{Setting}
use Rattle.dump_index.specs.declared.change.Setting.TheVariants.{Keeps, Replaces, Edits, EditsNothing}
use Rattle.dump_index.specs.declared.order.Effect.TheVariants.{Shaping, Moving, Texts}
use Rattle.dump_index.specs.steps.Keys.{has_effect, has_effect_there, has_effect_at, latest_place, sets}
use Rattle.dump_index.specs.steps.Touching.{stands_over, moves_there, shapes, rest_text}
use Rattle.dump_index.specs.steps.Looks.{kind_with_text, came_rest, came_there, came, text_since, is_since}
use Rattle.dump_index.proofs.KeyLemmas.{get-map}
use Rattle.dump_index.proofs.PlaceLemmas.{latest_low}
use Rattle.dump_index.proofs.RestLemmas.{split_some, rest_same, rest_over}
use Rattle.dump_index.proofs.LatestLemmas.{touch_same}
use Rattle.std.proofs.Math.Bool.{and-false, and-true, or-true}

-- what remains after properties and a text are set

kind_props : (s : Setting) (node : Option Node)
    → option_map node_kind (node_with_props (plain_props s) node) ≡ option_map node_kind node
kind_props Keeps old = refl
kind_props Replaces None = refl
kind_props Replaces (Some (Node.Directory props)) = refl
kind_props Replaces (Some (Node.File props text)) = refl
kind_props Edits None = refl
kind_props Edits (Some (Node.Directory props)) = refl
kind_props Edits (Some (Node.File props text)) = refl
kind_props EditsNothing None = refl
kind_props EditsNothing (Some (Node.Directory props)) = refl
kind_props EditsNothing (Some (Node.File props text)) = refl

kind_text : (s : Setting) (node : Option Node)
    → option_map node_kind (node_with_text (plain_text s) node) ≡ kind_with_text (sets s) (option_map node_kind node)
kind_text Keeps old = refl
kind_text Replaces None = refl
kind_text Replaces (Some (Node.Directory props)) = refl
kind_text Replaces (Some (Node.File props text)) = refl
kind_text Edits None = refl
kind_text Edits (Some (Node.Directory props)) = refl
kind_text Edits (Some (Node.File props text)) = refl
kind_text EditsNothing None = refl
kind_text EditsNothing (Some (Node.Directory props)) = refl
kind_text EditsNothing (Some (Node.File props text)) = refl

pub set_kind : (l : Listed) (node : Option Node)
    → option_map node_kind (set_by (placed_of l).change [] node) ≡ kind_with_text (sets l.text) (option_map node_kind node)
set_kind l node =
    kind_text l.text (node_with_props (plain_props l.props) node) ∙ ap (kind_with_text (sets l.text)) (kind_props l.props node)

pub with_both : (a b : Bool) (kind : Option NodeKind) → kind_with_text a (kind_with_text b kind) ≡ kind_with_text (a || b) kind
with_both false b kind = refl
with_both true false kind = refl
with_both true true None = refl
with_both true true (Some Directory) = refl
with_both true true (Some File) = refl

-- one more change

module _ (listed : List Listed) (back : LooksBack (all_placed listed)) (path : List ℕ) where
  look_next : (n : ℕ)
      → look root_alone (all_placed listed) (suc n) (names_of path)
      ≡ cond (holds_there (touches_path (names_of path)) (slice_get (all_placed listed) n))
      (left_there (look root_alone (all_placed listed)) (all_placed listed) n (names_of path) (slice_get (all_placed listed) n))
      (look root_alone (all_placed listed) n (names_of path))
  look_next n =
      look_back (all_placed listed) back root_alone (suc n) (names_of path)
      ∙ cases (holds_there (touches_path (names_of path)) (slice_get (all_placed listed) n))
    where
      cases : (b : Bool)
          → look_behind (look root_alone (all_placed listed)) root_alone (all_placed listed) (names_of path)
          (cond b (Some n) (latest (touches_path (names_of path)) (all_placed listed) n))
          ≡ cond b
          (left_there (look root_alone (all_placed listed)) (all_placed listed) n (names_of path) (slice_get (all_placed listed) n))
          (look root_alone (all_placed listed) n (names_of path))
      cases true = refl
      cases false = sym (look_back (all_placed listed) back root_alone n (names_of path))

  -- what exists there after the change at this place
  abbrev pub kind_left : ℕ → Listed → Option NodePath → Option NodeKind
  kind_left n l rest =
      option_map node_kind
      (left_at (look root_alone (all_placed listed)) (all_placed listed) n (names_of path) (placed_of l).change rest)

  abbrev pub kind_step : ℕ → Option Listed → Option NodeKind
  kind_step n None = kind_look listed n (names_of path)
  kind_step n (Some l) =
      cond (touches_path (names_of path) (placed_of l).change)
      (kind_left n l (below (names_of l.path) (names_of path))) (kind_look listed n (names_of path))

  pub kind_next : (n : ℕ) → kind_look listed (suc n) (names_of path) ≡ kind_step n (slice_get listed n)
  kind_next n =
      ap (option_map node_kind) (look_next n
      ∙ ap (λ o. cond (holds_there (touches_path (names_of path)) o)
      (left_there (look root_alone (all_placed listed)) (all_placed listed) n (names_of path) o)
      (look root_alone (all_placed listed) n (names_of path))) (get-map placed_of listed n))
      ∙ there (slice_get listed n)
    where
      either : (b : Bool) (one two : Option Node)
          → option_map node_kind (cond b one two) ≡ cond b (option_map node_kind one) (option_map node_kind two)
      either true one two = refl
      either false one two = refl

      there : (o : Option Listed)
          → option_map node_kind (cond (holds_there (touches_path (names_of path)) (option_map placed_of o))
          (left_there (look root_alone (all_placed listed)) (all_placed listed) n (names_of path) (option_map placed_of o))
          (look root_alone (all_placed listed) n (names_of path))) ≡ kind_step n o
      there None = refl
      there (Some l) =
          either (touches_path (names_of path) (placed_of l).change)
          (left_at (look root_alone (all_placed listed)) (all_placed listed) n (names_of path) (placed_of l).change
          (below (names_of l.path) (names_of path))) (look root_alone (all_placed listed) n (names_of path))

  module _ (n : ℕ) (last : Option ℕ) (since : Bool)
      (before : kind_look listed n (names_of path) ≡ kind_with_text since (came listed path last)) where
    abbrev Next : Option NodeKind → Bool → Bool → Type 0
    Next kind shaped sets_text =
        kind ≡ kind_with_text (cond shaped sets_text (sets_text || since)) (came listed path (cond shaped (Some n) last))

    taken : (touched shaped sets_text : Bool) (new : Option NodeKind) → touched ≡ true → shaped ≡ true
        → new ≡ kind_with_text sets_text (came listed path (Some n))
        → Next (cond touched new (kind_look listed n (names_of path))) shaped sets_text
    taken touched shaped sets_text new is_touched is_shaped is =
        ap (λ b. cond b new (kind_look listed n (names_of path))) is_touched ∙ is
        ∙ sym (ap (λ b. kind_with_text (cond b sets_text (sets_text || since)) (came listed path (cond b (Some n) last))) is_shaped)

    left : (touched shaped sets_text : Bool) (new : Option NodeKind) → touched ≡ false → shaped ≡ false
        → sets_text ≡ false
        → Next (cond touched new (kind_look listed n (names_of path))) shaped sets_text
    left touched shaped sets_text new isnt_touched isnt_shaped none =
        ap (λ b. cond b new (kind_look listed n (names_of path))) isnt_touched ∙ before
        ∙ sym (ap₂ (λ b t. kind_with_text (cond b t (t || since)) (came listed path (cond b (Some n) last))) isnt_shaped none)

    edited : (touched shaped sets_text : Bool) (new : Option NodeKind) → touched ≡ true → shaped ≡ false
        → new ≡ kind_with_text sets_text (kind_look listed n (names_of path))
        → Next (cond touched new (kind_look listed n (names_of path))) shaped sets_text
    edited touched shaped sets_text new is_touched isnt_shaped is =
        ap (λ b. cond b new (kind_look listed n (names_of path))) is_touched ∙ is
        ∙ ap (kind_with_text sets_text) before ∙ with_both sets_text since (came listed path last)
        ∙ sym (ap (λ b. kind_with_text (cond b sets_text (sets_text || since)) (came listed path (cond b (Some n) last))) isnt_shaped)

    abbrev shaped_by : Option Listed → Bool
    shaped_by o = has_effect_there Shaping path o || moves_there (stands_over path) o

    -- what the change leaves at a rest of the path, by its origin
    came_by : (l : Listed) → slice_get listed n ≡ Some l → (rest : NodePath)
        → below (names_of l.path) (names_of path) ≡ Some rest
        → option_map node_kind (looked_up (look root_alone (all_placed listed)) (all_placed listed) n (names_of path)
        (origin_of l.deletes l.made rest)) ≡ came listed path (Some n)
    came_by l at rest is =
        sym (ap (came_there listed n path) at ∙ ap (came_rest listed n (names_of path) l) is)

    -- the change is at the path itself
    own : (l : Listed) → slice_get listed n ≡ Some l → bytes_eq l.path path ≡ true
        → (deletes : Bool) (made : Option Made) → l.deletes ≡ deletes → l.made ≡ made → (p t over : Bool)
        → sets l.props ≡ p → sets l.text ≡ t
        → Next (cond ((((deletes || is_some made) && true) || ((p && true) || (t && true))) || ((deletes || is_copied made) && over))
        (kind_left n l (Some [])) (kind_look listed n (names_of path)))
        (((deletes || is_some made) && true) || ((deletes || is_copied made) && over)) (t && true)
    own l at same deletes made is_deletes is_made p t over is_p is_t = cases deletes made is_deletes is_made p t is_p is_t
      where
        fresh : (t : Bool) → sets l.text ≡ t → kind_left n l (Some []) ≡ kind_with_text (t && true) (came listed path (Some n))
        fresh t is_t =
            set_kind l (looked_up (look root_alone (all_placed listed)) (all_placed listed) n (names_of path)
            (origin_of l.deletes l.made []))
            ∙ ap₂ kind_with_text (is_t ∙ sym (and-true t)) (came_by l at [] (rest_same l.path path same))

        stays : l.deletes ≡ false → l.made ≡ None → (t : Bool) → sets l.text ≡ t
            → kind_left n l (Some []) ≡ kind_with_text (t && true) (kind_look listed n (names_of path))
        stays none nothing t is_t =
            set_kind l (looked_up (look root_alone (all_placed listed)) (all_placed listed) n (names_of path)
            (origin_of l.deletes l.made []))
            ∙ ap₂ kind_with_text (is_t ∙ sym (and-true t))
            (ap₂ (λ d m. option_map node_kind (looked_up (look root_alone (all_placed listed)) (all_placed listed) n (names_of path)
            (origin_of d m []))) none nothing)

        cases : (deletes : Bool) (made : Option Made) → l.deletes ≡ deletes → l.made ≡ made → (p t : Bool)
            → sets l.props ≡ p → sets l.text ≡ t
            → Next (cond ((((deletes || is_some made) && true) || ((p && true) || (t && true))) || ((deletes || is_copied made) && over))
            (kind_left n l (Some [])) (kind_look listed n (names_of path)))
            (((deletes || is_some made) && true) || ((deletes || is_copied made) && over)) (t && true)
        cases true made is_deletes is_made p t is_p is_t = fresh t is_t
        cases false (Some Made.NewDirectory) is_deletes is_made p t is_p is_t = fresh t is_t
        cases false (Some Made.NewFile) is_deletes is_made p t is_p is_t = fresh t is_t
        cases false (Some (Made.Copied number source)) is_deletes is_made p t is_p is_t = fresh t is_t
        cases false None is_deletes is_made true t is_p is_t =
            edited true false (t && true) (kind_left n l (Some [])) refl refl (stays is_deletes is_made t is_t)
        cases false None is_deletes is_made false true is_p is_t =
            edited true false true (kind_left n l (Some [])) refl refl (stays is_deletes is_made true is_t)
        cases false None is_deletes is_made false false is_p is_t =
            left false false false (kind_left n l (Some [])) refl refl refl

    -- the change is at a path above
    further : (l : Listed) → slice_get listed n ≡ Some l → (rest : NodePath)
        → below (names_of l.path) (names_of path) ≡ Some rest → (name : List ℕ) (names : NodePath) → rest ≡ name ∷ names
        → (a p t m : Bool) → has_effect Moving l ≡ m
        → Next (cond (((a && false) || ((p && false) || (t && false))) || (m && true))
        (kind_left n l (Some rest)) (kind_look listed n (names_of path))) ((a && false) || (m && true)) (t && false)
    further l at rest is name names some a p t true is_m =
        taken _ _ (t && false) (kind_left n l (Some rest)) (or-true _) (or-true (a && false))
        (ap (λ (r : NodePath). kind_left n l (Some r)) some
        ∙ sym (ap (λ (r : NodePath). option_map node_kind (looked_up (look root_alone (all_placed listed)) (all_placed listed) n
        (names_of path) (origin_of l.deletes l.made r))) some)
        ∙ came_by l at rest is ∙ sym (ap (λ b. kind_with_text b (came listed path (Some n))) (and-false t)))
    further l at rest is name names some a p t false is_m =
        left _ _ (t && false) (kind_left n l (Some rest)) (none_of a p t) (ap (λ b. b || false) (and-false a)) (and-false t)
      where
        none_of : (a p t : Bool) → (((a && false) || ((p && false) || (t && false))) || false) ≡ false
        none_of a p t =
            ap₂ (λ x y. (x || y) || false) (and-false a) (ap₂ (λ x y. x || y) (and-false p) (and-false t))

    -- the change is elsewhere
    nowhere : (l : Listed) (rest : Option NodePath) (a p t m : Bool)
        → Next (cond (((a && false) || ((p && false) || (t && false))) || (m && false))
        (kind_left n l rest) (kind_look listed n (names_of path))) ((a && false) || (m && false)) (t && false)
    nowhere l rest a p t m =
        left _ _ (t && false) (kind_left n l rest)
        (ap₂ (λ x y. x || y) (ap₂ (λ x y. x || y) (and-false a) (ap₂ (λ x y. x || y) (and-false p) (and-false t))) (and-false m))
        (ap₂ (λ x y. x || y) (and-false a) (and-false m)) (and-false t)

    step_some : (l : Listed) → slice_get listed n ≡ Some l
        → Next (kind_step n (Some l)) (shaped_by (Some l)) (has_effect_there Texts path (Some l))
    step_some l at =
        ap (λ b. cond b (kind_left n l (below (names_of l.path) (names_of path))) (kind_look listed n (names_of path)))
        (touch_same path l)
        ∙ cases (bytes_eq l.path path) (stands_over path l.path) refl refl
      where
        cases : (same over : Bool) → bytes_eq l.path path ≡ same → stands_over path l.path ≡ over
            → Next (cond (((has_effect Shaping l && same) || ((sets l.props && same) || (sets l.text && same)))
            || (has_effect Moving l && over))
            (kind_left n l (below (names_of l.path) (names_of path))) (kind_look listed n (names_of path)))
            ((has_effect Shaping l && same) || (has_effect Moving l && over)) (sets l.text && same)
        cases true over is_same over_is =
            ap (λ r. cond (((has_effect Shaping l && true) || ((sets l.props && true) || (sets l.text && true)))
            || (has_effect Moving l && over)) (kind_left n l r) (kind_look listed n (names_of path)))
            (rest_same l.path path is_same)
            ∙ own l at is_same l.deletes l.made refl refl (sets l.props) (sets l.text) over refl refl
        cases false true isnt over_is =
            let its = rest_over l.path path isnt over_is in
            let some = split_some (rest_text l.path path) in
            ap (λ r. cond (((has_effect Shaping l && false) || ((sets l.props && false) || (sets l.text && false)))
            || (has_effect Moving l && true)) (kind_left n l r) (kind_look listed n (names_of path))) its
            ∙ further l at _ its some.0 some.1 some.2 (has_effect Shaping l) (sets l.props) (sets l.text) (has_effect Moving l) refl
        cases false false isnt off =
            nowhere l (below (names_of l.path) (names_of path)) (has_effect Shaping l) (sets l.props) (sets l.text)
            (has_effect Moving l)

    step : (o : Option Listed) → slice_get listed n ≡ o
        → Next (kind_step n o) (shaped_by o) (has_effect_there Texts path o)
    step None at = before
    step (Some l) at = step_some l at

  kinds_since : (count : ℕ) → kind_look listed count (names_of path)
      ≡ kind_with_text (text_since listed path count) (came listed path (latest_place (shapes listed path) count))
  kinds_since zero = refl
  kinds_since (suc n) =
      kind_next n
      ∙ step n (latest_place (shapes listed path) n) (text_since listed path n) (kinds_since n) (slice_get listed n) refl

-- whether a text is set since, by the latest places of both kinds
since_is : (listed : List Listed) (path : List ℕ) (count : ℕ) → text_since listed path count
    ≡ is_since (latest_place (shapes listed path) count) (latest_place (has_effect_at Texts listed path) count)
since_is listed path zero = refl
since_is listed path (suc n) =
    cases (since_is listed path n) (latest_low (shapes listed path) n) (latest_low (has_effect_at Texts listed path) n)
    (shapes listed path n) (has_effect_at Texts listed path n)
  where
    no_later : (o : Option ℕ) → ((place : ℕ) → o ≡ Some place → place < n) → false ≡ is_since (Some n) o
    no_later None low = refl
    no_later (Some place) low = sym (lt-leb n place (low place refl))

    no_earlier : (o : Option ℕ) → ((place : ℕ) → o ≡ Some place → place < n) → true ≡ is_since o (Some n)
    no_earlier None low = refl
    no_earlier (Some place) low = let less = low place refl in sym (le-leb place n (omega arith))

    cases : text_since listed path n
        ≡ is_since (latest_place (shapes listed path) n) (latest_place (has_effect_at Texts listed path) n)
        → ((place : ℕ) → latest_place (shapes listed path) n ≡ Some place → place < n)
        → ((place : ℕ) → latest_place (has_effect_at Texts listed path) n ≡ Some place → place < n) → (s x : Bool)
        → cond s x (x || text_since listed path n)
        ≡ is_since (cond s (Some n) (latest_place (shapes listed path) n))
        (cond x (Some n) (latest_place (has_effect_at Texts listed path) n))
    cases before low high true true = sym (le-leb n n (omega arith))
    cases before low high true false = no_later (latest_place (has_effect_at Texts listed path) n) high
    cases before low high false true = no_earlier (latest_place (shapes listed path) n) low
    cases before low high false false = before

pub kinds : (listed : List Listed) → LooksBack (all_placed listed) → (path : List ℕ) (count : ℕ)
    → kind_look listed count (names_of path)
    ≡ kind_with_text (is_since (latest_place (shapes listed path) count) (latest_place (has_effect_at Texts listed path) count))
    (came listed path (latest_place (shapes listed path) count))
kinds listed back path count =
    kinds_since listed back path count
    ∙ ap (λ b. kind_with_text b (came listed path (latest_place (shapes listed path) count))) (since_is listed path count)
