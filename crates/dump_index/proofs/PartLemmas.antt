-- The changes of a trail make the part of the node that exists at the path.
use Rattle.std.proofs.Common.{◌≡◌, ℕ, zero, suc, ◌+◌, ◌<◌, ◌≤◌, Bool, true, false, ◌&&◌, ◌||◌, cond, List, [], ◌∷◌, ◌++◌, map, Option, Some, None, is_some, option_map, option_and_then, bytes_eq, append-nil, refl, sym, ap, ap₂, subst, ◌∙◌, inl, inr}
use Rattle.std.specs.Prelude.{slice_get}
use Rattle.std.specs.List.{AllZip}
use Rattle.std.proofs.lemmas.Bool.{and_parts, or_cases, or_parts, or_left, or_right}
use Rattle.dump_text.specs.PropertyList.{Property}
use Rattle.dump_trees.specs.Paths.{NodePath, names_of, below}
use Rattle.dump_trees.specs.Trees.{Node, root_alone}
use Rattle.dump_trees.specs.Changes.{Made, Change, PropertyChange, TextChange, is_copied, new_props, new_text}
use Rattle.dump_trees.specs.steps.Looking.{Placed, end_of, touches_path, holds_there, origin_of, node_with_props, node_with_text, set_by, looked_up, left_at, left_there, look}
use Rattle.dump_trees.proofs.expansions.BackLemmas.{LooksBack}
use Rattle.dump_index.specs.steps.Listed.{Listed, listed_of, placed_of, all_placed}
use Rattle.dump_index.specs.steps.Settings.{Unset, Whole, Edited, NewMade, Copied, is_replacing, setting_of, sets_there, sets_at, latest_for, own_place, IsTrail}
use Rattle.dump_trees.specs.steps.ComingBack.{properties_of}
use Rattle.dump_index.specs.steps.IndexLaws.{HasProps, HasText, IsListed, PropsAreFound, TextsAreFound, listed_text, props_by, text_by, props_there, text_there, props_after, text_after}
use Rattle.dump_index.specs.declared.change.Setting.{Setting}
use Rattle.dump_index.specs.declared.change.Setting.TheVariants.{Keeps, Replaces, Edits, EditsNothing}
use Rattle.dump_index.specs.declared.order.Effect.TheVariants.{Shaping, Moving}
use Rattle.dump_index.specs.declared.trail.Part.{Part}
use Rattle.dump_index.specs.declared.trail.Part.TheVariants.{Props, Text}
use Rattle.dump_index.specs.steps.Keys.{has_effect, has_effect_there, sets}
use Rattle.dump_index.specs.steps.Touching.{stands_over, moves_there, shapes, rest_text}
use Rattle.dump_index.proofs.RestLemmas.{split_some, rest_same, rest_over}
use Rattle.dump_index.proofs.LatestLemmas.{touch_same, touches_there}
use Rattle.dump_index.proofs.OrderLemmas.{all_look_back}
use Rattle.dump_index.proofs.LawLemmas.{look_one_more, end_same, Both, Neither, One, both_at, back_same, touch_listed, none_set}
use Rattle.std.proofs.Math.Bool.{and-false}
use Rattle.dump_trees.proofs.changes.TreeLemmas.{none_of}

-- ---- tests

-- a change that touches the path, but neither shapes it nor sets the part, sets another part at its own path
pub record SetsOther (part : Part) (path : List ℕ) (l : Listed) : Type 0 where
  pub same : bytes_eq l.path path ≡ true
  pub deletes : l.deletes ≡ false
  pub made : l.made ≡ None
  pub keeps : sets (setting_of part l) ≡ false

abbrev pub shaped_there : List ℕ → Option Listed → Bool
shaped_there path o = has_effect_there Shaping path o || moves_there (stands_over path) o

and_yes : (b : Bool) → (b && true) ≡ false → b ≡ false
and_yes true is = is
and_yes false is = refl

pub and_no : (a p t : Bool) → ((a && false) || ((p && false) || (t && false))) ≡ false
and_no true true true = refl
and_no true true false = refl
and_no true false true = refl
and_no true false false = refl
and_no false true true = refl
and_no false true false = refl
and_no false false true = refl
and_no false false false = refl

pub unshaped : (path : List ℕ) (l : Listed) → bytes_eq l.path path ≡ true → shaped_there path (Some l) ≡ false
    → (l.deletes ≡ false) × (l.made ≡ None)
unshaped path l same isnt =
    let parts = or_parts (has_effect Shaping l && bytes_eq l.path path) (has_effect Moving l && stands_over path l.path) isnt in
    let shaping = and_yes (has_effect Shaping l) (ap (λ b. has_effect Shaping l && b) (sym same) ∙ parts.0) in
    let both = or_parts l.deletes (is_some l.made) shaping in
    (both.0, none_of l.made both.1)

pub sets_other : (part : Part) (path : List ℕ) (l : Listed) → shaped_there path (Some l) ≡ false
    → sets_there part path (Some l) ≡ false → touches_there path l ≡ true → SetsOther part path l
sets_other part path l isnt keeps touched = cases (bytes_eq l.path path) refl
  where
    cases : (same : Bool) → bytes_eq l.path path ≡ same → SetsOther part path l
    cases true same =
        let its = unshaped path l same isnt in
        record {
          same = same;
          deletes = its.0;
          made = its.1;
          keeps = and_yes (sets (setting_of part l)) (ap (λ b. sets (setting_of part l) && b) (sym same) ∙ keeps);
        }
    cases false same =
        let parts = or_parts (has_effect Shaping l && bytes_eq l.path path) (has_effect Moving l && stands_over path l.path) isnt in
        absurd (let bad : false ≡ true
        = sym (ap₂ (λ a b. a || b) (ap (λ s. (has_effect Shaping l && s) || ((sets l.props && s) || (sets l.text && s))) same
        ∙ and_no (has_effect Shaping l) (sets l.props) (sets l.text)) parts.1) ∙ touched in cc)

-- a change that shapes the path or sets the part touches the path
pub touches_if : (part : Part) (path : List ℕ) (l : Listed)
    → (shaped_there path (Some l) || sets_there part path (Some l)) ≡ true → touches_there path l ≡ true
touches_if part path l is =
    elim (or_cases (shaped_there path (Some l)) (sets_there part path (Some l)) is) [
      | inl shaped ↦ by_shape shaped
      | inr set ↦ by_part part set
    ]
  where
    by_shape : shaped_there path (Some l) ≡ true → touches_there path l ≡ true
    by_shape shaped =
        elim (or_cases (has_effect Shaping l && bytes_eq l.path path) (has_effect Moving l && stands_over path l.path) shaped) [
          | inl own ↦ or_left _ (has_effect Moving l && stands_over path l.path)
              (or_left (has_effect Shaping l && bytes_eq l.path path)
              ((sets l.props && bytes_eq l.path path) || (sets l.text && bytes_eq l.path path)) own)
          | inr above ↦ or_right _ (has_effect Moving l && stands_over path l.path) above
        ]

    by_part : (part : Part) → sets_there part path (Some l) ≡ true → touches_there path l ≡ true
    by_part Props set =
        or_left _ (has_effect Moving l && stands_over path l.path) (or_right (has_effect Shaping l && bytes_eq l.path path) _
        (or_left (sets l.props && bytes_eq l.path path) (sets l.text && bytes_eq l.path path) set))
    by_part Text set =
        or_left _ (has_effect Moving l && stands_over path l.path) (or_right (has_effect Shaping l && bytes_eq l.path path) _
        (or_right (sets l.props && bytes_eq l.path path) (sets l.text && bytes_eq l.path path) set))

same_some : (listed : List Listed) (n : ℕ) (l k : Listed) → slice_get listed n ≡ Some l → slice_get listed n ≡ Some k → l ≡ k
same_some listed n l k one two = let both : Some l ≡ Some k = sym one ∙ two in cc

-- ---- a part

module _ (V : Type 0) (part : Part) (val : Node → V) (none : V) (by : Change → V → Option V)
    (new_directory : val (Node.Directory []) ≡ none) (new_file : val (Node.File [] []) ≡ none)
    (set_val : (c : Change) (o : Option Node) (node : Node) → set_by c [] o ≡ Some node
    → (other : Node) × (o ≡ Some other) × (by c (val other) ≡ Some (val node)))
    (keeps : (l : Listed) (p : Placed) → IsListed l p → sets (setting_of part l) ≡ false → (v : V) → by p.change v ≡ Some v)
    (whole : (l : Listed) (p : Placed) → IsListed l p → is_replacing (setting_of part l) ≡ true → (v w : V)
    → by p.change v ≡ by p.change w)
    (listed : List Listed) (placed : List Placed) (all : AllZip IsListed listed placed) (back : LooksBack placed) where
  abbrev pub Reached : Option ℕ → List ℕ → Node → Type 0
  Reached None path node = (other : Node) × (root_alone (names_of path) ≡ Some other) × (val other ≡ val node)
  Reached (Some place) path node =
      (other : Node) × (look root_alone placed (suc place) (names_of path) ≡ Some other) × (val other ≡ val node)

  along : (o : Option ℕ) (path : List ℕ) (one two : Node) → val one ≡ val two → Reached o path one → Reached o path two
  along None path one two same is = (is.0, is.1, is.2 ∙ same)
  along (Some place) path one two same is = (is.0, is.1, is.2 ∙ same)

  -- what the change at a place leaves at a rest of the path
  opened : (n : ℕ) (path : NodePath) (l : Listed) (p : Placed) (node : Node) → slice_get placed n ≡ Some p → IsListed l p
      → look root_alone placed (suc n) path ≡ Some node → (t : Bool) → touches_path path (placed_of l).change ≡ t
      → cond t (left_at (look root_alone placed) placed n path p.change (below (names_of l.path) path))
      (look root_alone placed n path) ≡ Some node
  opened n path l p node at is found t t_is =
      sym (ap (λ b. cond b (left_at (look root_alone placed) placed n path p.change (below (names_of l.path) path))
      (look root_alone placed n path)) (touch_listed l p is path ∙ t_is))
      ∙ sym (ap (λ (top : NodePath). cond (touches_path path p.change)
      (left_at (look root_alone placed) placed n path p.change (below top path)) (look root_alone placed n path)) is.path)
      ∙ sym (ap (λ o. cond (holds_there (touches_path path) o) (left_there (look root_alone placed) placed n path o)
      (look root_alone placed n path)) at)
      ∙ sym (look_one_more placed back path n) ∙ found

  unchanged : (n : ℕ) (path : NodePath) (node : Node) → slice_get placed n ≡ None
      → look root_alone placed (suc n) path ≡ Some node → look root_alone placed n path ≡ Some node
  unchanged n path node none_at found =
      sym (ap (λ o. cond (holds_there (touches_path path) o) (left_there (look root_alone placed) placed n path o)
      (look root_alone placed n path)) none_at)
      ∙ sym (look_one_more placed back path n) ∙ found

  some_same : (one two : V) → Some one ≡ Some two → one ≡ two
  some_same one two is = ap (λ o. Rattle.std.proofs.Common.unwrap_or o one) is

  reach : (count : ℕ) (path : List ℕ) (node : Node) → look root_alone placed count (names_of path) ≡ Some node
      → Reached (latest_for part listed path count) path node
  reach zero path node found = (node, found, refl)
  reach (suc n) path node found =
      cases (λ other is. reach n path other is) (shapes listed path n) (sets_at part listed path n) refl refl
    where
      -- the change at this place neither shapes the path nor sets the part
      before : shapes listed path n ≡ false → sets_at part listed path n ≡ false
          → (other : Node) × (look root_alone placed n (names_of path) ≡ Some other) × (val other ≡ val node)
      before isnt unset = either (both_at listed placed all n)
        where
          touched : (l : Listed) (p : Placed) → slice_get listed n ≡ Some l → slice_get placed n ≡ Some p → IsListed l p
              → (t : Bool) → touches_path (names_of path) (placed_of l).change ≡ t
              → (other : Node) × (look root_alone placed n (names_of path) ≡ Some other) × (val other ≡ val node)
          touched l p one two is false t_is = (node, opened n (names_of path) l p node two is found false t_is, refl)
          touched l p one two is true t_is =
              let its = sets_other part path l (sym (ap (shaped_there path) one) ∙ isnt)
              (sym (ap (sets_there part path) one) ∙ unset) (sym (touch_same path l) ∙ t_is) in
              let left = opened n (names_of path) l p node two is found true t_is in
              let own : set_by p.change [] (look root_alone placed n (names_of path)) ≡ Some node
              = sym (ap₂ (λ d m. set_by p.change []
              (looked_up (look root_alone placed) placed n (names_of path) (origin_of d m [])))
              (is.deletes ∙ its.deletes) (is.made ∙ its.made))
              ∙ sym (ap (left_at (look root_alone placed) placed n (names_of path) p.change) (rest_same l.path path its.same))
              ∙ left in
              let set = set_val p.change (look root_alone placed n (names_of path)) node own in
              (set.0, set.1, some_same (val set.0) (val node) (sym (keeps l p is its.keeps (val set.0)) ∙ set.2))

          either : Both listed placed n
              → (other : Node) × (look root_alone placed n (names_of path) ≡ Some other) × (val other ≡ val node)
          either (Neither one two) = (node, unchanged n (names_of path) node two found, refl)
          either (One l p one two is) = touched l p one two is (touches_path (names_of path) (placed_of l).change) refl

      cases : ((other : Node) → look root_alone placed n (names_of path) ≡ Some other
          → Reached (latest_for part listed path n) path other)
          → (s x : Bool) → shapes listed path n ≡ s → sets_at part listed path n ≡ x
          → Reached (cond (s || x) (Some n) (latest_for part listed path n)) path node
      cases further true x s_is x_is = (node, found, refl)
      cases further false true s_is x_is = (node, found, refl)
      cases further false false s_is x_is =
          let early = before s_is x_is in
          along (latest_for part listed path n) path early.0 node early.2 (further early.0 early.1)

  reached_at : (count : ℕ) (path : List ℕ) (node : Node) (o : Option ℕ)
      → look root_alone placed count (names_of path) ≡ Some node → latest_for part listed path count ≡ o
      → Reached o path node
  reached_at count path node o found last =
      subst (λ (p : Option ℕ). Reached p path node) last (reach count path node found)

  -- what the places make
  module _ (after : List ℕ → Option V) (after_none : after [] ≡ Some none)
      (after_more : (place : ℕ) (p : Placed) (trail : List ℕ) → slice_get placed place ≡ Some p
      → after (place ∷ trail) ≡ option_and_then (by p.change) (after trail)) where
    own_after : (l : Listed) (p : Placed) (path : List ℕ) (place : ℕ) (trail : List ℕ) → slice_get listed place ≡ Some l
        → slice_get placed place ≡ Some p → IsListed l p → bytes_eq l.path path ≡ true → (v : V) → after trail ≡ Some v
        → after (own_place (sets_at part listed path place) place ++ trail) ≡ by p.change v
    own_after l p path place trail one two is same v before =
        ap (λ b. after (own_place b place ++ trail)) (ap (sets_there part path) one ∙ ap (λ b. sets (setting_of part l) && b) same)
        ∙ cases (sets (setting_of part l)) refl
      where
        cases : (b : Bool) → sets (setting_of part l) ≡ b → after (own_place (b && true) place ++ trail) ≡ by p.change v
        cases true b_is = after_more place p trail two ∙ ap (option_and_then (by p.change)) before
        cases false b_is = before ∙ sym (keeps l p is b_is v)

    -- if a change that is no copy decides what exists at the path, it leaves a new node or nothing
    fresh : (n : ℕ) (path rest : NodePath) (deletes : Bool) (made : Option Made) (node : Node) → is_copied made ≡ false
        → (deletes || is_some made) ≡ true
        → looked_up (look root_alone placed) placed n path (origin_of deletes made []) ≡ Some node → val node ≡ none
    fresh n path rest deletes (Some Made.NewDirectory) node other is found =
        sym (ap val (let both : Some (Node.Directory []) ≡ Some node = found in let its : Node.Directory [] ≡ node = cc in its)) ∙ new_directory
    fresh n path rest deletes (Some Made.NewFile) node other is found =
        sym (ap val (let both : Some (Node.File [] []) ≡ Some node = found in let its : Node.File [] [] ≡ node = cc in its)) ∙ new_file
    fresh n path rest deletes (Some (Made.Copied number source)) node other is found =
        absurd (let bad : true ≡ false = other in cc)
    fresh n path rest true None node other is found = absurd (let bad : None ≡ Some node = found in cc)
    fresh n path rest false None node other is found = absurd (let bad : false ≡ true = is in cc)

    root_val : (path : NodePath) (node : Node) → root_alone path ≡ Some node → val node ≡ none
    root_val [] node is =
        sym (ap val (let both : Some (Node.Directory []) ≡ Some node = is in let its : Node.Directory [] ≡ node = cc in its)) ∙ new_directory
    root_val (name ∷ path) node is = absurd (let bad : None ≡ Some node = is in cc)

    touched : (k : Listed) (path : List ℕ) (place : ℕ) → slice_get listed place ≡ Some k
        → (shapes listed path place || sets_at part listed path place) ≡ true
        → touches_path (names_of path) (placed_of k).change ≡ true
    touched k path place one is =
        touch_same path k ∙ touches_if part path k
        (sym (ap (λ o. shaped_there path o || sets_there part path o) one) ∙ is)

    own_left : (k : Listed) (p : Placed) (path : List ℕ) (place : ℕ) (other : Node) → slice_get placed place ≡ Some p
        → IsListed k p → look root_alone placed (suc place) (names_of path) ≡ Some other
        → touches_path (names_of path) (placed_of k).change ≡ true → bytes_eq k.path path ≡ true
        → set_by p.change [] (looked_up (look root_alone placed) placed place (names_of path) (origin_of k.deletes k.made []))
        ≡ Some other
    own_left k p path place other two is found touch same =
        sym (ap₂ (λ d m. set_by p.change [] (looked_up (look root_alone placed) placed place (names_of path) (origin_of d m [])))
        is.deletes is.made)
        ∙ sym (ap (left_at (look root_alone placed) placed place (names_of path) p.change) (rest_same k.path path same))
        ∙ opened place (names_of path) k p other two is found true touch

    over_left : (k : Listed) (p : Placed) (path : List ℕ) (place : ℕ) (other : Node) → slice_get placed place ≡ Some p
        → IsListed k p → look root_alone placed (suc place) (names_of path) ≡ Some other
        → touches_path (names_of path) (placed_of k).change ≡ true → (name : List ℕ) (names : NodePath)
        → below (names_of k.path) (names_of path) ≡ Some (name ∷ names)
        → looked_up (look root_alone placed) placed place (names_of path) (origin_of k.deletes k.made (name ∷ names))
        ≡ Some other
    over_left k p path place other two is found touch name names rest =
        sym (ap₂ (λ d m. looked_up (look root_alone placed) placed place (names_of path) (origin_of d m (name ∷ names)))
        is.deletes is.made)
        ∙ sym (ap (left_at (look root_alone placed) placed place (names_of path) p.change) rest)
        ∙ opened place (names_of path) k p other two is found true touch

    shape_own : (deletes : Bool) (made : Option Made) (over : Bool) → is_copied made ≡ false
        → (((deletes || is_some made) && true) || ((deletes || is_copied made) && over)) ≡ true
        → (deletes || is_some made) ≡ true
    shape_own true made over none_copied is = refl
    shape_own false (Some made) over none_copied is = refl
    shape_own false None over none_copied is = is

    gone : (path : NodePath) (place : ℕ) (deletes : Bool) (made : Option Made) (name : List ℕ) (names : NodePath) (node : Node)
        → is_copied made ≡ false → (deletes || is_copied made) ≡ true
        → looked_up (look root_alone placed) placed place path (origin_of deletes made (name ∷ names)) ≡ Some node → ⊥
    gone path place true None name names node other is found = let bad : None ≡ Some node = found in absurd (cc)
    gone path place true (Some Made.NewDirectory) name names node other is found =
        let bad : None ≡ Some node = found in absurd (cc)
    gone path place true (Some Made.NewFile) name names node other is found =
        let bad : None ≡ Some node = found in absurd (cc)
    gone path place true (Some (Made.Copied number source)) name names node other is found =
        let bad : true ≡ false = other in absurd (cc)
    gone path place false made name names node other is found =
        let bad : false ≡ true = sym other ∙ is in absurd (cc)

    moves_over : (a m : Bool) → ((a && false) || (m && true)) ≡ true → m ≡ true
    moves_over true true is = refl
    moves_over false true is = refl
    moves_over true false is = is
    moves_over false false is = is

    moves_nowhere : (a m : Bool) → ((a && false) || (m && false)) ≡ true → ⊥
    moves_nowhere true true is = let bad : false ≡ true = is in absurd (cc)
    moves_nowhere false true is = let bad : false ≡ true = is in absurd (cc)
    moves_nowhere true false is = let bad : false ≡ true = is in absurd (cc)
    moves_nowhere false false is = let bad : false ≡ true = is in absurd (cc)

    trail_makes : (count : ℕ) (path trail : List ℕ) (node : Node) → IsTrail part listed count path trail
        → look root_alone placed count (names_of path) ≡ Some node → after trail ≡ Some (val node)
    trail_makes _ _ _ node (Unset count path last) found =
        let r = reached_at count path node None found last in
        after_none ∙ ap (λ v. Some v) (sym (root_val (names_of path) r.0 r.1) ∙ r.2)
    trail_makes _ _ _ node (Whole count path place l last its set all_set) found = either (both_at listed placed all place)
      where
        either : Both listed placed place → after (place ∷ []) ≡ Some (val node)
        either (Neither one two) = absurd (let bad : None ≡ Some l = sym one ∙ its in cc)
        either (One k p one two is) =
            let r = reached_at count path node (Some place) found last in
            let set_there : sets_there part path (Some k) ≡ true = sym (ap (sets_there part path) one) ∙ set in
            let same = (and_parts (sets (setting_of part k)) (bytes_eq k.path path) set_there).1 in
            let touch = touched k path place one (or_right (shapes listed path place) (sets_at part listed path place) set) in
            let s = set_val p.change _ r.0 (own_left k p path place r.0 two is r.1 touch same) in
            let every = ap (λ (x : Listed). is_replacing (setting_of part x)) (same_some listed place k l one its) ∙ all_set in
            after_more place p [] two ∙ ap (option_and_then (by p.change)) after_none
            ∙ whole k p is every none (val s.0) ∙ s.2 ∙ ap (λ v. Some v) r.2
    trail_makes _ _ _ node (Edited count path place trail last set isnt further) found =
        either (λ other is. trail_makes place path trail other further is) (both_at listed placed all place)
      where
        either : ((other : Node) → look root_alone placed place (names_of path) ≡ Some other → after trail ≡ Some (val other))
            → Both listed placed place → after (place ∷ trail) ≡ Some (val node)
        either before (Neither one two) =
            absurd (let bad : false ≡ true = sym (ap (sets_there part path) one) ∙ set in cc)
        either before (One k p one two is) =
            let r = reached_at count path node (Some place) found last in
            let set_there : sets_there part path (Some k) ≡ true = sym (ap (sets_there part path) one) ∙ set in
            let same = (and_parts (sets (setting_of part k)) (bytes_eq k.path path) set_there).1 in
            let touch = touched k path place one (or_right (shapes listed path place) (sets_at part listed path place) set) in
            let un = unshaped path k same (sym (ap (shaped_there path) one) ∙ isnt) in
            let own : set_by p.change [] (look root_alone placed place (names_of path)) ≡ Some r.0
            = sym (ap₂ (λ d m. set_by p.change [] (looked_up (look root_alone placed) placed place (names_of path) (origin_of d m [])))
            un.0 un.1) ∙ own_left k p path place r.0 two is r.1 touch same in
            let s = set_val p.change (look root_alone placed place (names_of path)) r.0 own in
            after_more place p trail two ∙ ap (option_and_then (by p.change)) (before s.0 s.1)
            ∙ s.2 ∙ ap (λ v. Some v) r.2
    trail_makes _ _ _ node (NewMade count path place l last its shaped other) found = either (both_at listed placed all place)
      where
        either : Both listed placed place → after (own_place (sets_at part listed path place) place) ≡ Some (val node)
        either (Neither one two) = absurd (let bad : None ≡ Some l = sym one ∙ its in cc)
        either (One k p one two is) =
            cases (bytes_eq k.path path) (stands_over path k.path) refl refl (sym (ap (shaped_there path) one) ∙ shaped)
          where
            none_copied : is_copied k.made ≡ false
            none_copied = ap (λ (x : Listed). is_copied x.made) (same_some listed place k l one its) ∙ other

            cases : (same over : Bool) → bytes_eq k.path path ≡ same → stands_over path k.path ≡ over
                → ((has_effect Shaping k && same) || (has_effect Moving k && over)) ≡ true
                → after (own_place (sets_at part listed path place) place) ≡ Some (val node)
            cases true over same over_is shape =
                let r = reached_at count path node (Some place) found last in
                let touch = touched k path place one (or_left (shapes listed path place) (sets_at part listed path place) shaped) in
                let s = set_val p.change _ r.0 (own_left k p path place r.0 two is r.1 touch same) in
                let new = fresh place (names_of path) [] k.deletes k.made s.0 none_copied
                (shape_own k.deletes k.made over none_copied shape) s.1 in
                ap after (sym (append-nil (own_place (sets_at part listed path place) place)))
                ∙ own_after k p path place [] one two is same none after_none
                ∙ ap (by p.change) (sym new) ∙ s.2 ∙ ap (λ v. Some v) r.2
            cases false true other_path over_is shape =
                let r = reached_at count path node (Some place) found last in
                let touch = touched k path place one (or_left (shapes listed path place) (sets_at part listed path place) shaped) in
                let rest = split_some (rest_text k.path path) in
                absurd (gone (names_of path) place k.deletes k.made rest.0 rest.1 r.0 none_copied
                (moves_over (has_effect Shaping k) (has_effect Moving k) shape)
                (over_left k p path place r.0 two is r.1 touch rest.0 rest.1
                (rest_over k.path path other_path over_is ∙ ap (λ (ns : NodePath). Some ns) rest.2)))
            cases false false other_path off shape =
                absurd (moves_nowhere (has_effect Shaping k) (has_effect Moving k) shape)
    trail_makes _ _ _ node (Copied count path place l number source rest next trail last its shaped made below_is next_is further)
        found =
        either (λ other is. trail_makes (end_of (all_placed listed) number) next trail other further is)
        (both_at listed placed all place)
      where
        either : ((other : Node) → look root_alone placed (end_of (all_placed listed) number) (names_of next) ≡ Some other
            → after trail ≡ Some (val other))
            → Both listed placed place → after (own_place (sets_at part listed path place) place ++ trail) ≡ Some (val node)
        either before (Neither one two) = absurd (let bad : None ≡ Some l = sym one ∙ its in cc)
        either before (One k p one two is) =
            cases (bytes_eq k.path path) (stands_over path k.path) refl refl (sym (ap (shaped_there path) one) ∙ shaped)
          where
            alike : k ≡ l
            alike = same_some listed place k l one its

            made_is : k.made ≡ Some (Made.Copied number source)
            made_is = ap (λ (x : Listed). x.made) alike ∙ made

            rest_of : below (names_of k.path) (names_of path) ≡ Some rest
            rest_of = ap (λ (x : Listed). below (names_of x.path) (names_of path)) alike ∙ below_is

            copied : (behind : NodePath) → below (names_of k.path) (names_of path) ≡ Some behind → (other : Node)
                → looked_up (look root_alone placed) placed place (names_of path) (origin_of k.deletes k.made behind) ≡ Some other
                → look root_alone placed (end_of (all_placed listed) number) (names_of next) ≡ Some other
            copied behind behind_is other found_there =
                let same : behind ≡ rest = (let both : Some behind ≡ Some rest = sym behind_is ∙ rest_of in cc) in
                ap₂ (λ n (names : NodePath). look root_alone placed n names) (sym (end_same listed placed all number))
                (next_is ∙ ap (λ (ns : NodePath). source ++ ns) (sym same))
                ∙ sym (ap (λ m. looked_up (look root_alone placed) placed place (names_of path) (origin_of k.deletes m behind)) made_is)
                ∙ found_there

            cases : (same over : Bool) → bytes_eq k.path path ≡ same → stands_over path k.path ≡ over
                → ((has_effect Shaping k && same) || (has_effect Moving k && over)) ≡ true
                → after (own_place (sets_at part listed path place) place ++ trail) ≡ Some (val node)
            cases true over same over_is shape =
                let r = reached_at count path node (Some place) found last in
                let touch = touched k path place one (or_left (shapes listed path place) (sets_at part listed path place) shaped) in
                let s = set_val p.change _ r.0 (own_left k p path place r.0 two is r.1 touch same) in
                own_after k p path place trail one two is same (val s.0)
                (before s.0 (copied [] (rest_same k.path path same) s.0 s.1))
                ∙ s.2 ∙ ap (λ v. Some v) r.2
            cases false true other_path over_is shape =
                let r = reached_at count path node (Some place) found last in
                let touch = touched k path place one (or_left (shapes listed path place) (sets_at part listed path place) shaped) in
                let behind = split_some (rest_text k.path path) in
                let its_rest : below (names_of k.path) (names_of path) ≡ Some (behind.0 ∷ behind.1)
                = rest_over k.path path other_path over_is ∙ ap (λ (ns : NodePath). Some ns) behind.2 in
                ap (λ b. after (own_place b place ++ trail)) (ap (sets_there part path) one
                ∙ ap (λ b. sets (setting_of part k) && b) other_path ∙ and-false (sets (setting_of part k)))
                ∙ before r.0 (copied (behind.0 ∷ behind.1) its_rest r.0
                (over_left k p path place r.0 two is r.1 touch behind.0 behind.1 its_rest))
                ∙ ap (λ v. Some v) r.2
            cases false false other_path off shape =
                absurd (moves_nowhere (has_effect Shaping k) (has_effect Moving k) shape)

-- ---- properties

text_keeps_props : (t : Option TextChange) (one node : Node) → node_with_text t (Some one) ≡ Some node
    → properties_of one ≡ properties_of node
text_keeps_props None one node is = let both : Some one ≡ Some node = is in let same : one ≡ node = cc in ap properties_of same
text_keeps_props (Some change) (Node.Directory props) node is = absurd (let bad : None ≡ Some node = is in cc)
text_keeps_props (Some change) (Node.File props old) node is = cases (new_text change old) is
  where
    cases : (o : Option (List ℕ)) → option_map (λ new. Node.File props new) o ≡ Some node → props ≡ properties_of node
    cases None is = absurd (let bad : None ≡ Some node = is in cc)
    cases (Some new) is =
        let both : Some (Node.File props new) ≡ Some node = is in
        let same : Node.File props new ≡ node = cc in
        ap properties_of same

set_props : (c : Change) (o : Option Node) (node : Node) → set_by c [] o ≡ Some node
    → (other : Node) × (o ≡ Some other) × (props_by c.props (properties_of other) ≡ Some (properties_of node))
set_props c None node is = absurd (let bad : None ≡ Some node = sym (none_set c.text c.props) ∙ is in cc)
set_props c (Some other) node is = (other, refl, cases c.props other is)
  where
    cases : (o : Option PropertyChange) (other : Node) → node_with_text c.text (node_with_props o (Some other)) ≡ Some node
        → props_by o (properties_of other) ≡ Some (properties_of node)
    cases None other is = ap (λ ps. Some ps) (text_keeps_props c.text other node is)
    cases (Some change) (Node.Directory props) is =
        ap (λ ps. Some ps) (text_keeps_props c.text (Node.Directory (new_props change props)) node is)
    cases (Some change) (Node.File props text) is =
        ap (λ ps. Some ps) (text_keeps_props c.text (Node.File (new_props change props) text) node is)

keeps_props : (s : Setting) (o : Option PropertyChange) → HasProps s o → sets s ≡ false → (v : List Property)
    → props_by o v ≡ Some v
keeps_props Keeps None has is v = refl
keeps_props Keeps (Some change) has is v = absurd has
keeps_props Replaces o has is v = absurd (let bad : true ≡ false = is in cc)
keeps_props Edits o has is v = absurd (let bad : true ≡ false = is in cc)
keeps_props EditsNothing o has is v = absurd (let bad : true ≡ false = is in cc)

whole_props : (s : Setting) (o : Option PropertyChange) → HasProps s o → is_replacing s ≡ true → (v w : List Property)
    → props_by o v ≡ props_by o w
whole_props Keeps o has is v w = absurd (let bad : false ≡ true = is in cc)
whole_props Replaces None has is v w = absurd has
whole_props Replaces (Some (PropertyChange.Replaced entries)) has is v w = refl
whole_props Replaces (Some (PropertyChange.Edited entries)) has is v w = absurd has
whole_props Edits o has is v w = absurd (let bad : false ≡ true = is in cc)
whole_props EditsNothing o has is v w = absurd (let bad : false ≡ true = is in cc)

pub props_found : PropsAreFound
props_found changes placed count path trail node ordered all is found =
    trail_makes (List Property) Props properties_of [] (λ c v. props_by c.props v) refl refl set_props
    (λ l p its keeps v. keeps_props l.props p.change.props its.props keeps v)
    (λ l p its every v w. whole_props l.props p.change.props its.props every v w)
    (map listed_of changes) placed all
    (back_same (map listed_of changes) placed all (all_look_back changes ordered)) (props_after placed) refl
    (λ place p others at. ap (λ o. option_and_then (props_there o) (props_after placed others)) at)
    count path trail node is found

-- ---- the text

set_text : (c : Change) (o : Option Node) (node : Node) → set_by c [] o ≡ Some node
    → (other : Node) × (o ≡ Some other) × (text_by c.text (listed_text other) ≡ Some (listed_text node))
set_text c None node is = absurd (let bad : None ≡ Some node = sym (none_set c.text c.props) ∙ is in cc)
set_text c (Some other) node is = (other, refl, before c.props other is)
  where
    left : (change : TextChange) (props : List Property) (old : List ℕ)
        → option_map (λ new. Node.File props new) (new_text change old) ≡ Some node
        → new_text change old ≡ Some (listed_text node)
    left change props old is = cases (new_text change old) is
      where
        cases : (o : Option (List ℕ)) → option_map (λ new. Node.File props new) o ≡ Some node → o ≡ Some (listed_text node)
        cases None is = absurd (let bad : None ≡ Some node = is in cc)
        cases (Some new) is =
            let both : Some (Node.File props new) ≡ Some node = is in
            let same : Node.File props new ≡ node = cc in
            ap (λ n. Some (listed_text n)) same

    after : (t : Option TextChange) (one : Node) → node_with_text t (Some one) ≡ Some node
        → text_by t (listed_text one) ≡ Some (listed_text node)
    after None one is = let both : Some one ≡ Some node = is in let same : one ≡ node = cc in ap (λ n. Some (listed_text n)) same
    after (Some change) (Node.Directory props) is = absurd (let bad : None ≡ Some node = is in cc)
    after (Some change) (Node.File props old) is = left change props old is

    before : (o : Option PropertyChange) (other : Node) → node_with_text c.text (node_with_props o (Some other)) ≡ Some node
        → text_by c.text (listed_text other) ≡ Some (listed_text node)
    before None other is = after c.text other is
    before (Some change) (Node.Directory props) is = after c.text (Node.Directory (new_props change props)) is
    before (Some change) (Node.File props text) is = after c.text (Node.File (new_props change props) text) is

keeps_text : (s : Setting) (o : Option TextChange) → HasText s o → sets s ≡ false → (v : List ℕ) → text_by o v ≡ Some v
keeps_text Keeps None has is v = refl
keeps_text Keeps (Some change) has is v = absurd has
keeps_text Replaces o has is v = absurd (let bad : true ≡ false = is in cc)
keeps_text Edits o has is v = absurd (let bad : true ≡ false = is in cc)
keeps_text EditsNothing o has is v = absurd (let bad : true ≡ false = is in cc)

whole_text : (s : Setting) (o : Option TextChange) → HasText s o → is_replacing s ≡ true → (v w : List ℕ)
    → text_by o v ≡ text_by o w
whole_text Keeps o has is v w = absurd (let bad : false ≡ true = is in cc)
whole_text Replaces None has is v w = absurd has
whole_text Replaces (Some (TextChange.Replaced text)) has is v w = refl
whole_text Replaces (Some (TextChange.Patched patch)) has is v w = absurd has
whole_text Edits o has is v w = absurd (let bad : false ≡ true = is in cc)
whole_text EditsNothing o has is v w = absurd (let bad : false ≡ true = is in cc)

pub texts_found : TextsAreFound
texts_found changes placed count path trail node ordered all is found =
    trail_makes (List ℕ) Text listed_text [] (λ c v. text_by c.text v) refl refl set_text
    (λ l p its keeps v. keeps_text l.text p.change.text its.text keeps v)
    (λ l p its every v w. whole_text l.text p.change.text its.text every v w)
    (map listed_of changes) placed all
    (back_same (map listed_of changes) placed all (all_look_back changes ordered)) (text_after placed) refl
    (λ place p others at. ap (λ o. option_and_then (text_there o) (text_after placed others)) at)
    count path trail node is found
