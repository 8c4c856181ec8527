-- What exists at a path is what the latest change left there, and what a change leaves at its own path and at shorter
-- ones.
use Rattle.std.proofs.Common.{◌≡◌, ℕ, zero, suc, ◌<◌, ◌≤◌, Bool, true, false, not, ◌&&◌, ◌||◌, cond, List, [], ◌∷◌, ◌++◌, length, map, get_or, Option, Some, None, is_some, option_map, nat_eq, nat_lt, bytes_eq, append-nil, refl, sym, subst, ap, ap₂, ◌∙◌, ◌⊎◌, arith, inl, inr}
use Rattle.std.proofs.lemmas.Option.{slice_get-get_or}
use Rattle.std.specs.Prelude.{slice_get}
use Rattle.std.proofs.lemmas.Bool.{cases_lt, and_parts}
use Rattle.std.proofs.lemmas.List.{length-map}
use Rattle.std.proofs.lemmas.Slice.Eq.{bytes_eq-Decides}
use Rattle.dump_trees.specs.Paths.{NodePath, names_of, below}
use Rattle.dump_trees.specs.Trees.{root_alone}
use Rattle.dump_trees.specs.Changes.{Made}
use Rattle.dump_trees.specs.steps.Looking.{touches_rest, end_of, origin_of, looked_up, look}
use Rattle.dump_trees.proofs.expansions.BackLemmas.{LooksBack}
use Rattle.dump_index.specs.steps.Listed.{Listed, listed_of, listed_made, placed_of, all_placed, plain_props, plain_text}
use Rattle.dump_index.specs.steps.InOrder.{are_in_order, is_from_before, ends_in_slash}
use Rattle.dump_index.specs.declared.change.NodeChange.{NodeChange}
use Rattle.dump_index.specs.steps.Kinds.{node_kind, kind_look}
use Rattle.dump_index.specs.declared.change.NodeKind.{NodeKind}
use Rattle.dump_index.specs.declared.change.NodeMade.{NodeMade}
use Rattle.dump_index.specs.declared.change.NodeMade.TheVariants.{Directory, File, CopyOf}
use Rattle.dump_index.specs.declared.change.Setting.{Setting}
use Rattle.dump_index.specs.declared.change.Setting.TheVariants.{Keeps, Replaces, Edits, EditsNothing}
use Rattle.dump_index.specs.declared.order.Effect.TheVariants.{Shaping, Moving, Texts}
use Rattle.dump_index.specs.steps.Keys.{has_effect, has_effect_at, latest_place, sets}
use Rattle.dump_index.specs.steps.Touching.{goes_on, stands_over, shapes, later}
use Rattle.dump_index.specs.steps.Looks.{kind_with_text, came, is_since}
use Rattle.dump_index.specs.steps.KnownKinds.{AreKindsBehind, count_through, source_look, left_kind, made_kind}
use Rattle.dump_index.proofs.KeyLemmas.{listed_at}
use Rattle.dump_index.proofs.OrderLemmas.{all_look_back, from_before_at}
use Rattle.dump_index.proofs.PlaceLemmas.{latest_low}
use Rattle.dump_index.proofs.RestLemmas.{rest_same}
use Rattle.dump_index.proofs.LatestLemmas.{touch_same}
use Rattle.dump_index.proofs.KindLemmas.{set_kind, kind_left, kind_step, kind_next, kinds}
use Rattle.std.proofs.Math.Bool.{and-false}
use Rattle.dump_trees.proofs.histories.KeptNumbers.{get_pushed}

-- ---- after the latest change

-- fewer places, if no omitted place passes the test
latest_front : (test : ℕ → Bool) (count n : ℕ) → n ≤ count → ((k : ℕ) → n ≤ k → k < count → test k ≡ false)
    → latest_place test n ≡ latest_place test count
latest_front test zero n low none = let same : n ≡ zero = omega arith in ap (latest_place test) same
latest_front test (suc count) n low none =
    elim (cases_lt n (suc count)) [
      | inl less ↦
          latest_front test count n (omega arith) (λ k high below. none k high (omega arith))
          ∙ sym (ap (λ b. cond b (Some count) (latest_place test count)) (none count (omega arith) (omega arith)))
      | inr more ↦ let same : n ≡ suc count = omega arith in ap (latest_place test) same
    ]

-- after the latest place no place passes the test
none_behind : (test : ℕ → Bool) (count k : ℕ) → count_through (latest_place test count) ≤ k → k < count → test k ≡ false
none_behind test zero k high low = absurd (omega arith)
none_behind test (suc count) k high low = cases (none_behind test count k) (test count) refl high
  where
    cases : (count_through (latest_place test count) ≤ k → k < count → test k ≡ false) → (b : Bool) → test count ≡ b
        → count_through (cond b (Some count) (latest_place test count)) ≤ k → test k ≡ false
    cases further true is above = absurd (omega arith)
    cases further false is above =
        elim (cases_lt k count) [
          | inl less ↦ further above less
          | inr more ↦ let same : k ≡ count = omega arith in ap test same ∙ is
        ]

up_to_low : (test : ℕ → Bool) (count : ℕ) → count_through (latest_place test count) ≤ count
up_to_low test count = cases (latest_place test count) (latest_low test count)
  where
    cases : (o : Option ℕ) → ((place : ℕ) → o ≡ Some place → place < count) → count_through o ≤ count
    cases None low = omega arith
    cases (Some place) low = let less = low place refl in omega arith

up_to_later : (one two : Option ℕ) → (count_through one ≤ count_through (later one two))
    × (count_through two ≤ count_through (later one two))
up_to_later None None = (omega arith, omega arith)
up_to_later None (Some place) = (omega arith, omega arith)
up_to_later (Some place) None = (omega arith, omega arith)
up_to_later (Some place) (Some other) = (omega arith, omega arith)

later_low : (one two : Option ℕ) (count : ℕ) → count_through one ≤ count → count_through two ≤ count
    → count_through (later one two) ≤ count
later_low None two count low high = high
later_low (Some place) None count low high = low
later_low (Some place) (Some other) count low high = omega arith

-- what exists at the path existed there right after the latest change that shapes it or sets a text
module _ (listed : List Listed) (path : List ℕ) (before : ℕ) where
  abbrev shaped : Option ℕ
  shaped = latest_place (shapes listed path) before

  abbrev set : Option ℕ
  set = latest_place (has_effect_at Texts listed path) before

  further : (o : Option ℕ) (n : ℕ) → count_through o ≤ n → (k : ℕ) → n ≤ k → count_through o ≤ k
  further o n low k high = omega arith

  pub looks_up_to : LooksBack (all_placed listed) → kind_look listed before (names_of path)
      ≡ kind_look listed (count_through (later (latest_place (shapes listed path) before)
      (latest_place (has_effect_at Texts listed path) before))) (names_of path)
  looks_up_to back =
      let n = count_through (later shaped set) in
      let low = later_low shaped set before (up_to_low (shapes listed path) before) (up_to_low (has_effect_at Texts listed path) before) in
      kinds listed back path before
      ∙ sym (kinds listed back path n
      ∙ ap₂ (λ (s : Option ℕ) (t : Option ℕ). kind_with_text (is_since s t) (came listed path s))
      (latest_front (shapes listed path) before n low
      (λ k high less. none_behind (shapes listed path) before k (further shaped n (up_to_later shaped set).0 k high) less))
      (latest_front (has_effect_at Texts listed path) before n low
      (λ k high less. none_behind (has_effect_at Texts listed path) before k (further set n (up_to_later shaped set).1 k high) less)))

-- so it is the kind that is known for that change
pub looks_known : (listed : List Listed) → LooksBack (all_placed listed) → (path : List ℕ) (before : ℕ)
    (one other last : Option ℕ) (kind : Option NodeKind) → one ≡ latest_place (shapes listed path) before
    → other ≡ latest_place (has_effect_at Texts listed path) before → last ≡ later one other
    → kind ≡ kind_look listed (count_through last) (names_of path) → kind_look listed before (names_of path) ≡ kind
looks_known listed back path before one other last kind is_one is_other is_last is =
    looks_up_to listed path before back
    ∙ sym (is ∙ ap (λ (o : Option ℕ). kind_look listed (count_through o) (names_of path)) (is_last ∙ ap₂ later is_one is_other))

-- ---- after a change

-- what exists at a copy's source
abbrev pub copied_kind : List Listed → Option Made → Option NodeKind
copied_kind listed None = None
copied_kind listed (Some Made.NewDirectory) = None
copied_kind listed (Some Made.NewFile) = None
copied_kind listed (Some (Made.Copied number source)) = kind_look listed (end_of (all_placed listed) number) source

pub source_copied : (listed : List Listed) (revision : ℕ) (made : Option NodeMade) → is_from_before revision made ≡ true
    → source_look listed revision (option_map listed_made made) ≡ copied_kind listed (option_map listed_made made)
source_copied listed revision None is = refl
source_copied listed revision (Some Directory) is = refl
source_copied listed revision (Some File) is = refl
source_copied listed revision (Some (CopyOf source)) is =
    ap (λ b. cond b (kind_look listed (end_of (all_placed listed) source.revision) (names_of source.path.now)) None)
    (and_parts (nat_lt source.revision revision) (not (ends_in_slash source.path.now)) is).0

same_bytes : (text : List ℕ) → bytes_eq text text ≡ true
same_bytes text = (bytes_eq-Decides text text).1 refl

module _ (listed : List Listed) (back : LooksBack (all_placed listed)) (n : ℕ) (l : Listed)
    (at : slice_get listed n ≡ Some l) where
  abbrev pub here : Option NodeKind
  here = kind_look listed n (names_of l.path)

  from_there : (deletes : Bool) (made : Option Made)
      → option_map node_kind (looked_up (look root_alone (all_placed listed)) (all_placed listed) n (names_of l.path)
      (origin_of deletes made [])) ≡ made_kind made (left_kind deletes here) (copied_kind listed made)
  from_there true None = refl
  from_there false None = refl
  from_there deletes (Some Made.NewDirectory) = refl
  from_there deletes (Some Made.NewFile) = refl
  from_there deletes (Some (Made.Copied number source)) =
      ap (kind_look listed (end_of (all_placed listed) number)) (append-nil source)

  left_own : kind_left listed back l.path n l (Some [])
      ≡ kind_with_text (sets l.text) (made_kind l.made (left_kind l.deletes here) (copied_kind listed l.made))
  left_own =
      set_kind l (looked_up (look root_alone (all_placed listed)) (all_placed listed) n (names_of l.path)
      (origin_of l.deletes l.made []))
      ∙ ap (kind_with_text (sets l.text)) (from_there l.deletes l.made)

  -- a change that does nothing at its path
  untouched : (deletes : Bool) (made : Option Made) (props : Bool) (text : Setting) (source : Option NodeKind)
      → (((deletes || is_some made) || props) || is_some (plain_text text)) ≡ false
      → kind_with_text (sets text) (made_kind made (left_kind deletes here) source) ≡ here
  untouched true made props text source is = let bad : true ≡ false = is in absurd (cc)
  untouched false (Some made) props text source is = let bad : true ≡ false = is in absurd (cc)
  untouched false None true text source is = let bad : true ≡ false = is in absurd (cc)
  untouched false None false Keeps source is = refl
  untouched false None false Replaces source is = let bad : true ≡ false = is in absurd (cc)
  untouched false None false Edits source is = let bad : true ≡ false = is in absurd (cc)
  untouched false None false EditsNothing source is = let bad : true ≡ false = is in absurd (cc)

  pub own_behind : kind_look listed (suc n) (names_of l.path)
      ≡ kind_with_text (sets l.text) (made_kind l.made (left_kind l.deletes here) (copied_kind listed l.made))
  own_behind =
      kind_next listed back l.path n ∙ ap (kind_step listed back l.path n) at
      ∙ ap (λ (rest : Option NodePath). cond (touches_rest rest (placed_of l).change) (kind_left listed back l.path n l rest) here)
      (rest_same l.path l.path (same_bytes l.path))
      ∙ cases (touches_rest (Some []) (placed_of l).change) refl
    where
      cases : (b : Bool) → touches_rest (Some []) (placed_of l).change ≡ b → cond b (kind_left listed back l.path n l (Some [])) here
          ≡ kind_with_text (sets l.text) (made_kind l.made (left_kind l.deletes here) (copied_kind listed l.made))
      cases true is = left_own
      cases false is =
          sym (untouched l.deletes l.made (is_some (plain_props l.props)) l.text (copied_kind listed l.made) is)

  -- ---- at shorter paths

  pub shorter_stays : (path : List ℕ) → length path < length l.path
      → kind_look listed (suc n) (names_of path) ≡ kind_look listed n (names_of path)
  shorter_stays path less =
      kind_next listed back path n ∙ ap (kind_step listed back path n) at
      ∙ ap (λ b. cond b (kind_left listed back path n l (below (names_of l.path) (names_of path))) (kind_look listed n (names_of path)))
      (touch_same path l
      ∙ ap₂ (λ s o. ((has_effect Shaping l && s) || ((sets l.props && s) || (sets l.text && s))) || (has_effect Moving l && o))
      (not_same l.path path less) (not_over l.path path less)
      ∙ none (has_effect Shaping l) (sets l.props) (sets l.text) (has_effect Moving l))
    where
      not_same : (text path : List ℕ) → length path < length text → bytes_eq text path ≡ false
      not_same [] path less = absurd (omega arith)
      not_same (b ∷ text) [] less = refl
      not_same (b ∷ text) (c ∷ path) less =
          ap (λ r. nat_eq b c && r) (not_same text path (omega arith)) ∙ and-false (nat_eq b c)

      no_further : (text path : List ℕ) → length path < length text → goes_on text path ≡ false
      no_further [] path less = absurd (omega arith)
      no_further (b ∷ text) [] less = refl
      no_further (b ∷ text) (c ∷ path) less =
          ap (λ r. nat_eq b c && r) (no_further text path (omega arith)) ∙ and-false (nat_eq b c)

      not_over : (text path : List ℕ) → length path < length text → stands_over path text ≡ false
      not_over [] path less = absurd (omega arith)
      not_over (b ∷ text) path less = no_further (b ∷ text) path less

      none : (a p t m : Bool) → (((a && false) || ((p && false) || (t && false))) || (m && false)) ≡ false
      none a p t m =
          ap₂ (λ x y. x || y) (ap₂ (λ x y. x || y) (and-false a) (ap₂ (λ x y. x || y) (and-false p) (and-false t))) (and-false m)

-- ---- the same for the values of the code

module _ (changes : List NodeChange) (ordered : are_in_order 0 changes ≡ true) (listed : List Listed)
    (view : map listed_of changes ≡ listed) where
  pub back_in : LooksBack (all_placed listed)
  back_in = subst (λ (all : List Listed). LooksBack (all_placed all)) view (all_look_back changes ordered)

  pub inside_in : (n : ℕ) → n < length listed → n < length changes
  inside_in n low =
      let long : length listed ≡ length changes = sym (ap length view) ∙ length-map changes listed_of in omega (arith, long, low)

  module _ (n : ℕ) (c : NodeChange) (at : c ≡ get_or changes n c) (low : n < length changes) where
    pub stands_in : slice_get listed n ≡ Some (listed_of c)
    stands_in =
        subst (λ (all : List Listed). slice_get all n ≡ Some (listed_of c)) view
        (listed_at changes n c low ∙ ap (λ x. Some (listed_of x)) (sym at))

    pub same_in : (l : Listed) → slice_get listed n ≡ Some l → listed_of c ≡ l
    same_in l there = let both : Some (listed_of c) ≡ Some l = sym stands_in ∙ there in cc

    pub known_in : (known : List (Option NodeKind)) → AreKindsBehind listed known → n < length known
        → (kind : Option NodeKind) → kind ≡ get_or known n kind → (path : List ℕ) → bytes_eq c.path.now path ≡ true
        → kind ≡ kind_look listed (suc n) (names_of path)
    known_in known behind less kind is path same =
        behind n kind (listed_of c) (slice_get-get_or known n kind less ∙ ap (λ (k : Option NodeKind). Some k) (sym is)) stands_in
        ∙ ap (λ (text : List ℕ). kind_look listed (suc n) (names_of text)) ((bytes_eq-Decides c.path.now path).0 same)

    pub left_in : (kind source : Option NodeKind) → kind ≡ kind_look listed n (names_of c.path.now)
        → source ≡ source_look listed c.revision (option_map listed_made c.made)
        → kind_with_text (sets c.text) (made_kind (option_map listed_made c.made) (left_kind c.deletes kind) source)
        ≡ kind_look listed (suc n) (names_of c.path.now)
    left_in kind source is_here is_source =
        ap₂ (λ (k : Option NodeKind) (s : Option NodeKind). kind_with_text (sets c.text)
        (made_kind (option_map listed_made c.made) (left_kind c.deletes k) s)) is_here
        (is_source ∙ source_copied listed c.revision c.made
        (ap (λ (x : NodeChange). is_from_before x.revision x.made) at ∙ from_before_at 0 changes n c low ordered))
        ∙ sym (own_behind listed back_in n (listed_of c) stands_in)

-- ---- one kind after another

pub known_more : (listed : List Listed) (known : List (Option NodeKind)) (kind : Option NodeKind) → AreKindsBehind listed known
    → ((l : Listed) → slice_get listed (length known) ≡ Some l
    → kind ≡ kind_look listed (suc (length known)) (names_of l.path))
    → AreKindsBehind listed (known ++ kind ∷ [])
known_more listed known kind behind next place found l there at =
    elim (get_pushed known kind place found there) [
      | inl before ↦ behind place found l before at
      | inr last ↦
          sym last.1 ∙ next l (ap (slice_get listed) (sym last.0) ∙ at)
          ∙ ap (λ (n : ℕ). kind_look listed (suc n) (names_of l.path)) (sym last.0)
    ]
