-- Quiet changes are separated.
use Rattle.dump_trees.proofs.Prelude.{◌≡◌, not, ◌||◌, IsTrue, IsFalse, refl, sym, ap, ap₂, ◌∙◌, subst, inl, inr, append-nil, slice_get, list_any, list_all, both_ways, not-true, not-false, and_parts, and_cases, or_parts, or_cases, cond-true, cond-false, Side, Include, Exclude, bare_prefix, bare_path, begins_path, matches_path, Settings, side_keeps, keeps_path, NodePath, path_text, keeps, below, Tree, Made, is_copied, Change, History, step, steps, is_above, is_above_some, is_lost, has_no_props, CopySeparates, PlainSeparates, LeavesKept, Separates, AllSeparate, rest_of_prefix, cuts_one, cuts_alike, is_quiet_kept, is_quiet_dropped, is_quiet, is_over, holds_of_some, none_is_over, nowhere_is_over, QuietSeparates, AllQuietSeparate}
use Rattle.std.proofs.Common.{ℕ, Bool, true, false, ◌&&◌, List, [], ◌∷◌, ◌++◌, Option, Some, None, is_some}
use Rattle.dump_trees.proofs.paths.KeptPaths.{path_text-append, begins_above, matched, matched_below, above_some}
use Rattle.dump_trees.proofs.changes.TreeLemmas.{below_rest}
use Rattle.dump_trees.proofs.paths.PrefixRests.{above_rest, rest_is, both_rests, any_longer}
use Rattle.dump_trees.proofs.quiet.LeavingLemmas.{step_leaves}
use Rattle.dump_trees.proofs.histories.HistoryLemmas.{history}
use Rattle.std.proofs.lemmas.Bool.{or_left}

pub same_answer : (a b : Bool) → (a ≡ true → b ≡ true) → (b ≡ true → a ≡ true) → a ≡ b
same_answer true b there back = sym (there refl)
same_answer false true there back = back refl
same_answer false false there back = refl

-- dropped changes

module _ (settings : Settings) (history : History) (before after : Tree) (c : Change)
    (left : IsFalse (keeps settings c.path)) (quiet : is_quiet_dropped settings c ≡ true)
    (at : step history before c ≡ Some after) where
  quiet_leaves : LeavesKept settings before after
  quiet_leaves path kept = cases (below c.path path) refl
    where
      alone : (rest : NodePath) → IsTrue (keeps settings (c.path ++ rest)) → (c.deletes || is_copied c.made) ≡ false
      alone rest is =
          elim
          (and_cases (c.deletes || is_copied c.made) (is_above_some settings.side settings.prefixes c.path)
          (not-true _ quiet)) [
            | inl none ↦ none
            | inr away ↦ absurd (both_ways _ away (above_some settings.side settings.prefixes c.path rest is left))
          ]

      parts : (name : List ℕ) (rest : NodePath) → below c.path path ≡ Some (name ∷ rest)
          → (c.deletes ≡ false) × (is_copied c.made ≡ false)
      parts name rest found = or_parts c.deletes (is_copied c.made)
          (alone (name ∷ rest)
          (subst (λ p. IsTrue (keeps settings p)) (below_rest c.path path (name ∷ rest) found) kept))

      cases : (o : Option NodePath) → below c.path path ≡ o → after path ≡ before path
      cases None found = step_leaves history before after c path None found tt (λ deletes. refl) (λ copies. refl) at
      cases (Some []) found =
          absurd (both_ways _ left
          (subst (λ p. IsTrue (keeps settings p)) (below_rest c.path path [] found ∙ append-nil c.path) kept))
      cases (Some (name ∷ rest)) found =
          step_leaves history before after c path (Some (name ∷ rest)) found tt
          (λ deletes. absurd (both_ways _ (parts name rest found).0 deletes))
          (λ copies. absurd (both_ways _ (parts name rest found).1 copies)) at

-- copies

module _ (settings : Settings) (exclude : settings.side ≡ Exclude) where
  -- a text is kept if no prefix matches it
  excluded : (text : List ℕ)
      → keeps_path settings text ≡ not (list_any (λ prefix. matches_path prefix text) settings.prefixes)
  excluded text = ap (λ side. side_keeps side (list_any (λ prefix. matches_path prefix text) settings.prefixes)) exclude

  meets : (path other rest : NodePath) (prefixes : List (List ℕ)) → matched prefixes path ≡ false
      → matched prefixes (path ++ rest) ≡ true
      → list_all (λ prefix. not (cuts_one settings path other prefix)) prefixes ≡ true
      → matched settings.prefixes (other ++ rest) ≡ true
  meets path other rest [] left some quiet = absurd (let bad : false ≡ true = some in cc)
  meets path other rest (prefix ∷ prefixes) left some quiet =
      elim (or_cases (matches_path prefix (path_text (path ++ rest))) (matched prefixes (path ++ rest)) some) [
        | inl here ↦ begun here
        | inr there ↦ meets path other rest prefixes
            (or_parts (matches_path prefix (path_text path)) (matched prefixes path) left).1 there
            (and_parts (not (cuts_one settings path other prefix))
            (list_all (λ next. not (cuts_one settings path other next)) prefixes) quiet).1
      ]
    where
      not_here : begins_path (bare_prefix prefix) (bare_path (path_text path)) ≡ false
      not_here = (or_parts (matches_path prefix (path_text path)) (matched prefixes path) left).0

      quiet_here : is_above path prefix ≡ true
          → keeps_path settings (path_text other ++ rest_of_prefix path prefix) ≡ false
      quiet_here above =
          elim (and_cases (is_above path prefix) (keeps_path settings (path_text other ++ rest_of_prefix path prefix))
          (not-true _ (and_parts (not (cuts_one settings path other prefix))
          (list_all (λ next. not (cuts_one settings path other next)) prefixes) quiet).0)) [
            | inl away ↦ absurd (both_ways _ away above)
            | inr left_out ↦ left_out
          ]

      found : is_above path prefix ≡ true
          → begins_path (bare_prefix prefix) (bare_path (path_text (path ++ rest))) ≡ true
          → matched settings.prefixes (other ++ rest) ≡ true
      found above here =
          let behind = above_rest path prefix above in
          let ends = both_rests path rest (bare_prefix prefix) behind.0 not_here here behind.1 in
          let short = path_text other ++ 47 ∷ behind.0 in
          let left_out : keeps_path settings short ≡ false =
          ap (λ text. keeps_path settings (path_text other ++ text)) (sym (rest_is path prefix behind.0 behind.1))
          ∙ quiet_here above in
          subst (λ text. list_any (λ next. matches_path next text) settings.prefixes ≡ true)
          (ap (λ text. path_text other ++ text) (sym ends.1) ∙ sym (path_text-append other rest))
          (any_longer other behind.0 ends.0 ends.2 settings.prefixes (not-false _ (sym (excluded short) ∙ left_out)))

      begun : matches_path prefix (path_text (path ++ rest)) ≡ true → matched settings.prefixes (other ++ rest) ≡ true
      begun here =
          elim (or_cases (begins_path (bare_prefix prefix) (bare_path (path_text path))) (is_above path prefix)
          (begins_above (bare_prefix prefix) path rest here)) [
            | inl over ↦ absurd (both_ways _ not_here over)
            | inr above ↦ found above here
          ]

  excluded_alike : (path other rest : NodePath) → IsTrue (keeps settings path) → IsTrue (keeps settings other)
      → list_all (λ prefix. not (cuts_one settings path other prefix)) settings.prefixes ≡ true
      → list_all (λ prefix. not (cuts_one settings other path prefix)) settings.prefixes ≡ true
      → keeps settings (path ++ rest) ≡ keeps settings (other ++ rest)
  excluded_alike path other rest kept too one two =
      let not_path = not-true _ (sym (excluded (path_text path)) ∙ kept) in
      let not_other = not-true _ (sym (excluded (path_text other)) ∙ too) in
      excluded (path_text (path ++ rest))
      ∙ (ap not (same_answer (matched settings.prefixes (path ++ rest)) (matched settings.prefixes (other ++ rest))
      (λ some. meets path other rest settings.prefixes not_path some one)
      (λ some. meets other path rest settings.prefixes not_other some two))
      ∙ sym (excluded (path_text (other ++ rest))))

included_below : (settings : Settings) → settings.side ≡ Include → (path rest : NodePath) → IsTrue (keeps settings path)
    → keeps settings (path ++ rest) ≡ true
included_below settings include path rest kept =
    ap (λ side. side_keeps side (matched settings.prefixes (path ++ rest))) include
    ∙ matched_below settings.prefixes path rest
    (ap (λ side. side_keeps side (matched settings.prefixes path)) (sym include) ∙ kept)

pub alike : (settings : Settings) (side : Side) → settings.side ≡ side → (path other rest : NodePath)
    → IsTrue (keeps settings path) → IsTrue (keeps settings other)
    → cuts_alike side settings path other ≡ true → cuts_alike side settings other path ≡ true
    → keeps settings (path ++ rest) ≡ keeps settings (other ++ rest)
alike settings Include is path other rest kept too one two =
    included_below settings is path rest kept ∙ sym (included_below settings is other rest too)
alike settings Exclude is path other rest kept too one two = excluded_alike settings is path other rest kept too one two

-- each change

module _ (settings : Settings) (history : History) (before after : Tree) (c : Change)
    (quiet : is_quiet settings c ≡ true)
    (over : is_over settings before c ≡ false) (at : step history before c ≡ Some after) where
  quiet_kept : IsTrue (keeps settings c.path) → is_quiet_kept settings c.path c.props c.made ≡ true
  quiet_kept is =
      sym (cond-true (keeps settings c.path) (is_quiet_kept settings c.path c.props c.made)
      (is_quiet_dropped settings c) is)
      ∙ quiet

  quiet_copied : IsTrue (keeps settings c.path) → (number : ℕ) (source : NodePath)
      → c.made ≡ Some (Made.Copied number source)
      → is_quiet_kept settings c.path c.props (Some (Made.Copied number source)) ≡ true
  quiet_copied is number source made = ap (is_quiet_kept settings c.path c.props) (sym made) ∙ quiet_kept is

  quiet_copy : IsTrue (keeps settings c.path) → CopySeparates settings history c
  quiet_copy is number source made kept old named rest node there =
      let both = sym (cond-true (keeps settings source)
      (cuts_alike settings.side settings source c.path && cuts_alike settings.side settings c.path source)
      (is_some c.props) kept)
      ∙ quiet_copied is number source made in
      let parts = and_parts (cuts_alike settings.side settings source c.path)
      (cuts_alike settings.side settings c.path source) both in
      alike settings settings.side refl c.path source rest is kept parts.1 parts.0

  free : (deletes stands : Bool) → (not deletes && stands) ≡ false → (deletes || not stands) ≡ true
  free true stands none = refl
  free false true none = absurd (let bad : true ≡ false = none in cc)
  free false false none = refl

  quiet_plain : IsTrue (keeps settings c.path) → PlainSeparates settings history before c
  quiet_plain is number source made left = (
    λ old named. or_left (is_some c.props) (has_no_props (old source))
        (sym (cond-false (keeps settings source)
        (cuts_alike settings.side settings source c.path && cuts_alike settings.side settings c.path source)
        (is_some c.props) left)
        ∙ quiet_copied is number source made),
    free c.deletes (is_some (before c.path))
        (sym
        (ap₂ (λ a b. a && b && not c.deletes && is_some (before c.path)) is
        (ap (is_lost settings) made ∙ ap not left)) ∙ over),
  )

  quiet_step : Separates settings history before c after
  quiet_step = record {
    copy = quiet_copy;
    plain = quiet_plain;
    dropped = λ left. quiet_leaves settings history before after c left
        (sym
        (cond-false (keeps settings c.path) (is_quiet_kept settings c.path c.props c.made)
        (is_quiet_dropped settings c) left)
        ∙ quiet) at;
  }

-- a quiet change that isn't a lost copy over something is separated
pub quiet_separates : QuietSeparates
quiet_separates = quiet_step

-- each revision

-- what is true of the tree, if there is one
holds_of : (test : Tree → Bool) (o : Option Tree) (tree : Tree) → holds_of_some test o ≡ true → o ≡ Some tree
    → test tree ≡ true
holds_of test o tree is at = ap (holds_of_some test) (sym at) ∙ is

-- if the changes of a revision are quiet, and no lost copy is made over something, all are separated
pub quiet_changes : (settings : Settings) (history : History) (changes : List Change) (before : Tree)
    → list_all (is_quiet settings) changes ≡ true → none_is_over settings history before changes ≡ true
    → AllSeparate settings history before changes
quiet_changes settings history [] before quiet over = tt
quiet_changes settings history (c ∷ changes) before quiet over = λ after at.
    let parts = and_parts (is_quiet settings c) (list_all (is_quiet settings) changes) quiet in
    let nothing = and_parts (not (is_over settings before c))
    (holds_of_some (λ t. none_is_over settings history t changes) (step history before c)) over in (
      quiet_step settings history before after c parts.0 (not-true _ nothing.0) at,
      quiet_changes settings history changes after parts.1
          (holds_of (λ t. none_is_over settings history t changes) (step history before c) after nothing.1 at),
    )

-- so are those of all revisions
pub all_quiet : AllQuietSeparate
all_quiet settings trees youngest [] quiet over = tt
all_quiet settings trees youngest (changes ∷ revisions) quiet over =
    let parts = and_parts (list_all (is_quiet settings) changes)
    (list_all (λ others. list_all (is_quiet settings) others) revisions) quiet in
    let nothing = and_parts (none_is_over settings (slice_get trees) youngest changes)
    (holds_of_some (λ t. nowhere_is_over settings (trees ++ t ∷ []) t revisions)
    (steps (slice_get trees) youngest changes)) over in (
      quiet_changes settings (slice_get trees) changes youngest parts.0 nothing.0,
      λ tree at. all_quiet settings (trees ++ tree ∷ []) tree revisions parts.1
          (holds_of (λ t. nowhere_is_over settings (trees ++ t ∷ []) t revisions)
          (steps (slice_get trees) youngest changes) tree nothing.1
          at),
    )
