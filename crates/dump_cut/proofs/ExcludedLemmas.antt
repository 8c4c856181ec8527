-- Excluded paths, as determined by their texts.
use Rattle.std.proofs.Common.{◌≡◌, ℕ, ◌<◌, Bool, true, false, ◌||◌, List, [], ◌∷◌, length, map, take, get_or, bytes_eq, refl, sym, ap, subst, ◌∙◌, is_some}
use Rattle.std.proofs.lemmas.Bool.{or_parts, or_from, or_left, or_right, eqb-true, eq-eqb, false_from_ne_true}
use Rattle.std.proofs.lemmas.Map.Text.{is_eq-slice_cmp}
use Rattle.std.proofs.lemmas.Slice.Eq.{bytes_eq-Decides}
use Rattle.std.specs.List.{list_any}
use Rattle.std.specs.Cmp.Lexicographic.{slice_cmp}
use Rattle.std.specs.Ordering.{nat_cmp}
use Rattle.std.specs.BTreeMap.{is_at}
use Rattle.dump_trees.specs.Paths.{names_of}
use Rattle.dump_trees.specs.Returns.{is_covered}
use Rattle.dump_trees.specs.Siblings.{is_within}
use Rattle.dump_index.specs.steps.Effects.{goes_on, stands_over}
use Rattle.dump_index.proofs.FrontLemmas.{cut_goes_on, goes_on_cut}
use Rattle.dump_index.proofs.RestLemmas.{rest_same, rest_over, rest_none}
use Rattle.dump_cut.specs.steps.ExcludedPaths.{paths_of}
use Rattle.dump_trees.proofs.paths.SiblingLemmas.{any_more}
use Rattle.dump_trees.proofs.expansions.FiniteLemmas.{other_side}

-- whether a text is the path, or above it
abbrev pub is_text_above : List ℕ → List ℕ → Bool
is_text_above path top = bytes_eq top path || stands_over path top

pub within_texts : (top path : List ℕ) → is_within (names_of top) (names_of path) ≡ is_text_above path top
within_texts top path = cases (bytes_eq top path) (stands_over path top) refl refl
  where
    cases : (same over : Bool) → bytes_eq top path ≡ same → stands_over path top ≡ over
        → is_within (names_of top) (names_of path) ≡ (same || over)
    cases true over is how = ap is_some (rest_same top path is)
    cases false true is how = ap is_some (rest_over top path is how)
    cases false false is how = ap is_some (rest_none top path is how)

pub covered_texts : (texts : List (List ℕ)) (path : List ℕ)
    → is_covered (paths_of texts) (names_of path) ≡ list_any (is_text_above path) texts
covered_texts [] path = refl
covered_texts (top ∷ texts) path =
    ap (λ b. b || is_covered (paths_of texts) (names_of path)) (within_texts top path)
    ∙ ap (λ b. is_text_above path top || b) (covered_texts texts path)

-- a text that is looked up in the order of the texts is one of them
pub any_found : {V : Type 0} (items : V → List ℕ) (text : List ℕ) (keys : List V)
    → list_any (is_at (λ key. slice_cmp nat_cmp text (items key))) keys ≡ list_any (λ other. bytes_eq text other) (map items keys)
any_found items text [] = refl
any_found items text (key ∷ keys) =
    ap (λ b. b || list_any (is_at (λ k. slice_cmp nat_cmp text (items k))) keys) (is_eq-slice_cmp text (items key))
    ∙ ap (λ b. bytes_eq text (items key) || b) (any_found items text keys)

-- which texts cover a path

same_text : (one other : List ℕ) → bytes_eq one other ≡ true → one ≡ other
same_text one other is = (bytes_eq-Decides one other).0 is

same_bytes : (text : List ℕ) → bytes_eq text text ≡ true
same_bytes text = (bytes_eq-Decides text text).1 refl

pub root_covers : (path : List ℕ) (texts : List (List ℕ)) → list_any (λ other. bytes_eq [] other) texts ≡ true
    → is_covered (paths_of texts) (names_of path) ≡ true
root_covers path texts is =
    covered_texts texts path ∙ any_more (λ other. bytes_eq [] other) (is_text_above path) above texts is
  where
    above : (text : List ℕ) → bytes_eq [] text ≡ true → is_text_above path text ≡ true
    above text same =
        or_right (bytes_eq text path) (stands_over path text)
        (subst (λ top. stands_over path top ≡ true) (same_text [] text same) refl)

pub whole_covers : (path : List ℕ) (texts : List (List ℕ)) → list_any (λ other. bytes_eq path other) texts ≡ true
    → is_covered (paths_of texts) (names_of path) ≡ true
whole_covers path texts is =
    covered_texts texts path ∙ any_more (λ other. bytes_eq path other) (is_text_above path) above texts is
  where
    above : (text : List ℕ) → bytes_eq path text ≡ true → is_text_above path text ≡ true
    above text same =
        or_left (bytes_eq text path) (stands_over path text)
        (subst (λ top. bytes_eq top path ≡ true) (same_text path text same) (same_bytes path))

pub front_covers : (path : List ℕ) (k : ℕ) → k < length path → get_or path k 0 ≡ 47 → (texts : List (List ℕ))
    → list_any (λ other. bytes_eq (take k path) other) texts ≡ true
    → is_covered (paths_of texts) (names_of path) ≡ true
front_covers path k low slash texts is =
    covered_texts texts path ∙ any_more (λ other. bytes_eq (take k path) other) (is_text_above path) above texts is
  where
    above : (text : List ℕ) → bytes_eq (take k path) text ≡ true → is_text_above path text ≡ true
    above text same =
        or_right (bytes_eq text path) (stands_over path text)
        (or_right (bytes_eq text []) (goes_on text path)
        (cut_goes_on text path k low
        (subst (λ top. bytes_eq top (take k path) ≡ true) (same_text (take k path) text same) (same_bytes (take k path)))
        (eq-eqb (get_or path k 0) 47 slash)))

pub none_covers : (path : List ℕ) (texts : List (List ℕ)) → list_any (λ other. bytes_eq [] other) texts ≡ false
    → list_any (λ other. bytes_eq path other) texts ≡ false
    → ((k : ℕ) → k < length path → get_or path k 0 ≡ 47 → list_any (λ other. bytes_eq (take k path) other) texts ≡ false)
    → is_covered (paths_of texts) (names_of path) ≡ false
none_covers path texts root whole fronts = covered_texts texts path ∙ none texts root whole fronts
  where
    none : (others : List (List ℕ)) → list_any (λ other. bytes_eq [] other) others ≡ false
        → list_any (λ other. bytes_eq path other) others ≡ false
        → ((k : ℕ) → k < length path → get_or path k 0 ≡ 47 → list_any (λ other. bytes_eq (take k path) other) others ≡ false)
        → list_any (is_text_above path) others ≡ false
    none [] root whole fronts = refl
    none (text ∷ others) root whole fronts =
        let at_root = or_parts (bytes_eq [] text) (list_any (λ other. bytes_eq [] other) others) root in
        let at_path = or_parts (bytes_eq path text) (list_any (λ other. bytes_eq path other) others) whole in
        or_from (is_text_above path text) (list_any (is_text_above path) others)
        (or_from (bytes_eq text path) (stands_over path text) (other_side path text at_path.0)
        (or_from (bytes_eq text []) (goes_on text path) (other_side [] text at_root.0)
        (false_from_ne_true (goes_on text path) (λ over.
        let cut = goes_on_cut text path over in
        let front = fronts (length text) cut.0 (eqb-true (get_or path (length text) 0) 47 cut.2) in
        let parts = or_parts (bytes_eq (take (length text) path) text)
        (list_any (λ other. bytes_eq (take (length text) path) other) others) front in
        let bad : true ≡ false = sym cut.1 ∙ other_side (take (length text) path) text parts.0 in absurd (cc)))))
        (none others at_root.1 at_path.1 (λ k low slash.
        (or_parts (bytes_eq (take k path) text) (list_any (λ other. bytes_eq (take k path) other) others) (fronts k low slash)).1))
