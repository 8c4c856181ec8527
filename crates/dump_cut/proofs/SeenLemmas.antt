-- What an index finds before a change is what the laws of loading need, and the last directory that was seen stays.
use Rattle.std.proofs.Common.{◌≡◌, ℕ, suc, ◌+◌, ◌<◌, ◌≤◌, Bool, true, false, cond, List, [], ◌∷◌, ◌++◌, length, length-append, map, get_or, reverse, nat_eq, nat_lt, Option, Some, None, option_map, option_and_then, refl, sym, ap, ap₂, subst, ◌∙◌, arith}
use Rattle.std.specs.Prelude.{slice_get, IfSome, MatchOption}
use Rattle.std.specs.List.{AllZip}
use Rattle.std.proofs.lemmas.Bool.{and_parts}
use Rattle.std.proofs.lemmas.List.{length-reverse}
use Rattle.dump_trees.specs.Changes.{Made}
use Rattle.dump_trees.specs.steps.LoadCheck.{Kind, kinds_told, source_told}
use Rattle.dump_trees.specs.steps.LoadCheck as LoadCheck
use Rattle.dump_trees.specs.steps.Looking.{Placed, end_of}
use Rattle.dump_trees.specs.Paths.{NodePath, names_of, parent_of}
use Rattle.dump_trees.specs.Restriction.{is_root}
use Rattle.dump_trees.specs.Siblings.{has_node_names}
use Rattle.dump_index.specs.steps.IndexLaws.{IsListed}
use Rattle.dump_index.specs.steps.Kinds.{kind_look}
use Rattle.dump_index.specs.steps.Listed.{Listed, listed_made, listed_of, all_placed}
use Rattle.dump_index.specs.steps.ToldKinds.{kind_meant, kinds_told_by}
use Rattle.dump_index.specs.steps.KnownKinds.{AreKindsBehind, source_look}
use Rattle.dump_index.specs.declared.change.NodeChange.{NodeChange}
use Rattle.dump_index.specs.declared.change.NodeKind.{NodeKind}
use Rattle.dump_index.proofs.KeyLemmas.{listed_at}
use Rattle.dump_index.proofs.KnownLemmas.{known_more}
use Rattle.dump_index.proofs.LawLemmas.{end_same}
use Rattle.dump_cut.specs.steps.NamedPaths.{has_named_paths, has_named_source}
use Rattle.dump_cut.specs.declared.kinds.Kinds.{Kinds}
use Rattle.dump_cut.specs.declared.seen_parent.Seen.{Seen}
use Rattle.dump_cut.specs.declared.seen_parent.SeenParent.{SeenParent}
use Rattle.dump_cut.specs.steps.KindViews.{kinds_meant}
use Rattle.dump_cut.specs.steps.KindsBefore.{AreKindsBefore, AreSeen, IsParentOf, IsSeen}
use Rattle.dump_cut.specs.steps.ParentTexts.{after_slash, parent_text}
use Rattle.dump_cut.proofs.ParentLemmas.{parent_named}

-- ---- what the laws need

meant_then : (f : NodePath → Option NodeKind) (o : Option NodePath)
    → option_map kind_meant (option_and_then f o) ≡ option_and_then (λ path. option_map kind_meant (f path)) o
meant_then f None = refl
meant_then f (Some path) = refl

meant_cond : (b : Bool) (kind : Option NodeKind)
    → option_map kind_meant (cond b kind None) ≡ cond b (option_map kind_meant kind) None
meant_cond true kind = refl
meant_cond false kind = refl

abbrev these : Option Kind → Option Kind → Option Kind → LoadCheck.Kinds
these one two three = record { here = one; parent = two; source = three }

three : (a b c d e f : Option Kind) → a ≡ b → c ≡ d → e ≡ f → these a c e ≡ these b d f
three a b c d e f one two last = ap₂ (λ x y. these x y e) one two ∙ ap (these b d) last

module _ (listed : List Listed) (placed : List Placed) (all : AllZip IsListed listed placed) where
  source_meant : (revision : ℕ) (made : Option Made)
      → option_map kind_meant (source_look listed revision made) ≡ source_told (kinds_told_by listed) placed revision made
  source_meant revision None = refl
  source_meant revision (Some Made.NewDirectory) = refl
  source_meant revision (Some Made.NewFile) = refl
  source_meant revision (Some (Made.Copied number source)) =
      meant_cond (nat_lt number revision) (kind_look listed (end_of (all_placed listed) number) source)
      ∙ ap (λ (n : ℕ). cond (nat_lt number revision) (kinds_told_by listed n source) None) (sym (end_same listed placed all number))

  pub told_before : (count : ℕ) (l : Listed) (p : Placed) (kinds : Kinds) → IsListed l p → AreKindsBefore listed count l kinds
      → kinds_meant kinds ≡ kinds_told (kinds_told_by listed) placed count p
  told_before count l p kinds is are =
      three _ _ _ _ _ _
      (ap (option_map kind_meant) are.here ∙ ap (λ (path : NodePath). kinds_told_by listed count path) (sym is.path))
      (ap (option_map kind_meant) are.parent ∙ meant_then (kind_look listed count) (parent_of (names_of l.path))
      ∙ ap (λ (path : NodePath). option_and_then (kinds_told_by listed count) (parent_of path)) (sym is.path))
      (ap (option_map kind_meant) are.source ∙ source_meant l.revision l.made
      ∙ ap₂ (λ (n : ℕ) (made : Option Made). source_told (kinds_told_by listed) placed n made) (sym is.revision) (sym is.made))

-- ---- the last directory that was seen

after_less : (text : List ℕ) → length (after_slash text) ≤ length text
after_less [] = omega arith
after_less (b ∷ text) = cases (after_less text) (nat_eq b 47)
  where
    cases : length (after_slash text) ≤ length text → (t : Bool) → length (cond t text (after_slash text)) ≤ suc (length text)
    cases less true = omega arith
    cases less false = omega arith

after_shorter : (b : ℕ) (text : List ℕ) → length (after_slash (b ∷ text)) < length (b ∷ text)
after_shorter b text = cases (after_less text) (nat_eq b 47)
  where
    cases : length (after_slash text) ≤ length text → (t : Bool) → length (cond t text (after_slash text)) < suc (length text)
    cases less true = omega arith
    cases less false = omega arith

-- its text is shorter than that of the path
parent_shorter : (path : List ℕ) → is_root (names_of path) ≡ false → length (parent_text path) < length path
parent_shorter path below = by (reverse path) refl
  where
    some : (text : List ℕ) → is_root (names_of text) ≡ false → length text ≡ 0 → ⊥
    some [] below none = let bad : true ≡ false = below in cc
    some (b ∷ text) below none = omega arith

    by : (text : List ℕ) → reverse path ≡ text → length (parent_text path) < length path
    by [] is =
        absurd (some path below (sym (length-reverse path) ∙ ap length is))
    by (b ∷ text) is =
        let less = after_shorter b text in
        let one : length (parent_text path) ≡ length (after_slash (b ∷ text)) =
        length-reverse (after_slash (reverse path)) ∙ ap (λ (t : List ℕ). length (after_slash t)) is in
        let two : length path ≡ length (b ∷ text) = sym (length-reverse path) ∙ ap length is in
        omega arith

-- a change leaves it as it is
seen_next : (listed : List Listed) (count next : ℕ) → next ≡ suc count → (c : NodeChange) (kinds : Kinds) (seen : Option SeenParent)
    → has_named_paths (listed_of c) ≡ true → AreKindsBefore listed count (listed_of c) kinds
    → ((path : List ℕ) → length path < length c.path.now
    → kind_look listed (suc count) (names_of path) ≡ kind_look listed count (names_of path))
    → MatchOption seen (is_root (names_of c.path.now) ≡ true) (IsParentOf c kinds.parent)
    → IsSeen listed next seen
seen_next listed count next one_more c kinds None named are stays is = tt
seen_next listed count next one_more c kinds (Some seen) named are stays is =
    let parent = parent_named c.path.now
    (and_parts (has_node_names (names_of c.path.now)) (has_named_source (option_map listed_made c.made)) named).0 is.below in
    is.kind_is ∙ are.parent ∙ ap (option_and_then (kind_look listed count)) parent.0
    ∙ sym (stays (parent_text c.path.now) (parent_shorter c.path.now is.below))
    ∙ ap₂ (λ (n : ℕ) (text : List ℕ). kind_look listed n (names_of text)) (sym one_more) (sym is.path)

-- and it leaves the other directory too, whose path is shorter
other_next : (listed : List Listed) (count next : ℕ) → next ≡ suc count → (c : NodeChange) (seen : Option SeenParent)
    → ((path : List ℕ) → length path < length c.path.now
    → kind_look listed (suc count) (names_of path) ≡ kind_look listed count (names_of path))
    → IsSeen listed count seen → IfSome seen (λ (s : SeenParent). length s.path.now < length c.path.now)
    → IsSeen listed next seen
other_next listed count next one_more c None stays is less = tt
other_next listed count next one_more c (Some seen) stays is less =
    is ∙ sym (stays seen.path.now less)
    ∙ ap (λ (n : ℕ). kind_look listed n (names_of seen.path.now)) (sym one_more)

pub both_next : (listed : List Listed) (count next : ℕ) → next ≡ suc count → (c : NodeChange) (kinds : Kinds) (seen : Seen)
    → has_named_paths (listed_of c) ≡ true → AreKindsBefore listed count (listed_of c) kinds
    → ((path : List ℕ) → length path < length c.path.now
    → kind_look listed (suc count) (names_of path) ≡ kind_look listed count (names_of path))
    → MatchOption seen.last (is_root (names_of c.path.now) ≡ true) (IsParentOf c kinds.parent)
    → IsSeen listed count seen.other → IfSome seen.other (λ (s : SeenParent). length s.path.now < length c.path.now)
    → AreSeen listed next seen
both_next listed count next one_more c kinds seen named are stays last other less = record {
  last = seen_next listed count next one_more c kinds seen.last named are stays last;
  other = other_next listed count next one_more c seen.other stays other less;
}

-- ---- the change at a place

pub same_listed : (changes : List NodeChange) (listed : List Listed) → map listed_of changes ≡ listed
    → (place : ℕ) (d : NodeChange) → place < length changes
    → (slice_get listed place ≡ Some (listed_of (get_or changes place d)))
    × ((l : Listed) → slice_get listed place ≡ Some l → listed_of (get_or changes place d) ≡ l)
same_listed changes listed view place d low =
    let there : slice_get listed place ≡ Some (listed_of (get_or changes place d)) =
    ap (λ (all : List Listed). slice_get all place) (sym view) ∙ listed_at changes place d low in (
      there,
      λ l at. let both : Some (listed_of (get_or changes place d)) ≡ Some l = sym there ∙ at in cc,
    )

pub are_for : (listed : List Listed) (n count : ℕ) (m l : Listed) (kinds : Kinds) → AreKindsBefore listed n m kinds
    → n ≡ count → m ≡ l → AreKindsBefore listed count l kinds
are_for listed n count m l kinds are one two =
    subst (λ (k : Listed). AreKindsBefore listed count k kinds) two
    (subst (λ (k : ℕ). AreKindsBefore listed k m kinds) one are)

pub known_next : (listed : List Listed) (known more : List (Option NodeKind)) (count : ℕ) (kind : Option NodeKind)
    → AreKindsBehind listed known → length known ≡ count → more ≡ known ++ kind ∷ []
    → ((l : Listed) → slice_get listed count ≡ Some l → kind ≡ kind_look listed (suc count) (names_of l.path))
    → AreKindsBehind listed more
known_next listed known more count kind behind long is next =
    subst (AreKindsBehind listed) (sym is) (known_more listed known kind behind
    (subst (λ (n : ℕ). (l : Listed) → slice_get listed n ≡ Some l → kind ≡ kind_look listed (suc n) (names_of l.path))
    (sym long) next))

pub known_length : (known more : List (Option NodeKind)) (count : ℕ) (kind : Option NodeKind) → length known ≡ count
    → more ≡ known ++ kind ∷ [] → length more ≡ count + 1
known_length known more count kind long is =
    let all : length more ≡ length known + 1 = ap length is ∙ length-append known (kind ∷ []) in omega (arith, all, long)
