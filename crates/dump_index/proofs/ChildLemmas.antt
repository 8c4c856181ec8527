-- The names of a directory, without duplicates and in order: exactly the names that can exist there and do.
use Rattle.std.proofs.Common.{◌≡◌, ℕ, ◌+◌, ◌<◌, Bool, true, false, not, ◌&&◌, ◌||◌, cond, List, [], ◌∷◌, ◌++◌, length, take, get_or, Bor, Option, is_some, nat_eq, nat_lt, bytes_eq, append-nil, refl, sym, ap, ap₂, ◌∙◌}
use Rattle.std.proofs.lemmas.Bool.{and_parts, not-true}
use Rattle.std.proofs.lemmas.List.{take_more, map-append}
use Rattle.std.specs.List.{list_any, filter, dedup, AllByRecursion}
use Rattle.std.specs.List.Sorted.{IsPermutation, IsSorted, IsStrictlySortedBy}
use Rattle.std.specs.Cmp.{both_ways}
use Rattle.std.specs.Cmp.Lexicographic.{slice_cmp, on_texts, on_texts_equal, texts_ties}
use Rattle.std.specs.Ordering.{nat_cmp}
use Rattle.std.specs.declared.cmp.Ordering.TheVariants.{Less}
use Rattle.std.proofs.lemmas.List.Folds.{list_any-append, list_any_at, Any-from_list_any}
use Rattle.std.proofs.lemmas.List.Kept.{Any-dedup, Contains-from_dedup, IsStrictlySortedBy-dedup, IsStrictlySortedBy-filter}
use Rattle.std.proofs.lemmas.List.Sorted.{list_any-IsPermutation}
use Rattle.std.proofs.lemmas.Map.Views.{any-filter_same}
use Rattle.std.proofs.lemmas.Slice.Eq.{bytes_eq-Decides}
use Rattle.dump_trees.specs.Paths.{NodePath, names_of, is_name}
use Rattle.dump_trees.specs.steps.Listing.{names_look}
use Rattle.dump_index.specs.steps.Listed.{Listed, all_placed}
use Rattle.dump_index.specs.steps.InOrder.{ends_in_slash}
use Rattle.dump_index.specs.steps.Kinds.{kind_look}
use Rattle.dump_index.specs.declared.change.NodeKind.{NodeKind}
use Rattle.dump_index.specs.steps.Names.{AreNames, texts_of}
use Rattle.dump_index.specs.steps.Touching.{joined_text}
use Rattle.dump_index.proofs.SlashLemmas.{ends_joined, names_joined}
use Rattle.dump_index.proofs.NameLemmas.{no_slash, names_of_name}
use Rattle.dump_index.specs.steps.Children.{is_child_named, stands_in, AreChildren}
use Rattle.std.proofs.Math.Bool.{and-false, and-true, or-false, and_comm, or_assoc}
use Rattle.std.proofs.lemmas.List.Elements.{filter-append}

-- borrowed names
abbrev pub is_text : List ℕ → Bor (List ℕ) → Bool
is_text name text = bytes_eq text.now name

abbrev pub same_texts : Bor (List ℕ) → Bor (List ℕ) → Bool
same_texts one two = bytes_eq one.now two.now

pub named_texts : (names : List (Bor (List ℕ))) (name : List ℕ)
    → is_child_named (texts_of names) name ≡ list_any (is_text name) names
named_texts [] name = refl
named_texts (n ∷ names) name = ap (λ b. bytes_eq n.now name || b) (named_texts names name)

pub moved_named : (names moved : List (Bor (List ℕ))) → IsPermutation names moved → (name : List ℕ)
    → is_child_named (texts_of names) name ≡ is_child_named (texts_of moved) name
moved_named names moved others name =
    named_texts names name ∙ list_any-IsPermutation (is_text name) names moved others ∙ sym (named_texts moved name)

pub dedup_named : (names : List (Bor (List ℕ))) (name : List ℕ)
    → is_child_named (texts_of (dedup same_texts names)) name ≡ is_child_named (texts_of names) name
dedup_named names name =
    named_texts (dedup same_texts names) name ∙ both_ways _ _ up down ∙ sym (named_texts names name)
  where
    up : list_any (is_text name) (dedup same_texts names) ≡ true → list_any (is_text name) names ≡ true
    up is =
        let some = Any-from_list_any (is_text name) (dedup same_texts names) is in
        let there = Contains-from_dedup same_texts names some.1 (some.0, some.2, some.3) in
        list_any_at (is_text name) names there.0 some.1 there.1 (ap (is_text name) there.2 ∙ some.4)

    down : list_any (is_text name) names ≡ true → list_any (is_text name) (dedup same_texts names) ≡ true
    down is =
        let some = Any-from_list_any (is_text name) names is in
        let kept = Any-dedup (on_texts_equal (λ (text : Bor (List ℕ)). text.now)) names some.1 (some.0, some.2, some.3) in
        list_any_at (is_text name) (dedup same_texts names) kept.0 kept.1 kept.2
        (ap (is_text name) kept.3
        ∙ ap (λ (t : List ℕ). bytes_eq t name) (sym ((bytes_eq-Decides some.1.now kept.1.now).0 kept.4)) ∙ some.4)

all_texts : (P : List ℕ → Type 0) (names : List (Bor (List ℕ))) → AllByRecursion (λ (text : Bor (List ℕ)). P text.now) names
    → AllByRecursion P (texts_of names)
all_texts P [] all = tt
all_texts P (n ∷ names) all = (all.0, all_texts P names all.1)

pub strict_texts : (names : List (Bor (List ℕ))) → IsStrictlySortedBy (λ one two. slice_cmp nat_cmp one.now two.now) names
    → IsStrictlySortedBy (slice_cmp nat_cmp) (texts_of names)
unfolding IsStrictlySortedBy
strict_texts [] up = tt
strict_texts (n ∷ names) up =
    (all_texts (λ (text : List ℕ). slice_cmp nat_cmp n.now text ≡ Less) names up.0, strict_texts names up.1)

pub children_are : (listed : List Listed) (count : ℕ) (path : NodePath) (given sorted once kept : List (Bor (List ℕ)))
    → ((name : List ℕ) → is_child_named (texts_of given) name ≡ is_child_named (names_look (all_placed listed) count path) name)
    → IsPermutation given sorted → IsSorted (λ one two. slice_cmp nat_cmp one.now two.now) sorted
    → once ≡ dedup same_texts sorted → texts_of kept ≡ filter (stands_in listed count path) (texts_of once)
    → AreChildren listed count path (texts_of kept)
children_are listed count path given sorted once kept looked others up once_is kept_is = record {
  ordered =
      Rattle.std.proofs.Common.subst (λ (names : List (List ℕ)). IsStrictlySortedBy (slice_cmp nat_cmp) names) (sym kept_is)
      (IsStrictlySortedBy-filter (slice_cmp nat_cmp) (stands_in listed count path) (texts_of once)
      (strict_texts once (Rattle.std.proofs.Common.subst
      (λ (names : List (Bor (List ℕ))). IsStrictlySortedBy (λ one two. slice_cmp nat_cmp one.now two.now) names) (sym once_is)
      (IsStrictlySortedBy-dedup (on_texts (λ (text : Bor (List ℕ)). text.now)) (λ one two. texts_ties one.now two.now) sorted up))));
  all = λ name.
      ap (λ (names : List (List ℕ)). is_child_named names name) kept_is
      ∙ any-filter_same (λ other. bytes_eq other name) (stands_in listed count path) (stands_in listed count path name)
      (λ other same. ap (stands_in listed count path) ((bytes_eq-Decides other name).0 same)) (texts_of once)
      ∙ and_comm (stands_in listed count path name) (is_child_named (texts_of once) name)
      ∙ ap (λ b. b && stands_in listed count path name)
      (ap (λ (names : List (Bor (List ℕ))). is_child_named (texts_of names) name) once_is
      ∙ dedup_named sorted name ∙ sym (moved_named given sorted others name) ∙ looked name);
}

-- ---- one more name

pub pushed_named : (names : List (Bor (List ℕ))) (more : Bor (List ℕ)) (name : List ℕ)
    → is_child_named (texts_of (names ++ more ∷ [])) name ≡ (is_child_named (texts_of names) name || bytes_eq more.now name)
pushed_named names more name =
    named_texts (names ++ more ∷ []) name ∙ list_any-append (is_text name) names (more ∷ [])
    ∙ ap₂ (λ a b. a || b) (sym (named_texts names name)) (or-false (bytes_eq more.now name))

-- the change makes the name, or it doesn't
pub named_pushed : (old first before after same low makes : Bool) → old ≡ (first || before)
    → after ≡ (before || (same && (low && makes))) → low ≡ true → makes ≡ true → (old || same) ≡ (first || after)
named_pushed old first before after same low makes is more is_low is_made =
    ap (λ b. b || same) is ∙ or_assoc first before same
    ∙ sym (ap (λ b. first || b) (more ∙ ap (λ b. before || b) (ap₂ (λ a b. same && (a && b)) is_low is_made ∙ and-true same)))

pub named_kept : (old first before after same its : Bool) → old ≡ (first || before) → after ≡ (before || (same && its))
    → its ≡ false → old ≡ (first || after)
named_kept old first before after same its is more isnt =
    is ∙ sym (ap (λ b. first || b)
    (more ∙ ap (λ b. before || b) (ap (λ b. same && b) isnt ∙ and-false same) ∙ or-false before))

-- ---- which of the names exist

pub name_at : (names : List (Bor (List ℕ))) (i : ℕ) (d : Bor (List ℕ)) → i < length names → AreNames names
    → is_name (get_or names i d).now ≡ true
name_at names i d low are =
    are (get_or names i d).now (named_texts names (get_or names i d).now
    ∙ list_any_at (is_text (get_or names i d).now) names i d low
    ((bytes_eq-Decides (get_or names i d).now (get_or names i d).now).1 refl))

bare_name : (name : List ℕ) → no_slash name ≡ true → ends_in_slash name ≡ false
bare_name [] none = refl
bare_name (b ∷ []) none = not-true (nat_eq b 47) (and_parts (not (nat_eq b 47)) true none).0
bare_name (b ∷ c ∷ name) none = bare_name (c ∷ name) (and_parts (not (nat_eq b 47)) (no_slash (c ∷ name)) none).1

pub bare_child : (path name : List ℕ) → ends_in_slash path ≡ false → is_name name ≡ true
    → ends_in_slash (joined_text path name) ≡ false
bare_child path name bare is =
    ends_joined path name bare (bare_name name (and_parts (nat_lt 0 (length name)) (no_slash name) is).1)

pub child_kind : (listed : List Listed) (count : ℕ) (path name text child : List ℕ) (kind : Option NodeKind)
    → is_name name ≡ true → child ≡ joined_text path name → text ≡ child → kind ≡ kind_look listed count (names_of text)
    → is_some kind ≡ stands_in listed count (names_of path) name
child_kind listed count path name text child kind is child_is text_is kind_is =
    ap (λ k. is_some k) (kind_is
    ∙ ap (λ (t : List ℕ). kind_look listed count (names_of t)) (text_is ∙ child_is)
    ∙ ap (kind_look listed count) (names_joined path name ∙ ap (λ (ns : NodePath). names_of path ++ ns) (names_of_name name is)))

module _ (p : List ℕ → Bool) (names kept : List (Bor (List ℕ))) (i : ℕ) (d : Bor (List ℕ)) (low : i < length names)
    (before : texts_of kept ≡ filter p (texts_of (take i names))) where
  next_texts : filter p (texts_of (take (i + 1) names))
      ≡ texts_of kept ++ cond (p (get_or names i d).now) ((get_or names i d).now ∷ []) []
  next_texts =
      ap (λ (ns : List (Bor (List ℕ))). filter p (texts_of ns)) (take_more names i d low)
      ∙ ap (filter p) (map-append (λ (text : Bor (List ℕ)). text.now) (take i names) (get_or names i d ∷ []))
      ∙ filter-append p (texts_of (take i names)) ((get_or names i d).now ∷ [])
      ∙ ap (λ (ns : List (List ℕ)). ns ++ cond (p (get_or names i d).now) ((get_or names i d).now ∷ []) []) (sym before)

  pub stands_more : (after : List (Bor (List ℕ))) → after ≡ kept ++ get_or names i d ∷ [] → p (get_or names i d).now ≡ true
      → texts_of after ≡ filter p (texts_of (take (i + 1) names))
  stands_more after is stands =
      ap (λ (ns : List (Bor (List ℕ))). texts_of ns) is
      ∙ map-append (λ (text : Bor (List ℕ)). text.now) kept (get_or names i d ∷ [])
      ∙ sym (next_texts
      ∙ ap (λ b. texts_of kept ++ cond b ((get_or names i d).now ∷ []) []) stands)

  pub stands_same : p (get_or names i d).now ≡ false → texts_of kept ≡ filter p (texts_of (take (i + 1) names))
  stands_same falls =
      sym (next_texts ∙ ap (λ b. texts_of kept ++ cond b ((get_or names i d).now ∷ []) []) falls
      ∙ append-nil (texts_of kept))
