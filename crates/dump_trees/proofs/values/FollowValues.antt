-- Examples of following copies.
use Rattle.dump_trees.proofs.Prelude.{◌≡◌, option_map, bytes_eq, path_text, ◌⊎◌, inl, inr, codes, refl, sym, ap, ◌∙◌, subst, arith, slice_get, NodePath, path_of, Tree, root_alone, Made, Change, unwrap_or, loaded_over}
use Rattle.std.proofs.Common.{ℕ, true, false, List, [], ◌∷◌, ◌++◌, length, Some, Contains}
use Rattle.std.proofs.lemmas.Option.{same_Some}
use Rattle.dump_trees.specs.Following.{Copies, Way, Covers, IsInClosure}
use Rattle.dump_trees.specs.steps.Following.{IsClosed, followed, IsFollowed, IsGrown, AreFollowed, AddsNothing, ExistsOnce, PlacedCopy, followed_told}
use Rattle.dump_trees.specs.steps.Looking.{Placed, placed_from, look}
use Rattle.dump_trees.specs.steps.LoadCheck.{ToldKinds, kind_of_node}
use Rattle.dump_trees.specs.steps.FollowedRests.{all_rests}
use Rattle.dump_trees.proofs.cuts.CoveredPaths.{contains_first, contains_cases, contains_none}
use Rattle.dump_trees.proofs.cuts.FollowLemmas.{following_is_least}
use Rattle.dump_trees.proofs.values.ValueParts.{directory, file, copy, deletion}

-- a directory with two files, a copy of it, and a copy of the copy
abbrev new_files : List Change
new_files = file (codes "a/s") (codes "1") ∷ file (codes "a/t") (codes "2") ∷ []

abbrev two_copies : List (List Change)
two_copies = (copy 1 (codes "a") (codes "b") ∷ []) ∷ (copy 2 (codes "b") (codes "c") ∷ []) ∷ []

abbrev whole : List (List Change)
whole = (directory (codes "a") ∷ new_files) ∷ two_copies

abbrev trees : List Tree
trees = unwrap_or (loaded_over root_alone whole) []

abbrev tree_at : ℕ → Tree
tree_at number = unwrap_or (slice_get trees number) root_alone

abbrev one : NodePath
one = path_of (codes "a/s")

abbrev two : NodePath
two = path_of (codes "b/s")

abbrev three : NodePath
three = path_of (codes "c/s")

first_copy : Copies trees whole (path_of (codes "b")) (path_of (codes "a")) (tree_at 1)
first_copy = record {
  changes = copy 1 (codes "a") (codes "b") ∷ [];
  change = copy 1 (codes "a") (codes "b");
  number = 1;
  among = (1, omega arith, refl);
  there = (0, omega arith, refl);
  at = refl;
  copies = refl;
  tree = refl;
}

second_copy : Copies trees whole (path_of (codes "c")) (path_of (codes "b")) (tree_at 2)
second_copy = record {
  changes = copy 2 (codes "b") (codes "c") ∷ [];
  change = copy 2 (codes "b") (codes "c");
  number = 2;
  among = (2, omega arith, refl);
  there = (0, omega arith, refl);
  at = refl;
  copies = refl;
  tree = refl;
}

-- what is listed

listed : followed Way.ToCopies (one ∷ []) (tree_at 1) (path_of (codes "b")) (path_of (codes "a")) ≡ path_of (codes "s") ∷ []
listed = refl

-- the copy isn't followed before its source is covered
not_yet : followed Way.ToCopies (one ∷ []) (tree_at 2) (path_of (codes "c")) (path_of (codes "b")) ≡ []
not_yet = refl

then_too : followed Way.ToCopies (two ∷ one ∷ []) (tree_at 2) (path_of (codes "c")) (path_of (codes "b"))
    ≡ path_of (codes "s") ∷ []
then_too = refl

-- a directory that is copied into itself isn't followed without end: if nothing exists at the source, nothing is added
no_end_of_it : followed Way.ToCopies (path_of (codes "a/x") ∷ []) (tree_at 1) (path_of (codes "a/b")) (path_of (codes "a"))
    ≡ []
no_end_of_it = refl

-- to sources: all of the source if the path is covered, otherwise what is covered below
whole_source : followed Way.ToSources (path_of (codes "c") ∷ []) (tree_at 2) (path_of (codes "c")) (path_of (codes "b"))
    ≡ [] ∷ []
whole_source = refl

part_of_it : followed Way.ToSources (three ∷ []) (tree_at 2) (path_of (codes "c")) (path_of (codes "b"))
    ≡ path_of (codes "s") ∷ []
part_of_it = refl

-- nothing is followed the other way
other_way : followed Way.ToCopies (three ∷ []) (tree_at 2) (path_of (codes "c")) (path_of (codes "b")) ≡ []
other_way = refl

-- additions

added_two : IsFollowed Way.ToCopies trees whole (one ∷ []) two
added_two = record {
  path = path_of (codes "b");
  source = path_of (codes "a");
  rest = path_of (codes "s");
  old = tree_at 1;
  copy = first_copy;
  at = refl;
  exists = refl;
  from = refl;
  new = refl;
}

added_three : IsFollowed Way.ToCopies trees whole (one ∷ two ∷ []) three
added_three = record {
  path = path_of (codes "c");
  source = path_of (codes "b");
  rest = path_of (codes "s");
  old = tree_at 2;
  copy = second_copy;
  at = refl;
  exists = refl;
  from = refl;
  new = refl;
}

-- what is covered isn't added again
not_again : IsFollowed Way.ToCopies trees whole (one ∷ two ∷ []) two → ⊥
not_again f = absurd (let bad : true ≡ false = f.new in cc)

both_added : AreFollowed Way.ToCopies trees whole (one ∷ []) (two ∷ three ∷ []) (one ∷ three ∷ two ∷ [])
both_added = (
  added_two,
  one ∷ two ∷ [],
  record { front = one ∷ []; behind = []; others = refl; joined = refl },
  (
    added_three,
    one ∷ three ∷ two ∷ [],
    record { front = one ∷ []; behind = two ∷ []; others = refl; joined = refl },
    refl,
  ),
)

-- what is below an addition is removed
grows_over : IsGrown (two ∷ one ∷ []) (path_of (codes "b")) (path_of (codes "b") ∷ one ∷ [])
grows_over = record { front = []; behind = one ∷ []; others = refl; joined = refl }

may_not_stay : IsGrown (two ∷ one ∷ []) (path_of (codes "b")) (path_of (codes "b") ∷ two ∷ one ∷ []) → ⊥
may_not_stay g = sizes g.front g.behind g.others g.joined
  where
    sizes : (front behind : List NodePath) → front ++ behind ≡ one ∷ []
        → path_of (codes "b") ∷ two ∷ one ∷ [] ≡ front ++ path_of (codes "b") ∷ behind → ⊥
    sizes [] behind others joined =
        let bad : 3 ≡ 2 =
        ap (λ ps. length ps) joined ∙ ap (λ ps. length (path_of (codes "b") ∷ ps)) others in omega (arith, bad)
    sizes (p ∷ []) behind others joined =
        let rest : behind ≡ [] = (let both : p ∷ behind ≡ one ∷ [] = others in cc) in
        let bad : 3 ≡ 2 = ap (λ ps. length ps) joined ∙ ap (λ ps. length (p ∷ path_of (codes "b") ∷ ps)) rest in
        omega (arith, bad)
    sizes (p ∷ q ∷ front) behind others joined =
        absurd (let bad : p ∷ q ∷ (front ++ behind) ≡ one ∷ [] = others in cc)

-- passes

-- the copies of this history
only_two : (path source : NodePath) (old : Tree) → Copies trees whole path source old
    → ((path_of (codes "b") ≡ path) × (path_of (codes "a") ≡ source) × (tree_at 1 ≡ old))
    ⊎ ((path_of (codes "c") ≡ path) × (path_of (codes "b") ≡ source) × (tree_at 2 ≡ old))
only_two path source old copied = by_revision (contains_cases (directory (codes "a") ∷ new_files) two_copies copied.changes copied.among)
  where
    Which : Type 0
    Which = ((path_of (codes "b") ≡ path) × (path_of (codes "a") ≡ source) × (tree_at 1 ≡ old))
        ⊎ ((path_of (codes "c") ≡ path) × (path_of (codes "b") ≡ source) × (tree_at 2 ≡ old))

    no_copy : (c : Change) → c ≡ copied.change → c.made ≡ Some Made.NewDirectory → ⊥
    no_copy c same made =
        let bad : Some Made.NewDirectory ≡ Some (Made.Copied copied.number source) =
        sym made ∙ (ap (λ (d : Change). d.made) same ∙ copied.copies) in cc

    no_copy_file : (c : Change) → c ≡ copied.change → c.made ≡ Some Made.NewFile → ⊥
    no_copy_file c same made =
        let bad : Some Made.NewFile ≡ Some (Made.Copied copied.number source) =
        sym made ∙ (ap (λ (d : Change). d.made) same ∙ copied.copies) in cc

    source_is : (c : Change) (number : ℕ) (from : NodePath) → c ≡ copied.change
        → c.made ≡ Some (Made.Copied number from)
        → (number ≡ copied.number) × (from ≡ source)
    source_is c number from same made =
        let both : Some (Made.Copied number from) ≡ Some (Made.Copied copied.number source) =
        sym made ∙ (ap (λ (d : Change). d.made) same ∙ copied.copies) in
        ((let n : number ≡ copied.number = cc in n), (let f : from ≡ source = cc in f))

    tree_is : (number : ℕ) (tree : Tree) → number ≡ copied.number → slice_get trees number ≡ Some tree → tree ≡ old
    tree_is number tree same at = same_Some tree old (sym at ∙ (ap (slice_get trees) same ∙ copied.tree))

    by_revision : ((directory (codes "a") ∷ new_files) ≡ copied.changes) ⊎ Contains two_copies copied.changes → Which
    by_revision (inl made) =
        elim (contains_cases (directory (codes "a")) new_files copied.change (subst (λ cs. Contains cs copied.change) (sym made) copied.there)) [
          | inl same ↦ absurd (no_copy (directory (codes "a")) same refl)
          | inr later ↦ elim (contains_cases (file (codes "a/s") (codes "1")) (file (codes "a/t") (codes "2") ∷ []) copied.change later) [
            | inl same ↦ absurd (no_copy_file (file (codes "a/s") (codes "1")) same refl)
            | inr last ↦ elim (contains_cases (file (codes "a/t") (codes "2")) [] copied.change last) [
              | inl same ↦ absurd (no_copy_file (file (codes "a/t") (codes "2")) same refl)
              | inr none ↦ absurd (contains_none copied.change none)
            ]
          ]
        ]
    by_revision (inr others) =
        elim (contains_cases (copy 1 (codes "a") (codes "b") ∷ []) ((copy 2 (codes "b") (codes "c") ∷ []) ∷ []) copied.changes others) [
          | inl first ↦
              elim (contains_cases (copy 1 (codes "a") (codes "b")) [] copied.change (subst (λ cs. Contains cs copied.change) (sym first) copied.there)) [
                | inl same ↦
                    let parts = source_is (copy 1 (codes "a") (codes "b")) 1 (path_of (codes "a")) same refl in
                    inl (
                      ap (λ (d : Change). d.path) same ∙ copied.at,
                      parts.1,
                      tree_is 1 (tree_at 1) parts.0 refl,
                    )
                | inr none ↦ absurd (contains_none copied.change none)
              ]
          | inr last ↦ elim (contains_cases (copy 2 (codes "b") (codes "c") ∷ []) [] copied.changes last) [
            | inl second ↦
                elim (contains_cases (copy 2 (codes "b") (codes "c")) [] copied.change (subst (λ cs. Contains cs copied.change) (sym second) copied.there)) [
                  | inl same ↦
                      let parts = source_is (copy 2 (codes "b") (codes "c")) 2 (path_of (codes "b")) same refl in
                      inr (
                        ap (λ (d : Change). d.path) same ∙ copied.at,
                        parts.1,
                        tree_is 2 (tree_at 2) parts.0 refl,
                      )
                  | inr none ↦ absurd (contains_none copied.change none)
                ]
            | inr none ↦ absurd (contains_none copied.changes none)
          ]
        ]

nothing_more : AddsNothing Way.ToCopies trees whole (one ∷ three ∷ two ∷ [])
nothing_more path source old copied =
    elim (only_two path source old copied) [
      | inl (p, s, t) ↦
          subst (λ q. followed Way.ToCopies (one ∷ three ∷ two ∷ []) old q source ≡ []) p
          (subst (λ q. followed Way.ToCopies (one ∷ three ∷ two ∷ []) old (path_of (codes "b")) q ≡ []) s
          (subst (λ (u : Tree). followed Way.ToCopies (one ∷ three ∷ two ∷ []) u (path_of (codes "b")) (path_of (codes "a")) ≡ []) t
          refl))
      | inr (p, s, t) ↦
          subst (λ q. followed Way.ToCopies (one ∷ three ∷ two ∷ []) old q source ≡ []) p
          (subst (λ q. followed Way.ToCopies (one ∷ three ∷ two ∷ []) old (path_of (codes "c")) q ≡ []) s
          (subst (λ (u : Tree). followed Way.ToCopies (one ∷ three ∷ two ∷ []) u (path_of (codes "c")) (path_of (codes "b")) ≡ []) t
          refl))
    ]

-- it isn't so as long as a copy brings something
not_done : AddsNothing Way.ToCopies trees whole (one ∷ two ∷ []) → ⊥
not_done nothing =
    contains_none (path_of (codes "s"))
    (subst (λ rs. Contains rs (path_of (codes "s")))
    (nothing (path_of (codes "c")) (path_of (codes "b")) (tree_at 2) second_copy)
    (contains_first (path_of (codes "s")) []))

-- so the third one is reached, and a file next to it isn't

third_reached : IsInClosure Way.ToCopies trees whole (one ∷ []) three
third_reached =
    (following_is_least Way.ToCopies trees whole (one ∷ []) (two ∷ three ∷ []) (one ∷ three ∷ two ∷ []) refl both_added
    nothing_more).1 three refl

beside_not : IsInClosure Way.ToCopies trees whole (one ∷ []) (path_of (codes "c/t")) → ⊥
beside_not reached =
    absurd (let bad : false ≡ true =
    (following_is_least Way.ToCopies trees whole (one ∷ []) (two ∷ three ∷ []) (one ∷ three ∷ two ∷ []) refl both_added
    nothing_more).2 (path_of (codes "c/t")) reached in cc)

-- a set that doesn't contain a copy isn't closed
not_closed : IsClosed Way.ToCopies trees whole (Covers (one ∷ two ∷ [])) → ⊥
not_closed closed =
    absurd (let bad : false ≡ true =
    closed.copied (path_of (codes "c")) (path_of (codes "b")) (path_of (codes "s")) (tree_at 2) second_copy refl refl in cc)

-- the other way, the set reaches from the last path back to the first
back_to_the_first : IsInClosure Way.ToSources trees whole (three ∷ []) one
back_to_the_first =
    IsInClosure.Followed (path_of (codes "b")) (path_of (codes "a")) (path_of (codes "s")) (tree_at 1) first_copy refl
    (IsInClosure.Followed (path_of (codes "c")) (path_of (codes "b")) (path_of (codes "s")) (tree_at 2) second_copy refl
    (IsInClosure.Given three (contains_first three [])))

-- places and kinds

-- the copy at its place
placed_first : PlacedCopy trees (placed_from 1 whole) 3 (path_of (codes "b")) (path_of (codes "a")) (tree_at 1)
placed_first = record {
  at = record { revision = 2; change = copy 1 (codes "a") (codes "b") };
  number = 1;
  there = refl;
  to = refl;
  copies = refl;
  tree = refl;
}

-- what is copied to one path isn't copied to another
not_there : PlacedCopy trees (placed_from 1 whole) 3 (path_of (codes "c")) (path_of (codes "a")) (tree_at 1) → ⊥
not_there c =
    absurd (let bad : true ≡ false = ap (λ p. bytes_eq (path_text p) (codes "/b"))
    (ap (λ (q : Placed). q.change.path)
    (same_Some record { revision = 2; change = copy 1 (codes "a") (codes "b") } c.at c.there) ∙ c.to) in cc)

-- a file is deleted, and then copied with its directory from a revision that still has it
abbrev later_on : List (List Change)
later_on =
    (directory (codes "a") ∷ file (codes "a/s") (codes "1") ∷ [])
    ∷ (deletion (codes "a/s") ∷ [])
    ∷ (copy 1 (codes "a") (codes "b") ∷ file (codes "b/t") (codes "2") ∷ deletion (codes "b/t") ∷ [])
    ∷ []

abbrev told_then : ToldKinds
told_then count path = option_map kind_of_node (look root_alone (placed_from 1 later_on) count path)

where_it_was : followed_told Way.ToCopies (one ∷ []) told_then (placed_from 1 later_on) 1 (path_of (codes "b"))
    (path_of (codes "a")) ≡ path_of (codes "s") ∷ []
where_it_was = refl

-- at the time of the copy it isn't there any more
not_where_it_is : followed_told Way.ToCopies (one ∷ []) told_then (placed_from 1 later_on) 2 (path_of (codes "b"))
    (path_of (codes "a")) ≡ []
not_where_it_is = refl

-- what is deleted in its own revision exists once
once : ExistsOnce later_on (path_of (codes "b/t"))
once = record {
  front = (directory (codes "a") ∷ file (codes "a/s") (codes "1") ∷ []) ∷ (deletion (codes "a/s") ∷ []) ∷ [];
  changes = copy 1 (codes "a") (codes "b") ∷ file (codes "b/t") (codes "2") ∷ [];
  more = deletion (codes "b/t") ∷ [];
  rest = [];
  trees = unwrap_or (loaded_over root_alone (cut_short)) [];
  tree = unwrap_or (slice_get (unwrap_or (loaded_over root_alone cut_short) []) 3) root_alone;
  parted = refl;
  loads = refl;
  last = refl;
  exists = refl;
}
  where
    cut_short : List (List Change)
    cut_short =
        (directory (codes "a") ∷ file (codes "a/s") (codes "1") ∷ [])
        ∷ (deletion (codes "a/s") ∷ [])
        ∷ (copy 1 (codes "a") (codes "b") ∷ file (codes "b/t") (codes "2") ∷ [])
        ∷ []

-- all rests of a dump, in its order

abbrev told_whole : ToldKinds
told_whole count path = option_map kind_of_node (look root_alone (placed_from 1 whole) count path)

-- the second copy brings nothing, as long as the first one's path isn't covered
first_alone : all_rests Way.ToCopies (one ∷ []) told_whole (placed_from 1 whole) 5
    ≡ record { place = 3; rest = path_of (codes "s") } ∷ []
first_alone = refl

not_before_it : all_rests Way.ToCopies (one ∷ []) told_whole (placed_from 1 whole) 3 ≡ []
not_before_it = refl

both_of_them : all_rests Way.ToCopies (path_of (codes "a/t") ∷ path_of (codes "b/s") ∷ []) told_whole (placed_from 1 whole) 5
    ≡ record { place = 3; rest = path_of (codes "t") } ∷ record { place = 4; rest = path_of (codes "s") } ∷ []
both_of_them = refl

none_of_them : all_rests Way.ToCopies (one ∷ three ∷ two ∷ []) told_whole (placed_from 1 whole) 5 ≡ []
none_of_them = refl
