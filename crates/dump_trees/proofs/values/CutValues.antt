-- Examples of cuts, of their siblings, and of what comes back.
use Rattle.dump_trees.proofs.Prelude.{◌≡◌, sym, ◌≤◌, ◌||◌, bytes_eq-Decides, or_cases, inr, inl, ◌⊎◌, list_any, codes, refl, ap, subst, slice_get, bytes_eq, arith, Exclude, Settings, NodePath, path_text, path_of, keeps, Node, Tree, put, root_alone, Made, Change, History, unwrap_or, both_ways, loaded_over}
use Rattle.std.proofs.Common.{◌<◌, ℕ, zero, suc, true, false, List, [], ◌∷◌, ◌++◌, map, Some, Contains}
use Rattle.std.proofs.lemmas.List.Elements.{All-nil, All-cons}
use Rattle.dump_trees.specs.Siblings.{has_node_names}
use Rattle.dump_trees.specs.steps.Siblings.{is_above_included, is_in_cut, is_sibling, AreSiblings}
use Rattle.dump_trees.specs.steps.FindingSiblings.{all_above, CanStandBelow}
use Rattle.dump_trees.proofs.expansions.FoundSiblings.{above_are_listed, siblings_are_found}
use Rattle.dump_trees.specs.steps.ComingBack.{ComesBack, NoneComesBack, NothingComesBack}
use Rattle.dump_trees.proofs.values.ValueParts.{including_all, excluding, directory, file, copy, property}
use Rattle.dump_trees.proofs.paths.KeptPaths.{keeps_nothing}

-- the cut

-- one path is included
abbrev included : List NodePath
included = path_of (codes "a/b") ∷ []

root_inside : is_in_cut included [] ≡ true
root_inside = refl

above_inside : is_in_cut included (path_of (codes "a")) ≡ true
above_inside = refl

itself_inside : is_in_cut included (path_of (codes "a/b")) ≡ true
itself_inside = refl

below_inside : is_in_cut included (path_of (codes "a/b/f")) ≡ true
below_inside = refl

beside_outside : is_in_cut included (path_of (codes "a/x")) ≡ false
beside_outside = refl

longer_outside : is_in_cut included (path_of (codes "a/bb")) ≡ false
longer_outside = refl

top_outside : is_in_cut included (path_of (codes "b")) ≡ false
top_outside = refl

nothing_included : is_in_cut [] (path_of (codes "a")) ≡ false
nothing_included = refl

root_alone_stays : is_in_cut [] [] ≡ true
root_alone_stays = refl

root_included : is_in_cut ([] ∷ []) (path_of (codes "a/x")) ≡ true
root_included = refl

-- siblings

beside : is_sibling included (path_of (codes "a/x")) ≡ true
beside = refl

in_the_root : is_sibling included (path_of (codes "b")) ≡ true
in_the_root = refl

not_in_the_cut : is_sibling included (path_of (codes "a")) ≡ false
not_in_the_cut = refl

not_the_included : is_sibling included (path_of (codes "a/b")) ≡ false
not_the_included = refl

not_below_a_sibling : is_sibling included (path_of (codes "a/x/y")) ≡ false
not_below_a_sibling = refl

not_the_root : is_sibling included [] ≡ false
not_the_root = refl

no_dot : is_sibling included (path_of (codes "a/.")) ≡ false
no_dot = refl

any_name_of_none : is_sibling [] (path_of (codes "a")) ≡ true
any_name_of_none = refl

-- names of nodes

dots_have_no_names : has_node_names (path_of (codes "a/./b")) ≡ false
dots_have_no_names = refl

-- a tree and its siblings

-- what exists: the included path, a sibling next to it, and one in the root
abbrev tree : Tree
tree = put (path_of (codes "b")) (Node.File [] (codes "3"))
    (put (path_of (codes "a/x")) (Node.File [] (codes "2"))
    (put (path_of (codes "a/b")) (Node.File [] (codes "1"))
    (put (path_of (codes "a")) (Node.Directory (property (codes "p") (codes "1") ∷ [])) root_alone)))

-- the sibling next to the included path has to be among them
missing : AreSiblings included (tree ∷ []) (path_of (codes "b") ∷ []) → ⊥
missing all = none (all.all 0 tree (path_of (codes "a/x")) refl refl refl)
  where
    none : Contains (path_of (codes "b") ∷ []) (path_of (codes "a/x")) → ⊥
    none (zero, low, is) =
        absurd (let bad : false ≡ true = ap (λ p. bytes_eq (path_text p) (codes "/a/x")) is in cc)
    none (suc k, low, is) = absurd (omega (arith, low))

-- and what is included may not be
too_much : AreSiblings included (tree ∷ []) (path_of (codes "a/x") ∷ path_of (codes "b") ∷ path_of (codes "a") ∷ []) → ⊥
too_much all = absurd (let bad : false ≡ true = all.each in cc)

-- the siblings are excluded
abbrev settings : Settings
settings = record (including_all (map path_text (path_of (codes "a/x") ∷ path_of (codes "b") ∷ []))) { side = Exclude }

kept_above : keeps settings (path_of (codes "a")) ≡ true
kept_above = refl

kept_included : keeps settings (path_of (codes "a/b")) ≡ true
kept_included = refl

left_beside : keeps settings (path_of (codes "a/x")) ≡ false
left_beside = refl

left_in_the_root : keeps settings (path_of (codes "b")) ≡ false
left_in_the_root = refl

-- what comes back

-- a directory with an excluded file
abbrev old : Tree
old = put (path_of (codes "a/s")) (Node.File [] (codes "1")) (put (path_of (codes "a")) (Node.Directory []) root_alone)

abbrev history : History
history number = Some old

-- a copy of the directory brings it back under another path
back : ComesBack (excluding (codes "a/s")) history (copy 1 (codes "a") (codes "b"))
back = record {
  number = 1;
  source = path_of (codes "a");
  old = old;
  rest = path_of (codes "s");
  copies = refl;
  there = refl;
  stands = refl;
  kept = refl;
  left = refl;
}

-- both paths are excluded
abbrev out_again : Settings
out_again = record (excluding (codes "a/s")) { prefixes = codes "a/s" ∷ codes "b" ∷ [] }

-- it doesn't come back if it is excluded there too
not_left_again : ComesBack out_again history (copy 1 (codes "a") (codes "b")) → ⊥
not_left_again b =
    both_ways (keeps out_again (path_of (codes "b") ++ b.rest)) (keeps_nothing out_again (path_of (codes "b")) b.rest refl refl)
    b.kept

-- nor does it if only kept paths are copied
not_kept_alone : ComesBack (excluding (codes "a/s")) history (copy 1 (codes "a/t") (codes "b")) → ⊥
not_kept_alone b =
    absurd (let bad : true ≡ false
    = subst (λ p. keeps (excluding (codes "a/s")) (p ++ b.rest) ≡ false) source b.left in cc)
  where
    source : b.source ≡ path_of (codes "a/t")
    source = (let both : (copy 1 (codes "a/t") (codes "b")).made ≡ Some _ = b.copies in cc)

-- a history with an excluded text, and a copy of another one
abbrev whole : List ℕ → List (List Change)
whole text = (directory (codes "a") ∷ file (codes "a/f") (codes "1") ∷ file (codes "s") text ∷ [])
    ∷ (copy 1 (codes "a/f") (codes "a/g") ∷ []) ∷ []

abbrev trees : List ℕ → List Tree
trees text = unwrap_or (loaded_over root_alone (whole text)) []

-- by it nothing comes back
nothing_back : (text : List ℕ) → NothingComesBack (excluding (codes "s")) (trees text) (whole text)
nothing_back text =
    All-cons (NoneComesBack (excluding (codes "s")) (slice_get (trees text)))
    (directory (codes "a") ∷ file (codes "a/f") (codes "1") ∷ file (codes "s") text ∷ [])
    ((copy 1 (codes "a/f") (codes "a/g") ∷ []) ∷ [])
    (All-cons Never (directory (codes "a")) (file (codes "a/f") (codes "1") ∷ file (codes "s") text ∷ [])
    (λ b. let bad : Some Made.NewDirectory ≡ Some (Made.Copied b.number b.source) = b.copies in cc)
    (All-cons Never (file (codes "a/f") (codes "1")) (file (codes "s") text ∷ [])
    (λ b. let bad : Some Made.NewFile ≡ Some (Made.Copied b.number b.source) = b.copies in cc)
    (All-cons Never (file (codes "s") text) []
    (λ b. let bad : Some Made.NewFile ≡ Some (Made.Copied b.number b.source) = b.copies in cc) (All-nil Never))))
    (All-cons (NoneComesBack (excluding (codes "s")) (slice_get (trees text))) (copy 1 (codes "a/f") (codes "a/g") ∷ [])
    [] (All-cons Never (copy 1 (codes "a/f") (codes "a/g")) [] plain (All-nil Never))
    (All-nil (NoneComesBack (excluding (codes "s")) (slice_get (trees text)))))
  where
    Never : Change → Type 0
    Never c = ComesBack (excluding (codes "s")) (slice_get (trees text)) c → ⊥

    plain : ComesBack (excluding (codes "s")) (slice_get (trees text)) (copy 1 (codes "a/f") (codes "a/g")) → ⊥
    plain b =
        let source : b.source ≡ path_of (codes "a/f") =
        (let both : Some (Made.Copied 1 (path_of (codes "a/f"))) ≡ Some (Made.Copied b.number b.source) = b.copies in cc)
        in
        absurd (let bad : true ≡ false
        = subst (λ p. keeps (excluding (codes "s")) (p ++ b.rest) ≡ false) source b.left in cc)

-- the directories above included paths

listed_above : all_above (path_of (codes "a/b/c") ∷ path_of (codes "d") ∷ [])
    ≡ [] ∷ path_of (codes "a") ∷ path_of (codes "a/b") ∷ [] ∷ []
listed_above = refl

-- siblings are found without trees

-- what is included, and siblings next to it and in the root
abbrev grown : List (List Change)
grown = (directory (codes "a") ∷ file (codes "a/b") (codes "1") ∷ file (codes "a/x") (codes "2")
    ∷ file (codes "c") (codes "3") ∷ []) ∷ []

abbrev grown_trees : List Tree
grown_trees = unwrap_or (loaded_over root_alone grown) []

abbrev others : List NodePath
others = path_of (codes "a/x") ∷ path_of (codes "c") ∷ []

one_of : (first second name : List ℕ) → list_any (λ other. bytes_eq other name) (first ∷ second ∷ []) ≡ true
    → (first ≡ name) ⊎ (second ≡ name)
one_of first second name some =
    elim (or_cases (bytes_eq first name) (bytes_eq second name || false) some) [
      | inl here ↦ inl ((bytes_eq-Decides first name).0 here)
      | inr there ↦ elim (or_cases (bytes_eq second name) false there) [
        | inl last ↦ inr ((bytes_eq-Decides second name).0 last)
        | inr none ↦ absurd (let bad : false ≡ true = none in cc)
      ]
    ]

are_siblings : AreSiblings included grown_trees others
are_siblings = siblings_are_found included others grown grown_trees refl refl all
  where
    in_root : (name : List ℕ) → CanStandBelow grown 1 [] name → is_sibling included (name ∷ []) ≡ true
        → Contains others (name ∷ [])
    in_root name can sibling =
        elim (one_of (codes "c") (codes "a") name can) [
          | inl c ↦ subst (λ n. Contains others (n ∷ [])) c (1, (let low : 1 < 2 = omega arith in low), refl)
          | inr a ↦
              absurd (let bad : false ≡ true = subst (λ n. is_sibling included (n ∷ []) ≡ true) (sym a) sibling in cc)
        ]

    in_a : (name : List ℕ) → CanStandBelow grown 1 (path_of (codes "a")) name
        → is_sibling included (codes "a" ∷ name ∷ []) ≡ true → Contains others (codes "a" ∷ name ∷ [])
    in_a name can sibling =
        elim (one_of (codes "x") (codes "b") name can) [
          | inl x ↦ subst (λ n. Contains others (codes "a" ∷ n ∷ [])) x (0, (let low : 0 < 2 = omega arith in low), refl)
          | inr b ↦
              absurd (let bad : false ≡ true
              = subst (λ n. is_sibling included (codes "a" ∷ n ∷ []) ≡ true) (sym b) sibling in cc)
        ]

    at_path : (path : NodePath) (name : List ℕ) → Contains ([] ∷ all_above included) path
        → CanStandBelow grown 1 path name → is_sibling included (path ++ name ∷ []) ≡ true
        → Contains others (path ++ name ∷ [])
    at_path path name (zero, low, is) can sibling =
        subst (λ p. CanStandBelow grown 1 p name → is_sibling included (p ++ name ∷ []) ≡ true
        → Contains others (p ++ name ∷ [])) is (in_root name) can sibling
    at_path path name (suc zero, low, is) can sibling =
        subst (λ p. CanStandBelow grown 1 p name → is_sibling included (p ++ name ∷ []) ≡ true
        → Contains others (p ++ name ∷ [])) is (in_root name) can sibling
    at_path path name (suc (suc zero), low, is) can sibling =
        subst (λ p. CanStandBelow grown 1 p name → is_sibling included (p ++ name ∷ []) ≡ true
        → Contains others (p ++ name ∷ [])) is (in_a name) can sibling
    at_path path name (suc (suc (suc k)), low, is) can sibling = absurd (omega (arith, low))

    all : (number : ℕ) (path : NodePath) (name : List ℕ) → number ≤ 1 → is_above_included included path ≡ true
        → CanStandBelow grown number path name → is_sibling included (path ++ name ∷ []) ≡ true
        → Contains others (path ++ name ∷ [])
    all zero path name low above can sibling = absurd (let bad : false ≡ true = can in cc)
    all (suc zero) path name low above can sibling =
        at_path path name (above_are_listed included path above) can sibling
    all (suc (suc n)) path name low above can sibling = absurd (omega (arith, low))
