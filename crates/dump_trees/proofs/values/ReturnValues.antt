-- Examples of returns.
use Rattle.dump_trees.proofs.Prelude.{◌≡◌, codes, refl, NodePath, path_of, keeps, Node, Tree, put, root_alone, History}
use Rattle.std.proofs.Common.{ℕ, true, false, List, [], ◌∷◌, ◌++◌, Some, is_some}
use Rattle.dump_trees.specs.steps.ComingBack.{ComesBack}
use Rattle.dump_trees.specs.Returns.{is_covered}
use Rattle.dump_trees.specs.steps.Returns.{lie_apart, rests_below, rests_covered, returns}
use Rattle.dump_trees.proofs.values.ValueParts.{excluding, copy}

-- paths

covers_itself : is_covered (path_of (codes "a/s") ∷ []) (path_of (codes "a/s")) ≡ true
covers_itself = refl

covers_below : is_covered (path_of (codes "x") ∷ path_of (codes "a/s") ∷ []) (path_of (codes "a/s/t")) ≡ true
covers_below = refl

not_above : is_covered (path_of (codes "a/s") ∷ []) (path_of (codes "a")) ≡ false
not_above = refl

not_longer : is_covered (path_of (codes "a/s") ∷ []) (path_of (codes "a/st")) ≡ false
not_longer = refl

apart : lie_apart (path_of (codes "a/s") ∷ path_of (codes "a/st") ∷ path_of (codes "b") ∷ []) ≡ true
apart = refl

not_one_below : lie_apart (path_of (codes "a") ∷ path_of (codes "a/s") ∷ []) ≡ false
not_one_below = refl

not_one_above : lie_apart (path_of (codes "a/s") ∷ path_of (codes "a") ∷ []) ≡ false
not_one_above = refl

not_twice : lie_apart (path_of (codes "a") ∷ path_of (codes "b") ∷ path_of (codes "a") ∷ []) ≡ false
not_twice = refl

-- only what is strictly below
the_rests : rests_below (path_of (codes "a")) (path_of (codes "a/s") ∷ path_of (codes "a") ∷ path_of (codes "b/s")
    ∷ path_of (codes "a/d/s") ∷ []) ≡ path_of (codes "s") ∷ path_of (codes "d/s") ∷ []
the_rests = refl

whole_rest : rests_covered (path_of (codes "a/s/t")) (path_of (codes "a/s") ∷ []) ≡ [] ∷ []
whole_rest = refl

-- returns

-- a directory, with a file and a directory with another file
abbrev old : Tree
old = put (path_of (codes "a/d/s")) (Node.File [] (codes "2"))
    (put (path_of (codes "a/d")) (Node.Directory [])
    (put (path_of (codes "a/s")) (Node.File [] (codes "1"))
    (put (path_of (codes "a")) (Node.Directory []) root_alone)))

-- these are excluded, and a is copied to b
abbrev returned : List NodePath → List NodePath
returned excluded = returns excluded old (path_of (codes "b")) (path_of (codes "a"))

one_file : returned (path_of (codes "a/s") ∷ []) ≡ path_of (codes "s") ∷ []
one_file = refl

two_files : returned (path_of (codes "a/d/s") ∷ path_of (codes "a/s") ∷ []) ≡ path_of (codes "d/s") ∷ path_of (codes "s") ∷ []
two_files = refl

-- not what doesn't exist at the source
never_there : returned (path_of (codes "a/x") ∷ []) ≡ []
never_there = refl

-- nor what is excluded at the path too
there_too : returned (path_of (codes "a/s") ∷ path_of (codes "b/s") ∷ []) ≡ []
there_too = refl

target_excluded : returned (path_of (codes "a/s") ∷ path_of (codes "b") ∷ []) ≡ []
target_excluded = refl

whole_source : returned (path_of (codes "a") ∷ []) ≡ [] ∷ []
whole_source = refl

-- the whole returns, though a part of it is excluded at the path
whole_but_a_part : returned (path_of (codes "a") ∷ path_of (codes "b/s") ∷ []) ≡ [] ∷ []
whole_but_a_part = refl

beside_it : returned (path_of (codes "c") ∷ []) ≡ []
beside_it = refl

-- what is below a return comes back

abbrev history : History
history number = Some old

abbrev back_at : (rest : List ℕ) → keeps (excluding (codes "a/d")) (path_of (codes "b") ++ path_of rest) ≡ true
    → keeps (excluding (codes "a/d")) (path_of (codes "a") ++ path_of rest) ≡ false
    → is_some (old (path_of (codes "a") ++ path_of rest)) ≡ true
    → ComesBack (excluding (codes "a/d")) history (copy 1 (codes "a") (codes "b"))
back_at rest kept left stands = record {
  number = 1;
  source = path_of (codes "a");
  old = old;
  rest = path_of rest;
  copies = refl;
  there = refl;
  stands = stands;
  kept = kept;
  left = left;
}

below_it : ComesBack (excluding (codes "a/d")) history (copy 1 (codes "a") (codes "b"))
below_it = back_at (codes "d/s") refl refl refl
