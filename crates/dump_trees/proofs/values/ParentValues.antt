-- Examples of what comes back above included paths.
use Rattle.dump_trees.proofs.Prelude.{◌≡◌, codes, refl, slice_get, NodePath, path_of, Tree, root_alone, Change, unwrap_or, loaded_over}
use Rattle.std.proofs.Common.{true, false, List, [], ◌∷◌}
use Rattle.dump_trees.specs.steps.Siblings.{is_above_included}
use Rattle.dump_trees.specs.Returns.{is_covered}
use Rattle.dump_trees.specs.Following.{Way}
use Rattle.dump_trees.specs.steps.Following.{followed}
use Rattle.dump_trees.specs.steps.EverSiblings.{AreEverSiblings}
use Rattle.dump_trees.proofs.cuts.CoveredPaths.{contains_none}
use Rattle.dump_trees.proofs.values.ValueParts.{directory, file, deletion}

-- one path is included
abbrev included : List NodePath
included = path_of (codes "c/b") ∷ []

-- a directory that isn't included, copied to above the included path, which is then made in it
abbrev tree_after : List Change → Tree
tree_after changes = unwrap_or (slice_get (unwrap_or (loaded_over root_alone (changes ∷ [])) []) 1) root_alone

-- if the source doesn't have the included path, nothing is followed, and only the directory comes back
nothing_followed : followed Way.ToSources included (tree_after (directory (codes "z") ∷ file (codes "z/x") (codes "1") ∷ []))
    (path_of (codes "c")) (path_of (codes "z")) ≡ []
nothing_followed = refl

-- if the source has it, it is followed, and no directory above it
followed_source : followed Way.ToSources included
    (tree_after (directory (codes "z") ∷ file (codes "z/b") (codes "1") ∷ [])) (path_of (codes "c")) (path_of (codes "z"))
    ≡ path_of (codes "b") ∷ []
followed_source = refl

a_parent : is_above_included included (path_of (codes "c")) ≡ true
a_parent = refl

not_covered : is_covered included (path_of (codes "c")) ≡ false
not_covered = refl

not_the_included : is_above_included included (path_of (codes "c/b")) ≡ false
not_the_included = refl

-- a sibling that exists only within a revision may not be omitted
within_one : AreEverSiblings included
    ((file (codes "a") (codes "1") ∷ deletion (codes "a") ∷ []) ∷ []) [] → ⊥
within_one are =
    contains_none (path_of (codes "a"))
    ((are [] (file (codes "a") (codes "1") ∷ []) (deletion (codes "a") ∷ []) []
    (unwrap_or (loaded_over root_alone ((file (codes "a") (codes "1") ∷ []) ∷ [])) []) refl refl).all 1
    (tree_after (file (codes "a") (codes "1") ∷ [])) (path_of (codes "a")) refl refl refl)
