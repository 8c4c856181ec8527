-- Examples of prefixes that aren't written in canonical form.
use Rattle.dump_trees.proofs.Prelude.{◌≡◌, codes, refl, Exclude, Settings, path_of, keeps}
use Rattle.std.proofs.Common.{ℕ, true, false, List, [], ◌∷◌, map}
use Rattle.dump_trees.specs.steps.Siblings.{is_in_cut}
use Rattle.dump_trees.specs.CanonicalPaths.{canonical_path, canonical_paths}
use Rattle.dump_trees.proofs.values.ValueParts.{including_all}

-- one path

a_dot_before : canonical_path (codes "./trunk") ≡ codes "trunk" ∷ []
a_dot_before = refl

two_slashes : canonical_path (codes "a//b") ≡ codes "a" ∷ codes "b" ∷ []
two_slashes = refl

slashes_around : canonical_path (codes "/a/") ≡ codes "a" ∷ []
slashes_around = refl

a_dot_between : canonical_path (codes "a/./b") ≡ codes "a" ∷ codes "b" ∷ []
a_dot_between = refl

a_dot_behind : canonical_path (codes "a/.") ≡ codes "a" ∷ []
a_dot_behind = refl

a_dot_alone : canonical_path (codes ".") ≡ []
a_dot_alone = refl

a_slash_alone : canonical_path (codes "/") ≡ []
a_slash_alone = refl

empty_prefix : canonical_path [] ≡ []
empty_prefix = refl

-- two dots are a name, as a dot with more is
two_dots : canonical_path (codes "a/../.b") ≡ codes "a" ∷ codes ".." ∷ codes ".b" ∷ []
two_dots = refl

-- what is included

-- those that aren't canonical count too
all_count : canonical_paths (codes "./trunk" ∷ codes "a//b" ∷ codes "/c/" ∷ []) ≡ map path_of (codes "trunk" ∷ codes "a/b" ∷ codes "c" ∷ [])
all_count = refl

trunk_inside : is_in_cut (canonical_paths (codes "./trunk" ∷ [])) (path_of (codes "trunk/f")) ≡ true
trunk_inside = refl

other_outside : is_in_cut (canonical_paths (codes "./trunk" ∷ [])) (path_of (codes "other")) ≡ false
other_outside = refl

-- a dot includes the root
all_inside : is_in_cut (canonical_paths (codes "." ∷ [])) (path_of (codes "other/f")) ≡ true
all_inside = refl

-- what is excluded

-- prefixes are excluded as they are written here
abbrev excluding_texts : List (List ℕ) → Settings
excluding_texts prefixes = record (including_all prefixes) { side = Exclude }

secret_left : keeps (excluding_texts (codes "/secret" ∷ [])) (path_of (codes "secret/f")) ≡ false
secret_left = refl

-- as the prefix is spelled, it isn't excluded
secret_stays : keeps (excluding_texts (codes "./secret" ∷ [])) (path_of (codes "secret")) ≡ true
secret_stays = refl
