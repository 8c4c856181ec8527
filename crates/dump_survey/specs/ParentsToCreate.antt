-- The parent directories to create. Under include they are the directories above the prefixes that aren't kept
-- themselves.
use Rattle.std.specs.Prelude.{◌≡◌, ℕ, not, ◌||◌, ◌==◌, List, [], ◌∷◌, ◌++◌, map, flat_map, filter, bytes_eq, if◌then◌else◌}
use Rattle.std.specs.List.{list_any}
use Rattle.dump_rules.specs.declared.options.Side.{Side}
use Rattle.dump_rules.specs.declared.options.Side.TheVariants.{Include, Exclude}
use Rattle.dump_rules.specs.Prefix.{bare_prefix}
use Rattle.dump_rules.specs.Settings.{Settings, keeps_path}
use Rattle.dump_trees.specs.Paths.{NodePath, path_text}
use Rattle.dump_trees.specs.Restriction.{is_given, is_root}

-- the parts of a text that end before a slash, the shortest first
abbrev pub fronts : List ℕ → List (List ℕ)
fronts [] = []
fronts (b ∷ text) = (if b == 47 then [] ∷ [] else []) ++ map (λ front. b ∷ front) (fronts text)

-- the paths above the prefixes, prefix by prefix, each after the paths above it
abbrev pub paths_above : List (List ℕ) → List (List ℕ)
paths_above prefixes = flat_map (λ prefix. fronts (bare_prefix prefix)) prefixes

-- the texts, and one more text after them unless it is one of them
abbrev pub with_new : List (List ℕ) → List ℕ → List (List ℕ)
with_new texts text = if list_any (λ other. bytes_eq text other) texts then texts else texts ++ text ∷ []

-- the first texts, and then the others, without duplicates
abbrev pub each_once : List (List ℕ) → List (List ℕ) → List (List ℕ)
each_once first [] = first
each_once first (text ∷ texts) = each_once (with_new first text) texts

-- the paths above the prefixes that aren't kept, without duplicates, if prefixes are included
abbrev pub left_above : Side → Settings → List (List ℕ)
left_above Include settings = each_once [] (filter (λ path. not (keeps_path settings path)) (paths_above settings.prefixes))
left_above Exclude settings = []

-- these directories are to be created, in this order. With a slash in front of each, and with the root, they are all
-- parent directories and no others.
pub record AreParentsToCreate (settings : Settings) (directories : List (List ℕ)) : Type 0 where
  pub are_given : (path : NodePath) → is_given settings path
      ≡ (is_root path || list_any (λ directory. bytes_eq (47 ∷ directory) (path_text path)) directories)
  pub in_order : directories ≡ left_above settings.side settings
