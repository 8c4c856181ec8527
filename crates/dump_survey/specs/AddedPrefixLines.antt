-- The exact text of the lines of the prefixes to add.
use Rattle.std.specs.Prelude.{◌≡◌, ℕ, List, [], ◌∷◌, flat_map, codes}
use Rattle.std.specs.List.{concat}
use Rattle.dump_rules.specs.declared.options.Side.{Side}
use Rattle.dump_rules.specs.declared.options.Side.TheVariants.{Include, Exclude}
use Rattle.dump_rules.specs.Settings.{Settings}
use Rattle.dump_survey.specs.PrefixesToAdd.{ArePrefixesToAddIn}
use Rattle.dump_survey.specs.Lines.{shown_path}

-- the words that precede the path on such a line
abbrev pub added_prefix_words : Side → List ℕ
added_prefix_words Include = codes "also include: "
added_prefix_words Exclude = codes "also exclude: "

-- the line of a prefix to add
unfoldable pub added_prefix_line : Side → List ℕ → List ℕ
added_prefix_line side path = concat (added_prefix_words side ∷ shown_path path ∷ codes "\n" ∷ [])

-- one line for each of the paths
abbrev pub added_prefix_lines : Side → List (List ℕ) → List ℕ
added_prefix_lines side paths = flat_map (added_prefix_line side) paths

-- these are the lines of all prefixes to add if this dump is filtered
pub record AreAddedPrefixLines (settings : Settings) (dump lines : List ℕ) : Type 0 where
  pub paths : List (List ℕ)
  pub are_kept : ArePrefixesToAddIn settings dump paths
  pub lines_are : lines ≡ added_prefix_lines settings.side paths
