-- The exact text of the advice that follows the findings: how many lines of mergeinfo are dropped, the parent
-- directories to create, and the prefixes to add.
use Rattle.std.specs.Prelude.{◌≡◌, ℕ, ◌⊎◌, List, [], ◌∷◌, ◌++◌, flat_map, codes, Option}
use Rattle.std.specs.List.{concat}
use Rattle.std.specs.Io.KnownBytes.{Appends}
use Rattle.dump_rules.specs.Settings.{Settings}
use Rattle.dump_writer.specs.SinkWords.{TakesPart}
use Rattle.dump_survey.specs.AddedPrefixLines.{AreAddedPrefixLines}
use Rattle.dump_survey.specs.ParentsToCreate.{AreParentsToCreate}
use Rattle.dump_survey.specs.OmittedLine.{omitted_line}
use Rattle.dump_survey.specs.OmittedMergeinfo.{AreOmittedIn}
use Rattle.dump_survey.specs.Lines.{shown_path}

-- the line of a directory to create
unfoldable pub parent_line : List ℕ → List ℕ
parent_line path = concat (codes "create first: " ∷ shown_path path ∷ codes "\n" ∷ [])

-- one line for each of the directories
abbrev pub parent_lines : List (List ℕ) → List ℕ
parent_lines directories = flat_map parent_line directories

-- these are the lines that follow the findings if this dump is filtered
pub record AreAdviceLines (settings : Settings) (dump lines : List ℕ) : Type 0 where
  pub omitted : ℕ
  pub are_omitted : AreOmittedIn settings dump omitted
  pub directories : List (List ℕ)
  pub are_directories : AreParentsToCreate settings directories
  pub added_lines : List ℕ
  pub are_added_lines : AreAddedPrefixLines settings dump added_lines
  pub lines_are : lines ≡ omitted_line omitted ++ parent_lines directories ++ added_lines

-- the sink took nothing, or a first part of the lines that follow the findings
abbrev pub TakesSomeAdvice : Settings → List ℕ → Option (List ℕ) → Option (List ℕ) → Type 0
TakesSomeAdvice settings dump old new =
    Appends old new [] ⊎ ((lines : List ℕ) × AreAdviceLines settings dump lines × TakesPart old new lines)
