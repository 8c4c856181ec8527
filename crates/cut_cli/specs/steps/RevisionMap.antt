-- The map of revisions, word for word: the number that each one has in the new repository, or what becomes of references
-- to it.
use Rattle.std.specs.Prelude.{◌⊎◌, ℕ, List, [], Option}
use Rattle.std.specs.Io.KnownBytes.{Appends}
use Rattle.dump_rules.specs.Settings.{Settings}
use Rattle.dump_writer.specs.SinkWords.{IsPrefixOf}
use Rattle.cut_cli.specs.RevisionMap.{IsMapOfCut}

-- the file took nothing, or a first part of the map
abbrev pub TakesPartOfMap : Option ℕ → Settings → List ℕ → Option (List ℕ) → Option (List ℕ) → Type 0
TakesPartOfMap after settings dump old new = Appends old new []
    ⊎ ((text part : List ℕ) × IsMapOfCut after settings dump text × IsPrefixOf part text × Appends old new part)
