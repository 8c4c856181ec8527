-- What the program's arguments mean, by the side and by what clap finds after it.
use Rattle.std.specs.Prelude.{ℕ, Bool, false, ◌||◌, ◌&&◌, List, [], ◌++◌, Result, Ok, Err, codes, drop, unwrap_or, Option, Some, None, is_none, if◌then◌else◌}
use Rattle.std.specs.Option.{option_and_then}
use Rattle.std.specs.List.{list_any}
use Rattle.clap.specs.Walk.{is_empty}
use Rattle.clap.specs.Words.{Row, Text, all_of, first_of}
use Rattle.dump_text.specs.Number.{number_of}
use Rattle.dump_rules.specs.declared.options.Side.{Side}
use Rattle.dump_rules.specs.declared.options.Side.TheVariants.{Exclude, Include}
use Rattle.cli_support.specs.Targets.{prefixes_of_texts}
use Rattle.cli_support.specs.Arguments.{flag_number, is_set, meaning_in}
use Rattle.cli_support.specs.declared.usage.Usage.{Usage}
use Rattle.cli_support.specs.declared.usage.Usage.TheVariants.{Words}
use Rattle.cut_cli.specs.CommandLine.{cut_command}

-- what a call asks for: a side, prefixes, files with more of them, the file of a map of revisions, whether copies are
-- followed, whether what copies bring back is kept, whether emptied revisions are dropped, the revision after which the cut is
-- written, the one that has to be the dump's last, whether prefixes may be missing in the dump, whether nothing is written, what is
-- reported, how many workers there are, and how wide their window is
pub record CutMeaning : Type 0 where
  pub side : Side
  pub prefixes : List Text
  pub targets : List Text
  pub map_name : Option Text
  pub follow : Bool
  pub keep : Bool
  pub drop : Bool
  pub after : Option ℕ
  pub youngest : Option ℕ
  pub allow_missing : Bool
  pub dry_run : Bool
  pub quiet : Bool
  pub verbose : Bool
  pub workers : ℕ
  pub window : ℕ

-- the prefixes of the rows
abbrev pub prefixes_in : List Row → List Text
prefixes_in rows = unwrap_or (all_of (codes "PREFIX") rows) []

-- the files with more prefixes
abbrev pub targets_in : List Row → List Text
targets_in rows = unwrap_or (all_of (codes "targets") rows) []

-- whether what copies bring back is to be kept by a call that isn't for exclude, or that follows copies
abbrev pub keeps_wrongly : Side → (keep follow : Bool) → Bool
keeps_wrongly Include keep follow = keep
keeps_wrongly Exclude keep follow = keep && follow

-- the revision that an option names: one to eighteen digits
abbrev pub named_revision : Text → List Row → Option ℕ
named_revision option rows = option_and_then number_of (first_of option rows)

-- whether the text that names a revision is no number, or none may be named
abbrev pub is_named_wrongly : Option Text → (forbidden : Bool) → Bool
is_named_wrongly None forbidden = false
is_named_wrongly (Some text) forbidden = is_none (number_of text) || forbidden

-- whether the rows have no prefix and no file, or an empty prefix, or options that contradict each other or the side, or that name
-- no revision
abbrev pub are_refused : Side → List Row → Bool
are_refused side rows = (is_empty (prefixes_in rows) && is_empty (targets_in rows))
    || (list_any is_empty (prefixes_in rows)
    || ((is_set (codes "quiet") rows && is_set (codes "verbose") rows)
    || (keeps_wrongly side (is_set (codes "keep-copies") rows) (is_set (codes "follow-copies") rows)
    || (is_named_wrongly (first_of (codes "after") rows) (is_set (codes "drop-empty-revs") rows)
    || is_named_wrongly (first_of (codes "youngest") rows) false))))

-- what a side and its rows ask for
abbrev pub cut_of_side : Side → List Row → Result CutMeaning Usage
cut_of_side side rows = if are_refused side rows then Err Words else Ok (record {
  side = side;
  prefixes = prefixes_in rows;
  targets = targets_in rows;
  map_name = first_of (codes "map") rows;
  follow = is_set (codes "follow-copies") rows;
  keep = is_set (codes "keep-copies") rows;
  drop = is_set (codes "drop-empty-revs") rows;
  after = named_revision (codes "after") rows;
  youngest = named_revision (codes "youngest") rows;
  allow_missing = is_set (codes "allow-missing") rows;
  dry_run = is_set (codes "dry-run") rows;
  quiet = is_set (codes "quiet") rows;
  verbose = is_set (codes "verbose") rows;
  workers = flag_number (codes "workers") rows;
  window = flag_number (codes "window") rows;
})

-- what the arguments ask for: only a line that begins with a side and that the command takes asks for something
abbrev pub cut_of_words : List Text → Result CutMeaning Usage
cut_of_words words = meaning_in cut_command cut_of_side (drop 1 words)

-- the same with the prefixes in these texts too
abbrev pub with_texts_of : CutMeaning → List (List ℕ) → CutMeaning
with_texts_of m texts = record m { prefixes = m.prefixes ++ prefixes_of_texts texts }
