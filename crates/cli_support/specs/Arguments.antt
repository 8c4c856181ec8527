-- What arguments mean, by the side at their front and by what clap finds after it.
use Rattle.std.specs.Prelude.{◌≡◌, ℕ, Bool, true, false, List, [], Option, Some, None, Result, Ok, Err, ⊤, codes, slice_get, unwrap_or, if◌then◌else◌}
use Rattle.std.specs.Option.{option_and_then, option_map_or}
use Rattle.std.specs.Str.{bytes_eq}
use Rattle.std.specs.Str.Parse.{digits_value, without_leading_plus}
use Rattle.clap.specs.Walk.{is_empty}
use Rattle.clap.specs.Words.{App, Row, Text, all_of, fault_of, matches_of, one_of}
use Rattle.dump_rules.specs.Settings.{Settings}
use Rattle.dump_rules.specs.declared.options.Side.{Side}
use Rattle.dump_rules.specs.declared.options.Side.TheVariants.{Include, Exclude}
use Rattle.dump_rules.specs.declared.options.Empty.{Empty}
use Rattle.dump_rules.specs.declared.options.Empty.TheVariants.{Pad, DropEmptied, DropAll}
use Rattle.cli_support.specs.declared.usage.Usage.{Usage}
use Rattle.cli_support.specs.declared.usage.Usage.TheVariants.{Words, BothDrops, Memory}

-- the side of this name
abbrev pub named_side : Text → Option Side
named_side name = if bytes_eq name (codes "include") then Some Include
    else (if bytes_eq name (codes "exclude") then Some Exclude else None)

-- the side that a line begins with
abbrev pub side_in : List Text → Option Side
side_in line = option_and_then named_side (slice_get line 0)

-- whether a switch is set
abbrev pub is_set : Text → List Row → Bool
is_set name rows = option_map_or (λ text. bytes_eq text (codes "true")) (one_of name rows) false

-- the number of an option; without it its default is in the rows
abbrev pub flag_number : Text → List Row → ℕ
flag_number name rows = digits_value 10 (without_leading_plus (unwrap_or (one_of name rows) []))

-- what becomes of empty revisions: by the first drop option, by the second, and not by both
abbrev pub empty_of : Bool → Bool → Option Empty
empty_of false false = Some Pad
empty_of true false = Some DropEmptied
empty_of false true = Some DropAll
empty_of true true = None

-- the same, by the rows after a side
abbrev pub empty_in : List Row → Option Empty
empty_in rows = empty_of (is_set (codes "drop-empty-revs") rows) (is_set (codes "drop-all-empty-revs") rows)

-- the settings of the filter that a side and its rows give, if it is known what becomes of empty revisions
abbrev pub settings_with : Option Empty → Side → List Row → Result Settings Usage
settings_with None side rows = Err BothDrops
settings_with (Some empty) side rows = Ok (record {
  side = side;
  prefixes = unwrap_or (all_of (codes "PREFIX") rows) [];
  empty = empty;
  renumber = is_set (codes "renumber-revs") rows;
  preserve = is_set (codes "preserve-revprops") rows;
  skip_missing = is_set (codes "skip-missing-merge-sources") rows;
})

-- the settings of the filter that a side and its rows give
abbrev pub settings_of : Side → List Row → Result Settings Usage
settings_of side rows = settings_with (empty_in rows) side rows

-- what a line means by the side that it begins with, by whether clap takes the line, and by the rows that it finds, if
-- this is what a side and its rows mean
abbrev pub meaning_by : {M : Type 0} → (Side → List Row → Result M Usage) → Option Side → Bool → List Row → Result M Usage
meaning_by means None is_taken rows = Err Words
meaning_by means (Some side) is_taken rows = if is_taken then means side rows else Err Words

-- the same by a command; clap passes over the first argument of the line, which is the side
abbrev pub meaning_in : {M : Type 0} → App → (Side → List Row → Result M Usage) → List Text → Result M Usage
meaning_in app means line = meaning_by means (side_in line) (is_empty (fault_of app line)) (matches_of app line)

-- the answer to arguments of this meaning: out of memory may hide it, and nothing else
abbrev pub Answers : {A M : Type 0} → (A → M) → Result M Usage → Result A Usage → Type 0
Answers meaning_of meaning (Ok answer) = meaning ≡ Ok (meaning_of answer)
Answers meaning_of meaning (Err Words) = meaning ≡ Err Words
Answers meaning_of meaning (Err BothDrops) = meaning ≡ Err BothDrops
Answers meaning_of meaning (Err Memory) = ⊤

-- the status of arguments that are rejected, and that of a failure if memory runs out while they are read
abbrev pub refusal_status : ℕ → Usage → ℕ
refusal_status failed Words = 2
refusal_status failed BothDrops = 2
refusal_status failed Memory = failed
