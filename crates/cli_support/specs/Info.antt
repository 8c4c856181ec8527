-- Which arguments ask for a text in place of a program's work, and what becomes of a text that is printed.
use Rattle.std.specs.Prelude.{◌≡◌, ◌⊎◌, ℕ, List, [], ◌∷◌, Option, Some, None, codes, drop, if◌then◌else◌}
use Rattle.std.specs.Io.KnownBytes.{Appends}
use Rattle.std.specs.Option.{option_or}
use Rattle.std.specs.Str.{bytes_eq}
use Rattle.clap.specs.Words.{Text}
use Rattle.dump_writer.specs.SinkWords.{TakesPart}
use Rattle.cli_support.specs.declared.info.Info.{Info}
use Rattle.cli_support.specs.declared.info.Info.TheVariants.{Help, Version}

-- what this option asks for
abbrev pub named_info : Text → Option Info
named_info word = if bytes_eq word (codes "--help") then Some Help
    else (if bytes_eq word (codes "--version") then Some Version else None)

-- what the first option of a line that asks for a text asks for; after two minus signs there are no options
abbrev pub info_in : List Text → Option Info
info_in [] = None
info_in (word ∷ words) = if bytes_eq word (codes "--") then None else option_or (named_info word) (info_in words)

-- the same of the arguments of a process, of which the first is the program's name
abbrev pub info_of : List Text → Option Info
info_of words = info_in (drop 1 words)

-- a text is printed: the writer took all of it; or it took a first part, and the status is that of a failure
abbrev pub Prints : ℕ → Text → Option (List ℕ) → Option (List ℕ) → ℕ → Type 0
Prints failed text old new status = (Appends old new text × (status ≡ 0))
    ⊎ (TakesPart old new text × (status ≡ failed))
