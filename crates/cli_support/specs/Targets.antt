-- Files of prefixes, one a line.
use Rattle.std.specs.Prelude.{◌≡◌, ◌==◌, ◌||◌, ◌&&◌, not, ℕ, Bool, List, [], ◌∷◌, map, filter, flat_map, take, drop, Option, IfSome, if◌then◌else◌}
use Rattle.std.specs.List.{AllZip}
use Rattle.std.specs.Str.{bytes_eq}
use Rattle.clap.specs.Walk.{is_empty}
use Rattle.clap.specs.Words.{Text}

-- whether a byte ends a line: CR or LF
abbrev pub is_line_end : ℕ → Bool
is_line_end byte = (byte == 10) || (byte == 13)

-- whether a byte is a blank: a space or a tab
abbrev pub is_blank : ℕ → Bool
is_blank byte = (byte == 32) || (byte == 9)

-- lines, with a byte before the first
abbrev pub begun_by : ℕ → List Text → List Text
begun_by byte [] = (byte ∷ []) ∷ []
begun_by byte (line ∷ lines) = (byte ∷ line) ∷ lines

-- the lines of a text
abbrev pub lines_in_text : List ℕ → List Text
lines_in_text [] = []
lines_in_text (byte ∷ text) = if is_line_end byte then [] ∷ lines_in_text text else begun_by byte (lines_in_text text)

-- a line without the blanks at its front
abbrev pub after_blanks : List ℕ → List ℕ
after_blanks [] = []
after_blanks (byte ∷ line) = if is_blank byte then after_blanks line else byte ∷ line

-- a line without the blanks at its end
abbrev pub before_blanks : List ℕ → List ℕ
before_blanks [] = []
before_blanks (byte ∷ line) =
    if is_blank byte && is_empty (before_blanks line) then [] else byte ∷ before_blanks line

-- the prefix in a line
abbrev pub prefix_of_line : List ℕ → Text
prefix_of_line line = before_blanks (after_blanks line)

-- a text without the byte order mark of UTF-8, EF BB BF, with which some editors begin it
abbrev pub without_mark : List ℕ → List ℕ
without_mark text = if bytes_eq (take 3 text) (239 ∷ 187 ∷ 191 ∷ []) then drop 3 text else text

-- the prefixes in a text: its lines without blanks at their ends, but for the empty ones
abbrev pub prefixes_of_text : List ℕ → List Text
prefixes_of_text text = filter (λ prefix. not (is_empty prefix)) (map prefix_of_line (lines_in_text (without_mark text)))

-- the prefixes in texts
abbrev pub prefixes_of_texts : List (List ℕ) → List Text
prefixes_of_texts texts = flat_map prefixes_of_text texts

-- the files of these names have these texts, as far as that is known of a file
abbrev pub AreTextsOf : (Text → Option (List ℕ)) → List Text → List (List ℕ) → Type 0
AreTextsOf text_of names texts = AllZip (λ name text. IfSome (text_of name) (λ known. text ≡ known)) names texts
