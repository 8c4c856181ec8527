-- Examples for the definitions; the checker computes and proves them.
use Rattle.cli_support.proofs.Prelude.{◌≡◌, refl, true, false, List, [], ◌∷◌, ℕ, length, lit<, lit≤, Some, None, Ok, Err, codes, Include, Exclude, Pad, DropEmptied, DropAll, Answers, AreFilled, FilterCall, IsNumber, call_of_side, empty_of, filter_call_of, filter_command, flag_number, is_call_of, is_set, named_side, number, prefixes, refusal_status, settings_of, side_in, switch, Words, BothDrops, Memory}
use Rattle.std.proofs.Common.{◌++◌, inl, inr}
use Rattle.clap.specs.Words.{Row}
use Rattle.cli_support.specs.FilterCommand.{any_prefixes, repeated, valued}
use Rattle.cli_support.specs.Info.{Prints, info_in, info_of, named_info}
use Rattle.cli_support.specs.NamedOutputs.{Replaces}
use Rattle.cli_support.specs.Targets.{AreTextsOf, after_blanks, before_blanks, begun_by, is_blank, is_line_end, prefix_of_line, prefixes_of_text, prefixes_of_texts, lines_in_text, without_mark}
use Rattle.cli_support.specs.declared.info.Info.TheVariants.{Help, Version}
use Rattle.clap.specs.declared.builder.value_parser.Reading.TheVariants as reading
use Rattle.clap.proofs.OnLiterals.{clap_on_literals}
use Rattle.dump_rules.specs.PlainSettings.{plain_settings}
use Rattle.dump_writer.specs.SinkWords.{TakesPart}

-- filterCommand

spelled_switch : (switch (codes "quiet")).long ≡ Some (codes "quiet")
spelled_switch = refl

default_number : (number (codes "workers") 64 (codes "4")).defaults ≡ codes "4" ∷ []
default_number = refl

optional : any_prefixes.required ≡ false
optional = refl

spelled_repeated : (repeated (codes "targets")).long ≡ Some (codes "targets")
spelled_repeated = refl

spelled_value : (valued (codes "map")).long ≡ Some (codes "map")
spelled_value = refl

wanted_prefixes : prefixes.required ≡ true
wanted_prefixes = refl

-- eight options, and the prefixes
nine_rules : length filter_command.top.rules ≡ 9
nine_rules = refl

no_subcommands : filter_command.subs ≡ []
no_subcommands = refl

-- arguments

includes : named_side (codes "include") ≡ Some Include
includes = refl

excludes : side_in (codes "exclude" ∷ codes "include" ∷ []) ≡ Some Exclude
excludes = refl

no_side : side_in (codes "--" ∷ codes "include" ∷ []) ≡ None
no_side = refl

abbrev row : List ℕ → List (List ℕ) → Row
row name values = record { id = name; values = values; count = None; source = None; reading = reading.AsWritten }

abbrev rows : List ℕ → List ℕ → List Row
rows empty all =
    row (codes "drop-empty-revs") (empty ∷ []) ∷ row (codes "drop-all-empty-revs") (all ∷ [])
    ∷ row (codes "renumber-revs") (codes "true" ∷ []) ∷ row (codes "preserve-revprops") (codes "false" ∷ [])
    ∷ row (codes "skip-missing-merge-sources") (codes "false" ∷ []) ∷ row (codes "PREFIX") (codes "trunk" ∷ []) ∷ []

set : is_set (codes "renumber-revs") (rows (codes "false") (codes "false")) ≡ true
set = refl

not_set : is_set (codes "preserve-revprops") (rows (codes "false") (codes "false")) ≡ false
not_set = refl

abbrev plan_rows : List Row
plan_rows = row (codes "workers") (codes "12" ∷ []) ∷ row (codes "window") (codes "64" ∷ []) ∷ []

twelve : flag_number (codes "workers") plan_rows ≡ 12
twelve = refl

pads : empty_of false false ≡ Some Pad
pads = refl

drops : empty_of true false ≡ Some DropEmptied
drops = refl

drops_all : empty_of false true ≡ Some DropAll
drops_all = refl

drops_both : empty_of true true ≡ None
drops_both = refl

settings : settings_of Exclude (rows (codes "false") (codes "true"))
    ≡ Ok (record (plain_settings Exclude (codes "trunk" ∷ [])) { empty = DropAll; renumber = true })
settings = refl

both_drops : settings_of Exclude (rows (codes "true") (codes "true")) ≡ Err BothDrops
both_drops = refl

-- filterCalls

abbrev plain : FilterCall
plain = record {
  options = plain_settings Include (codes "a" ∷ []);
  workers = 4;
  window = 64;
  quiet = false;
}

abbrev call_rows : List Row
call_rows = row (codes "PREFIX") (codes "a" ∷ []) ∷ row (codes "workers") (codes "12" ∷ []) ∷ row (codes "window") (codes "64" ∷ [])
    ∷ row (codes "quiet") (codes "true" ∷ []) ∷ []

twelve_and_quiet : call_of_side Include call_rows ≡ Ok (record plain { workers = 12; quiet = true })
twelve_and_quiet = refl

drops_twice : call_of_side Include (rows (codes "true") (codes "true")) ≡ Err BothDrops
drops_twice = refl

-- without the options for threads their defaults count
defaults : filter_call_of (codes "include" ∷ codes "a" ∷ []) ≡ Ok plain
unfolding clap_on_literals
defaults = refl

-- an option after a prefix is read, and one after the two minus signs is a prefix
around : filter_call_of (codes "include" ∷ codes "a" ∷ codes "--quiet" ∷ codes "--" ∷ codes "--x" ∷ [])
    ≡ Ok (record plain { options = record plain.options { prefixes = codes "a" ∷ codes "--x" ∷ [] }; quiet = true })
unfolding clap_on_literals
around = refl

no_prefix : filter_call_of (codes "include" ∷ []) ≡ Err Words
unfolding clap_on_literals
no_prefix = refl

option_before : filter_call_of (codes "--quiet" ∷ codes "include" ∷ codes "a" ∷ []) ≡ Err Words
option_before = refl

lawful : is_call_of filter_command (codes "p" ∷ codes "include" ∷ codes "--quiet" ∷ codes "a" ∷ []) ≡ true
unfolding clap_on_literals
lawful = refl

-- arguments

refused_for_its_arguments : Answers (λ (n : ℕ). n) (Err Words) (Err Words)
refused_for_its_arguments = refl

refused_for_others : ¬ Answers (λ (n : ℕ). n) (Err BothDrops) (Err Words)
refused_for_others e = cc

answered : Answers (λ (n : ℕ). n) (Ok 7) (Ok 7)
answered = refl

arguments_refused : refusal_status 3 Words ≡ 2
arguments_refused = refl

no_memory : refusal_status 3 Memory ≡ 3
no_memory = refl

-- filledFlags

twelve_workers : IsNumber (codes "workers") 64 plan_rows
twelve_workers = (codes "12", refl, ((lit< tt, (lit< tt, (lit< tt, tt))), lit< tt, lit≤ tt, lit≤ tt))

sixty_four : IsNumber (codes "window") 4096 plan_rows
sixty_four = (codes "64", refl, ((lit< tt, (lit< tt, (lit< tt, tt))), lit< tt, lit≤ tt, lit≤ tt))

filled : AreFilled plan_rows
filled = record { workers = twelve_workers; window = sixty_four }

-- info

help_is_an_option : named_info (codes "--help") ≡ Some Help
help_is_an_option = refl

no_short_option : named_info (codes "-h") ≡ None
no_short_option = refl

-- only the first of the options counts
both_texts : info_of (codes "p" ∷ codes "exclude" ∷ codes "--version" ∷ codes "--help" ∷ []) ≡ Some Version
both_texts = refl

prefix_behind : info_in (codes "exclude" ∷ codes "--" ∷ codes "--help" ∷ []) ≡ None
prefix_behind = refl

first_byte_alone : TakesPart (Some []) (Some (codes "a")) (codes "ab")
first_byte_alone = (codes "a", (codes "b", refl), refl)

printed : Prints 1 (codes "ab") (Some []) (Some (codes "ab")) 0
printed = inl (refl, refl)

printed_in_part : Prints 1 (codes "ab") (Some []) (Some (codes "a")) 1
printed_in_part = inr (first_byte_alone, refl)

-- namedOutputs

emptied : Replaces (Some (codes "a")) (Some []) []
emptied = refl

not_emptied : ¬ Replaces (Some (codes "a")) (Some (codes "a")) []
not_emptied e = cc

-- targets

carriage_return : is_line_end 13 ≡ true
carriage_return = refl

tab : is_blank 9 ≡ true
tab = refl

begun : begun_by 97 (codes "b" ∷ codes "c" ∷ []) ≡ codes "ab" ∷ codes "c" ∷ []
begun = refl

-- the last line may lack its end
three_lines : lines_in_text (codes "a\n\nb") ≡ codes "a" ∷ [] ∷ codes "b" ∷ []
three_lines = refl

one_line : lines_in_text (codes "a\n") ≡ codes "a" ∷ []
one_line = refl

in_front : after_blanks (codes " \ta b ") ≡ codes "a b "
in_front = refl

at_the_end : before_blanks (codes " a b \t") ≡ codes " a b"
at_the_end = refl

within : prefix_of_line (codes " # b ") ≡ codes "# b"
within = refl

two_prefixes : prefixes_of_text (codes " a\r\n \n\n/b c") ≡ codes "a" ∷ codes "/b c" ∷ []
two_prefixes = refl

no_prefixes : prefixes_of_text (codes "\n \t\r\n") ≡ []
no_prefixes = refl

abbrev mark : List ℕ
mark = 239 ∷ 187 ∷ 191 ∷ []

behind_a_mark : prefixes_of_text (mark ++ codes "a\n") ≡ codes "a" ∷ []
behind_a_mark = refl

-- only at the head of the text
mark_in_a_line : prefixes_of_text (codes "a\n" ++ mark) ≡ codes "a" ∷ mark ∷ []
mark_in_a_line = refl

part_of_a_mark : without_mark (239 ∷ 187 ∷ []) ≡ 239 ∷ 187 ∷ []
part_of_a_mark = refl

of_two_files : prefixes_of_texts (codes "b\n" ∷ codes "a" ∷ []) ≡ codes "b" ∷ codes "a" ∷ []
of_two_files = refl

known_text : AreTextsOf (λ name. Some name) (codes "f" ∷ []) (codes "f" ∷ [])
known_text = (refl, tt)

other_text : ¬ AreTextsOf (λ name. Some name) (codes "f" ∷ []) ([] ∷ [])
other_text (e, _) = cc
