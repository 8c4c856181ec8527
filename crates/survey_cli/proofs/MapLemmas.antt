-- The place of --map in a line, and the line without it.
use Rattle.survey_cli.proofs.Prelude.{◌≡◌, ◌<◌, ◌≤◌, ◌||◌, ◌+◌, ◌-◌, ◌++◌, ◌∷◌, ◌∙◌, ℕ, suc, true, false, List, [], Option, Some, None, ap, ap₂, arith, codes, drop, drop-map, Bor, map, map-append, sym, take-map, get_or, is_some, length, list_any, subst, take, option_map, refl, bytes_eq, filter_call_of, survey_of, call_of_line, call_of_words, filter_line, filter_command, is_line_of, is_line_taken_by, is_survey_call, is_taken_call, place_of_map, without, ReadsAsFilter, ReadsMapAnywhere, or_parts, Bool}
use Rattle.clap.specs.Words.{Text}
use Rattle.std.proofs.lemmas.List.{drop_more}

-- a place among the words left, counted from the line's front
abbrev pub after : ℕ → Option ℕ → Option ℕ
after count place = option_map (λ n. count + n) place

pub one_more : (count : ℕ) (place : Option ℕ) → after count (option_map suc place) ≡ after (count + 1) place
one_more count None = refl
one_more count (Some n) = ap Some (omega arith)

pub from_front : (place : Option ℕ) → after 0 place ≡ place
from_front None = refl
from_front (Some n) = ap Some (omega arith)

-- the place of --map after words that are neither --map nor two minus signs
place_among : (before after : List Text)
    → list_any (λ word. bytes_eq word (codes "--") || bytes_eq word (codes "--map")) before ≡ false
    → place_of_map (before ++ codes "--map" ∷ after) ≡ Some (length before)
place_among [] after none = refl
place_among (word ∷ before) after none =
    let parts = or_parts (bytes_eq word (codes "--") || bytes_eq word (codes "--map")) _ none in
    let each = or_parts (bytes_eq word (codes "--")) _ parts.0 in
    rw each.0 (rw each.1 (ap (option_map suc) (place_among before after parts.1)))

without_there : (before rest : List Text)
    → without (Some (length before)) (before ++ codes "--map" ∷ rest) ≡ before ++ rest
without_there [] rest = refl
without_there (word ∷ before) rest =
    let line : List Text = before ++ codes "--map" ∷ rest in
    let n : ℕ = length before in
    ap (λ k. word ∷ take n line ++ drop k (word ∷ line)) (next n) ∙ ap (λ words. word ∷ words) (without_there before rest)
  where
    next : (n : ℕ) → suc n + 1 ≡ suc (n + 1)
    next n = omega arith

pub reads_as_filter : ReadsAsFilter
reads_as_filter words none =
    ap (λ place. survey_of (is_some place) (filter_call_of (without place (drop 1 words)))) none

pub reads_map_anywhere : ReadsMapAnywhere
reads_map_anywhere name before after none =
    let line : List Text = before ++ codes "--map" ∷ after in
    ap (λ place. survey_of (is_some place) (filter_call_of (without place line))) (place_among before after none)
    ∙ ap (λ words. survey_of true (filter_call_of words)) (without_there before after)

-- the words of a line without the one at a place
pub without_words : (place : ℕ) (line : List (Bor Text))
    → map (λ (word : Bor Text). word.now) (take place line ++ drop (place + 1) line)
    ≡ take place (map (λ (word : Bor Text). word.now) line) ++ drop (place + 1) (map (λ (word : Bor Text). word.now) line)
without_words place line =
    map-append (λ (word : Bor Text). word.now) (take place line) (drop (place + 1) line)
    ∙ ap₂ (λ front rest. front ++ rest) (sym (take-map (λ (word : Bor Text). word.now) place line))
    (sym (drop-map (λ (word : Bor Text). word.now) (place + 1) line))

-- none of the words up to this place is --map or two minus signs
abbrev pub IsLooking : List (Bor Text) → ℕ → Type 0
IsLooking line count = place_of_map (map (λ (word : Bor Text). word.now) line)
    ≡ after count (place_of_map (map (λ (word : Bor Text). word.now) (drop count line)))

pub looking_begins : (line : List (Bor Text)) → IsLooking line 0
looking_begins line = sym (from_front (place_of_map (map (λ (word : Bor Text). word.now) line)))

word_passed : (word : Text) (words : List Text) → bytes_eq word (codes "--") ≡ false → bytes_eq word (codes "--map") ≡ false
    → place_of_map (word ∷ words) ≡ option_map suc (place_of_map words)
word_passed word words no_end no_map = rw no_end (rw no_map refl)

pub looking_goes_on : (line : List (Bor Text)) (count : ℕ) (d : Bor Text) → count < length line → IsLooking line count
    → bytes_eq (get_or line count d).now (codes "--") ≡ false
    → bytes_eq (get_or line count d).now (codes "--map") ≡ false
    → IsLooking line (count + 1)
looking_goes_on line count d low looking no_end no_map =
    looking
    ∙ (ap (λ left. after count (place_of_map (map (λ (word : Bor Text). word.now) left))) (drop_more line count d low)
    ∙ (ap (after count) (word_passed (get_or line count d).now (map (λ (w : Bor Text). w.now) (drop (count + 1) line))
    no_end no_map)
    ∙ one_more count (place_of_map (map (λ (w : Bor Text). w.now) (drop (count + 1) line)))))

-- what words ask for, and whether they are accepted, by the line that is read without --map
pub record IsReadAs (words : List Text) (map : Bool) (rest : List Text) : Type 0 where
  pub call : call_of_words words ≡ survey_of map (filter_call_of rest)
  pub accepted : is_survey_call words ≡ is_line_of filter_command rest
  pub taken : is_taken_call words ≡ is_line_taken_by filter_command rest

pub is_read_as : (words line rest : List Text) (place : Option ℕ) → drop 1 words ≡ line → place ≡ place_of_map line
    → rest ≡ without place line → IsReadAs words (is_some place) rest
is_read_as words line rest place behind is left = record {
  call = ap call_of_line behind ∙ ap (λ p. survey_of (is_some p) (filter_call_of (without p line))) (sym is)
      ∙ ap (λ words. survey_of (is_some place) (filter_call_of words)) (sym left);
  accepted = ap (is_line_of filter_command) rest_is;
  taken = ap (is_line_taken_by filter_command) rest_is;
}
  where
    rest_is : filter_line (drop 1 words) ≡ rest
    rest_is = ap filter_line behind ∙ ap (λ p. without p line) (sym is) ∙ sym left
