-- The meaning of a line that a command accepts, and of one that it rejects.
use Rattle.cli_support.proofs.Prelude.{◌≡◌, ◌∙◌, ◌⊎◌, ◌&&◌, Bool, true, false, sym, ap, subst, List, [], ◌∷◌, Some, Result, Ok, Err, inl, inr, arith, ne_eqb, Side, Answers, meaning_by, meaning_in, side_in, ReadsLine, Usage, Words, BothDrops, Memory}
use Rattle.clap.specs.Kinds.{HasKind, Kinds}
use Rattle.clap.specs.Walk.{is_empty}
use Rattle.clap.specs.Words.{App, Row, Text, fault_of, found_of, is_simple, is_simple_and_free, kind_of, matches_of, rows_of}
use Rattle.clap.specs.declared.error.Error.{Error}
use Rattle.clap.specs.declared.error.kind.ErrorKind.TheVariants.{OutOfMemory}
use Rattle.clap.specs.declared.parser.matches.ArgMatches.{ArgMatches}

-- the first of two true facts
pub first_holds : (a b : Bool) → (a && b) ≡ true → a ≡ true
first_holds true b e = cc
first_holds false b e = cc

-- the second of two true facts
pub second_holds : (a b : Bool) → (a && b) ≡ true → b ≡ true
second_holds true b e = e
second_holds false b e = cc

-- if clap specifies the kinds of errors of a command, it specifies the command's matches too
pub simple_of_free : (app : App) → is_simple_and_free app ≡ true → is_simple app ≡ true
simple_of_free app free = first_holds (is_simple app) _ free

-- a list with an element isn't empty
is_filled : {X : Type 0} (x : X) (xs : List X) → is_empty (x ∷ xs) ≡ false
is_filled x xs = ne_eqb _ _ (λ e. omega (arith, e))

-- an error for other arguments, or for memory that ran out, is what is read of a line with such a fault
pub refusal_reads : (app : App) (line : List Text) (e : Error) (u : Usage) → HasKind (fault_of app line) e
    → (kind_of e ≡ OutOfMemory → u ≡ Memory) → ((u ≡ Words) ⊎ (u ≡ Memory))
    → ReadsLine app line (Err u)
refusal_reads app line e u has memory (inr is) = subst (λ (x : Usage). ReadsLine app line (Err x)) (sym is) tt
refusal_reads app line e u has memory (inl is) =
    subst (λ (x : Usage). ReadsLine app line (Err x)) (sym is) (go (fault_of app line) has)
  where
    go : (kinds : Kinds) → HasKind kinds e → is_empty kinds ≡ false
    go kinds (inl m) =
        let bad : Words ≡ Memory = sym is ∙ memory m in
        cc
    go [] (inr among) = absurd among
    go (k ∷ ks) (inr among) = is_filled k ks

module _ {A M : Type 0} (app : App) (means : Side → List Row → Result M Usage) (meaning_of : A → M) (line : List Text)
    (side : Side) (named : side_in line ≡ Some side) where
  -- what the rows of an accepted line give is the meaning of the line
  pub line_answers : (matches : ArgMatches) (answer : Result A Usage) → ReadsLine app line (Ok matches)
      → Answers meaning_of (means side (rows_of (found_of matches))) answer
      → Answers meaning_of (meaning_in app means line) answer
  line_answers matches answer (none, same) answers = subst (λ m. Answers meaning_of m answer) (sym is) answers
    where
      is : meaning_in app means line ≡ means side (rows_of (found_of matches))
      is = ap (λ o. meaning_by means o (is_empty (fault_of app line)) (matches_of app line)) named
          ∙ ap (λ (k : Kinds). meaning_by means (Some side) (is_empty k) (matches_of app line)) none
          ∙ ap (means side) (sym same)

  -- a line that is rejected means nothing, or memory ran out
  pub refusal_answers : (usage : Usage) → ReadsLine app line (Err usage)
      → Answers meaning_of (meaning_in app means line) (Err usage)
  refusal_answers Words some =
      ap (λ o. meaning_by means o (is_empty (fault_of app line)) (matches_of app line)) named
      ∙ ap (λ b. meaning_by means (Some side) b (matches_of app line)) some
  refusal_answers BothDrops bad = absurd bad
  refusal_answers Memory none = tt

-- a line that the command accepts isn't rejected
pub lawful_is_read : (app : App) (line : List Text) (usage : Usage) → ReadsLine app line (Err usage)
    → is_empty (fault_of app line) ≡ true → usage ≡ Words → ⊥
lawful_is_read app line Words some lawful is =
    let bad : true ≡ false = sym lawful ∙ some in
    cc
lawful_is_read app line BothDrops bad lawful is = bad
lawful_is_read app line Memory none lawful is = cc
