-- The numbers of workers and of the window that a parse gives for a line that a command takes.
use Rattle.cli_support.proofs.Prelude.{◌≡◌, ◌∙◌, ℕ, true, false, not, refl, sym, ap, subst, List, [], ◌∷◌, length, map, filter, codes, inl, inr, lit<, eqb-true, nil_from_length, list_any, bytes_eq, first_true, not-true, number, AreFilled, IsNumber}
use Rattle.std.proofs.lemmas.Bool.{and_parts, both_ways, cases_Bool}
use Rattle.clap.specs.Built.{IsParsedFrom}
use Rattle.clap.specs.Facts.{args_of, groups_of}
use Rattle.clap.specs.Matches.{found_of}
use Rattle.clap.specs.Simple.{App, app_of, has_plain_fields}
use Rattle.clap.specs.Walk.{Rule, Text, is_empty, rows_of, rule_of}
use Rattle.clap.specs.declared.builder.command.Command.{Command}
use Rattle.clap.specs.declared.builder.command.Command.TheOpen.{Command-F}
use Rattle.clap.specs.declared.builder.command.Command.TheViews.{out-Command}
use Rattle.clap.specs.declared.parser.matches.ArgMatches.{ArgMatches}
use Rattle.cli_support.proofs.NumberLemmas.{Each, IsNumbered, IsOwn, number_given}

-- an option with a number has one
pub is_numbered : (name : Text) (most : ℕ) (default : Text) → IsNumbered most (number name most default)
is_numbered name most default = record { sets = refl; range = refl; parser = refl; defaults = lit< tt }

-- what is true of each rule of this id is true of each rule that has it
of_id : (id : List ℕ) (P : Rule → Type 0) (rules : List Rule) → Each P (filter (λ (r : Rule). bytes_eq r.id id) rules)
    → Each (λ r. bytes_eq r.id id ≡ true → P r) rules
of_id id P [] each = tt
of_id id P (r ∷ rules) each = elim (cases_Bool (bytes_eq r.id id)) [
  | inl is ↦ let all = rw is at each in (λ e. all.0, of_id id P rules all.1)
  | inr other ↦ (λ e. absurd (both_ways _ other e), of_id id P rules (rw other at each))
]

own : (id : List ℕ) → bytes_eq (codes "help") id ≡ false → bytes_eq (codes "version") id ≡ false → IsOwn id
own id help version x (inl is) same = both_ways _ help (subst (λ t. bytes_eq t id ≡ true) is same)
own id help version x (inr is) same = both_ways _ version (subst (λ t. bytes_eq t id ≡ true) is same)

-- a plain command has no global argument
local : (c : Command-F Command) → has_plain_fields c ≡ true → c.has_globals ≡ false
local c plain =
    let behind = and_parts (is_empty c.groups.items) _ plain in
    let more = and_parts (not c.allow_external_subcommands) _ behind.1 in
    not-true c.has_globals (and_parts (not c.has_globals) _ more.1).0

-- the rules of a command that have this id are options with a number up to this one, and there is one
pub record HasNumber (id : Text) (most : ℕ) (all : List Rule) : Type 0 where
  pub each : Each (IsNumbered most) (filter (λ (r : Rule). bytes_eq r.id id) all)
  pub there : list_any (λ r. bytes_eq r.id id) all ≡ true

module _ (app : App) (c : Command) (m : ArgMatches) (is : app_of c ≡ app) (parsed : IsParsedFrom c m)
    (is_plain : app.top.is_plain ≡ true) (each_simple : Each (λ r. r.is_simple ≡ true) app.top.rules) where
  rules : map rule_of (args_of c) ≡ app.top.rules
  rules = ap (λ a. a.top.rules) is

  plain : has_plain_fields (out-Command c) ≡ true
  plain = ap (λ a. a.top.is_plain) is ∙ is_plain

  groups : groups_of c ≡ []
  groups = nil_from_length (groups_of c) (eqb-true (length (groups_of c)) 0 (first_true _ _ plain))

  globals : (out-Command c).has_globals ≡ false
  globals = local (out-Command c) plain

  given : (id : Text) (most : ℕ) → HasNumber id most app.top.rules → IsOwn id → (id ≡ [] → ⊥)
      → IsNumber id most (rows_of (found_of m))
  given id most has its_own named =
      number_given c m parsed id most
      (subst (Each _) (sym rules) (of_id id (IsNumbered most) app.top.rules has.each))
      (subst (Each _) (sym rules) each_simple)
      (subst (λ rs. list_any (λ r. bytes_eq r.id id) rs ≡ true) (sym rules) has.there)
      globals groups its_own named

  -- a parse of a command with both options gives both numbers
  pub filled_by : HasNumber (codes "workers") 64 app.top.rules → HasNumber (codes "window") 4096 app.top.rules
      → AreFilled (rows_of (found_of m))
  filled_by workers window = record {
    workers = given (codes "workers") 64 workers (own (codes "workers") refl refl) (λ e. cc);
    window = given (codes "window") 4096 window (own (codes "window") refl refl) (λ e. cc);
  }
