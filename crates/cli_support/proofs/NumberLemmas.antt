-- What a parse of a command without subcommands gives for a number that has a default.
use Rattle.cli_support.proofs.Prelude.{◌≡◌, ◌∙◌, ◌⊎◌, ◌<◌, ◌≤◌, ℕ, true, false, not, zero, suc, refl, sym, ap, subst, List, [], ◌∷◌, length, map, Option, Some, None, is_some, codes, inl, inr, arith, lit≤, ⊤, find, slice_get, Bor, All, list_any, slice_index_or, option_and_then, option_map, unwrap_or, bytes_eq, cases_lt, eqb-true, length-map, nil_from_length, bytes_eq-Decides, IsNumber}
use Rattle.std.proofs.lemmas.Bool.{cases_Bool, or_cases}
use Rattle.clap.specs.Built.{IsAuto, IsParsedFrom, SameRules}
use Rattle.clap.specs.Facts.{Entry, EntryPasses, HasId, PassesArg, WantsDefault, args_of, groups_of, least_values, parser_of_value, unwrap_or_range}
use Rattle.clap.specs.Matches.{found_of, matched_of, one_text}
use Rattle.clap.specs.Texts.{items_of}
use Rattle.clap.specs.Values.{Accepts, IsUnsignedIn, read_as, reading_of}
use Rattle.clap.specs.Walk.{Rule, Text, is_empty, is_simple_arg, rows_of, rule_of}
use Rattle.clap.specs.declared.builder.action.ArgAction.TheVariants.{Count, Set}
use Rattle.clap.specs.declared.builder.arg.Arg.{Arg}
use Rattle.clap.specs.declared.builder.command.Command.{Command}
use Rattle.clap.specs.declared.builder.command.Command.TheViews.{out-Command}
use Rattle.clap.specs.declared.builder.value_parser.Reading.TheVariants.{AsWritten}
use Rattle.clap.specs.declared.builder.value_parser.ValueParser.TheVariants as parsers
use Rattle.clap.specs.declared.parser.matches.ArgMatches.{ArgMatches}
use Rattle.clap.specs.declared.parser.matches.MatchedArg.{MatchedArg}
use Rattle.clap.proofs.CallerLemmas.{default_present, entry_by_id}
use Rattle.clap.proofs.WalkLemmas.{both, one_text-rows}

-- ---- arguments by their rules

-- each rule of a list has a property
abbrev pub Each : (Rule → Type 0) → List Rule → Type 0
Each P [] = ⊤
Each P (r ∷ rest) = P r × Each P rest

each_arg : (P : Rule → Type 0) (xs : List Arg) → Each P (map rule_of xs) → (k : ℕ) (d : Arg) → k < length xs
    → P (rule_of (slice_index_or xs k d))
each_arg P [] each k d lt = absurd (omega arith)
each_arg P (x ∷ xs) each zero d lt = each.0
each_arg P (x ∷ xs) each (suc k) d lt = each_arg P xs each.1 k d (omega arith)

-- the place of an argument with this id
place : (id : Text) (xs : List Arg) → list_any (λ r. bytes_eq r.id id) (map rule_of xs) ≡ true
    → (k : ℕ) × (d : Arg) × (k < length xs) × (bytes_eq (slice_index_or xs k d).id.now id ≡ true)
place id [] there = cc
place id (x ∷ xs) there = elim (or_cases (bytes_eq x.id.now id) _ there) [
  | inl is ↦ (0, x, omega arith, is)
  | inr any ↦ let rest = place id xs any in (suc rest.0, rest.1, omega arith, rest.3)
]

-- a number from 1 up, which is set once and has a default
pub record IsNumbered (most : ℕ) (a : Rule) : Type 0 where
  pub sets : a.action ≡ Some Set
  pub range : a.range ≡ None
  pub parser : a.parser ≡ Some (parsers.Unsigned 1 most)
  pub defaults : 0 < length a.defaults

-- the same for an argument that is built
record IsBuiltNumber (most : ℕ) (a : Arg) : Type 0 where
  pub sets : a.action ≡ Some Set
  pub least : 1 ≤ least_values a
  pub delimiter : a.val_delim ≡ None
  pub parser : a.value_parser ≡ Some (parsers.Unsigned 1 most)

none_of : {X : Type 0} (xs : List X) → is_empty xs ≡ true → xs ≡ []
none_of xs e = nil_from_length xs (eqb-true _ _ e)

no_delimiter : (o : Option ℕ) → not (is_some o) ≡ true → o ≡ None
no_delimiter None e = refl
no_delimiter (Some x) e = cc

-- what a simple argument doesn't have
pub record HasNone (a : Arg) : Type 0 where
  pub ifs : a.default_vals_ifs.items ≡ []
  pub groups : a.groups.items ≡ []
  pub delimiter : a.val_delim ≡ None

has_none : (a : Arg) → is_simple_arg a ≡ true → HasNone a
has_none a simple =
    let second = both _ _ (both _ _ simple).1 in
    let third = both _ _ second.1 in
    let fourth = both _ _ third.1 in
    record {
      ifs = none_of a.default_vals_ifs.items second.0;
      groups = none_of a.groups.items third.0;
      delimiter = no_delimiter a.val_delim fourth.0;
    }

built_number : (most : ℕ) (a b : Arg) → SameRules a b → IsNumbered most (rule_of a) → HasNone a → IsBuiltNumber most b
built_number most a b same number none = record {
  sets = same.action Set number.sets;
  least = same.least number.sets
      (subst (λ r. 1 ≤ (unwrap_or_range r).start_inclusive) (sym number.range) (lit≤ tt));
  delimiter = same.val_delim ∙ none.delimiter;
  parser = same.parser (parsers.Unsigned 1 most) number.parser;
}

-- ---- entries

entry_found : (id : Text) (xs : List Entry) (i : ℕ) → i < length xs
    → ((d : Entry) → bytes_eq (slice_index_or xs i d).0.now id ≡ true)
    → is_some (option_map (λ e. e.1) (find (λ e. bytes_eq e.0.now id) xs)) ≡ true
entry_found id [] i lt has = absurd (omega arith)
entry_found id (x ∷ xs) zero lt has = rw (has x) refl
entry_found id (x ∷ xs) (suc i) lt has = elim (cases_Bool (bytes_eq x.0.now id)) [
  | inl is ↦ rw is refl
  | inr other ↦ rw other (entry_found id xs i (omega arith) has)
]

first_of : (vs : List (Bor Text)) → 0 < length vs → (v : Bor Text) × (rest : List (Bor Text)) × (vs ≡ v ∷ rest)
first_of [] lt = absurd (omega arith)
first_of (v ∷ rest) lt = (v, rest, refl)

-- ---- a parse

-- the name isn't one that clap adds
abbrev pub IsOwn : Text → Type 0
IsOwn id = (x : Text) → ((x ≡ codes "help") ⊎ (x ≡ codes "version")) → bytes_eq x id ≡ true → ⊥

module _ (old : Command) (m : ArgMatches) (p : IsParsedFrom old m) (id : Text) (most : ℕ)
    (each : Each (λ r. bytes_eq r.id id ≡ true → IsNumbered most r) (map rule_of (args_of old)))
    (simple : Each (λ r. r.is_simple ≡ true) (map rule_of (args_of old)))
    (there : list_any (λ r. bytes_eq r.id id) (map rule_of (args_of old)) ≡ true)
    (globals : (out-Command old).has_globals ≡ false) (no_groups : groups_of old ≡ []) (own : IsOwn id)
    (named : id ≡ [] → ⊥) where
  built_is : (j : ℕ) (x : Arg) → j < length (args_of p.built) → slice_index_or (args_of p.built) j x ≡ x
      → bytes_eq x.id.now id ≡ true → IsBuiltNumber most x
  built_is j x high at same = elim (cases_lt j (length (args_of old))) [
    | inl under ↦
        let s : SameRules (slice_index_or (args_of old) j x) x =
        subst (λ w. SameRules (slice_index_or (args_of old) j x) w) at (p.from.kept j x under).1 in
        let old_same : bytes_eq (slice_index_or (args_of old) j x).id.now id ≡ true =
        ap (λ (i : Bor Text). bytes_eq i.now id) (sym s.id) ∙ same in
        built_number most (slice_index_or (args_of old) j x) x s
        (each_arg (λ r. bytes_eq r.id id ≡ true → IsNumbered most r) (args_of old) each j x under old_same)
        (has_none (slice_index_or (args_of old) j x)
        (each_arg (λ r. r.is_simple ≡ true) (args_of old) simple j x under))
    | inr over ↦ absurd (own x.id.now (subst IsAuto at (p.from.extra j x over high)) same)
  ]

  built_groups : groups_of p.built ≡ []
  built_groups = (p.from.same_groups (λ k d lt.
      (has_none (slice_index_or (args_of old) k d)
      (each_arg (λ r. r.is_simple ≡ true) (args_of old) simple k d lt)).groups)).1 ∙ no_groups

  module _ (e : Entry) (key : e.0.now ≡ id) (passes : EntryPasses p.built e) where
    no_group : e.1.is_group ≡ true → ⊥
    no_group is = elim (passes.3 is) [
      | inl empty ↦ named (sym key ∙ empty)
      | inr some ↦
          let bad : 0 < 0 = subst (λ gs. 0 < length gs) built_groups some in
          omega arith
    ]

    is_this : (x : Arg) → bytes_eq x.id.now e.0.now ≡ true → bytes_eq x.id.now id ≡ true
    is_this x same = ap (bytes_eq x.id.now) (sym key) ∙ same

    has_value : 0 < length e.1.vals.items
    has_value = elim passes.1 [
      | inl group ↦ absurd (no_group group.0)
      | inr (inl some) ↦ some
      | inr (inr (inl counts)) ↦
          let is = built_is counts.1.0 counts.1.1 counts.1.2 counts.1.3 (is_this counts.1.1 counts.1.4.0) in
          let bad : Set ≡ Count = ap (λ a. unwrap_or a Set) (sym is.sets) ∙ counts.1.4.1 in
          cc
      | inr (inr (inr may)) ↦
          let is = built_is may.0 may.1 may.2 may.3 (is_this may.1 may.4.0) in
          elim may.4.1 [
            | inl zero_values ↦
                let least = is.least in
                absurd (omega arith)
            | inr some ↦
                let bad : false ≡ true = ap is_some (sym is.delimiter) ∙ some in
                cc
          ]
    ]

    is_read : e.1.reading ≡ AsWritten
    is_read = elim passes.4 [
      | inl group ↦ absurd (no_group group)
      | inr by ↦
          let is = built_is by.0 by.1 by.2 by.3 (is_this by.1 by.4.0) in
          sym by.4.1 ∙ ap (λ o. reading_of (parser_of_value o)) is.parser
    ]

    value_is : (v : Bor Text) (rest : List (Bor Text)) → e.1.vals.items ≡ v ∷ rest → IsUnsignedIn 1 most v.now
    value_is v rest at = elim passes.0 [
      | inl group ↦ absurd (no_group group)
      | inr all ↦
          let by : PassesArg p.built e.0.now v.now = subst (All (λ (w : Bor Text). PassesArg p.built e.0.now w.now)) at all 0 v (omega arith) in
          let is = built_is by.0 by.1 by.2 by.3 (is_this by.1 by.4.0) in
          subst (λ o. Accepts by.1.ignore_case (parser_of_value o) v.now) is.parser by.4.1
    ]

    entry_gives : (x : MatchedArg) → matched_of (found_of m) id ≡ Some x → e.1 ≡ x → IsNumber id most (rows_of (found_of m))
    entry_gives x found same =
        let first = first_of e.1.vals.items has_value in
        let text : one_text (found_of m) id ≡ Some first.0.now =
        ap (option_and_then (λ (a : MatchedArg). option_map (λ s. read_as a.reading s.now) (slice_get a.vals.items 0)))
        (found ∙ ap Some (sym same))
        ∙ ap (λ how. option_map (λ s. read_as how s.now) (slice_get e.1.vals.items 0)) is_read
        ∙ ap (λ (vs : List (Bor Text)). option_map (λ s. read_as AsWritten s.now) (slice_get vs 0)) first.2 in
        (first.0.now, sym (one_text-rows (found_of m) id) ∙ text, value_is first.0 first.1 first.2)

  -- the number is in its range
  pub number_given : IsNumber id most (rows_of (found_of m))
  number_given = go (matched_of (found_of m) id) refl found
    where
      at : (k : ℕ) × (d : Arg) × (k < length (args_of old))
          × (bytes_eq (slice_index_or (args_of old) k d).id.now id ≡ true)
      at = place id (args_of old) there

      wants : WantsDefault (slice_index_or (args_of old) at.0 at.1)
      wants = (
        (has_none (slice_index_or (args_of old) at.0 at.1)
            (each_arg (λ r. r.is_simple ≡ true) (args_of old) simple at.0 at.1 at.2)).ifs,
        some_default,
      )
        where
          some_default : 0 < length (items_of (slice_index_or (args_of old) at.0 at.1).default_vals)
          some_default =
              let number = each_arg (λ r. bytes_eq r.id id ≡ true → IsNumbered most r) (args_of old) each at.0 at.1 at.2 at.3 in
              let has = number.defaults in
              let same = length-map
              (items_of (slice_index_or (args_of old) at.0 at.1).default_vals) (λ (s : Bor Text). s.now) in
              omega arith

      has : HasId (found_of m) (slice_index_or (args_of old) at.0 at.1).id.now
      has = default_present old m p globals at.0 at.1 at.2 wants

      same_id : (slice_index_or (args_of old) at.0 at.1).id.now ≡ id
      same_id = (bytes_eq-Decides _ _).0 at.3

      found : is_some (matched_of (found_of m) id) ≡ true
      found =
          let there : HasId (found_of m) id = subst (HasId (found_of m)) same_id has in
          entry_found id (found_of m).entries.items there.0 there.1 there.2

      go : (o : Option MatchedArg) → matched_of (found_of m) id ≡ o → is_some (matched_of (found_of m) id) ≡ true
          → IsNumber id most (rows_of (found_of m))
      go None none some =
          let bad : false ≡ true = sym (ap is_some none) ∙ some in
          cc
      go (Some x) is some =
          let got = entry_by_id (EntryPasses p.built) (found_of m).entries.items id x
          (p.parsed (p.from.globals ∙ globals)).values is in
          entry_gives got.0 ((bytes_eq-Decides got.0.0.now id).0 got.2) got.3 x is got.1
