-- Examples of the lines of mergeinfo that are omitted; the checker computes and proves them. Also, each dump has only
-- one number of omitted lines.
use Rattle.dump_survey.proofs.Prelude.{◌≡◌, ℕ, Bool, true, false, List, [], ◌∷◌, Some, None, MatchBool, refl, ap, ◌∙◌, inl, inr, codes, sum_by, Property, DumpRecord, each_dump_has_one_list, Include, Settings, is_kept_node, HasPropertyBlock, HasPropertyList, property_list_once, block_or_not, other, AreOmittedFromValue, AddUpTo, mergeinfo_values, AreOmittedFromProperties, AreOmittedFrom, AreOmittedIn, AreOmittedFromRecords, properties_count}
use Rattle.std.specs.Fmt.{digits}
use Rattle.dump_survey.specs.OmittedLine.{omitted_line}
use Rattle.dump_survey.proofs.OmittedLemmas.{adds_up, adds_once, value_is, properties_are, properties_once}
use Rattle.dump_rules.specs.PlainSettings.{plain_settings}

abbrev call : Bool → Settings
call skip_missing = record (plain_settings Include (codes "trunk" ∷ [])) { skip_missing = skip_missing }

-- the lines of a value

two_of_three : AreOmittedFromValue (call true) (codes "/trunk/a:1\n/a:\n/trunk2:1-2*\n") 2
two_of_three = value_is (call true) (codes "/trunk/a:1\n/a:\n/trunk2:1-2*\n")

-- the path reaches to the last colon, and no prefix matches /trunk:1
path_with_a_colon : AreOmittedFromValue (call true) (codes "/trunk:1:2") 1
path_with_a_colon = value_is (call true) (codes "/trunk:1:2")

none_of_no_line : AreOmittedFromValue (call true) [] 0
none_of_no_line = value_is (call true) []

none_of_unread : AreOmittedFromValue (call true) (codes "/a:1\n/b") 0
none_of_unread = value_is (call true) (codes "/a:1\n/b")

-- the lines of properties

abbrev set : List ℕ → List ℕ → Property
set name value = record { name = name; value = Some value }

-- the numbers for two values are added; other names and deleted properties don't count
each_value_counts : AddUpTo (AreOmittedFromValue (call true))
    (mergeinfo_values (set (codes "svn:mergeinfo") (codes "/a:1") ∷ set (codes "svn:log") (codes "/a:1")
    ∷ record { name = codes "svn:mergeinfo"; value = None } ∷ set (codes "svn:mergeinfo") (codes "/b:1\n/c:1") ∷ [])) 3
each_value_counts = properties_are (call true)
    (set (codes "svn:mergeinfo") (codes "/a:1") ∷ set (codes "svn:log") (codes "/a:1")
    ∷ record { name = codes "svn:mergeinfo"; value = None } ∷ set (codes "svn:mergeinfo") (codes "/b:1\n/c:1") ∷ [])

-- a record that isn't a kept node has no omitted lines
none_of_other : AreOmittedFrom (call true) other 0
none_of_other = refl

-- without the option no lines are omitted
none_without_option : (dump : List ℕ) → AreOmittedIn (call false) dump 0
none_without_option dump = refl

-- the line of the advice

no_line : omitted_line 0 ≡ []
unfolding omitted_line
no_line = refl

one_line : omitted_line 1 ≡ codes "dropped from svn:mergeinfo: 1 line of an excluded path\n"
unfolding omitted_line digits
one_line = refl

more_lines : omitted_line 12 ≡ codes "dropped from svn:mergeinfo: 12 lines of excluded paths\n"
unfolding omitted_line digits
more_lines = refl

-- there is only one number

abbrev HasOne : {X : Type 0} → (X → ℕ → Type 0) → X → Type 0
HasOne HasCount x = (n : ℕ) × HasCount x n × ((m : ℕ) → HasCount x m → m ≡ n)

block_has_one : (s : Settings) (r : DumpRecord) → HasOne (AreOmittedFromProperties s) r
block_has_one s r = elim (block_or_not r) [
  | inl (ps, list) ↦ (properties_count s ps, (Some ps, list, properties_are s ps), by_list ps list)
  | inr none ↦ (0, (None, none, properties_are s []), by_none none)
]
  where
    by_list : (ps : List Property) → HasPropertyList r ps → (m : ℕ) → AreOmittedFromProperties s r m
        → m ≡ properties_count s ps
    by_list ps list m (None, none, add) = absurd (none (ps, list))
    by_list ps list m (Some qs, list_too, add) =
        properties_once s qs m add ∙ ap (properties_count s) (property_list_once r qs ps list_too list)

    by_none : ¬ HasPropertyBlock r → (m : ℕ) → AreOmittedFromProperties s r m → m ≡ 0
    by_none none m (None, none_too, add) = properties_once s [] m add
    by_none none m (Some qs, list, add) = absurd (none (qs, list))

record_has_one : (s : Settings) (r : DumpRecord) → HasOne (AreOmittedFrom s) r
record_has_one s r = by (is_kept_node s r)
  where
    by : (b : Bool) → (n : ℕ) × MatchBool b (AreOmittedFromProperties s r n) (n ≡ 0)
        × ((m : ℕ) → MatchBool b (AreOmittedFromProperties s r m) (m ≡ 0) → m ≡ n)
    by true = block_has_one s r
    by false = (0, refl, λ m is. is)

dump_has_one : (s : Settings) (dump : List ℕ) → HasOne (AreOmittedIn s) dump
dump_has_one s dump = by s.skip_missing
  where
    count : DumpRecord → ℕ
    count r = (record_has_one s r).0

    of_records : HasOne (AreOmittedFromRecords s) dump
    of_records =
        let (records, ending, has, once) = each_dump_has_one_list dump in (
          sum_by count records,
          (records, ending, has, adds_up (AreOmittedFrom s) count (λ r. (record_has_one s r).1) records),
          λ m (others, end, has_too, add).
              adds_once (AreOmittedFrom s) count (λ r. (record_has_one s r).2) others m add
              ∙ ap (sum_by count) (once others end has_too).0,
        )

    by : (b : Bool) → (n : ℕ) × MatchBool b (AreOmittedFromRecords s dump n) (n ≡ 0)
        × ((m : ℕ) → MatchBool b (AreOmittedFromRecords s dump m) (m ≡ 0) → m ≡ n)
    by true = of_records
    by false = (0, refl, λ m is. is)
